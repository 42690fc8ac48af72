-- What contracts see of a subscription: its messages in order of number, each with its mark, none of them gone; its settings; and the number of the next lease.
use Rattle.std.specs.Prelude.{ℕ, List}
use Rattle.ps_model.specs.declared.mark.Slot.{Slot}
use Rattle.ps_config.specs.declared.config.SubConfig.{SubConfig}

pub record SubState : Type 0 where
  pub slots : List Slot
  pub config : SubConfig
  pub next_lease : ℕ
