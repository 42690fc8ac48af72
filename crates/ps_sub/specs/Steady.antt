-- What holds of every subscription, also of a spent one.
use Rattle.std.specs.Prelude.{◌≡◌, ◌<◌, Bool, true, false, List}
use Rattle.std.specs.List.{AllByRecursion, list_any}
use Rattle.ps_config.specs.declared.config.SubConfig.{SubConfig}
use Rattle.ps_model.specs.declared.mark.Slot.{Slot}
use Rattle.ps_config.specs.Limits.{has_bad_delays}
use Rattle.ps_model.specs.Slots.{any_earlier, is_backlog, is_gone, is_leased}
use Rattle.ps_model.specs.Sound.{Ordered}

-- its retry delays are within their limits
abbrev pub HasShortDelays : SubConfig → Type 0
HasShortDelays config = has_bad_delays config.retry ≡ false

-- numbers ascend
abbrev pub IsAscending : List Slot → Type 0
IsAscending = Ordered (λ (a b : Slot). a.item.number < b.item.number)

-- no message is gone
abbrev pub IsLive : List Slot → Type 0
IsLive slots = list_any (λ (s : Slot). is_gone s.mark) slots ≡ false

-- if it is leased, no earlier message of its key is in the backlog
abbrev pub IsFirst : Bool → List Slot → Slot → Type 0
IsFirst ordering slots s = is_leased s.mark ≡ true → any_earlier ordering (λ (e : Slot). is_backlog e.mark) slots s ≡ false

-- on an ordered subscription, the leased messages of a key come first among its unacknowledged ones
abbrev pub HasLeasedFirst : Bool → List Slot → Type 0
HasLeasedFirst ordering slots = AllByRecursion (IsFirst ordering slots) slots

pub record IsSteady (slots : List Slot) (config : SubConfig) : Type 0 where
  pub ascending : IsAscending slots
  pub live : IsLive slots
  pub delays : HasShortDelays config
  pub leased_first : HasLeasedFirst config.ordering slots
