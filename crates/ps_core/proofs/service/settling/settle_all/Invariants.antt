use Rattle.std.proofs.Common.{◌≡◌, ◌<◌, map, drop}
use Rattle.std.specs.BTreeMap.{values}
use Rattle.ps_model.specs.Sound.{Ordered}
use Rattle.ps_core.specs.Effects.{settle_subscription}
use Rattle.ps_tables.specs.Numbers.{IsNumbered}
use Rattle.ps_tables.specs.Subscriptions.{number_of}
use Rattle.ps_core.proofs.settling.Loop.{settle_listed}
use Rattle.ps_core.proofs.service.settling.settle_all.Given as goal

-- what is left to settle makes all settled
abbrev pub invariant-loop-number : goal.invariant-loop-number
invariant-loop-number l = record {
  numbered : IsNumbered number_of l.subscriptions.entries;
  order : Ordered (λ a b. a.number < b.number) (values l.subscriptions);
  left : map (settle_listed l.at (drop l.number-index l.number-items)) (values l.subscriptions) ≡ map (settle_subscription l.at) (values l.initial.subscriptions);
}
