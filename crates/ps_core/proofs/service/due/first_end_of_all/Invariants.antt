use Rattle.std.proofs.Common.{◌≡◌, ◌<◌, ℕ}
use Rattle.std.specs.BTreeMap.{values}
use Rattle.std.specs.List.{list_any}
use Rattle.ps_core.specs.Settling.{has_due}
use Rattle.ps_core.proofs.service.due.first_end_of_all.Given as goal

-- before this moment only those that are left can have a lease that is over
abbrev pub invariant-loop-subscription : goal.invariant-loop-subscription
invariant-loop-subscription l = (u : ℕ) → u < l.first → list_any (has_due u) l.subscription-iterator ≡ list_any (has_due u) (values l.subscriptions)
