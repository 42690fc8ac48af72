use Rattle.std.proofs.Common.{◌+◌, ◌<◌, ◌≤◌}
use Rattle.std.specs.List.{AllByRecursion}
use Rattle.ps_model.specs.declared.mark.Slot.{Slot}
use Rattle.ps_test_core.proofs.subscriptions.begun.filled.Given as goal

-- numbers from 1 on, published at 1000
abbrev pub invariant-loop-i : goal.invariant-loop-i
invariant-loop-i l = record {
  numbers : AllByRecursion (λ (s : Slot). s.item.number < l.i + 1) l.sub.slots;
  moments : AllByRecursion (λ (s : Slot). s.item.publish ≤ 1000) l.sub.slots;
}
