use Rattle.std.proofs.Common.{ℕ, ◌≡◌, ◌+◌, ◌<◌, ◌≤◌, List, [], ◌∷◌, ◌++◌, arith}
use Rattle.std.specs.List.{AllByRecursion}
use Rattle.ps_model.specs.declared.mark.Slot.{Slot}
use Rattle.ps_test_core.proofs.subscriptions.begun.filled.Goals as goal

numbers-push : (i : ℕ) (slots : List Slot) (s : Slot) → AllByRecursion (λ (e : Slot). e.item.number < i + 1) slots → s.item.number ≡ i + 1 → AllByRecursion (λ (e : Slot). e.item.number < (i + 1) + 1) (slots ++ s ∷ [])
numbers-push i [] s h e = (omega arith, tt)
numbers-push i (x ∷ xs) s h e = (omega (arith, h.0), numbers-push i xs s h.1 e)

moments-push : (slots : List Slot) (s : Slot) → AllByRecursion (λ (e : Slot). e.item.publish ≤ 1000) slots → s.item.publish ≤ 1000 → AllByRecursion (λ (e : Slot). e.item.publish ≤ 1000) (slots ++ s ∷ [])
moments-push [] s h e = (e, tt)
moments-push (x ∷ xs) s h e = (h.0, moments-push xs s h.1 e)

pub enter-requires-clause-number : goal.enter-requires-clause-number
enter-requires-clause-number c = c.loop-i.invariant.numbers

pub enter-requires-clause-publish : goal.enter-requires-clause-publish
enter-requires-clause-publish c = c.loop-i.invariant.moments

pub loop-i-preserved : goal.loop-i-preserved
loop-i-preserved c = record {
  numbers = rw c.in_ok-enter.ensures (numbers-push c.loop-i.i _ _ c.loop-i.invariant.numbers (omega arith));
  moments = rw c.in_ok-enter.ensures (moments-push _ _ c.loop-i.invariant.moments (omega arith));
}
