use Rattle.std.proofs.Common.{◌≡◌, List, ap, sym, subst, ◌∙◌, arith}
use Rattle.std.proofs.lemmas.List.{with_items_is}
use Rattle.ps_model.specs.declared.mark.Slot.{Slot}
use Rattle.ps_model.specs.Failing.{fail, is_due}
use Rattle.ps_sub.specs.Steady.{IsSteady}
use Rattle.ps_sub.proofs.SteadyLemmas.{steady-remarked, failing-live}
use Rattle.ps_sub.proofs.DueLemmas.{fail-rest, no-letters}
use Rattle.ps_sub.proofs.MarkLemmas.{written_marks, state_of}
use Rattle.ps_sub.proofs.FirstLemmas.{failing-first}
use Rattle.ps_sub.proofs.sub.Sub.settle.Goals as goal

pub returns-clause-after : goal.returns-clause-after
returns-clause-after c =
    let inside = c.self.inside in
    let written : c.write_marks.new.slots ≡ fail (is_due c.args.now) c.args.now c.args.forward inside.config inside.slots.items =
    rw (c.write_marks.ensures.after, c.as_slice.ensures.value, c.in_ok-made.ensures, c.as_mut_slice.ensures.value, c.as_slice-slots.ensures.value) (written_marks _ _) in
    rw (← c.self.view_is) (ap (λ (ss : List Slot). state_of ss inside.config inside.next_lease) (with_items_is inside.slots c.write_marks.new.slots (omega arith) ∙ written))

pub invariant_of-self : goal.invariant_of-self
invariant_of-self c =
    let inside = c.self.inside in
    let written : c.write_marks.new.slots ≡ fail (is_due c.args.now) c.args.now c.args.forward inside.config inside.slots.items =
    rw (c.write_marks.ensures.after, c.as_slice.ensures.value, c.in_ok-made.ensures, c.as_mut_slice.ensures.value, c.as_slice-slots.ensures.value) (written_marks _ _) in
    subst (λ (ss : List Slot). IsSteady ss inside.config) (sym (with_items_is inside.slots c.write_marks.new.slots (omega arith) ∙ written))
    (steady-remarked _ _ _ (failing-live (is_due c.args.now) c.args.now c.args.forward inside.config inside.slots.items) (failing-first (is_due c.args.now) c.args.now c.args.forward inside.config inside.slots.items c.self.invariant.leased_first) c.self.invariant)

pub returns-then-not-any_due-clause-after : goal.returns-then-not-any_due-clause-after
returns-then-not-any_due-clause-after c =
    let inside = c.self.inside in
    let told = rw c.as_slice-slots.ensures.value at c.any_due.ensures in
    let same = fail-rest c.args.now c.args.forward inside.config inside.slots.items (sym told ∙ c.if-not-any_due.true) in
    rw (← c.self.view_is) (ap (λ (ss : List Slot). state_of ss inside.config inside.next_lease) (sym same))

pub returns-then-not-any_due-clause-dead : goal.returns-then-not-any_due-clause-dead
returns-then-not-any_due-clause-dead c =
    let inside = c.self.inside in
    let told = rw c.as_slice-slots.ensures.value at c.any_due.ensures in
    rw (← c.self.view_is) (c.new.ensures ∙ sym (no-letters (is_due c.args.now) c.args.forward inside.config inside.slots.items (sym told ∙ c.if-not-any_due.true)))
