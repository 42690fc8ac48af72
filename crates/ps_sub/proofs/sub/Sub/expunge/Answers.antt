use Rattle.std.proofs.Common.{◌≡◌, List, ap, sym, subst, ◌∙◌, arith}
use Rattle.std.proofs.lemmas.List.{with_items_is}
use Rattle.ps_model.specs.declared.mark.Slot.{Slot}
use Rattle.ps_model.specs.Slots.{remarked}
use Rattle.ps_sub.specs.Expunging.{expunged_mark}
use Rattle.ps_sub.specs.Marks.{live}
use Rattle.ps_sub.specs.Steady.{IsSteady}
use Rattle.ps_sub.proofs.ExpungeLemmas.{expunge-is, steady-expunged}
use Rattle.ps_sub.proofs.MarkLemmas.{written_marks, state_of}
use Rattle.ps_sub.proofs.sub.Sub.expunge.Goals as goal

pub invariant_of-self : goal.invariant_of-self
invariant_of-self c =
    let inside = c.self.inside in
    let written : c.write_marks.new.slots ≡ remarked (expunged_mark c.args.now inside.config c.args.holds.now inside.slots.items) inside.slots.items =
    rw (c.write_marks.ensures.after, c.as_slice.ensures.value, c.in_ok-made.ensures, c.as_mut_slice.ensures.value, c.as_slice-slots.ensures.value) (written_marks _ _) in
    let left = c.drop_gone.ensures ∙ ap live (with_items_is inside.slots c.write_marks.new.slots (omega arith) ∙ written) in
    subst (λ (ss : List Slot). IsSteady ss inside.config) (sym left) (steady-expunged c.args.now inside.config c.args.holds.now inside.slots.items c.self.invariant)

pub returns : goal.returns
returns c =
    let inside = c.self.inside in
    let written : c.write_marks.new.slots ≡ remarked (expunged_mark c.args.now inside.config c.args.holds.now inside.slots.items) inside.slots.items =
    rw (c.write_marks.ensures.after, c.as_slice.ensures.value, c.in_ok-made.ensures, c.as_mut_slice.ensures.value, c.as_slice-slots.ensures.value) (written_marks _ _) in
    let left = c.drop_gone.ensures ∙ ap live (with_items_is inside.slots c.write_marks.new.slots (omega arith) ∙ written ∙ sym (expunge-is c.args.now inside.config c.args.holds.now inside.slots.items)) in
    rw (← c.self.view_is) (ap (λ (ss : List Slot). state_of ss inside.config inside.next_lease) left)
