use Rattle.std.proofs.Common.{◌≡◌, List, ap, sym, subst, ◌∙◌, arith}
use Rattle.std.proofs.lemmas.List.{length-map, with_items_is}
use Rattle.ps_model.specs.declared.mark.Slot.{Slot}
use Rattle.ps_model.specs.Modifying.{extended, is_given_up, modify}
use Rattle.ps_sub.specs.Steady.{HasLeasedFirst, IsSteady}
use Rattle.ps_sub.proofs.ModifyLemmas.{letters-are, modify-is, modifying-live}
use Rattle.ps_sub.proofs.SteadyLemmas.{steady-remarked}
use Rattle.ps_sub.proofs.MarkLemmas.{written_marks, same_slots, other_slots, state_of}
use Rattle.ps_sub.proofs.FirstLemmas.{extending-first, failing-first}
use Rattle.ps_sub.proofs.sub.Sub.modify.Goals as goal

pub returns-clause-after : goal.returns-clause-after
returns-clause-after c =
    let inside = c.self.inside in
    let written : c.write_marks-changed.new.slots ≡ modify c.args.now c.args.forward inside.config c.args.items.now inside.slots.items =
    rw (c.write_marks-changed.ensures.after, c.as_slice.ensures.value, c.in_ok-made.ensures c.args.items.now c.in_ok-asked.ensures, c.as_mut_slice.ensures.value, c.as_slice-slots.ensures.value) (written_marks _ _ ∙ sym (modify-is c.args.now c.args.forward inside.config c.args.items.now inside.slots.items)) in
    rw (← c.self.view_is) (ap (λ (ss : List Slot). state_of ss inside.config inside.next_lease) (with_items_is inside.slots c.write_marks-changed.new.slots (omega arith) ∙ written))

pub returns-clause-same : goal.returns-clause-same
returns-clause-same c = λ e.
    let inside = c.self.inside in
    let stays = same_slots _ _ (sym c.write_marks-changed.ensures.changed ∙ e) in
    rw (← c.self.view_is) (with_items_is inside.slots c.write_marks-changed.new.slots (omega arith) ∙ c.write_marks-changed.ensures.after ∙ stays ∙ c.as_mut_slice.ensures.value)

pub returns-clause-changed : goal.returns-clause-changed
returns-clause-changed c = λ e same.
    let inside = c.self.inside in
    let moves = other_slots _ _ (sym c.write_marks-changed.ensures.changed ∙ e) in
    moves (sym c.write_marks-changed.ensures.after ∙ sym (with_items_is inside.slots c.write_marks-changed.new.slots (omega arith)) ∙ same ∙ ap (λ it. it.slots) (sym c.self.view_is) ∙ sym c.as_mut_slice.ensures.value)

pub returns-clause-dead : goal.returns-clause-dead
returns-clause-dead c =
    let inside = c.self.inside in
    rw (← c.self.view_is) (c.from_vec.ensures ∙ rw (c.in_ok-dead.ensures, c.as_slice-slots.ensures.value) (letters-are c.args.now c.args.forward inside.config c.args.items.now c.in_ok-asked.asked.seconds c.in_ok-asked.ensures inside.slots.items))

pub write_marks-changed-requires : goal.write_marks-changed-requires
write_marks-changed-requires c = rw (c.as_mut_slice.ensures.value, c.as_slice.ensures.value, c.in_ok-made.ensures c.args.items.now c.in_ok-asked.ensures, c.as_slice-slots.ensures.value) (sym (length-map c.self.inside.slots.items _))

pub invariant_of-self : goal.invariant_of-self
invariant_of-self c =
    let inside = c.self.inside in
    let written : c.write_marks-changed.new.slots ≡ modify c.args.now c.args.forward inside.config c.args.items.now inside.slots.items =
    rw (c.write_marks-changed.ensures.after, c.as_slice.ensures.value, c.in_ok-made.ensures c.args.items.now c.in_ok-asked.ensures, c.as_mut_slice.ensures.value, c.as_slice-slots.ensures.value) (written_marks _ _ ∙ sym (modify-is c.args.now c.args.forward inside.config c.args.items.now inside.slots.items)) in
    subst (λ (ss : List Slot). IsSteady ss inside.config) (sym (with_items_is inside.slots c.write_marks-changed.new.slots (omega arith) ∙ written))
    (subst (λ (ss : List Slot). IsSteady ss inside.config) (sym (modify-is c.args.now c.args.forward inside.config c.args.items.now inside.slots.items))
    (steady-remarked _ _ _ (modifying-live c.args.now c.args.forward inside.config c.args.items.now inside.slots.items)
    (subst (HasLeasedFirst inside.config.ordering) (modify-is c.args.now c.args.forward inside.config c.args.items.now inside.slots.items)
    (failing-first (is_given_up c.args.items.now) c.args.now c.args.forward inside.config (extended c.args.now c.args.items.now inside.slots.items)
    (extending-first inside.config.ordering c.args.now c.args.items.now inside.slots.items c.self.invariant.leased_first))) c.self.invariant))
