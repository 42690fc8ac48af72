use Rattle.std.proofs.Common.{◌≡◌, List, ap, sym, subst, ◌∙◌, arith}
use Rattle.std.proofs.lemmas.List.{with_items_is}
use Rattle.ps_model.specs.declared.mark.Slot.{Slot}
use Rattle.ps_model.specs.Acknowledging.{acknowledge, mark_after_ack}
use Rattle.ps_sub.specs.Steady.{IsAscending, IsSteady}
use Rattle.ps_sub.proofs.SteadyLemmas.{ascending-remarked, steady-remarked, acknowledging-live}
use Rattle.ps_sub.proofs.MarkLemmas.{written_marks, same_slots, other_slots, state_of}
use Rattle.ps_sub.proofs.FirstLemmas.{acknowledging-first}
use Rattle.ps_sub.proofs.sub.Sub.acknowledge.Goals as goal

pub returns-clause-after : goal.returns-clause-after
returns-clause-after c =
    let inside = c.self.inside in
    let written : c.write_marks-changed.new.slots ≡ acknowledge inside.config c.args.tickets.now inside.slots.items =
    rw (c.write_marks-changed.ensures.after, c.as_slice.ensures.value, c.in_ok-made.ensures, c.as_mut_slice.ensures.value, c.as_slice-slots.ensures.value) (written_marks _ _) in
    rw (← c.self.view_is) (ap (λ (ss : List Slot). state_of ss inside.config inside.next_lease) (with_items_is inside.slots c.write_marks-changed.new.slots (omega arith) ∙ written))

pub returns-clause-same : goal.returns-clause-same
returns-clause-same c = λ e.
    let inside = c.self.inside in
    let stays = same_slots _ _ (sym c.write_marks-changed.ensures.changed ∙ e) in
    rw (← c.self.view_is) (with_items_is inside.slots c.write_marks-changed.new.slots (omega arith) ∙ c.write_marks-changed.ensures.after ∙ stays ∙ c.as_mut_slice.ensures.value)

pub returns-clause-changed : goal.returns-clause-changed
returns-clause-changed c = λ e same.
    let inside = c.self.inside in
    let moves = other_slots _ _ (sym c.write_marks-changed.ensures.changed ∙ e) in
    moves (sym c.write_marks-changed.ensures.after ∙ sym (with_items_is inside.slots c.write_marks-changed.new.slots (omega arith)) ∙ same ∙ ap (λ it. it.slots) (sym c.self.view_is) ∙ sym c.as_mut_slice.ensures.value)

pub invariant_of-self : goal.invariant_of-self
invariant_of-self c =
    let inside = c.self.inside in
    let written : c.write_marks-changed.new.slots ≡ acknowledge inside.config c.args.tickets.now inside.slots.items =
    rw (c.write_marks-changed.ensures.after, c.as_slice.ensures.value, c.in_ok-made.ensures, c.as_mut_slice.ensures.value, c.as_slice-slots.ensures.value) (written_marks _ _) in
    subst (λ (ss : List Slot). IsSteady ss inside.config) (sym (with_items_is inside.slots c.write_marks-changed.new.slots (omega arith) ∙ written))
    (steady-remarked _ _ _ (acknowledging-live inside.config c.args.tickets.now inside.slots.items) (acknowledging-first inside.config c.args.tickets.now inside.slots.items c.self.invariant.leased_first) c.self.invariant)

pub invariant_of-self-2 : goal.invariant_of-self-2
invariant_of-self-2 c =
    let inside = c.self.inside in
    let written : c.write_marks-changed.new.slots ≡ acknowledge inside.config c.args.tickets.now inside.slots.items =
    rw (c.write_marks-changed.ensures.after, c.as_slice.ensures.value, c.in_ok-made.ensures, c.as_mut_slice.ensures.value, c.as_slice-slots.ensures.value) (written_marks _ _) in
    subst (λ (ss : List Slot). IsSteady ss inside.config) (sym (with_items_is inside.slots c.write_marks-changed.new.slots (omega arith) ∙ written))
    (steady-remarked _ _ _ (acknowledging-live inside.config c.args.tickets.now inside.slots.items) (acknowledging-first inside.config c.args.tickets.now inside.slots.items c.self.invariant.leased_first) c.self.invariant)

pub unordered-requires : goal.unordered-requires
unordered-requires c =
    let inside = c.self.inside in
    let written : c.write_marks-changed.new.slots ≡ acknowledge inside.config c.args.tickets.now inside.slots.items =
    rw (c.write_marks-changed.ensures.after, c.as_slice.ensures.value, c.in_ok-made.ensures, c.as_mut_slice.ensures.value, c.as_slice-slots.ensures.value) (written_marks _ _) in
    let after = c.as_slice-after.ensures.value ∙ with_items_is inside.slots c.write_marks-changed.new.slots (omega arith) ∙ written in
    subst IsAscending (sym after) (ascending-remarked (mark_after_ack inside.config c.args.tickets.now inside.slots.items) inside.slots.items c.self.invariant.ascending)

pub returns-clause-unordered : goal.returns-clause-unordered
returns-clause-unordered c =
    let inside = c.self.inside in
    let written : c.write_marks-changed.new.slots ≡ acknowledge inside.config c.args.tickets.now inside.slots.items =
    rw (c.write_marks-changed.ensures.after, c.as_slice.ensures.value, c.in_ok-made.ensures, c.as_mut_slice.ensures.value, c.as_slice-slots.ensures.value) (written_marks _ _) in
    let after = c.as_slice-after.ensures.value ∙ with_items_is inside.slots c.write_marks-changed.new.slots (omega arith) ∙ written in
    rw (← c.self.view_is) (c.in_ok-unordered.ensures inside.slots.items after)
