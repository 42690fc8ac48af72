use Rattle.std.proofs.Common.{List, sym, subst, arith}
use Rattle.std.proofs.lemmas.List.{with_items_is}
use Rattle.ps_model.specs.declared.mark.Slot.{Slot}
use Rattle.ps_model.specs.Choice.{is_deliverable}
use Rattle.ps_sub.specs.Steady.{IsSteady}
use Rattle.ps_sub.proofs.ChoiceLemmas.{empty_choice}
use Rattle.ps_sub.proofs.LendLemmas.{drawn-choice}
use Rattle.ps_sub.proofs.SteadyLemmas.{steady-remarked, lending-live}
use Rattle.ps_sub.proofs.FirstLemmas.{lending-first}
use Rattle.ps_sub.proofs.sub.Sub.pull.Goals as goal

pub returns-clause-empty : goal.returns-clause-empty
returns-clause-empty c = λ most budget. rw (c.in_ok-given.ensures.value, c.as_slice.ensures.value, ← c.self.view_is) (empty_choice _ _ _ _ most budget)

pub invariant_of-self : goal.invariant_of-self
invariant_of-self c =
    let inside = c.self.inside in
    subst (λ (ss : List Slot). IsSteady ss inside.config) (sym (with_items_is inside.slots c.lend.new.slots (omega arith)))
    (rw (c.lend.ensures, c.as_mut_slice.ensures.value, c.as_slice-2.ensures, c.in_ok-given.ensures.value, c.as_slice.ensures.value) (steady-remarked _ _ _ (lending-live _ _)
    (lending-first c.args.now inside.config.ordering c.args.max c.args.budget inside.next_lease _ inside.slots.items c.self.invariant.ascending c.self.invariant.leased_first) c.self.invariant))

pub lend-requires : goal.lend-requires
lend-requires c = record {
  ascending = rw c.as_mut_slice.ensures.value c.self.invariant.ascending;
  drawn = rw (c.as_slice-2.ensures, c.as_mut_slice.ensures.value, c.in_ok-given.ensures.value, c.as_slice.ensures.value) (drawn-choice (is_deliverable c.args.now c.self.inside.config.ordering c.self.inside.slots.items) c.self.inside.next_lease c.args.max c.args.budget c.self.inside.slots.items);
}
