-- What a seek leaves of its subscription, and of the others.
use Rattle.std.proofs.Common.{ℕ, ◌≡◌, nat_eq, List, Option, Some, None, map, refl, sym, ◌∙◌, ap, subst}
use Rattle.std.specs.List.{AllByRecursion}
use Rattle.std.proofs.lemmas.Bool.{eqb-true}
use Rattle.ps_model.specs.declared.mark.Mark.{Mark}
use Rattle.ps_model.specs.declared.mark.Slot.{Slot}
use Rattle.ps_model.specs.declared.world.World.{World}
use Rattle.ps_model.specs.declared.world.SubRow.{SubRow}
use Rattle.ps_model.specs.declared.world.MarkRow.{MarkRow}
use Rattle.ps_model.specs.Slots.{remarked}
use Rattle.ps_model.specs.Retention.{expired_mark, caught_up_mark, released_mark, expunge}
use Rattle.ps_model.specs.Worlds.{sub_numbered, remark_all, remark_row, new_mark, rows_of, slot_of, slots_of, holds_of}
use Rattle.ps_model.specs.Settling.{expire, catch_up, release, expunge_world}
use Rattle.ps_model.specs.Sound.{IsAheadOfOne}
use Rattle.ps_base.proofs.Lists.{each-always, each-then, each-both, each-filter, each-left, map-rests, found-passes}
use Rattle.ps_sound.proofs.worlds.Underway.{IsFinished, IsHeldAt}
use Rattle.ps_sound.proofs.worlds.Slotted.{rows-marked, slots-remarked}
use Rattle.ps_sound.proofs.phases.LettingGo.{slots-let_go}
use Rattle.ps_sound.proofs.phases.Resting.{expired-rests, released-rests, caught-rests}
use Rattle.ps_sound.proofs.worlds.Parts.{rows-of-each}

-- what expunging makes of the slots of a subscription
pub slots-expunged : (t : ℕ) (w : World) (sub : SubRow) → sub_numbered w sub.number ≡ Some sub → slots_of (expunge_world t w) sub.number ≡ expunge t sub.config (holds_of w sub.topic) (slots_of w sub.number)
slots-expunged t w sub own =
    slots-let_go t gone sub.number
    ∙ slots-remarked (λ x slots. released_mark t x.config (holds_of w x.topic)) caught sub own
    ∙ ap (remarked (released_mark t sub.config (holds_of w sub.topic))) (slots-remarked (λ x. caught_up_mark x.config.ordering) lived sub own
    ∙ ap (λ slots. remarked (caught_up_mark sub.config.ordering slots) slots) (slots-remarked (λ x slots. expired_mark t x.config (holds_of w x.topic)) w sub own))
  where
    lived : World
    lived = expire t w

    caught : World
    caught = catch_up lived

    gone : World
    gone = release t caught

-- a pass that leaves each mark of a subscription leaves its rows
rows-rest : (rule : SubRow → List Slot → Slot → Mark) (w : World) (k : ℕ) → AllByRecursion (λ (r : MarkRow). new_mark rule w r (sub_numbered w r.sub) ≡ r.mark) (rows_of w.marks k) → rows_of (remark_all rule w).marks k ≡ rows_of w.marks k
rows-rest rule w k h = rows-marked (λ (r : MarkRow). new_mark rule w r (sub_numbered w r.sub)) k w.marks
    ∙ map-rests (λ (r : MarkRow). remark_row r (new_mark rule w r (sub_numbered w r.sub))) (rows_of w.marks k)
    (each-then (λ (r : MarkRow). new_mark rule w r (sub_numbered w r.sub) ≡ r.mark) (λ (r : MarkRow). remark_row r (new_mark rule w r (sub_numbered w r.sub)) ≡ r) (rows_of w.marks k) (λ r e. ap (remark_row r) e) h)

new-is : (rule : SubRow → List Slot → Slot → Mark) (w : World) (r : MarkRow) (o : Option SubRow) → ((sub : SubRow) → o ≡ Some sub → rule sub (slots_of w sub.number) (slot_of w.messages r) ≡ r.mark) → new_mark rule w r o ≡ r.mark
new-is rule w r None k = refl
new-is rule w r (Some sub) k = k sub refl

-- Expunging leaves the rows of a subscription that were left as they were in a finished world.
module _ (t count : ℕ) (v : World) (marks : List MarkRow) (k : ℕ) (same : rows_of marks k ≡ rows_of v.marks k) (h : IsFinished t count v) where
  abbrev made : World
  made = record v { marks = marks }

  abbrev expiring : SubRow → List Slot → Slot → Mark
  expiring sub slots = expired_mark t sub.config (holds_of v sub.topic)

  abbrev catching : SubRow → List Slot → Slot → Mark
  catching sub = caught_up_mark sub.config.ordering

  abbrev releasing : SubRow → List Slot → Slot → Mark
  releasing sub slots = released_mark t sub.config (holds_of v sub.topic)

  held-rows : AllByRecursion (IsHeldAt t v) (rows_of v.marks k)
  held-rows = each-left (IsHeldAt t v) (λ (r : MarkRow). nat_eq r.sub k) v.marks h.held

  ahead-rows : AllByRecursion (λ (r : MarkRow). (sub : SubRow) → sub_numbered v r.sub ≡ Some sub → IsAheadOfOne sub (slots_of v k) (slot_of v.messages r)) (rows_of v.marks k)
  ahead-rows = each-filter (λ (r : MarkRow). (sub : SubRow) → sub_numbered v r.sub ≡ Some sub → IsAheadOfOne sub (slots_of v sub.number) (slot_of v.messages r))
      (λ (r : MarkRow). (sub : SubRow) → sub_numbered v r.sub ≡ Some sub → IsAheadOfOne sub (slots_of v k) (slot_of v.messages r)) (λ (r : MarkRow). nat_eq r.sub k) v.marks
      (λ r e p sub own. subst (λ n. IsAheadOfOne sub (slots_of v n) (slot_of v.messages r)) (number r sub own ∙ eqb-true r.sub k e) (p sub own)) (rows-of-each IsAheadOfOne v h.ahead_of_one)
    where
      number : (r : MarkRow) (sub : SubRow) → sub_numbered v r.sub ≡ Some sub → sub.number ≡ r.sub
      number r sub own = eqb-true sub.number r.sub (found-passes (λ (x : SubRow). nat_eq x.number r.sub) v.subs sub own)

  lived-rows : rows_of (expire t made).marks k ≡ rows_of v.marks k
  lived-rows = rows-rest expiring made k (subst (AllByRecursion (λ (r : MarkRow). new_mark expiring made r (sub_numbered v r.sub) ≡ r.mark)) (sym same)
      (each-then (IsHeldAt t v) (λ (r : MarkRow). new_mark expiring made r (sub_numbered v r.sub) ≡ r.mark) (rows_of v.marks k)
      (λ r p. new-is expiring made r (sub_numbered v r.sub) (λ sub own. expired-rests t sub.config (holds_of v sub.topic) (slot_of v.messages r) (p sub own))) held-rows)) ∙ same

  caught-rows : rows_of (catch_up (expire t made)).marks k ≡ rows_of v.marks k
  caught-rows = rows-rest catching lived k (subst (AllByRecursion (λ (r : MarkRow). new_mark catching lived r (sub_numbered v r.sub) ≡ r.mark)) (sym lived-rows)
      (each-then (λ r. (r.sub ≡ k) × ((sub : SubRow) → sub_numbered v r.sub ≡ Some sub → IsAheadOfOne sub (slots_of v k) (slot_of v.messages r))) (λ (r : MarkRow). new_mark catching lived r (sub_numbered v r.sub) ≡ r.mark) (rows_of v.marks k)
      (λ r p. new-is catching lived r (sub_numbered v r.sub) (λ sub own. caught-rests sub.config.ordering (slots_of lived sub.number) (slot_of v.messages r)
      (subst (λ slots. IsAheadOfOne sub slots (slot_of v.messages r)) (sym (ap (λ n. slots_of lived n) (number r sub own ∙ p.0) ∙ ap (map (slot_of v.messages)) lived-rows)) (p.1 sub own))))
      (each-both (λ (r : MarkRow). r.sub ≡ k) (λ (r : MarkRow). (sub : SubRow) → sub_numbered v r.sub ≡ Some sub → IsAheadOfOne sub (slots_of v k) (slot_of v.messages r)) (rows_of v.marks k) its ahead-rows))) ∙ lived-rows
    where
      lived : World
      lived = expire t made

      number : (r : MarkRow) (sub : SubRow) → sub_numbered v r.sub ≡ Some sub → sub.number ≡ r.sub
      number r sub own = eqb-true sub.number r.sub (found-passes (λ (x : SubRow). nat_eq x.number r.sub) v.subs sub own)

      its : AllByRecursion (λ (r : MarkRow). r.sub ≡ k) (rows_of v.marks k)
      its = each-filter (λ (r : MarkRow). Unit {0}) (λ (r : MarkRow). r.sub ≡ k) (λ (r : MarkRow). nat_eq r.sub k) v.marks (λ r e _. eqb-true r.sub k e) (each-always (λ (r : MarkRow). Unit {0}) v.marks (λ r. tt))

  pub rows-expunged : rows_of (expunge_world t made).marks k ≡ rows_of v.marks k
  rows-expunged = rows-rest releasing caught k (subst (AllByRecursion (λ (r : MarkRow). new_mark releasing caught r (sub_numbered v r.sub) ≡ r.mark)) (sym caught-rows)
      (each-then (IsHeldAt t v) (λ (r : MarkRow). new_mark releasing caught r (sub_numbered v r.sub) ≡ r.mark) (rows_of v.marks k)
      (λ r p. new-is releasing caught r (sub_numbered v r.sub) (λ sub own. released-rests t sub.config (holds_of v sub.topic) (slot_of v.messages r) (p sub own))) held-rows)) ∙ caught-rows
    where
      caught : World
      caught = catch_up (expire t made)
