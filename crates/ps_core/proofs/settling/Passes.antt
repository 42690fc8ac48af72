-- A pass over the marks of a world, and over the slots of each subscription.
use Rattle.std.proofs.Common.{◌≡◌, ◌≢◌, ◌<◌, nat_eq, List, [], ◌∷◌, ◌++◌, Some, map, find, append-nil, refl, sym, ◌∙◌, ap, arith}
use Rattle.std.specs.List.{AllByRecursion}
use Rattle.std.proofs.lemmas.Bool.{eq-eqb, ne_eqb}
use Rattle.std.proofs.lemmas.List.{map-append}
use Rattle.ps_model.specs.declared.mark.Mark.{Mark}
use Rattle.ps_model.specs.declared.mark.Slot.{Slot}
use Rattle.ps_model.specs.declared.world.World.{World}
use Rattle.ps_model.specs.declared.world.SubRow.{SubRow}
use Rattle.ps_model.specs.declared.world.MarkRow.{MarkRow}
use Rattle.ps_model.specs.Slots.{remarked}
use Rattle.ps_model.specs.Sound.{Ordered}
use Rattle.ps_model.specs.Worlds.{sub_numbered, slots_of, slot_of, row_of, rows_of, new_mark, remark_row, remark_all}
use Rattle.ps_tables.specs.declared.kept_subscription.KeptSubscription.{KeptSubscription}
use Rattle.ps_core.specs.State.{State, seen, sub_row, flat_marks, slots_in}
use Rattle.ps_tables.specs.Subscriptions.{number_of, with_slots}
use Rattle.ps_base.proofs.Lists.{each-then, each-then-both, map-rests, map-unseen}
use Rattle.ps_core.proofs.marks.Flat.{Joined, rows-above, rows-other, rows-own, slots-at}

-- Passes over the marks of a world

-- a pass whose rule leaves each mark leaves the world
pub pass-rests : (rule : SubRow → List Slot → Slot → Mark) (w : World) → AllByRecursion (λ (r : MarkRow). new_mark rule w r (sub_numbered w r.sub) ≡ r.mark) w.marks → remark_all rule w ≡ w
pass-rests rule w h = λ i. record w { marks = map-rests again w.marks (each-then (λ (r : MarkRow). new_mark rule w r (sub_numbered w r.sub) ≡ r.mark) (λ (r : MarkRow). again r ≡ r) w.marks (λ r e. ap (remark_row r) e) h) i }
  where
    again : MarkRow → MarkRow
    again r = remark_row r (new_mark rule w r (sub_numbered w r.sub))

-- a subscription of a state is found in its world, with its marks
pub record IsFound (subscriptions : List KeptSubscription) (x : KeptSubscription) : Type 0 where
  pub sub : find (λ (r : SubRow). nat_eq r.number x.number) (map sub_row subscriptions) ≡ Some (sub_row x)
  pub rows : rows_of (flat_marks subscriptions) x.number ≡ map (row_of x.number) x.sub.slots

pub found-all : (subscriptions : List KeptSubscription) → Ordered (λ (a b : KeptSubscription). a.number < b.number) subscriptions → AllByRecursion (IsFound subscriptions) subscriptions
found-all [] h = tt
found-all (x ∷ xs) h = (
  record {
    sub = rw (eq-eqb x.number x.number refl) refl;
    rows = rows-own x.number x.sub.slots (flat_marks xs) ∙ ap (λ (rows : List MarkRow). map (row_of x.number) x.sub.slots ++ rows) (rows-above number_of slots_in x.number xs h.0) ∙ append-nil (map (row_of x.number) x.sub.slots);
  },
  each-then-both (λ (y : KeptSubscription). x.number < y.number) (IsFound xs) (IsFound (x ∷ xs)) xs later h.0 (found-all xs h.1),
)
  where
    later : (y : KeptSubscription) → x.number < y.number → IsFound xs y → IsFound (x ∷ xs) y
    later y up found =
        let other : x.number ≢ y.number = omega arith in
        record {
          sub = rw (ne_eqb x.number y.number other) found.sub;
          rows = rows-other y.number x.number x.sub.slots (flat_marks xs) other ∙ found.rows;
        }

-- the marks that a rule gives to a subscription
abbrev pub remark_subscription : (SubRow → List Slot → Slot → Mark) → KeptSubscription → KeptSubscription
remark_subscription rule x = with_slots x (remarked (rule (sub_row x) x.sub.slots) x.sub.slots)

-- what a pass makes of a row
abbrev passed : (SubRow → List Slot → Slot → Mark) → World → MarkRow → MarkRow
passed rule w r = remark_row r (new_mark rule w r (sub_numbered w r.sub))

module _ (rule : SubRow → List Slot → Slot → Mark) (s : State) where
  slots-passed : (x : KeptSubscription) → sub_numbered (seen s) x.number ≡ Some (sub_row x) → slots_of (seen s) x.number ≡ x.sub.slots → (slots : List Slot) → Joined s.messages x.number slots
      → map (passed rule (seen s)) (map (row_of x.number) slots) ≡ map (row_of x.number) (remarked (rule (sub_row x) x.sub.slots) slots)
  slots-passed x sub own [] h = refl
  slots-passed x sub own (slot ∷ slots) h =
      let mark : new_mark rule (seen s) (row_of x.number slot) (sub_numbered (seen s) x.number) ≡ rule (sub_row x) x.sub.slots slot =
      ap (new_mark rule (seen s) (row_of x.number slot)) sub ∙ λ i. rule (sub_row x) (own i) (h.0 i) in
      λ i. remark_row (row_of x.number slot) (mark i) ∷ slots-passed x sub own slots h.1 i

  marks-passed : (xs : List KeptSubscription) → AllByRecursion (IsFound s.subscriptions) xs → AllByRecursion (λ (x : KeptSubscription). Joined s.messages x.number x.sub.slots) xs
      → map (passed rule (seen s)) (flat_marks xs) ≡ flat_marks (map (remark_subscription rule) xs)
  marks-passed [] found joined = refl
  marks-passed (x ∷ xs) found joined =
      let own : slots_of (seen s) x.number ≡ x.sub.slots = ap (map (slot_of s.messages)) found.0.rows ∙ slots-at s.messages x.number x.sub.slots joined.0 in
      map-append (passed rule (seen s)) (map (row_of x.number) x.sub.slots) (flat_marks xs)
      ∙ λ i. slots-passed x found.0.sub own x.sub.slots joined.0 i ++ marks-passed xs found.1 joined.1 i

-- A pass over the marks of a world is one over the slots of each subscription.
pub pass-seen : (rule : SubRow → List Slot → Slot → Mark) (s : State) → Ordered (λ (a b : KeptSubscription). a.number < b.number) s.subscriptions
    → AllByRecursion (λ (x : KeptSubscription). Joined s.messages x.number x.sub.slots) s.subscriptions → remark_all rule (seen s) ≡ seen (record s { subscriptions = map (remark_subscription rule) s.subscriptions })
pass-seen rule s ordered joined = λ i. record (seen s) {
  subs = sym (map-unseen sub_row (remark_subscription rule) s.subscriptions (λ x. refl)) i;
  marks = marks-passed rule s s.subscriptions (found-all s.subscriptions ordered) joined i;
}
