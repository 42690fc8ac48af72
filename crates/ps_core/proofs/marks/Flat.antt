-- The flat list of marks, seen subscription by subscription, however a subscription is kept.
use Rattle.std.proofs.Common.{ℕ, ◌≡◌, ◌≢◌, ◌<◌, Bool, true, false, cond, nat_eq, List, [], ◌∷◌, ◌++◌, map, flat_map, refl, sym, ◌∙◌, ap, arith, if◌then◌else◌}
use Rattle.std.specs.List.{AllByRecursion}
use Rattle.std.proofs.lemmas.Bool.{eq-eqb, eqb-false, eqb-true, ne_eqb}
use Rattle.ps_model.specs.declared.mark.Mark.{Mark}
use Rattle.ps_model.specs.declared.mark.Slot.{Slot}
use Rattle.ps_model.specs.declared.world.MarkRow.{MarkRow}
use Rattle.ps_model.specs.declared.world.MessageRow.{MessageRow}
use Rattle.ps_model.specs.Slots.{remarked}
use Rattle.ps_model.specs.Worlds.{rows_of, row_of, slot_of, remark_row}

pub rows-other : (n k : ℕ) (ss : List Slot) (rest : List MarkRow) → k ≢ n → rows_of (map (row_of k) ss ++ rest) n ≡ rows_of rest n
rows-other n k [] rest h = refl
rows-other n k (s ∷ ss) rest h = rw (ne_eqb k n h) (rows-other n k ss rest h)

pub rows-own : (n : ℕ) (ss : List Slot) (rest : List MarkRow) → rows_of (map (row_of n) ss ++ rest) n ≡ map (row_of n) ss ++ rows_of rest n
rows-own n [] rest = refl
rows-own n (s ∷ ss) rest = rw (eq-eqb n n refl) (ap (λ rows. row_of n s ∷ rows) (rows-own n ss rest))

-- each slot's item is that of its message
abbrev pub Joined : List MessageRow → ℕ → List Slot → Type 0
Joined messages n slots = AllByRecursion (λ (s : Slot). slot_of messages (row_of n s) ≡ s) slots

-- slots are what their rows and the messages say
pub slots-at : (messages : List MessageRow) (n : ℕ) (ss : List Slot) → Joined messages n ss → map (slot_of messages) (map (row_of n) ss) ≡ ss
slots-at messages n [] h = refl
slots-at messages n (s ∷ ss) h = λ i. h.0 i ∷ slots-at messages n ss h.1 i

abbrev pub remarked_at : List MessageRow → ℕ → (Slot → Mark) → MarkRow → MarkRow
remarked_at messages n rule r = cond (nat_eq r.sub n) (remark_row r (rule (slot_of messages r))) r

at-other : (messages : List MessageRow) (n k : ℕ) (rule : Slot → Mark) (ss : List Slot) (rest : List MarkRow) → k ≢ n
    → map (remarked_at messages n rule) (map (row_of k) ss ++ rest) ≡ map (row_of k) ss ++ map (remarked_at messages n rule) rest
at-other messages n k rule [] rest h = refl
at-other messages n k rule (s ∷ ss) rest h = rw (ne_eqb k n h) (ap (λ rows. row_of k s ∷ rows) (at-other messages n k rule ss rest h))

at-own : (messages : List MessageRow) (n : ℕ) (rule : Slot → Mark) (ss : List Slot) (rest : List MarkRow) → Joined messages n ss
    → map (remarked_at messages n rule) (map (row_of n) ss ++ rest) ≡ map (row_of n) (remarked rule ss) ++ map (remarked_at messages n rule) rest
at-own messages n rule [] rest h = refl
at-own messages n rule (s ∷ ss) rest h =
    rw (eq-eqb n n refl) (λ i. remark_row (row_of n s) (rule (h.0 i)) ∷ at-own messages n rule ss rest h.1 i)

module _ {A : Type 0} (number : A → ℕ) (slots : A → List Slot) where
  abbrev pub flat : List A → List MarkRow
  flat xs = flat_map (λ x. map (row_of (number x)) (slots x)) xs

  pub rows-above : (n : ℕ) (ys : List A) → AllByRecursion (λ y. n < number y) ys → rows_of (flat ys) n ≡ []
  rows-above n [] h = refl
  rows-above n (y ∷ ys) h = let ne : number y ≢ n = omega (arith, h.0) in rows-other n (number y) (slots y) (flat ys) ne ∙ rows-above n ys h.1

  -- subscriptions of one number marked anew, in the flat list and in their own
  pub flat-marked : (messages : List MessageRow) (n : ℕ) (rule : Slot → Mark) (f : A → A) → ((x : A) → number (f x) ≡ number x) → ((x : A) → slots (f x) ≡ remarked rule (slots x)) → (xs : List A) → AllByRecursion (λ x. Joined messages (number x) (slots x)) xs
      → map (remarked_at messages n rule) (flat xs) ≡ flat (map (λ x. if nat_eq (number x) n then f x else x) xs)
  flat-marked messages n rule f same marks [] h = refl
  flat-marked messages n rule f same marks (x ∷ xs) h = by (nat_eq (number x) n) refl (flat-marked messages n rule f same marks xs h.1)
    where
      by : (own : Bool) → nat_eq (number x) n ≡ own → map (remarked_at messages n rule) (flat xs) ≡ flat (map (λ x. if nat_eq (number x) n then f x else x) xs)
          → map (remarked_at messages n rule) (flat (x ∷ xs)) ≡ flat ((if own then f x else x) ∷ map (λ x. if nat_eq (number x) n then f x else x) xs)
      by true own rest =
          let here : number x ≡ n = eqb-true (number x) n own in
          ap (λ k. map (remarked_at messages k rule) (flat (x ∷ xs))) (sym here)
          ∙ at-own messages (number x) rule (slots x) (flat xs) h.0
          ∙ ap (λ k. map (row_of (number x)) (remarked rule (slots x)) ++ map (remarked_at messages k rule) (flat xs)) here
          ∙ λ i. map (row_of (sym (same x) i)) (sym (marks x) i) ++ rest i
      by false own rest =
          let other : number x ≢ n = eqb-false (number x) n own in
          at-other messages n (number x) rule (slots x) (flat xs) other ∙ ap (λ rows. map (row_of (number x)) (slots x) ++ rows) rest
