-- Marks written one by one.
use Rattle.std.proofs.Common.{ℕ, ◌≡◌, ◌≢◌, ◌+◌, ◌<◌, Bool, true, false, ◌||◌, not, List, [], ◌∷◌, map, length, take, set, get_or, zero, suc, refl, sym, ◌∙◌, ap, subst, arith, add-one}
use Rattle.std.proofs.lemmas.Bool.{false≢true, or_parts, not-false}
use Rattle.ps_model.specs.declared.mark.Slot.{Slot}
use Rattle.ps_model.specs.declared.mark.Mark.{Mark}
use Rattle.ps_model.specs.declared.mark.Mark.TheVariants.{Ahead}
use Rattle.ps_config.specs.declared.config.SubConfig.{SubConfig}
use Rattle.ps_model.specs.Same.{same_mark}
use Rattle.ps_model.specs.Slots.{remark, remarked}
use Rattle.ps_model.proofs.SameLemmas.{exact-mark}
use Rattle.ps_sub.specs.Marks.{with_marks, any_differs}
use Rattle.ps_sub.specs.SubState.{SubState}

-- the marks that a rule gives, written over the slots that it read
pub written_marks : (rule : Slot → Mark) (slots : List Slot) → with_marks (map rule slots) slots ≡ remarked rule slots
written_marks rule [] = refl
written_marks rule (s ∷ ss) = ap (λ xs. remark s (rule s) ∷ xs) (written_marks rule ss)

written_suc : (ms : List Mark) (ss : List Slot) (i : ℕ) (d : Slot) (e : Mark) → i < length ms → i < length ss
    → set (with_marks (take i ms) ss) i (remark (get_or (with_marks (take i ms) ss) i d) (get_or ms i e)) ≡ with_marks (take (suc i) ms) ss
written_suc [] ss i d e hm hs = absurd (omega arith)
written_suc (m ∷ ms) [] i d e hm hs = absurd (omega arith)
written_suc (m ∷ ms) (s ∷ ss) zero d e hm hs = refl
written_suc (m ∷ ms) (s ∷ ss) (suc i) d e hm hs = ap (λ xs. remark s m ∷ xs) (written_suc ms ss i d e (omega arith) (omega arith))

-- one mark more
pub written_more : (ms : List Mark) (ss : List Slot) (i : ℕ) (d : Slot) (e : Mark) → i < length ms → i < length ss
    → set (with_marks (take i ms) ss) i (remark (get_or (with_marks (take i ms) ss) i d) (get_or ms i e)) ≡ with_marks (take (i + 1) ms) ss
written_more ms ss i d e hm hs = rw (add-one i) (written_suc ms ss i d e hm hs)

differs_suc : (ms : List Mark) (ss : List Slot) (i : ℕ) (d : Slot) (e : Mark) → i < length ms → i < length ss
    → (any_differs (take i ms) ss || not (same_mark (get_or (with_marks (take i ms) ss) i d).mark (get_or ms i e))) ≡ any_differs (take (suc i) ms) ss
differs_suc [] ss i d e hm hs = absurd (omega arith)
differs_suc (m ∷ ms) [] i d e hm hs = absurd (omega arith)
differs_suc (m ∷ ms) (s ∷ ss) zero d e hm hs = later (not (same_mark s.mark m))
  where
    later : (b : Bool) → b ≡ (b || false)
    later true = refl
    later false = refl
differs_suc (m ∷ ms) (s ∷ ss) (suc i) d e hm hs = front (not (same_mark s.mark m)) (any_differs (take i ms) ss) _ _ (differs_suc ms ss i d e (omega arith) (omega arith))
  where
    front : (a b c x : Bool) → (b || c) ≡ x → ((a || b) || c) ≡ (a || x)
    front true b c x h = refl
    front false b c x h = h

-- one mark more is compared
pub differs_more : (ms : List Mark) (ss : List Slot) (i : ℕ) (d : Slot) (e : Mark) → i < length ms → i < length ss
    → (any_differs (take i ms) ss || not (same_mark (get_or (with_marks (take i ms) ss) i d).mark (get_or ms i e))) ≡ any_differs (take (i + 1) ms) ss
differs_more ms ss i d e hm hs = rw (add-one i) (differs_suc ms ss i d e hm hs)

-- where no mark differs, the slots stay
pub same_slots : (ms : List Mark) (ss : List Slot) → any_differs ms ss ≡ false → with_marks ms ss ≡ ss
same_slots [] ss h = refl
same_slots (m ∷ ms) [] h = refl
same_slots (m ∷ ms) (s ∷ ss) h =
    let p = or_parts (not (same_mark s.mark m)) (any_differs ms ss) h in
    let e : s.mark ≡ m = exact-mark.one s.mark m (not-false _ p.0) in
    λ i. remark s (sym e i) ∷ same_slots ms ss p.1 i

abbrev first_mark : List Slot → Mark
first_mark [] = Ahead 0
first_mark (s ∷ ss) = s.mark

abbrev rest : List Slot → List Slot
rest [] = []
rest (s ∷ ss) = ss

-- where a mark differs, the slots don't stay
pub other_slots : (ms : List Mark) (ss : List Slot) → any_differs ms ss ≡ true → with_marks ms ss ≢ ss
other_slots [] ss h = absurd (false≢true h)
other_slots (m ∷ ms) [] h = absurd (false≢true h)
other_slots (m ∷ ms) (s ∷ ss) h = λ e. by_first (same_mark s.mark m) refl (ap first_mark e) (other_slots ms ss) (ap rest e)
  where
    by_first : (b : Bool) → same_mark s.mark m ≡ b → m ≡ s.mark → (any_differs ms ss ≡ true → with_marks ms ss ≢ ss) → with_marks ms ss ≡ ss → ⊥
    by_first true is e later same = later (subst (λ b. (not b || any_differs ms ss) ≡ true) is h) same
    by_first false is e later same = absurd (false≢true (sym is ∙ ap (same_mark s.mark) e ∙ exact-mark.own s.mark))

abbrev pub state_of : List Slot → SubConfig → ℕ → SubState
state_of slots config next_lease = record { slots = slots; config = config; next_lease = next_lease }
