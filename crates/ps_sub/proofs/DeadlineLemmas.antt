-- A lease is over where the first deadline is.
use Rattle.std.proofs.Common.{ℕ, ◌≡◌, min, Bool, false, ◌||◌, nat_le, List, [], ◌∷◌, filter_map, refl, sym, ◌∙◌, ap, arith}
use Rattle.std.specs.List.{list_any, fold, reduce, cons_option}
use Rattle.std.specs.Option.{option_map_or}
use Rattle.std.proofs.Math.Bool.{or_assoc}
use Rattle.std.proofs.lemmas.Bool.Decides.{nat_tests}
use Rattle.ps_model.specs.declared.mark.Mark.{Mark}
use Rattle.ps_model.specs.declared.mark.Mark.TheVariants.{Backlog, Leased, Ahead, Done, Gone}
use Rattle.ps_model.specs.declared.mark.Slot.{Slot}
use Rattle.ps_model.specs.Failing.{is_due, is_over}
use Rattle.ps_sub.specs.Showing.{deadline_of, first_deadline}

abbrev has_come : ℕ → ℕ → Bool
has_come t deadline = nat_le deadline t

-- the lesser of two has come where one of them has
lesser : (t x y : ℕ) → has_come t (min x y) ≡ (has_come t x || has_come t y)
lesser t x y = grind (arith, nat_tests)

least : (t x : ℕ) (xs : List ℕ) → has_come t (fold min x xs) ≡ (has_come t x || list_any (has_come t) xs)
least t x [] = grind (arith, nat_tests)
least t x (y ∷ ys) = least t (min x y) ys ∙ ap (λ (b : Bool). b || list_any (has_come t) ys) (lesser t x y) ∙ or_assoc (has_come t x) (has_come t y) (list_any (has_come t) ys)

-- some deadline has come where the least has
first_of : (t : ℕ) (xs : List ℕ) → list_any (has_come t) xs ≡ option_map_or (has_come t) (reduce min xs) false
first_of t [] = refl
first_of t (x ∷ xs) = sym (least t x xs)

-- one mark more
mark-over : (t : ℕ) (m : Mark) (later : List ℕ) → list_any (has_come t) (cons_option (deadline_of m) later) ≡ (is_over t m || list_any (has_come t) later)
mark-over t (Leased failures lease deadline) later = refl
mark-over t (Backlog failures until last) later = refl
mark-over t (Ahead failures) later = refl
mark-over t (Done cause) later = refl
mark-over t (Gone cause) later = refl

-- the leases that are over are those whose deadline has come
over : (t : ℕ) (slots : List Slot) → list_any (is_due t) slots ≡ list_any (has_come t) (filter_map (λ s. deadline_of s.mark) slots)
over t [] = refl
over t (s ∷ ss) = ap (λ (b : Bool). is_due t s || b) (over t ss) ∙ sym (mark-over t s.mark (filter_map (λ s. deadline_of s.mark) ss))

pub due-first : (t : ℕ) (slots : List Slot) → list_any (is_due t) slots ≡ option_map_or (λ deadline. nat_le deadline t) (first_deadline slots) false
due-first t slots = over t slots ∙ first_of t (filter_map (λ s. deadline_of s.mark) slots)
