-- One message more is counted.
use Rattle.std.proofs.Common.{ℕ, ◌≡◌, ◌+◌, ◌<◌, Bool, true, false, List, [], ◌∷◌, length, take, get_or, zero, suc, refl, sym, ap, ◌∙◌, subst, arith, add-one}
use Rattle.std.proofs.lemmas.Bool.{false_from_ne_true, false≢true}
use Rattle.std.proofs.lemmas.List.Folds.{list_any_at}
use Rattle.ps_model.specs.declared.mark.Slot.{Slot}
use Rattle.ps_model.specs.declared.mark.Mark.{Mark}
use Rattle.ps_model.specs.declared.mark.Mark.TheVariants.{Backlog, Leased, Ahead, Done, Gone}
use Rattle.ps_model.specs.declared.mark.DoneCause.TheVariants.{Acknowledged, Dead}
use Rattle.ps_model.specs.Counting.{is_acknowledged, is_dead_lettered}
use Rattle.ps_model.specs.Lists.{tally}
use Rattle.ps_model.specs.Slots.{is_backlog, is_leased, is_gone}
use Rattle.ps_sub.specs.Showing.{one_if}
use Rattle.ps_sub.specs.Steady.{IsLive}

tally_suc : (p : Slot → Bool) (xs : List Slot) (i : ℕ) (d : Slot) → i < length xs → tally p (take (suc i) xs) ≡ tally p (take i xs) + one_if (p (get_or xs i d))
tally_suc p [] i d h = absurd (omega arith)
tally_suc p (x ∷ xs) zero d h = omega arith
tally_suc p (x ∷ xs) (suc i) d h = omega (arith, tally_suc p xs i d (omega arith))

-- the message at a place is counted by its mark
pub counted_more : (test : Mark → Bool) (xs : List Slot) (i : ℕ) (s : Slot) → i < length xs → s ≡ get_or xs i s → tally (λ (e : Slot). test e.mark) (take (i + 1) xs) ≡ tally (λ (e : Slot). test e.mark) (take i xs) + one_if (test s.mark)
counted_more test xs i s h is = rw (add-one i) (tally_suc (λ e. test e.mark) xs i s h ∙ ap (λ (e : Slot). tally (λ (x : Slot). test x.mark) (take i xs) + one_if (test e.mark)) (sym is))

one_standing : (m : Mark) → is_gone m ≡ false → one_if (is_backlog m) + one_if (is_leased m) + one_if (is_acknowledged m) + one_if (is_dead_lettered m) ≡ 1
one_standing (Backlog failures until last) h = refl
one_standing (Leased failures lease deadline) h = refl
one_standing (Ahead failures) h = refl
one_standing (Done Acknowledged) h = refl
one_standing (Done Dead) h = refl
one_standing (Gone cause) h = absurd (false≢true (sym h))

-- what isn't gone is counted once
pub one_of_four : (xs : List Slot) (i : ℕ) (s : Slot) → i < length xs → s ≡ get_or xs i s → IsLive xs
    → one_if (is_backlog s.mark) + one_if (is_leased s.mark) + one_if (is_acknowledged s.mark) + one_if (is_dead_lettered s.mark) ≡ 1
one_of_four xs i s h is live =
    one_standing s.mark (false_from_ne_true (is_gone s.mark) (λ e. false≢true (sym live ∙ list_any_at (λ (x : Slot). is_gone x.mark) xs i s h (subst (λ (x : Slot). is_gone x.mark ≡ true) is e))))
