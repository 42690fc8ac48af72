-- Members of a list that pass a test, counted up to a place.
use Rattle.std.proofs.Common.{◌≡◌, ◌+◌, ℕ, Bool, true, List, [], ◌∷◌, length, ap, ◌∙◌, arith, ◌<◌, zero, suc, false, cond, take, get_or, add-one}
use Rattle.std.proofs.Math.Nat.{add-zero}
use Rattle.ps_model.specs.Lists.{tally}

tally-take : {A : Type 0} (p : A → Bool) (xs : List A) (i : ℕ) (x : A) → i < length xs → x ≡ get_or xs i x → tally p (take (suc i) xs) ≡ tally p (take i xs) + cond (p x) 1 0
tally-take p [] i x h is = absurd (omega arith)
tally-take p (y ∷ ys) zero x h is = omega (arith, ap {B = ℕ} (λ z. cond (p z) 1 0) is)
tally-take p (y ∷ ys) (suc i) x h is = omega (arith, tally-take p ys i x (omega arith) is)

-- one that passes the test is counted
pub tally_more : {A : Type 0} (p : A → Bool) (xs : List A) (i : ℕ) (x : A) → i < length xs → x ≡ get_or xs i x → p x ≡ true → tally p (take (i + 1) xs) ≡ tally p (take i xs) + 1
tally_more p xs i x h is passes = rw (add-one i) (tally-take p xs i x h is ∙ ap (λ (b : Bool). tally p (take i xs) + cond b 1 0) passes)

-- another isn't
pub tally_same : {A : Type 0} (p : A → Bool) (xs : List A) (i : ℕ) (x : A) → i < length xs → x ≡ get_or xs i x → p x ≡ false → tally p (take (i + 1) xs) ≡ tally p (take i xs)
tally_same p xs i x h is fails = rw (add-one i) (tally-take p xs i x h is ∙ ap (λ (b : Bool). tally p (take i xs) + cond b 1 0) fails ∙ add-zero _)
