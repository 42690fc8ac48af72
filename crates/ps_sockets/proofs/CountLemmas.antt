-- A count of nothing.
use Rattle.std.proofs.Common.{◌≡◌, ◌-◌, ℕ, List, [], ◌∷◌, false, refl, arith}
use Rattle.std.specs.Prelude.{count_by}

-- if no item passes the test, none is counted
none-counted : {X : Type 0} (xs : List X) → count_by (λ _. false) xs ≡ 0
none-counted [] = refl
none-counted (x ∷ xs) = none-counted xs

pub none-fewer : {X : Type 0} (n : ℕ) (xs : List X) → n ≡ n - count_by (λ _. false) xs
none-fewer n xs = rw (none-counted xs) (omega arith)
