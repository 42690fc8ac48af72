-- Lists of the members that pass a test.
use Rattle.std.proofs.Common.{◌≡◌, Bool, true, false, ◌&&◌, cond, List, [], ◌∷◌, map, filter, refl, ap, ◌∙◌}
use Rattle.std.specs.List.{AllByRecursion}

-- all pass
pub filter-all : {A : Type 0} (test : A → Bool) (xs : List A) → AllByRecursion (λ (x : A). test x ≡ true) xs → filter test xs ≡ xs
filter-all test [] h = refl
filter-all test (x ∷ xs) h = rw (h.0) (ap (λ ys. x ∷ ys) (filter-all test xs h.1))

-- those of a map that pass are the map of those that pass by it
pub filter-mapped : {A B : Type 0} (f : A → B) (test : B → Bool) (xs : List A) → filter test (map f xs) ≡ map f (filter (λ x. test (f x)) xs)
filter-mapped f test [] = refl
filter-mapped {A} f test (x ∷ xs) = by (test (f x)) (filter-mapped f test xs)
  where
    left : List A
    left = filter (λ y. test (f y)) xs

    by : (b : Bool) → filter test (map f xs) ≡ map f left → cond b (f x ∷ filter test (map f xs)) (filter test (map f xs)) ≡ map f (cond b (x ∷ left) left)
    by true rest = ap (λ ys. f x ∷ ys) rest
    by false rest = rest

-- one test after another
pub filter-twice : {A : Type 0} (p q r : A → Bool) → ((x : A) → (p x && q x) ≡ r x) → (xs : List A) → filter q (filter p xs) ≡ filter r xs
filter-twice p q r h [] = refl
filter-twice p q r h (x ∷ xs) = by (p x) (q x) refl (filter-twice p q r h xs) ∙ ap (λ (b : Bool). cond b (x ∷ filter r xs) (filter r xs)) (h x)
  where
    by : (a b : Bool) → q x ≡ b → filter q (filter p xs) ≡ filter r xs → filter q (cond a (x ∷ filter p xs) (filter p xs)) ≡ cond (a && b) (x ∷ filter r xs) (filter r xs)
    by true true is ih = ap (λ (b : Bool). cond b (x ∷ filter q (filter p xs)) (filter q (filter p xs))) is ∙ ap (λ ys. x ∷ ys) ih
    by true false is ih = ap (λ (b : Bool). cond b (x ∷ filter q (filter p xs)) (filter q (filter p xs))) is ∙ ih
    by false b is ih = ih
