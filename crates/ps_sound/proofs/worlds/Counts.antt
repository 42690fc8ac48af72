-- How many members of a list pass a test, after a change of the list.
use Rattle.std.proofs.Common.{ℕ, ◌≡◌, ◌+◌, ◌≤◌, ◌&&◌, Bool, true, false, cond, List, [], ◌∷◌, ◌++◌, map, filter, refl, ap, arith}
use Rattle.std.specs.List.{AllByRecursion}
use Rattle.ps_model.specs.Lists.{tally}

-- 1 where it passes
abbrev pub one : Bool → ℕ
one b = cond b 1 0

pub one-less : (a b : Bool) → (a ≡ true → b ≡ true) → one a ≤ one b
one-less true true k = omega arith
one-less true false k = absurd (cc (k refl))
one-less false b k = omega arith

-- where a change lets no more pass
pub tally-map-less : {A : Type 0} (p q : A → Bool) (f : A → A) (xs : List A) → ((x : A) → p (f x) ≡ true → q x ≡ true) → tally p (map f xs) ≤ tally q xs
tally-map-less p q f [] k = omega arith
tally-map-less p q f (x ∷ xs) k = omega (arith, one-less (p (f x)) (q x) (k x), tally-map-less p q f xs k)

pub tally-split : {A : Type 0} (p q r : A → Bool) (xs : List A) → ((x : A) → one (p x) ≤ one (q x) + one (r x)) → tally p xs ≤ tally q xs + tally r xs
tally-split p q r [] k = omega arith
tally-split p q r (x ∷ xs) k = omega (arith, k x, tally-split p q r xs k)

pub tally-map-split : {A : Type 0} (p q r : A → Bool) (f : A → A) (xs : List A) → ((x : A) → one (p (f x)) ≤ one (q x) + one (r x)) → tally p (map f xs) ≤ tally q xs + tally r xs
tally-map-split p q r f [] k = omega arith
tally-map-split p q r f (x ∷ xs) k = omega (arith, k x, tally-map-split p q r f xs k)

-- where of two tests at most one passes, and the third then does
pub tally-both : {A : Type 0} (p q r : A → Bool) (xs : List A) → ((x : A) → one (p x) + one (q x) ≤ one (r x)) → tally p xs + tally q xs ≤ tally r xs
tally-both p q r [] k = omega arith
tally-both p q r (x ∷ xs) k = omega (arith, k x, tally-both p q r xs k)

pub tally-map-both : {A : Type 0} (p q r : A → Bool) (f : A → A) (xs : List A) → ((x : A) → one (p (f x)) + one (q x) ≤ one (r x)) → tally p (map f xs) + tally q xs ≤ tally r xs
tally-map-both p q r f [] k = omega arith
tally-map-both p q r f (x ∷ xs) k = omega (arith, k x, tally-map-both p q r f xs k)

-- a test of what a view shows, of those that pass another
pub tally-map-filter : {A B : Type 0} (test : B → Bool) (g : A → B) (p : A → Bool) (xs : List A) → tally test (map g (filter p xs)) ≡ tally (λ x. p x && test (g x)) xs
tally-map-filter test g p [] = refl
tally-map-filter test g p (x ∷ xs) = cases (p x) (tally-map-filter test g p xs)
  where
    cases : (b : Bool) → tally test (map g (filter p xs)) ≡ tally (λ x. p x && test (g x)) xs → tally test (map g (cond b (x ∷ filter p xs) (filter p xs))) ≡ one (b && test (g x)) + tally (λ x. p x && test (g x)) xs
    cases true ih = ap (λ n. one (test (g x)) + n) ih
    cases false ih = omega (arith, ih)

pub tally-less : {A : Type 0} (p q : A → Bool) (xs : List A) → ((x : A) → p x ≡ true → q x ≡ true) → tally p xs ≤ tally q xs
tally-less p q [] k = omega arith
tally-less p q (x ∷ xs) k = omega (arith, one-less (p x) (q x) (k x), tally-less p q xs k)

pub tally-filter : {A : Type 0} (test p : A → Bool) (xs : List A) → tally test (filter p xs) ≤ tally test xs
tally-filter test p [] = omega arith
tally-filter test p (x ∷ xs) = cases (p x) (tally-filter test p xs)
  where
    cases : (b : Bool) → tally test (filter p xs) ≤ tally test xs → tally test (cond b (x ∷ filter p xs) (filter p xs)) ≤ one (test x) + tally test xs
    cases true ih = omega (arith, ih)
    cases false ih = omega (arith, ih)

-- behind others, those that fail the test don't count
pub tally-behind : {A : Type 0} (test : A → Bool) (xs ys : List A) → AllByRecursion (λ y. test y ≡ false) ys → tally test (xs ++ ys) ≡ tally test xs
tally-behind {A = A} test [] ys h = none ys h
  where
    none : (ys : List A) → AllByRecursion (λ y. test y ≡ false) ys → tally test ys ≡ 0
    none [] h = refl
    none (y ∷ ys) h = rw h.0 (omega (arith, none ys h.1))
tally-behind test (x ∷ xs) ys h = ap (λ n. one (test x) + n) (tally-behind test xs ys h)

pub tally-append : {A : Type 0} (test : A → Bool) (xs ys : List A) → tally test (xs ++ ys) ≡ tally test xs + tally test ys
tally-append test [] ys = omega arith
tally-append test (x ∷ xs) ys = omega (arith, tally-append test xs ys)

pub tally-none : {A : Type 0} (test : A → Bool) (xs : List A) → AllByRecursion (λ x. test x ≡ false) xs → tally test xs ≡ 0
tally-none test [] h = refl
tally-none test (x ∷ xs) h = rw h.0 (omega (arith, tally-none test xs h.1))

-- of two tests that no member passes both of
pub tally-two-filters : {A : Type 0} (test p q : A → Bool) (xs : List A) → ((x : A) → p x ≡ true → q x ≡ false) → tally test (filter p xs) + tally test (filter q xs) ≤ tally test xs
tally-two-filters test p q [] k = omega arith
tally-two-filters test p q (x ∷ xs) k = cases (p x) (q x) (k x) (tally-two-filters test p q xs k)
  where
    cases : (b c : Bool) → (b ≡ true → c ≡ false) → tally test (filter p xs) + tally test (filter q xs) ≤ tally test xs
        → tally test (cond b (x ∷ filter p xs) (filter p xs)) + tally test (cond c (x ∷ filter q xs) (filter q xs)) ≤ one (test x) + tally test xs
    cases true true other ih = absurd (cc (other refl))
    cases true false other ih = omega (arith, ih)
    cases false true other ih = omega (arith, ih)
    cases false false other ih = omega (arith, ih)
