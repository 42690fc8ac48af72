-- What holds of each member of a list, look-ups, and what a map, a filter, two lists joined and one member put in a place do to them.
use Rattle.std.proofs.Common.{ℕ, zero, suc, ◌≡◌, ◌+◌, ◌<◌, ◌≤◌, Bool, true, false, cond, not, ◌||◌, ◌⊎◌, inl, inr, nat_eq, nat_lt, is_some, List, [], ◌∷◌, ◌++◌, Option, Some, None, option_map, map, filter, find, flat_map, length, set, get_or, refl, sym, ◌∙◌, ap, subst, arith}
use Rattle.std.specs.List.{AllByRecursion, list_any, position, position_or_len}
use Rattle.std.proofs.lemmas.Bool.{eqb-true, ne_eqb, eq-eqb, ltb-false, cond_both, both_ways, or_cases, or_left, or_right, or_parts, or_from}
use Rattle.std.proofs.lemmas.List.Quantifiers.{position-Some}
use Rattle.std.proofs.lemmas.List.Recursion.{found_at}

-- ---- each member

pub each-always : {A : Type 0} (P : A → Type 0) (xs : List A) → ((x : A) → P x) → AllByRecursion P xs
each-always P [] k = tt
each-always P (x ∷ xs) k = (k x, each-always P xs k)

pub each-then : {A : Type 0} (P Q : A → Type 0) (xs : List A) → ((x : A) → P x → Q x) → AllByRecursion P xs → AllByRecursion Q xs
each-then P Q [] k h = tt
each-then P Q (x ∷ xs) k h = (k x h.0, each-then P Q xs k h.1)

pub each-both : {A : Type 0} (P Q : A → Type 0) (xs : List A) → AllByRecursion P xs → AllByRecursion Q xs → AllByRecursion (λ (x : A). P x × Q x) xs
each-both P Q [] g h = tt
each-both P Q (x ∷ xs) g h = ((g.0, h.0), each-both P Q xs g.1 h.1)

-- what follows from two facts of a member
pub each-then-both : {A : Type 0} (P Q R : A → Type 0) (xs : List A) → ((x : A) → P x → Q x → R x) → AllByRecursion P xs → AllByRecursion Q xs → AllByRecursion R xs
each-then-both P Q R [] k g h = tt
each-then-both P Q R (x ∷ xs) k g h = (k x g.0 h.0, each-then-both P Q R xs k g.1 h.1)

-- what holds of each member and is kept by f, holds of each member of the map
pub each-map : {A B : Type 0} (P : A → Type 0) (Q : B → Type 0) (f : A → B) (xs : List A) → ((x : A) → P x → Q (f x)) → AllByRecursion P xs → AllByRecursion Q (map f xs)
each-map P Q f [] k h = tt
each-map P Q f (x ∷ xs) k h = (k x h.0, each-map P Q f xs k h.1)

pub each-of-map : {A B : Type 0} (Q : B → Type 0) (f : A → B) (xs : List A) → AllByRecursion Q (map f xs) → AllByRecursion (λ (x : A). Q (f x)) xs
each-of-map Q f [] h = tt
each-of-map Q f (x ∷ xs) h = (h.0, each-of-map Q f xs h.1)

pub each-append : {A : Type 0} (P : A → Type 0) (xs ys : List A) → AllByRecursion P xs → AllByRecursion P ys → AllByRecursion P (xs ++ ys)
each-append P [] ys g h = h
each-append P (x ∷ xs) ys g h = (g.0, each-append P xs ys g.1 h)

pub each-behind : {A : Type 0} (P : A → Type 0) (xs : List A) (x : A) → AllByRecursion P xs → P x → AllByRecursion P (xs ++ x ∷ [])
each-behind P xs x h p = each-append P xs (x ∷ []) h (p, tt)

-- of those that pass the test
pub each-filter : {A : Type 0} (P Q : A → Type 0) (test : A → Bool) (xs : List A) → ((x : A) → test x ≡ true → P x → Q x) → AllByRecursion P xs → AllByRecursion Q (filter test xs)
each-filter P Q test [] k h = tt
each-filter P Q test (x ∷ xs) k h =
    cond_both (test x) (x ∷ filter test xs) (filter test xs) (AllByRecursion Q)
    (λ e. (k x e h.0, each-filter P Q test xs k h.1)) (λ e. each-filter P Q test xs k h.1)

-- what holds of those that are left
pub each-left : {A : Type 0} (P : A → Type 0) (test : A → Bool) (xs : List A) → AllByRecursion P xs → AllByRecursion P (filter test xs)
each-left P test xs h = each-filter P P test xs (λ x _ p. p) h

pub each-of-filter : {A : Type 0} (P : A → Type 0) (test : A → Bool) (xs : List A) → AllByRecursion P (filter test xs) → AllByRecursion (λ (x : A). test x ≡ true → P x) xs
each-of-filter P test [] h = tt
each-of-filter P test (x ∷ xs) h = cases (test x) (each-of-filter P test xs) h
  where
    cases : (b : Bool) → (AllByRecursion P (filter test xs) → AllByRecursion (λ x. test x ≡ true → P x) xs) → AllByRecursion P (cond b (x ∷ filter test xs) (filter test xs))
        → (b ≡ true → P x) × AllByRecursion (λ x. test x ≡ true → P x) xs
    cases true ih h = (λ e. h.0, ih h.1)
    cases false ih h = (λ e. absurd (cc (e)), ih h)

pub each-flat_map : {A B : Type 0} (P : A → Type 0) (Q : B → Type 0) (f : A → List B) (xs : List A) → ((x : A) → P x → AllByRecursion Q (f x)) → AllByRecursion P xs → AllByRecursion Q (flat_map f xs)
each-flat_map P Q f [] k h = tt
each-flat_map P Q f (x ∷ xs) k h = each-append Q (f x) (flat_map f xs) (k x h.0) (each-flat_map P Q f xs k h.1)

-- of the member at a place
pub each-at : {A : Type 0} (P : A → Type 0) (xs : List A) (i : ℕ) (d : A) → i < length xs → AllByRecursion P xs → P (get_or xs i d)
each-at P [] i d hi h = absurd (omega arith)
each-at P (x ∷ xs) zero d hi h = h.0
each-at P (x ∷ xs) (suc i) d hi h = each-at P xs i d (omega arith) h.1

-- where one that it holds of is put in a place
pub each-put : {A : Type 0} (P : A → Type 0) (xs : List A) (i : ℕ) (y : A) → AllByRecursion P xs → P y → AllByRecursion P (set xs i y)
each-put P [] i y h p = h
each-put P (x ∷ xs) zero y h p = (p, h.1)
each-put P (x ∷ xs) (suc i) y h p = (h.0, each-put P xs i y h.1 p)

-- ---- maps and filters

pub map-same : {A B : Type 0} (f g : A → B) (xs : List A) → AllByRecursion (λ (x : A). f x ≡ g x) xs → map f xs ≡ map g xs
map-same f g [] h = refl
map-same f g (x ∷ xs) h = λ i. h.0 i ∷ map-same f g xs h.1 i

pub map-alike : {A B : Type 0} (f g : A → B) (xs : List A) → ((x : A) → f x ≡ g x) → map f xs ≡ map g xs
map-alike f g [] k = refl
map-alike f g (x ∷ xs) k = λ i. k x i ∷ map-alike f g xs k i

pub map-rests : {A : Type 0} (f : A → A) (xs : List A) → AllByRecursion (λ (x : A). f x ≡ x) xs → map f xs ≡ xs
map-rests f [] h = refl
map-rests f (x ∷ xs) h = λ i. h.0 i ∷ map-rests f xs h.1 i

-- where a view doesn't see a change
pub map-unseen : {A B : Type 0} (g : A → B) (f : A → A) (xs : List A) → ((x : A) → g (f x) ≡ g x) → map g (map f xs) ≡ map g xs
map-unseen g f [] k = refl
map-unseen g f (x ∷ xs) k = λ i. k x i ∷ map-unseen g f xs k i

-- where a view of the whole list doesn't change, the view of the one in a place doesn't
pub map-put-back : {A B : Type 0} (f : A → B) (xs : List A) (i : ℕ) (d y : A) → i < length xs → map f xs ≡ map f (set xs i y) → f (get_or xs i d) ≡ f y
map-put-back f [] i d y hi e = absurd (omega arith)
map-put-back f (x ∷ xs) zero d y hi e = cc (e)
map-put-back f (x ∷ xs) (suc i) d y hi e =
    let tails : map f xs ≡ map f (set xs i y) = cc (e) in
    map-put-back f xs i d y (omega arith) tails

pub filter-none : {A : Type 0} (test : A → Bool) (xs : List A) → AllByRecursion (λ (x : A). test x ≡ false) xs → filter test xs ≡ []
filter-none test [] h = refl
filter-none test (x ∷ xs) h = rw h.0 (filter-none test xs h.1)

pub flat_map-none : {A B : Type 0} (f : A → List B) (xs : List A) → AllByRecursion (λ (x : A). f x ≡ []) xs → flat_map f xs ≡ []
flat_map-none f [] h = refl
flat_map-none f (x ∷ xs) h = rw h.0 (flat_map-none f xs h.1)

-- ---- whether some member passes a test

pub any-none : {A : Type 0} (test : A → Bool) (xs : List A) → AllByRecursion (λ (x : A). test x ≡ false) xs → list_any test xs ≡ false
any-none test [] h = refl
any-none test (x ∷ xs) h = rw h.0 (any-none test xs h.1)

-- the image of a member that passes one test passes the other
pub any-map : {A B : Type 0} (p : A → Bool) (q : B → Bool) (f : A → B) (xs : List A) → ((x : A) → p x ≡ true → q (f x) ≡ true) → list_any p xs ≡ true → list_any q (map f xs) ≡ true
any-map p q f [] k h = h
any-map p q f (x ∷ xs) k h = by (or_cases (p x) (list_any p xs) h) (any-map p q f xs k)
  where
    by : ((p x ≡ true) ⊎ (list_any p xs ≡ true)) → (list_any p xs ≡ true → list_any q (map f xs) ≡ true) → (q (f x) || list_any q (map f xs)) ≡ true
    by (inl e) rest = or_left (q (f x)) (list_any q (map f xs)) (k x e)
    by (inr e) rest = or_right (q (f x)) (list_any q (map f xs)) (rest e)

-- the test of the image is a test of the member
pub any-map-same : {A B : Type 0} (P : A → Type 0) (p : A → Bool) (q : B → Bool) (f : A → B) (xs : List A) → ((x : A) → P x → q (f x) ≡ p x) → AllByRecursion P xs → list_any q (map f xs) ≡ list_any p xs
any-map-same P p q f [] k h = refl
any-map-same P p q f (x ∷ xs) k h = λ i. k x h.0 i || any-map-same P p q f xs k h.1 i

-- where some member passes, and each that does gives a fact
pub from-any : {A : Type 0} (P : Type 0) (test : A → Bool) (xs : List A) → list_any test xs ≡ true → AllByRecursion (λ (x : A). test x ≡ true → P) xs → P
from-any P test [] e h = absurd (cc (e))
from-any P test (x ∷ xs) e h = cases (test x) refl e (λ e'. from-any P test xs e' h.1)
  where
    cases : (b : Bool) → test x ≡ b → (b || list_any test xs) ≡ true → (list_any test xs ≡ true → P) → P
    cases true passes e' rest = h.0 passes
    cases false passes e' rest = rest e'

-- a test that doesn't tell a member from the one in its place answers the same
pub any-put : {A : Type 0} (p : A → Bool) (xs : List A) (i : ℕ) (d y : A) → p y ≡ p (get_or xs i d) → list_any p (set xs i y) ≡ list_any p xs
any-put p [] i d y e = refl
any-put p (x ∷ xs) zero d y e = ap (λ (b : Bool). b || list_any p xs) e
any-put p (x ∷ xs) (suc i) d y e = ap (λ (b : Bool). p x || b) (any-put p xs i d y e)

-- where none passes, the one at a place doesn't
pub none-at : {A : Type 0} (p : A → Bool) (xs : List A) (i : ℕ) (d : A) → i < length xs → list_any p xs ≡ false → p (get_or xs i d) ≡ false
none-at p [] i d hi h = absurd (omega arith)
none-at p (x ∷ xs) zero d hi h = (or_parts (p x) (list_any p xs) h).0
none-at p (x ∷ xs) (suc i) d hi h = none-at p xs i d (omega arith) (or_parts (p x) (list_any p xs) h).1

-- where none passes, none does with one more that doesn't in some place
pub none-put : {A : Type 0} (p : A → Bool) (xs : List A) (i : ℕ) (y : A) → list_any p xs ≡ false → p y ≡ false → list_any p (set xs i y) ≡ false
none-put p [] i y h e = refl
none-put p (x ∷ xs) zero y h e = or_from (p y) (list_any p xs) e (or_parts (p x) (list_any p xs) h).1
none-put p (x ∷ xs) (suc i) y h e =
    let parts = or_parts (p x) (list_any p xs) h in
    or_from (p x) (list_any p (set xs i y)) parts.0 (none-put p xs i y parts.1 e)

-- ---- look-ups

pub each-found : {A : Type 0} (P : A → Type 0) (test : A → Bool) (xs : List A) (x : A) → find test xs ≡ Some x → AllByRecursion P xs → P x
each-found P test [] x e h = absurd (cc (e))
each-found P test (y ∷ ys) x e h = cases (test y) (λ e'. each-found P test ys x e' h.1) e
  where
    cases : (b : Bool) → (find test ys ≡ Some x → P x) → cond b (Some y) (find test ys) ≡ Some x → P x
    cases true ih e' = let same : y ≡ x = cc (e') in subst P same h.0
    cases false ih e' = ih e'

pub found-passes : {A : Type 0} (test : A → Bool) (xs : List A) (x : A) → find test xs ≡ Some x → test x ≡ true
found-passes test [] x e = absurd (cc (e))
found-passes test (y ∷ ys) x e = cases (test y) refl (found-passes test ys x) e
  where
    cases : (b : Bool) → test y ≡ b → (find test ys ≡ Some x → test x ≡ true) → cond b (Some y) (find test ys) ≡ Some x → test x ≡ true
    cases true passes ih e' = let same : y ≡ x = cc (e') in ap test (sym same) ∙ passes
    cases false passes ih e' = ih e'

pub find-none : {A : Type 0} (test : A → Bool) (xs : List A) → AllByRecursion (λ (x : A). test x ≡ false) xs → find test xs ≡ None
find-none test [] h = refl
find-none test (x ∷ xs) h = rw h.0 (find-none test xs h.1)

pub none-found : {A : Type 0} (test : A → Bool) (xs : List A) → find test xs ≡ None → AllByRecursion (λ (x : A). test x ≡ false) xs
none-found test [] e = tt
none-found test (x ∷ xs) e = cases (test x) (none-found test xs) e
  where
    cases : (b : Bool) → (find test xs ≡ None → AllByRecursion (λ x. test x ≡ false) xs) → cond b (Some x) (find test xs) ≡ None → (b ≡ false) × AllByRecursion (λ x. test x ≡ false) xs
    cases true ih e' = absurd (cc (e'))
    cases false ih e' = (refl, ih e')

-- what is found in two lists joined, where one of them has nothing
pub find-front : {A : Type 0} (p : A → Bool) (xs ys : List A) → find p ys ≡ None → find p (xs ++ ys) ≡ find p xs
find-front p [] ys h = h
find-front p (x ∷ xs) ys h = ap (λ (rest : Option _). cond (p x) (Some x) rest) (find-front p xs ys h)

pub find-behind : {A : Type 0} (p : A → Bool) (xs ys : List A) → AllByRecursion (λ (x : A). p x ≡ false) xs → find p (xs ++ ys) ≡ find p ys
find-behind p [] ys h = refl
find-behind p (x ∷ xs) ys h = rw h.0 (find-behind p xs ys h.1)

-- what is found stays found where more is put behind
pub found-append : {A : Type 0} (test : A → Bool) (xs ys : List A) → is_some (find test xs) ≡ true → find test (xs ++ ys) ≡ find test xs
found-append test [] ys e = absurd (cc (e))
found-append test (x ∷ xs) ys e = cases (test x) (found-append test xs ys) e
  where
    cases : (b : Bool) → (is_some (find test xs) ≡ true → find test (xs ++ ys) ≡ find test xs) → is_some (cond b (Some x) (find test xs)) ≡ true → cond b (Some x) (find test (xs ++ ys)) ≡ cond b (Some x) (find test xs)
    cases true ih e' = refl
    cases false ih e' = ih e'

-- what is put behind others is found there where none of them passes
pub found-last : {A : Type 0} (test : A → Bool) (xs : List A) (x : A) → AllByRecursion (λ (y : A). test y ≡ false) xs → test x ≡ true → find test (xs ++ x ∷ []) ≡ Some x
found-last test [] x h e = rw e refl
found-last test (y ∷ ys) x h e = rw h.0 (found-last test ys x h.1 e)

-- a look-up by what a change leaves as it is
pub found-map : {A : Type 0} (test : A → Bool) (f : A → A) (xs : List A) → ((x : A) → test (f x) ≡ test x) → find test (map f xs) ≡ option_map f (find test xs)
found-map test f [] k = refl
found-map test f (x ∷ xs) k = ap (λ b. cond b (Some (f x)) (find test (map f xs))) (k x) ∙ cases (test x) (found-map test f xs k)
  where
    cases : (b : Bool) → find test (map f xs) ≡ option_map f (find test xs) → cond b (Some (f x)) (find test (map f xs)) ≡ option_map f (cond b (Some x) (find test xs))
    cases true ih = refl
    cases false ih = ih

pub some-mapped : {A : Type 0} (f : A → A) (o : Option A) → is_some (option_map f o) ≡ is_some o
some-mapped f None = refl
some-mapped f (Some x) = refl

-- a look-up of another number, among those that are left without one
pub found-left : {A : Type 0} (number : A → ℕ) (n k : ℕ) (xs : List A) → nat_eq k n ≡ false → find (λ (x : A). nat_eq (number x) k) (filter (λ x. not (nat_eq (number x) n)) xs) ≡ find (λ x. nat_eq (number x) k) xs
found-left number n k [] e = refl
found-left {A = A} number n k (x ∷ xs) e = cases (nat_eq (number x) n) refl (found-left number n k xs e)
  where
    rest : List A
    rest = filter (λ y. not (nat_eq (number y) n)) xs

    cases : (b : Bool) → nat_eq (number x) n ≡ b → find (λ y. nat_eq (number y) k) rest ≡ find (λ y. nat_eq (number y) k) xs
        → find (λ y. nat_eq (number y) k) (cond (not b) (x ∷ rest) rest) ≡ cond (nat_eq (number x) k) (Some x) (find (λ y. nat_eq (number y) k) xs)
    cases true same ih =
        let other : nat_eq (number x) k ≡ false = ne_eqb (number x) k (λ at. both_ways (nat_eq k n) e (eq-eqb k n (sym at ∙ eqb-true (number x) n same))) in
        rw other ih
    cases false same ih = ap (cond (nat_eq (number x) k) (Some x)) ih

-- a look-up in a view, by the place of the first that passes
pub find-at : {A B : Type 0} (f : A → B) (p : B → Bool) (xs : List A) (i : ℕ) (d : A) → position (λ (x : A). p (f x)) xs ≡ Some i → find p (map f xs) ≡ Some (f (get_or xs i d))
find-at {A} {B} f p xs i d e =
    let found = position-Some (λ (x : A). p (f x)) xs i d e in
    found_at (λ (ys : List A). find p (map f ys)) (λ (x : A). p (f x)) (λ (x : A). Some (f x)) None refl (λ x ys. refl) xs i d found.0 found.2 found.1

none-passes : {A B : Type 0} (f : A → B) (p : B → Bool) (xs : List A) → length xs ≤ position_or_len (λ (x : A). p (f x)) xs → find p (map f xs) ≡ None
none-passes f p [] h = refl
none-passes {A} {B} f p (x ∷ xs) h = by (p (f x)) refl (none-passes f p xs)
  where
    rest : ℕ
    rest = position_or_len (λ (y : A). p (f y)) xs

    by : (b : Bool) → p (f x) ≡ b → (length xs ≤ rest → find p (map f xs) ≡ None) → cond (p (f x)) (Some (f x)) (find p (map f xs)) ≡ None
    by true e ih =
        let none : length (x ∷ xs) ≤ 0 = subst (λ (b : Bool). length (x ∷ xs) ≤ cond (not b) (1 + rest) 0) e h in
        absurd (omega arith)
    by false e ih =
        let more : length (x ∷ xs) ≤ 1 + rest = subst (λ (b : Bool). length (x ∷ xs) ≤ cond (not b) (1 + rest) 0) e h in
        rw e (ih (omega arith))

-- and where none passes
pub find-nowhere : {A B : Type 0} (f : A → B) (p : B → Bool) (xs : List A) → position (λ (x : A). p (f x)) xs ≡ None → find p (map f xs) ≡ None
find-nowhere {A} f p xs e = by (nat_lt place (length xs)) refl e
  where
    place : ℕ
    place = position_or_len (λ (x : A). p (f x)) xs

    by : (b : Bool) → nat_lt place (length xs) ≡ b → cond b (Some place) None ≡ None → find p (map f xs) ≡ None
    by true t h = absurd (cc (h))
    by false t h = none-passes f p xs (ltb-false place (length xs) t)
