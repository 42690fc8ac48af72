-- Lists whose members stand in a relation to each later one, and look-ups by number in ascending lists.
use Rattle.std.proofs.Common.{ℕ, ◌≡◌, ◌≢◌, ◌<◌, Bool, true, false, cond, nat_eq, List, [], ◌∷◌, ◌++◌, Some, None, map, filter, find, refl, sym, ◌∙◌, ap, subst, arith, if◌then◌else◌}
use Rattle.std.specs.List.{AllByRecursion}
use Rattle.std.proofs.lemmas.Bool.{eqb-true, ne_eqb, eq-eqb, cond_both, both_ways}
use Rattle.std.specs.Str.{bytes_eq}
use Rattle.ps_base.proofs.Lists.{each-then, each-both, each-map, each-append, each-filter, map-same, each-found, none-found}
use Rattle.ps_model.specs.Sound.{Ordered}
use Rattle.ps_model.proofs.SameLemmas.{exact-bytes}

pub ordered-map : {A B : Type 0} (R : A → A → Type 0) (S : B → B → Type 0) (f : A → B) (xs : List A) → ((x y : A) → R x y → S (f x) (f y)) → Ordered R xs → Ordered S (map f xs)
ordered-map R S f [] k h = tt
ordered-map R S f (x ∷ xs) k h = (each-map (R x) (S (f x)) f xs (k x) h.0, ordered-map R S f xs k h.1)

pub ordered-filter : {A : Type 0} (R : A → A → Type 0) (test : A → Bool) (xs : List A) → Ordered R xs → Ordered R (filter test xs)
ordered-filter R test [] h = tt
ordered-filter R test (x ∷ xs) h =
    cond_both (test x) (x ∷ filter test xs) (filter test xs) (Ordered R)
    (λ e. (each-filter (R x) (R x) test xs (λ y _ r. r) h.0, ordered-filter R test xs h.1)) (λ e. ordered-filter R test xs h.1)

pub ordered-append : {A : Type 0} (R : A → A → Type 0) (xs ys : List A) → AllByRecursion (λ x. AllByRecursion (R x) ys) xs → Ordered R xs → Ordered R ys → Ordered R (xs ++ ys)
ordered-append R [] ys c h k = k
ordered-append R (x ∷ xs) ys c h k = (each-append (R x) xs ys h.0 c.0, ordered-append R xs ys c.1 h.1 k)

module _ {A : Type 0} (number : A → ℕ) where
  abbrev pub Ascending : List A → Type 0
  Ascending xs = Ordered (λ (a b : A). number a < number b) xs

  -- each member is the one that is found under its number
  pub found-own : (xs : List A) → Ascending xs → AllByRecursion (λ x. find (λ y. nat_eq (number y) (number x)) xs ≡ Some x) xs
  found-own [] h = tt
  found-own (x ∷ xs) h = (
    rw (eq-eqb (number x) (number x) refl) refl,
    each-then (λ y. (number x < number y) × (find (λ z. nat_eq (number z) (number y)) xs ≡ Some y)) (λ y. find (λ z. nat_eq (number z) (number y)) (x ∷ xs) ≡ Some y) xs
        (λ y p. let ne : number x ≢ number y = omega (arith, p.0) in rw (ne_eqb (number x) (number y) ne) p.1)
        (each-both (λ y. number x < number y) (λ y. find (λ z. nat_eq (number z) (number y)) xs ≡ Some y) xs h.0 (found-own xs h.1)),
  )

  -- what is found in any way is found under its number
  pub found-numbered : (test : A → Bool) (xs : List A) (x : A) → Ascending xs → find test xs ≡ Some x → find (λ y. nat_eq (number y) (number x)) xs ≡ Some x
  found-numbered test xs x h e = each-found (λ x. find (λ y. nat_eq (number y) (number x)) xs ≡ Some x) test xs x e (found-own xs h)

  -- one of its number is the one
  pub only-numbered : (xs : List A) (x : A) → Ascending xs → find (λ y. nat_eq (number y) (number x)) xs ≡ Some x → AllByRecursion (λ y. nat_eq (number y) (number x) ≡ true → y ≡ x) xs
  only-numbered xs x h e = each-then (λ y. find (λ z. nat_eq (number z) (number y)) xs ≡ Some y) (λ y. nat_eq (number y) (number x) ≡ true → y ≡ x) xs each (found-own xs h)
    where
      each : (y : A) → find (λ z. nat_eq (number z) (number y)) xs ≡ Some y → nat_eq (number y) (number x) ≡ true → y ≡ x
      each y own same =
          let at : find (λ z. nat_eq (number z) (number x)) xs ≡ Some y = subst (λ n. find (λ z. nat_eq (number z) n) xs ≡ Some y) (eqb-true (number y) (number x) same) own in
          cc (at, e)

-- one put in place of that of its number is a change of each member, by whether it is that one
pub put-same : {A : Type 0} (number : A → ℕ) (xs : List A) (x y : A) (change : Bool → A → A) → Ascending number xs → find (λ z. nat_eq (number z) (number x)) xs ≡ Some x → y ≡ change true x → ((z : A) → z ≡ change false z)
    → map (λ z. if nat_eq (number z) (number x) then y else z) xs ≡ map (λ z. change (nat_eq (number z) (number x)) z) xs
put-same {A} number xs x y change ascend own one other = map-same (λ z. if nat_eq (number z) (number x) then y else z) (λ z. change (nat_eq (number z) (number x)) z) xs
    (each-then (λ z. nat_eq (number z) (number x) ≡ true → z ≡ x) (λ z. (if nat_eq (number z) (number x) then y else z) ≡ change (nat_eq (number z) (number x)) z) xs (λ z k. at z (nat_eq (number z) (number x)) k)
    (only-numbered number xs x ascend own))
  where
    at : (z : A) (b : Bool) → (b ≡ true → z ≡ x) → cond b y z ≡ change b z
    at z true k = one ∙ ap (change true) (sym (k refl))
    at z false k = other z

-- a member that stands so to each of a list, put behind it
pub ordered-behind : {A : Type 0} (R : A → A → Type 0) (xs : List A) (x : A) → AllByRecursion (λ a. R a x) xs → Ordered R xs → Ordered R (xs ++ x ∷ [])
ordered-behind R xs x k h = ordered-append R xs (x ∷ []) (each-then (λ a. R a x) (λ a. AllByRecursion (R a) (x ∷ [])) xs (λ a p. (p, tt)) k) h (tt, tt)

-- names that a look-up doesn't find are others
pub other-names : {A : Type 0} (name : A → List ℕ) (xs : List A) (n : List ℕ) → find (λ x. bytes_eq (name x) n) xs ≡ None → AllByRecursion (λ x. name x ≢ n) xs
other-names name xs n free = each-then (λ x. bytes_eq (name x) n ≡ false) (λ x. name x ≢ n) xs (λ x e same. both_ways (bytes_eq (name x) n) e (ap (λ m. bytes_eq m n) same ∙ exact-bytes.own n)) (none-found (λ x. bytes_eq (name x) n) xs free)
