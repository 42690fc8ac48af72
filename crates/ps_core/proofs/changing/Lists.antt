-- Lists without some members, and with one changed.
use Rattle.std.proofs.Common.{◌≡◌, ◌≢◌, ℕ, Bool, true, false, not, cond, nat_eq, List, [], ◌∷◌, Option, Some, None, find, filter, refl, sym, ap, ◌∙◌, if◌then◌else◌}
use Rattle.std.specs.List.{AllByRecursion}
use Rattle.std.specs.Str.{bytes_eq}
use Rattle.std.proofs.lemmas.Bool.{eq-eqb, false≢true}
use Rattle.ps_base.proofs.Lists.{each-then}
use Rattle.ps_model.specs.Sound.{Ordered}
use Rattle.ps_model.proofs.SameLemmas.{exact-bytes}

pub filter-swap : {A : Type 0} (p q : A → Bool) (xs : List A) → filter p (filter q xs) ≡ filter q (filter p xs)
filter-swap p q [] = refl
filter-swap p q (x ∷ xs) = by (p x) refl (q x) refl (filter-swap p q xs)
  where
    by : (a : Bool) → p x ≡ a → (b : Bool) → q x ≡ b → filter p (filter q xs) ≡ filter q (filter p xs) → filter p (filter q (x ∷ xs)) ≡ filter q (filter p (x ∷ xs))
    by true a true b rest = rw (b, a, b) (ap (λ ys. x ∷ ys) rest)
    by true a false b rest = rw (a, b) rest
    by false a true b rest = rw (b, a) rest
    by false a false b rest = rw (a, b) rest

-- what stands at a number is the only one of its name
module _ {A : Type 0} (number : A → ℕ) (name_of : A → List ℕ) where
  -- whatever has the name of the one that was found has its number
  pub same-name : (name : List ℕ) (x : A) (ys : List A) → Ordered (λ a b. name_of a ≢ name_of b) ys → find (λ y. bytes_eq (name_of y) name) ys ≡ Some x → AllByRecursion (λ y. bytes_eq (name_of y) name ≡ true → y ≡ x) ys
  same-name name x [] o is = tt
  same-name name x (y ∷ ys) o is = by (bytes_eq (name_of y) name) refl (same-name name x ys o.1)
    where
      by : (b : Bool) → bytes_eq (name_of y) name ≡ b → (find (λ z. bytes_eq (name_of z) name) ys ≡ Some x → AllByRecursion (λ z. bytes_eq (name_of z) name ≡ true → z ≡ x) ys) → AllByRecursion (λ z. bytes_eq (name_of z) name ≡ true → z ≡ x) (y ∷ ys)
      by true own rest =
          let first : Some y ≡ Some x = sym (ap (λ (b : Bool). cond b (Some y) (find (λ z. bytes_eq (name_of z) name) ys)) own) ∙ is in
          let here : y ≡ x = cc (first) in
          ((λ e. here), each-then (λ z. name_of y ≢ name_of z) (λ z. bytes_eq (name_of z) name ≡ true → z ≡ x) ys (λ z other e. absurd (other (exact-bytes.one (name_of y) name own ∙ sym (exact-bytes.one (name_of z) name e)))) o.0)
      by false own rest =
          ((λ e. absurd (false≢true (sym own ∙ e))), rest (sym (ap (λ (b : Bool). cond b (Some y) (find (λ z. bytes_eq (name_of z) name) ys)) own) ∙ is))

  -- what is found by name without the one at the number
  pub found-dropped : (name other : List ℕ) (n : ℕ) (ys : List A) → AllByRecursion (λ y. (bytes_eq (name_of y) name ≡ true → number y ≡ n) × (nat_eq (number y) n ≡ true → name_of y ≡ name)) ys
      → find (λ y. bytes_eq (name_of y) other) (filter (λ y. not (nat_eq (number y) n)) ys) ≡ (if bytes_eq name other then None else find (λ y. bytes_eq (name_of y) other) ys)
  found-dropped name other n [] h = none (bytes_eq name other) None refl
    where
      none : (b : Bool) (o : Option A) → o ≡ None → o ≡ (if b then None else o)
      none true o e = e
      none false o e = refl
  found-dropped name other n (y ∷ ys) h = by (nat_eq (number y) n) refl (bytes_eq name other) refl (bytes_eq (name_of y) other) refl (found-dropped name other n ys h.1)
    where
      by : (at : Bool) → nat_eq (number y) n ≡ at → (this : Bool) → bytes_eq name other ≡ this → (has : Bool) → bytes_eq (name_of y) other ≡ has
          → find (λ z. bytes_eq (name_of z) other) (filter (λ z. not (nat_eq (number z) n)) ys) ≡ (if bytes_eq name other then None else find (λ z. bytes_eq (name_of z) other) ys)
          → find (λ z. bytes_eq (name_of z) other) (filter (λ z. not (nat_eq (number z) n)) (y ∷ ys)) ≡ (if bytes_eq name other then None else find (λ z. bytes_eq (name_of z) other) (y ∷ ys))
      by true at true this has own rest = rw (at, this) (rest ∙ ap (λ (b : Bool). if b then None else find (λ z. bytes_eq (name_of z) other) ys) this)
      by true at false this true own rest = absurd (false≢true (sym this ∙ ap (λ m. bytes_eq m other) (sym (h.0.1 at)) ∙ own))
      by true at false this false own rest = rw (at, this, own) (rest ∙ ap (λ (b : Bool). if b then None else find (λ z. bytes_eq (name_of z) other) ys) this)
      by false at true this true own rest =
          let same : name_of y ≡ name = exact-bytes.one (name_of y) other own ∙ sym (exact-bytes.one name other this) in
          let its : number y ≡ n = h.0.0 (ap (λ m. bytes_eq m name) same ∙ exact-bytes.own name) in
          absurd (false≢true (sym at ∙ eq-eqb (number y) n its))
      by false at false this true own rest = rw (at, this, own) refl
      by false at true this false own rest = rw (at, own) rest
      by false at false this false own rest = rw (at, own) rest
