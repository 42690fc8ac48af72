-- Values by number, of which one is changed, found or taken out.
use Rattle.std.proofs.Common.{◌≡◌, ◌≢◌, ◌<◌, ℕ, Bool, true, false, cond, nat_cmp, nat_eq, List, [], ◌∷◌, Some, None, Result, Ok, Err, OnOk, map, find, refl, sym, ap, ◌∙◌, arith, if◌then◌else◌}
use Rattle.std.specs.Map.{values_of, lookup, set_value}
use Rattle.std.specs.BTreeMap.{is_at}
use Rattle.std.specs.List.{AllByRecursion}
use Rattle.std.proofs.lemmas.Bool.{eq-eqb, ne_eqb, eqb-true, false≢true}
use Rattle.ps_base.proofs.Lists.{each-found, each-then, found-passes, map-same}
use Rattle.ps_model.specs.Sound.{Ordered}
use Rattle.ps_tables.specs.Numbers.{changed_at, IsNumbered}
use Rattle.ps_tables.proofs.lists.Options.{one-some}
use Rattle.ps_tables.proofs.numbers.Numbered.{numbered-found, numbered-put}

module _ {A : Type 0} (number : A → ℕ) where
  -- of values with greater numbers none is changed
  changed-above : (n : ℕ) (f : A → A) (ys : List A) → AllByRecursion (λ y. n < number y) ys → changed_at number n f ys ≡ ys
  changed-above n f [] a = refl
  changed-above n f (y ∷ ys) a =
      let ne : number y ≢ n = omega (arith, a.0) in
      λ i. (if ne_eqb (number y) n ne i then f y else y) ∷ changed-above n f ys a.1 i

  -- whatever has the number of the one that was found is that one
  pub same-number : (n : ℕ) (x : A) (ys : List A) → Ordered (λ a b. number a < number b) ys → find (λ y. nat_eq (number y) n) ys ≡ Some x → AllByRecursion (λ y. nat_eq (number y) n ≡ true → y ≡ x) ys
  same-number n x [] o is = tt
  same-number n x (y ∷ ys) o is = by (nat_eq (number y) n) refl (same-number n x ys o.1)
    where
      by : (b : Bool) → nat_eq (number y) n ≡ b → (find (λ z. nat_eq (number z) n) ys ≡ Some x → AllByRecursion (λ z. nat_eq (number z) n ≡ true → z ≡ x) ys) → AllByRecursion (λ z. nat_eq (number z) n ≡ true → z ≡ x) (y ∷ ys)
      by true own rest =
          let here : y ≡ x = one-some (sym (ap (λ (b : Bool). cond b (Some y) (find (λ z. nat_eq (number z) n) ys)) own) ∙ is) in
          let at : number y ≡ n = eqb-true (number y) n own in
          (λ e. here, each-then (λ z. number y < number z) (λ z. nat_eq (number z) n ≡ true → z ≡ x) ys (λ z above e. absurd (omega (arith, above, at, eqb-true (number z) n e))) o.0)
      by false own rest =
          ((λ e. absurd (false≢true (sym own ∙ e))), rest (sym (ap (λ (b : Bool). cond b (Some y) (find (λ z. nat_eq (number z) n) ys)) own) ∙ is))

  -- a value that is put in the place of the one that was found changes that one
  pub put-changes : (n : ℕ) (f : A → A) (x : A) (ys : List A) → Ordered (λ a b. number a < number b) ys → find (λ y. nat_eq (number y) n) ys ≡ Some x
      → map (λ y. if nat_eq (number y) n then f x else y) ys ≡ changed_at number n f ys
  put-changes n f x ys o is =
      map-same (λ y. if nat_eq (number y) n then f x else y) (λ y. if nat_eq (number y) n then f y else y) ys
      (each-then (λ y. nat_eq (number y) n ≡ true → y ≡ x) (λ y. (if nat_eq (number y) n then f x else y) ≡ (if nat_eq (number y) n then f y else y)) ys (λ y own. one y (nat_eq (number y) n) own) (same-number n x ys o is))
    where
      one : (y : A) (b : Bool) → (b ≡ true → y ≡ x) → (if b then f x else y) ≡ (if b then f y else y)
      one y true own = ap f (sym (own refl))
      one y false own = refl

  -- where nothing is found, nothing is changed
  pub none-changed : (n : ℕ) (f : A → A) (ys : List A) → find (λ y. nat_eq (number y) n) ys ≡ None → changed_at number n f ys ≡ ys
  none-changed n f [] is = refl
  none-changed n f (y ∷ ys) is = by (nat_eq (number y) n) refl (none-changed n f ys)
    where
      by : (b : Bool) → nat_eq (number y) n ≡ b → (find (λ z. nat_eq (number z) n) ys ≡ None → changed_at number n f ys ≡ ys) → changed_at number n f (y ∷ ys) ≡ y ∷ ys
      by true own rest = absurd (cc (sym (ap (λ (b : Bool). cond b (Some y) (find (λ z. nat_eq (number z) n) ys)) own) ∙ is))
      by false own rest =
          rw (own) (ap (λ zs. y ∷ zs) (rest (sym (ap (λ (b : Bool). cond b (Some y) (find (λ z. nat_eq (number z) n) ys)) own) ∙ is)))

  -- what a map keeps by number, with another value for the one that is found
  pub set-changes : (n : ℕ) (f : A → A) (x : A) (es : List (ℕ × A)) → IsNumbered number es → Ordered (λ a b. number a < number b) (values_of es) → lookup (is_at (nat_cmp n)) es ≡ Some x
      → values_of (set_value (is_at (nat_cmp n)) es (f x)) ≡ changed_at number n f (values_of es)
  set-changes n f x es h o is =
      numbered-put number n (f x) es h o ∙ put-changes n f x (values_of es) o (sym (numbered-found number n es h) ∙ is)

  pub found-number : (n : ℕ) (x : A) (es : List (ℕ × A)) → IsNumbered number es → lookup (is_at (nat_cmp n)) es ≡ Some x → number x ≡ n
  found-number n x es h is = eqb-true (number x) n (found-passes (λ y. nat_eq (number y) n) (values_of es) x (sym (numbered-found number n es h) ∙ is))

  -- a change of the values that leaves the numbers
  pub keeps-numbers : (n : ℕ) (f : A → A) → ((x : A) → number (f x) ≡ number x) → (x : A) → number (if nat_eq (number x) n then f x else x) ≡ number x
  keeps-numbers n f same x = by (nat_eq (number x) n)
    where
      by : (b : Bool) → number (if b then f x else x) ≡ number x
      by true = same x
      by false = refl

  pub unchanged : (n : ℕ) (ys : List A) → changed_at number n (λ x. x) ys ≡ ys
  unchanged n [] = refl
  unchanged n (y ∷ ys) = λ i. by (nat_eq (number y) n) i ∷ unchanged n ys i
    where
      by : (b : Bool) → (if b then y else y) ≡ y
      by true = refl
      by false = refl

-- one that some test finds is found by its number
pub found-by-number : {A : Type 0} (number : A → ℕ) (test : A → Bool) (xs : List A) (x : A) → Ordered (λ a b. number a < number b) xs → find test xs ≡ Some x → find (λ y. nat_eq (number y) (number x)) xs ≡ Some x
found-by-number number test [] x up is = absurd (cc (is))
found-by-number number test (y ∷ ys) x up is = by (test y) is (found-by-number number test ys x up.1)
  where
    by : (b : Bool) → cond b (Some y) (find test ys) ≡ Some x → (find test ys ≡ Some x → find (λ y. nat_eq (number y) (number x)) ys ≡ Some x) → cond (nat_eq (number y) (number x)) (Some y) (find (λ y. nat_eq (number y) (number x)) ys) ≡ Some x
    by true is ih =
        let same : y ≡ x = cc (is) in
        rw (eq-eqb (number y) (number x) (ap number same)) is
    by false is ih =
        let above : number y < number x = each-found (λ z. number y < number z) test ys x is up.0 in
        let other : number y ≢ number x = omega (arith, above) in
        rw (ne_eqb (number y) (number x) other) (ih is)

-- what follows from success
pub then-ok : {T E : Type 0} (P Q : Type 0) (r : Result T E) → (P → Q) → OnOk r P → OnOk r Q
then-ok P Q (Ok x) f h = f h
then-ok P Q (Err e) f h = tt
