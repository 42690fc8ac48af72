-- Values by number, as a map keeps them: what its look-ups and changes do to the list of values.
use Rattle.std.proofs.Common.{◌≡◌, ◌≢◌, ◌<◌, ℕ, Bool, true, false, not, cond, nat_cmp, nat_eq, List, [], ◌∷◌, ◌++◌, Some, map, find, filter, refl, sym, ap, ◌∙◌, subst, arith, if◌then◌else◌}
use Rattle.std.specs.Map.{values_of, lookup, set_value, remove_entry}
use Rattle.std.specs.BTreeMap.{insert_entry, is_at}
use Rattle.std.specs.Ordering.{match_ordering}
use Rattle.std.specs.List.{AllByRecursion}
use Rattle.std.proofs.lemmas.Bool.{ne_eqb, eqb-true}
use Rattle.ps_model.specs.Sound.{Ordered}
use Rattle.ps_tables.specs.Numbers.{IsNumbered}

at-number : (n k : ℕ) → is_at (nat_cmp n) k ≡ nat_eq k n
at-number n k = grind arith

module _ {A : Type 0} (number : A → ℕ) where
  head : (e : ℕ × A) (es : List (ℕ × A)) → IsNumbered number (e ∷ es) → e.0 ≡ number e.1
  head e es h = cc

  tail : (e : ℕ × A) (es : List (ℕ × A)) → IsNumbered number (e ∷ es) → IsNumbered number es
  tail e es h = cc

  at-own : (n : ℕ) (e : ℕ × A) (es : List (ℕ × A)) → IsNumbered number (e ∷ es) → is_at (nat_cmp n) e.0 ≡ nat_eq (number e.1) n
  at-own n e es h = at-number n e.0 ∙ ap (λ k. nat_eq k n) (head e es h)

  -- what is found at a number
  pub numbered-found : (n : ℕ) (es : List (ℕ × A)) → IsNumbered number es → lookup (is_at (nat_cmp n)) es ≡ find (λ x. nat_eq (number x) n) (values_of es)
  numbered-found n [] h = refl
  numbered-found n (e ∷ es) h = λ i. cond (at-own n e es h i) (Some e.1) (numbered-found n es (tail e es h) i)

  -- values with greater numbers stay
  put-above : (n : ℕ) (w : A) (ys : List A) → AllByRecursion (λ y. n < number y) ys → map (λ y. if nat_eq (number y) n then w else y) ys ≡ ys
  put-above n w [] a = refl
  put-above n w (y ∷ ys) a =
      let ne : number y ≢ n = omega (arith, a.0) in
      λ i. (if ne_eqb (number y) n ne i then w else y) ∷ put-above n w ys a.1 i

  drop-above : (n : ℕ) (ys : List A) → AllByRecursion (λ y. n < number y) ys → filter (λ y. not (nat_eq (number y) n)) ys ≡ ys
  drop-above n [] a = refl
  drop-above n (y ∷ ys) a =
      let ne : number y ≢ n = omega (arith, a.0) in
      rw (ne_eqb (number y) n ne) (ap (λ zs. y ∷ zs) (drop-above n ys a.1))

  -- another value at a number
  pub numbered-put : (n : ℕ) (w : A) (es : List (ℕ × A)) → IsNumbered number es → Ordered (λ x y. number x < number y) (values_of es)
      → values_of (set_value (is_at (nat_cmp n)) es w) ≡ map (λ y. if nat_eq (number y) n then w else y) (values_of es)
  numbered-put n w [] h o = refl
  numbered-put n w (e ∷ es) h o = by (nat_eq (number e.1) n) refl (numbered-put n w es (tail e es h) o.1)
    where
      by : (b : Bool) → nat_eq (number e.1) n ≡ b → values_of (set_value (is_at (nat_cmp n)) es w) ≡ map (λ y. if nat_eq (number y) n then w else y) (values_of es) → values_of (set_value (is_at (nat_cmp n)) (e ∷ es) w) ≡ map (λ y. if nat_eq (number y) n then w else y) (values_of (e ∷ es))
      by true is rest =
          rw (at-own n e es h, is)
          (ap (λ ys. w ∷ ys) (sym (put-above n w (values_of es) (subst (λ k. AllByRecursion (λ y. k < number y) (values_of es)) (eqb-true (number e.1) n is) o.0))))
      by false is rest = rw (at-own n e es h, is) (ap (λ ys. e.1 ∷ ys) rest)

  pub numbered-put-keys : (n : ℕ) (w : A) (es : List (ℕ × A)) → IsNumbered number es → number w ≡ n → IsNumbered number (set_value (is_at (nat_cmp n)) es w)
  numbered-put-keys n w [] h is = refl
  numbered-put-keys n w (e ∷ es) h is = by (nat_eq (number e.1) n) refl (numbered-put-keys n w es (tail e es h) is)
    where
      by : (b : Bool) → nat_eq (number e.1) n ≡ b → IsNumbered number (set_value (is_at (nat_cmp n)) es w) → IsNumbered number (set_value (is_at (nat_cmp n)) (e ∷ es) w)
      by true own rest = rw (at-own n e es h, own) (λ i. (head e es h ∙ eqb-true (number e.1) n own ∙ sym is) i ∷ tail e es h i)
      by false own rest = rw (at-own n e es h, own) (λ i. head e es h i ∷ rest i)

  -- without the value at a number
  pub numbered-removed : (n : ℕ) (es : List (ℕ × A)) → IsNumbered number es → Ordered (λ x y. number x < number y) (values_of es)
      → values_of (remove_entry (is_at (nat_cmp n)) es) ≡ filter (λ y. not (nat_eq (number y) n)) (values_of es)
  numbered-removed n [] h o = refl
  numbered-removed n (e ∷ es) h o = by (nat_eq (number e.1) n) refl (numbered-removed n es (tail e es h) o.1)
    where
      by : (b : Bool) → nat_eq (number e.1) n ≡ b → values_of (remove_entry (is_at (nat_cmp n)) es) ≡ filter (λ y. not (nat_eq (number y) n)) (values_of es) → values_of (remove_entry (is_at (nat_cmp n)) (e ∷ es)) ≡ filter (λ y. not (nat_eq (number y) n)) (values_of (e ∷ es))
      by true is rest =
          rw (at-own n e es h, is)
          (sym (drop-above n (values_of es) (subst (λ k. AllByRecursion (λ y. k < number y) (values_of es)) (eqb-true (number e.1) n is) o.0)))
      by false is rest = rw (at-own n e es h, is) (ap (λ ys. e.1 ∷ ys) rest)

  pub numbered-remove-keys : (n : ℕ) (es : List (ℕ × A)) → IsNumbered number es → IsNumbered number (remove_entry (is_at (nat_cmp n)) es)
  numbered-remove-keys n [] h = refl
  numbered-remove-keys n (e ∷ es) h = by (is_at (nat_cmp n) e.0) (numbered-remove-keys n es (tail e es h))
    where
      by : (b : Bool) → IsNumbered number (remove_entry (is_at (nat_cmp n)) es) → IsNumbered number (cond b es (e ∷ remove_entry (is_at (nat_cmp n)) es))
      by true rest = tail e es h
      by false rest = λ i. head e es h i ∷ rest i

  -- a value with a number above all stands behind them
  pub numbered-pushed : (n : ℕ) (v : A) (es : List (ℕ × A)) → IsNumbered number es → AllByRecursion (λ x. number x < n) (values_of es) → insert_entry nat_cmp es n v ≡ es ++ (n, v) ∷ []
  numbered-pushed n v [] h below = refl
  numbered-pushed n v (e ∷ es) h below =
      let up : e.0 < n = let own = head e es h in omega (arith, own, below.0) in
      ap (λ o. match_ordering o ((n, v) ∷ e ∷ es) ((e.0, v) ∷ es) (e ∷ insert_entry nat_cmp es n v)) (greater n e.0 up)
      ∙ ap (λ fs. e ∷ fs) (numbered-pushed n v es (tail e es h) below.1)
    where
      greater : (a b : ℕ) → b < a → nat_cmp a b ≡ nat_cmp 1 0
      greater a b up = grind arith

  pub numbered-push-keys : (n : ℕ) (v : A) (es : List (ℕ × A)) → IsNumbered number es → number v ≡ n → IsNumbered number (es ++ (n, v) ∷ [])
  numbered-push-keys n v [] h is = λ i. sym is i ∷ []
  numbered-push-keys n v (e ∷ es) h is = λ i. head e es h i ∷ numbered-push-keys n v es (tail e es h) is i

  pub values-push : (n : ℕ) (v : A) (es : List (ℕ × A)) → values_of (es ++ (n, v) ∷ []) ≡ values_of es ++ v ∷ []
  values-push n v [] = refl
  values-push n v (e ∷ es) = ap (λ ys. e.1 ∷ ys) (values-push n v es)
