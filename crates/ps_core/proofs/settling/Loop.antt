-- Subscriptions that are settled one after the other, by their numbers.
use Rattle.std.proofs.Common.{◌≡◌, ◌≢◌, ◌<◌, ◌≤◌, ◌+◌, ℕ, suc, drop, drop-cons, get_or, Bool, true, false, ◌||◌, not, nat_cmp, nat_eq, Result, Ok, Err, OnOk, List, [], ◌∷◌, Some, None, length, map, find, refl, sym, ap, subst, ◌∙◌, arith, if◌then◌else◌}
use Rattle.std.specs.List.{list_any, AllByRecursion}
use Rattle.std.specs.BTreeMap.{is_at}
use Rattle.std.specs.Map.{lookup, set_value, values_of}
use Rattle.std.proofs.Math.ListN.{drop_of_length-le}
use Rattle.std.proofs.lemmas.Bool.{cond_both, eq-eqb, eqb-true, false≢true, ne_eqb, or_right}
use Rattle.ps_tables.specs.declared.kept_subscription.KeptSubscription.{KeptSubscription}
use Rattle.ps_core.specs.Effects.{settle_subscription}
use Rattle.ps_tables.specs.Numbers.{IsNumbered}
use Rattle.ps_core.specs.Settling.{due_numbers, has_due, settle_numbered}
use Rattle.ps_tables.specs.Subscriptions.{number_of}
use Rattle.ps_model.specs.Sound.{Ordered}
use Rattle.ps_base.proofs.Lists.{each-then, map-rests, map-same, found-passes, none-found}
use Rattle.ps_tables.proofs.lists.Ordered.{ordered-map}
use Rattle.ps_tables.proofs.numbers.Numbered.{numbered-found, numbered-put, numbered-put-keys}
use Rattle.ps_core.proofs.settling.Moving.{settle-again, rest-subscription}

-- where the first doesn't pass, those behind it decide
pub any-behind : {A : Type 0} (test : A → Bool) (x : A) (left rest : List A) → left ≡ x ∷ rest → test x ≡ false → list_any test rest ≡ list_any test left
any-behind test x left rest is fails = sym (ap (list_any test) is ∙ ap (λ (b : Bool). b || list_any test rest) fails)

-- the subscription is settled if its number is among these
abbrev pub settle_listed : ℕ → List ℕ → KeptSubscription → KeptSubscription
settle_listed at numbers x = if list_any (nat_eq x.number) numbers then settle_subscription at x else x

one-listed : (at n : ℕ) (numbers : List ℕ) (x : KeptSubscription) → settle_listed at numbers (settle_numbered at n x) ≡ settle_listed at (n ∷ numbers) x
one-listed at n numbers x = by (nat_eq x.number n) (list_any (nat_eq x.number) numbers) refl
  where
    by : (first later : Bool) → list_any (nat_eq x.number) numbers ≡ later → settle_listed at numbers (if first then settle_subscription at x else x) ≡ (if first || later then settle_subscription at x else x)
    by true true is = rw (is) (settle-again at x)
    by true false is = rw (is) refl
    by false later is = ap (λ (b : Bool). if b then settle_subscription at x else x) is

-- the first number, and those behind it
pub listed-first : (at n : ℕ) (numbers : List ℕ) (xs : List KeptSubscription) → map (settle_listed at numbers) (map (settle_numbered at n) xs) ≡ map (settle_listed at (n ∷ numbers)) xs
listed-first at n numbers [] = refl
listed-first at n numbers (x ∷ xs) = λ i. one-listed at n numbers x i ∷ listed-first at n numbers xs i

-- numbers stay
numbered-same : (at n : ℕ) (x : KeptSubscription) → (settle_numbered at n x).number ≡ x.number
numbered-same at n x = cond_both (nat_eq x.number n) (settle_subscription at x) x (λ (y : KeptSubscription). y.number ≡ x.number) (λ _. refl) (λ _. refl)

pub settled-order : (at n : ℕ) (xs : List KeptSubscription) → Ordered (λ (a b : KeptSubscription). a.number < b.number) xs → Ordered (λ (a b : KeptSubscription). a.number < b.number) (map (settle_numbered at n) xs)
settled-order at n xs up =
    ordered-map (λ (a b : KeptSubscription). a.number < b.number) (λ (a b : KeptSubscription). a.number < b.number) (settle_numbered at n) xs (λ a b below. omega (arith, numbered-same at n a, numbered-same at n b, below)) up

-- nothing is left to settle
pub listed-none : (at : ℕ) (xs : List KeptSubscription) → map (settle_listed at []) xs ≡ xs
listed-none at [] = refl
listed-none at (x ∷ xs) = ap (λ (ys : List KeptSubscription). x ∷ ys) (listed-none at xs)

-- the numbers have the subscription's if a lease of it is over
abbrev IsListed : ℕ → List ℕ → KeptSubscription → Type 0
IsListed at numbers x = has_due at x ≡ true → list_any (nat_eq x.number) numbers ≡ true

each-listed : (at : ℕ) (xs : List KeptSubscription) → AllByRecursion (IsListed at (due_numbers at xs)) xs
each-listed at [] = tt
each-listed at (x ∷ xs) = by (has_due at x) refl (each-listed at xs)
  where
    by : (due : Bool) → has_due at x ≡ due → AllByRecursion (IsListed at (due_numbers at xs)) xs → AllByRecursion (IsListed at (due_numbers at (x ∷ xs))) (x ∷ xs)
    by true is rest =
        let numbers : due_numbers at (x ∷ xs) ≡ x.number ∷ due_numbers at xs = rw (is) refl in
        subst (λ (ns : List ℕ). AllByRecursion (IsListed at ns) (x ∷ xs)) (sym numbers) (
          λ _. ap (λ (b : Bool). b || list_any (nat_eq x.number) (due_numbers at xs)) (eq-eqb x.number x.number refl),
          each-then (IsListed at (due_numbers at xs)) (IsListed at (x.number ∷ due_numbers at xs)) xs (λ y listed due. or_right (nat_eq y.number x.number) (list_any (nat_eq y.number) (due_numbers at xs)) (listed due)) rest,
        )
    by false is rest =
        let numbers : due_numbers at (x ∷ xs) ≡ due_numbers at xs = rw (is) refl in
        subst (λ (ns : List ℕ). AllByRecursion (IsListed at ns) (x ∷ xs)) (sym numbers) (λ due. absurd (false≢true (sym is ∙ due)), rest)

settle-listed : (at : ℕ) (numbers : List ℕ) (x : KeptSubscription) → IsListed at numbers x → settle_listed at numbers x ≡ settle_subscription at x
settle-listed at numbers x listed = by (has_due at x) refl
  where
    by : (due : Bool) → has_due at x ≡ due → settle_listed at numbers x ≡ settle_subscription at x
    by true is = ap (λ (b : Bool). if b then settle_subscription at x else x) (listed is)
    by false is = cond_both (list_any (nat_eq x.number) numbers) (settle_subscription at x) x (λ (y : KeptSubscription). y ≡ settle_subscription at x) (λ _. refl) (λ _. sym (rest-subscription at x is))

-- to settle those on which a lease is over is to settle all
pub listed-due : (at : ℕ) (xs : List KeptSubscription) → map (settle_listed at (due_numbers at xs)) xs ≡ map (settle_subscription at) xs
listed-due at xs =
    map-same (settle_listed at (due_numbers at xs)) (settle_subscription at) xs
    (each-then (IsListed at (due_numbers at xs)) (λ (x : KeptSubscription). settle_listed at (due_numbers at xs) x ≡ settle_subscription at x) xs (settle-listed at (due_numbers at xs)) (each-listed at xs))

-- a lease is over if some number is listed
pub any-listed : (at : ℕ) (xs : List KeptSubscription) → not (nat_eq (length (due_numbers at xs)) 0) ≡ list_any (has_due at) xs
any-listed at [] = refl
any-listed at (x ∷ xs) = by (has_due at x) refl (any-listed at xs)
  where
    by : (due : Bool) → has_due at x ≡ due → not (nat_eq (length (due_numbers at xs)) 0) ≡ list_any (has_due at) xs → not (nat_eq (length (due_numbers at (x ∷ xs))) 0) ≡ list_any (has_due at) (x ∷ xs)
    by true is rest = rw (is) (ap not (ne_eqb (length (x.number ∷ due_numbers at xs)) 0 (λ e. omega arith)))
    by false is rest = rw (is) rest

-- ---- the subscription at a number

-- where the one with a number is known, it is changed alone
pub put-known : (f : KeptSubscription → KeptSubscription) (n : ℕ) (x : KeptSubscription) (xs : List KeptSubscription) → Ordered (λ (a b : KeptSubscription). a.number < b.number) xs → find (λ (y : KeptSubscription). nat_eq y.number n) xs ≡ Some x
    → map (λ (y : KeptSubscription). if nat_eq y.number n then f x else y) xs ≡ map (λ (y : KeptSubscription). if nat_eq y.number n then f y else y) xs
put-known f n x [] up is = refl
put-known f n x (y ∷ ys) up is = by (nat_eq y.number n) refl is (put-known f n x ys up.1)
  where
    one : KeptSubscription → KeptSubscription
    one z = if nat_eq z.number n then f x else z

    another : KeptSubscription → KeptSubscription
    another z = if nat_eq z.number n then f z else z

    above : (zs : List KeptSubscription) → AllByRecursion (λ (z : KeptSubscription). n < z.number) zs → map one zs ≡ map another zs
    above zs h =
        map-same one another zs (each-then (λ (z : KeptSubscription). n < z.number) (λ (z : KeptSubscription). one z ≡ another z) zs (λ z later. let ne : z.number ≢ n = omega (arith, later) in rw (ne_eqb z.number n ne) refl) h)

    by : (here : Bool) → nat_eq y.number n ≡ here → (if here then Some y else find (λ (z : KeptSubscription). nat_eq z.number n) ys) ≡ Some x
        → (find (λ (z : KeptSubscription). nat_eq z.number n) ys ≡ Some x → map one ys ≡ map another ys) → map one (y ∷ ys) ≡ map another (y ∷ ys)
    by true own is rest =
        let same : y ≡ x = cc (is) in
        let later : AllByRecursion (λ (z : KeptSubscription). n < z.number) ys = subst (λ (k : ℕ). AllByRecursion (λ (z : KeptSubscription). k < z.number) ys) (eqb-true y.number n own) up.0 in
        rw (own) (λ i. f (sym same i) ∷ above ys later i)
    by false own is rest = rw (own) (ap (λ (zs : List KeptSubscription). y ∷ zs) (rest is))

-- where none has a number, nothing is changed
pub put-nowhere : (f : KeptSubscription → KeptSubscription) (n : ℕ) (xs : List KeptSubscription) → find (λ (y : KeptSubscription). nat_eq y.number n) xs ≡ None → map (λ (y : KeptSubscription). if nat_eq y.number n then f y else y) xs ≡ xs
put-nowhere f n xs none =
    map-rests (λ (y : KeptSubscription). if nat_eq y.number n then f y else y) xs
    (each-then (λ (y : KeptSubscription). nat_eq y.number n ≡ false) (λ (y : KeptSubscription). (if nat_eq y.number n then f y else y) ≡ y) xs (λ y other. ap (λ (b : Bool). if b then f y else y) other) (none-found (λ (y : KeptSubscription). nat_eq y.number n) xs none))

-- what the subscription at a number comes to when its leases fail that are over
module _ (at n : ℕ) (old : List (ℕ × KeptSubscription)) (numbered : IsNumbered number_of old) (order : Ordered (λ (a b : KeptSubscription). a.number < b.number) (values_of old)) where
  pub settled-keys : {A E : Type 0} (r : Result A E) (new : List (ℕ × KeptSubscription)) (x w : KeptSubscription) → Some x ≡ lookup (is_at (nat_cmp n)) old → new ≡ set_value (is_at (nat_cmp n)) old w → OnOk r (w ≡ settle_subscription at x)
      → OnOk r (IsNumbered number_of new)
  settled-keys (Ok a) new x w found is settled =
      let own : w.number ≡ n = ap number_of settled ∙ eqb-true x.number n (found-passes (λ (y : KeptSubscription). nat_eq y.number n) (values_of old) x (sym (found ∙ numbered-found number_of n old numbered))) in
      subst (IsNumbered number_of) (sym is) (numbered-put-keys number_of n w old numbered own)
  settled-keys (Err e) new x w found is settled = tt

  pub settled-values : {A E : Type 0} (r : Result A E) (new : List (ℕ × KeptSubscription)) (x w : KeptSubscription) → Some x ≡ lookup (is_at (nat_cmp n)) old → new ≡ set_value (is_at (nat_cmp n)) old w → OnOk r (w ≡ settle_subscription at x)
      → OnOk r (values_of new ≡ map (settle_numbered at n) (values_of old))
  settled-values (Ok a) new x w found is settled =
      ap values_of is ∙ numbered-put number_of n w old numbered order ∙ ap (λ (v : KeptSubscription). map (λ (y : KeptSubscription). if nat_eq y.number n then v else y) (values_of old)) settled
      ∙ put-known (settle_subscription at) n x (values_of old) order (sym (found ∙ numbered-found number_of n old numbered))
  settled-values (Err e) new x w found is settled = tt

  pub settled-nowhere : None ≡ lookup (is_at (nat_cmp n)) old → values_of old ≡ map (settle_numbered at n) (values_of old)
  settled-nowhere none = sym (put-nowhere (settle_subscription at) n (values_of old) (sym (none ∙ numbered-found number_of n old numbered)))

-- the number at the place of the loop is settled, and those behind it are left
pub listed-next : (at i : ℕ) (numbers : List ℕ) (old new : List KeptSubscription) → i < length numbers → new ≡ map (settle_numbered at (get_or numbers i 0)) old → map (settle_listed at (drop (i + 1) numbers)) new ≡ map (settle_listed at (drop i numbers)) old
listed-next at i numbers old new within is =
    let next : i + 1 ≡ suc i = omega arith in
    let behind : get_or numbers i 0 ∷ drop (i + 1) numbers ≡ drop i numbers = ap (λ (k : ℕ). get_or numbers i 0 ∷ drop k numbers) next ∙ sym (drop-cons numbers i 0 within) in
    ap (map (settle_listed at (drop (i + 1) numbers))) is ∙ listed-first at (get_or numbers i 0) (drop (i + 1) numbers) old ∙ ap (λ (ns : List ℕ). map (settle_listed at ns) old) behind

pub listed-end : (at i : ℕ) (numbers : List ℕ) (xs : List KeptSubscription) → length numbers ≤ i → map (settle_listed at (drop i numbers)) xs ≡ xs
listed-end at i numbers xs all = ap (λ (ns : List ℕ). map (settle_listed at ns) xs) (drop_of_length-le numbers all) ∙ listed-none at xs
