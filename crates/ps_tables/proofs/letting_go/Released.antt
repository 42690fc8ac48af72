-- Messages that one subscription less has.
use Rattle.std.proofs.Common.{◌≡◌, ◌<◌, ◌+◌, ◌-◌, ℕ, zero, suc, Bool, true, false, not, ◌||◌, nat_cmp, nat_eq, nat_lt, List, [], ◌∷◌, Option, Some, None, map, find, filter, filter_map, length, take, get_or, refl, sym, ap, ◌∙◌, subst, arith, if◌then◌else◌}
use Rattle.std.specs.Map.{values_of, lookup, remove_entry, set_value}
use Rattle.std.specs.BTreeMap.{is_at}
use Rattle.std.specs.List.{AllByRecursion, cons_option}
use Rattle.std.specs.Option.{option_map_or, option_and_then}
use Rattle.std.proofs.lemmas.Bool.{false≢true}
use Rattle.ps_base.proofs.Lists.{each-then, none-found}
use Rattle.ps_model.specs.declared.mark.Mark.{Mark}
use Rattle.ps_model.specs.Sound.{Ordered}
use Rattle.ps_tables.specs.declared.tables.KeptMessage.{KeptMessage}
use Rattle.ps_tables.specs.Numbers.{changed_at, IsNumbered}
use Rattle.ps_tables.specs.Releasing.{message_number, once, released, times, with_less}
use Rattle.ps_tables.proofs.numbers.Changes.{same-number, set-changes}
use Rattle.ps_tables.proofs.lists.Tallies.{tally_more, tally_same}
use Rattle.ps_tables.proofs.numbers.Numbered.{numbered-found, numbered-removed}

-- ---- lists with what a function gives of each member

filter_map-map : {A B : Type 0} (g : A → Option B) (f : A → B) (xs : List A) → AllByRecursion (λ x. g x ≡ Some (f x)) xs → map f xs ≡ filter_map g xs
filter_map-map g f [] h = refl
filter_map-map g f (x ∷ xs) h = rw (h.0) (ap (λ ys. f x ∷ ys) (filter_map-map g f xs h.1))

filter_map-filter : {A : Type 0} (g : A → Option A) (test : A → Bool) (xs : List A) → AllByRecursion (λ x. g x ≡ (if test x then Some x else None)) xs → filter test xs ≡ filter_map g xs
filter_map-filter {A} g test [] h = refl
filter_map-filter {A} g test (x ∷ xs) h = by (test x) refl (filter_map-filter g test xs h.1)
  where
    by : (b : Bool) → test x ≡ b → filter test xs ≡ filter_map g xs → filter test (x ∷ xs) ≡ filter_map g (x ∷ xs)
    by true is rest = rw (h.0, is) (ap (λ ys. x ∷ ys) rest)
    by false is rest = rw (h.0, is) rest

filter_map-twice : {A B C : Type 0} (f : A → Option B) (g : B → Option C) (h : A → Option C) (xs : List A) → ((x : A) → option_and_then g (f x) ≡ h x) → filter_map g (filter_map f xs) ≡ filter_map h xs
filter_map-twice f g h [] both = refl
filter_map-twice {A} {B} {C} f g h (x ∷ xs) both = by (f x) refl (filter_map-twice f g h xs both)
  where
    by : (o : Option B) → f x ≡ o → filter_map g (filter_map f xs) ≡ filter_map h xs → filter_map g (filter_map f (x ∷ xs)) ≡ filter_map h (x ∷ xs)
    by None is rest = rw (is, sym (both x) ∙ ap (option_and_then g) is) rest
    by (Some y) is rest = rw (is, sym (both x) ∙ ap (option_and_then g) is) (ap (cons_option (g y)) rest)

each-filter_map : {A B : Type 0} (P : A → Type 0) (Q : B → Type 0) (f : A → Option B) (xs : List A) → ((x : A) (y : B) → f x ≡ Some y → P x → Q y) → AllByRecursion P xs → AllByRecursion Q (filter_map f xs)
each-filter_map P Q f [] k h = tt
each-filter_map {A} {B} P Q f (x ∷ xs) k h = by (f x) refl (each-filter_map P Q f xs k h.1)
  where
    by : (o : Option B) → f x ≡ o → AllByRecursion Q (filter_map f xs) → AllByRecursion Q (filter_map f (x ∷ xs))
    by None is rest = rw (is) rest
    by (Some y) is rest = rw (is) (k x y is h.0, rest)

pub ordered-filter_map : {A B : Type 0} (R : A → A → Type 0) (S : B → B → Type 0) (f : A → Option B) (xs : List A) → ((x x' : A) (y y' : B) → f x ≡ Some y → f x' ≡ Some y' → R x x' → S y y') → Ordered R xs → Ordered S (filter_map f xs)
ordered-filter_map R S f [] k o = tt
ordered-filter_map {A} {B} R S f (x ∷ xs) k o = by (f x) refl (ordered-filter_map R S f xs k o.1)
  where
    by : (r : Option B) → f x ≡ r → Ordered S (filter_map f xs) → Ordered S (filter_map f (x ∷ xs))
    by None is rest = rw (is) rest
    by (Some y) is rest = rw (is) (each-filter_map (R x) (S y) f xs (λ x' y' is' r. k x x' y y' is is' r) o.0, rest)

-- ---- one message

abbrev pub one_less : KeptMessage → KeptMessage
one_less x = record x { holders = x.holders - 1 }

swapped : (a b : ℕ) → nat_eq a b ≡ nat_eq b a
swapped a b = grind arith

none-less : (x : KeptMessage) → with_less 0 x ≡ Some x
none-less x =
    let same : x.holders - 0 ≡ x.holders = omega arith in
    λ i. Some (record x { holders = same i })

one-put : (n : ℕ) (ys : List KeptMessage) → AllByRecursion (λ y. nat_eq (message_number y) n ≡ true → nat_lt 1 y.holders ≡ true) ys → changed_at message_number n one_less ys ≡ released (once n) ys
one-put n ys all =
    filter_map-map (λ (y : KeptMessage). with_less (once n y.row.number) y) (λ (y : KeptMessage). if nat_eq y.row.number n then one_less y else y) ys
    (each-then (λ y. nat_eq (message_number y) n ≡ true → nat_lt 1 y.holders ≡ true) (λ (y : KeptMessage). with_less (once n y.row.number) y ≡ Some (if nat_eq y.row.number n then one_less y else y)) ys
    (λ y own. ap (λ (b : Bool). with_less (if b then 1 else 0) y) (swapped n y.row.number) ∙ one y (nat_eq y.row.number n) own) all)
  where
    one : (y : KeptMessage) (b : Bool) → (b ≡ true → nat_lt 1 y.holders ≡ true) → with_less (if b then 1 else 0) y ≡ Some (if b then one_less y else y)
    one y true own = ap (λ (b : Bool). if b then Some (one_less y) else None) (own refl)
    one y false own = none-less y

one-removed : (n : ℕ) (ys : List KeptMessage) → AllByRecursion (λ y. nat_eq (message_number y) n ≡ true → nat_lt 1 y.holders ≡ false) ys → filter (λ (y : KeptMessage). not (nat_eq y.row.number n)) ys ≡ released (once n) ys
one-removed n ys all =
    filter_map-filter (λ (y : KeptMessage). with_less (once n y.row.number) y) (λ (y : KeptMessage). not (nat_eq y.row.number n)) ys
    (each-then (λ y. nat_eq (message_number y) n ≡ true → nat_lt 1 y.holders ≡ false) (λ (y : KeptMessage). with_less (once n y.row.number) y ≡ (if not (nat_eq y.row.number n) then Some y else None)) ys
    (λ y own. ap (λ (b : Bool). with_less (if b then 1 else 0) y) (swapped n y.row.number) ∙ one y (nat_eq y.row.number n) own) all)
  where
    one : (y : KeptMessage) (b : Bool) → (b ≡ true → nat_lt 1 y.holders ≡ false) → with_less (if b then 1 else 0) y ≡ (if not b then Some y else None)
    one y true own = ap (λ (b : Bool). if b then Some (one_less y) else None) (own refl)
    one y false own = none-less y

-- the message has another holder
pub kept-one : (n : ℕ) (x : KeptMessage) (es : List (ℕ × KeptMessage)) → IsNumbered message_number es → Ordered (λ a b. message_number a < message_number b) (values_of es) → lookup (is_at (nat_cmp n)) es ≡ Some x → nat_lt 1 x.holders ≡ true
    → values_of (set_value (is_at (nat_cmp n)) es (one_less x)) ≡ released (once n) (values_of es)
kept-one n x es h o is more =
    set-changes message_number n one_less x es h o is
    ∙ one-put n (values_of es)
    (each-then (λ y. nat_eq (message_number y) n ≡ true → y ≡ x) (λ y. nat_eq (message_number y) n ≡ true → nat_lt 1 y.holders ≡ true) (values_of es) (λ y own e. ap (λ (z : KeptMessage). nat_lt 1 z.holders) (own e) ∙ more)
    (same-number message_number n x (values_of es) o (sym (numbered-found message_number n es h) ∙ is)))

-- it has none, or isn't there
pub gone-one : (n : ℕ) (es : List (ℕ × KeptMessage)) → IsNumbered message_number es → Ordered (λ a b. message_number a < message_number b) (values_of es)
    → option_map_or (λ (x : KeptMessage). nat_lt 1 x.holders) (lookup (is_at (nat_cmp n)) es) false ≡ false → values_of (remove_entry (is_at (nat_cmp n)) es) ≡ released (once n) (values_of es)
gone-one n es h o last = numbered-removed message_number n es h o ∙ one-removed n (values_of es) (by (find (λ (y : KeptMessage). nat_eq y.row.number n) (values_of es)) refl)
  where
    by : (found : Option KeptMessage) → find (λ (y : KeptMessage). nat_eq y.row.number n) (values_of es) ≡ found → AllByRecursion (λ y. nat_eq (message_number y) n ≡ true → nat_lt 1 y.holders ≡ false) (values_of es)
    by None is =
        each-then (λ (y : KeptMessage). nat_eq y.row.number n ≡ false) (λ y. nat_eq (message_number y) n ≡ true → nat_lt 1 y.holders ≡ false) (values_of es) (λ y ne e. absurd (false≢true (sym ne ∙ e)))
        (none-found (λ (y : KeptMessage). nat_eq y.row.number n) (values_of es) is)
    by (Some x) is =
        let less : nat_lt 1 x.holders ≡ false = ap (λ (found : Option KeptMessage). option_map_or (λ (x : KeptMessage). nat_lt 1 x.holders) found false) (sym (numbered-found message_number n es h ∙ is)) ∙ last in
        each-then (λ y. nat_eq (message_number y) n ≡ true → y ≡ x) (λ y. nat_eq (message_number y) n ≡ true → nat_lt 1 y.holders ≡ false) (values_of es) (λ y own e. ap (λ (z : KeptMessage). nat_lt 1 z.holders) (own e) ∙ less)
        (same-number message_number n x (values_of es) o is)

-- ---- one after another

same-row : (less : ℕ) (x y : KeptMessage) → with_less less x ≡ Some y → y.row ≡ x.row
same-row less x y is = by (nat_eq less 0 || nat_lt less x.holders) is
  where
    by : (b : Bool) → (if b then Some (record x { holders = x.holders - less }) else None) ≡ Some y → y.row ≡ x.row
    by true e = cc
    by false e = absurd (cc (e))

pub released-ordered : (less : ℕ → ℕ) (xs : List KeptMessage) → Ordered (λ a b. message_number a < message_number b) xs → Ordered (λ a b. message_number a < message_number b) (released less xs)
released-ordered less xs o =
    ordered-filter_map (λ a b. message_number a < message_number b) (λ a b. message_number a < message_number b) (λ (x : KeptMessage). with_less (less x.row.number) x) xs
    (λ x x' y y' is is' up. subst (λ (r : ℕ × ℕ). r.0 < r.1) (λ i. ((sym (same-row _ x y is) i).number, (sym (same-row _ x' y' is') i).number)) up) o

pub released-none : (xs : List KeptMessage) → released (times []) xs ≡ xs
released-none [] = refl
released-none (x ∷ xs) = λ i. cons_option (none-less x i) (released-none xs i)

twice : (a b : ℕ) (x : KeptMessage) → option_and_then (with_less b) (with_less a x) ≡ with_less (a + b) x
twice a b x = by (nat_eq a 0 || nat_lt a x.holders) refl (nat_eq b 0 || nat_lt b (x.holders - a)) refl (nat_eq (a + b) 0 || nat_lt (a + b) x.holders) refl
  where
    rest : x.holders - a - b ≡ x.holders - (a + b)
    rest = omega arith

    by : (p : Bool) → (nat_eq a 0 || nat_lt a x.holders) ≡ p → (q : Bool) → (nat_eq b 0 || nat_lt b (x.holders - a)) ≡ q → (r : Bool) → (nat_eq (a + b) 0 || nat_lt (a + b) x.holders) ≡ r
        → option_and_then (with_less b) (with_less a x) ≡ with_less (a + b) x
    by true p true q true r = rw (p, q, r) (λ i. Some (record x { holders = rest i }))
    by true p false q false r = rw (p, q, r) refl
    by false p _ q false r = rw (p, r) refl
    by true p true q false r = absurd (grind (arith, p, q, r))
    by true p false q true r = absurd (grind (arith, p, q, r))
    by false p _ q true r = absurd (grind (arith, p, q, r))

times-more : (marks : List (ℕ × Mark)) (i : ℕ) (d : ℕ × Mark) → i < length marks → d ≡ get_or marks i d → (k : ℕ) → times (take (i + 1) marks) k ≡ times (take i marks) k + once d.0 k
times-more marks i d within is k = by (nat_eq d.0 k) refl
  where
    by : (b : Bool) → nat_eq d.0 k ≡ b → times (take (i + 1) marks) k ≡ times (take i marks) k + once d.0 k
    by true own = rw (own) (tally_more (λ (p : ℕ × Mark). nat_eq p.0 k) marks i d within is own)
    by false own = rw (own) (tally_same (λ (p : ℕ × Mark). nat_eq p.0 k) marks i d within is own ∙ omega arith)

released-next : (marks : List (ℕ × Mark)) (i : ℕ) (d : ℕ × Mark) → i < length marks → d ≡ get_or marks i d → (xs : List KeptMessage) → released (once d.0) (released (times (take i marks)) xs) ≡ released (times (take (i + 1) marks)) xs
released-next marks i d within is xs =
    filter_map-twice (λ (x : KeptMessage). with_less (times (take i marks) x.row.number) x) (λ (x : KeptMessage). with_less (once d.0 x.row.number) x) (λ (x : KeptMessage). with_less (times (take (i + 1) marks) x.row.number) x) xs
    (λ x. own x (nat_eq (times (take i marks) x.row.number) 0 || nat_lt (times (take i marks) x.row.number) x.holders) refl ∙ twice (times (take i marks) x.row.number) (once d.0 x.row.number) x ∙ ap (λ (n : ℕ). with_less n x) (sym (times-more marks i d within is x.row.number)))
  where
    own : (x : KeptMessage) (b : Bool) → (nat_eq (times (take i marks) x.row.number) 0 || nat_lt (times (take i marks) x.row.number) x.holders) ≡ b
        → option_and_then (λ (y : KeptMessage). with_less (once d.0 y.row.number) y) (with_less (times (take i marks) x.row.number) x) ≡ option_and_then (with_less (once d.0 x.row.number)) (with_less (times (take i marks) x.row.number) x)
    own x true e = rw (e) refl
    own x false e = rw (e) refl

at-any : {A : Type 0} (xs : List A) (i : ℕ) (d : A) → i < length xs → get_or xs i d ≡ get_or xs i (get_or xs i d)
at-any [] i d within = absurd (omega arith)
at-any (x ∷ xs) zero d within = refl
at-any (x ∷ xs) (suc i) d within = at-any xs i d (omega arith)

pub released-more : (marks : List (ℕ × Mark)) (i : ℕ) (d : ℕ × Mark) → i < length marks → (xs : List KeptMessage) → released (once (get_or marks i d).0) (released (times (take i marks)) xs) ≡ released (times (take (i + 1) marks)) xs
released-more marks i d within xs = released-next marks i (get_or marks i d) within (at-any marks i d within) xs
