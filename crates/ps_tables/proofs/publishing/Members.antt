-- The numbers in a topic's index are those of its attached subscriptions, each once.
use Rattle.std.proofs.Common.{◌≡◌, ◌≢◌, ◌<◌, ℕ, Bool, true, false, ◌&&◌, ◌||◌, cond, not, Ordering, Less, nat_cmp, nat_eq, List, [], ◌∷◌, Option, Some, None, option_map, map, find, if◌then◌else◌, refl, sym, ap, subst, ◌∙◌, arith}
use Rattle.std.specs.BTreeMap.{IsOrdered, is_at, values}
use Rattle.std.specs.String.{string_bytes, string_cmp}
use Rattle.std.specs.List.{AllByRecursion}
use Rattle.std.specs.Map.{keys_of, lookup, values_of}
use Rattle.std.specs.Cmp.Lexicographic.{slice_cmp}
use Rattle.std.specs.Str.{bytes_eq}
use Rattle.std.specs.Ordering.{is_eq}
use Rattle.std.specs.List.Sorted.{IsStrictlySortedBy}
use Rattle.std.proofs.lemmas.Map.Keys.{sorted_head, sorted_tail}
use Rattle.std.proofs.lemmas.Slice.Eq.{bytes_eq-Decides}
use Rattle.std.proofs.lemmas.Bool.{and_parts, both_ways, eq-eqb, eqb-true, false_from_ne_true, ne_eqb, or_left, or_right}
use Rattle.std.proofs.lemmas.Map.Text.{is_eq-slice_cmp}
use Rattle.ps_message.specs.declared.message.Message.{Message}
use Rattle.ps_model.specs.Forwarding.{message_rows}
use Rattle.ps_model.specs.Sound.{Ordered}
use Rattle.ps_tables.specs.declared.kept_subscription.KeptSubscription.{KeptSubscription}
use Rattle.ps_tables.specs.Subscriptions.{enter_subscription, is_attached, number_of}
use Rattle.ps_tables.specs.Entering.{IsDistinct, enter_among, enter_wanted, is_among, subscription_with}
use Rattle.ps_tables.specs.declared.tables.KeptTopic.{KeptTopic}
use Rattle.ps_tables.specs.Members.{HasMembers, attached_at, has_name}
use Rattle.ps_base.proofs.Lists.{each-found, each-map, each-then, each-then-both, found-passes, map-same}
use Rattle.ps_tables.proofs.numbers.Changes.{found-by-number}
use Rattle.ps_tables.proofs.publishing.Numbers.{Ascends}

pub same-truth : (a b : Bool) → (a ≡ true → b ≡ true) → (b ≡ true → a ≡ true) → a ≡ b
same-truth true true h k = refl
same-truth true false h k = sym (h refl)
same-truth false true h k = k refl
same-truth false false h k = refl

bytes-self : (a : List ℕ) → bytes_eq a a ≡ true
bytes-self a = (bytes_eq-Decides a a).1 refl

bytes-are : (a b : List ℕ) → bytes_eq a b ≡ true → a ≡ b
bytes-are a b e = (bytes_eq-Decides a b).0 e

bytes-turned : (a b : List ℕ) → bytes_eq a b ≡ bytes_eq b a
bytes-turned a b =
    same-truth (bytes_eq a b) (bytes_eq b a) (λ e. ap (λ (c : List ℕ). bytes_eq c a) (sym ((bytes_eq-Decides a b).0 e)) ∙ bytes-self a) (λ e. ap (λ (c : List ℕ). bytes_eq c b) (sym ((bytes_eq-Decides b a).0 e)) ∙ bytes-self b)

bytes-apart : (a b : List ℕ) → a ≢ b → bytes_eq a b ≡ false
bytes-apart a b apart = false_from_ne_true (bytes_eq a b) (λ e. apart (bytes-are a b e))

-- ---- subscriptions in a list

-- each is found by its own number
pub own-number : (xs : List KeptSubscription) → Ascends xs → AllByRecursion (λ (x : KeptSubscription). subscription_with x.number xs ≡ Some x) xs
own-number [] h = tt
own-number (x ∷ xs) h = (
  rw (eq-eqb x.number x.number refl) refl,
  each-then-both (λ (y : KeptSubscription). x.number < y.number) (λ (y : KeptSubscription). subscription_with y.number xs ≡ Some y) (λ (y : KeptSubscription). subscription_with y.number (x ∷ xs) ≡ Some y) xs
      (λ y above own. let other : nat_eq x.number y.number ≡ false = ne_eqb x.number y.number (λ e. omega (arith, e, above)) in rw (other) own) h.0 (own-number xs h.1),
)

-- the one with a name, among those of a topic that are attached
abbrev pub goes_by : ℕ → List ℕ → KeptSubscription → Bool
goes_by topic name x = has_name name x && is_attached topic x

-- each that is attached is found by its own name
pub own-name : (topic : ℕ) (xs : List KeptSubscription) → Ordered (λ (a b : KeptSubscription). a.name ≢ b.name) xs → AllByRecursion (λ (x : KeptSubscription). is_attached topic x ≡ true → attached_at topic x.name xs ≡ Some x.number) xs
own-name topic [] h = tt
own-name topic (x ∷ xs) h = (
  λ e. let here : goes_by topic x.name x ≡ true = rw (e, bytes-self x.name) refl in rw (here) refl,
  each-then-both (λ (y : KeptSubscription). x.name ≢ y.name) (λ (y : KeptSubscription). is_attached topic y ≡ true → attached_at topic y.name xs ≡ Some y.number) (λ (y : KeptSubscription). is_attached topic y ≡ true → attached_at topic y.name (x ∷ xs) ≡ Some y.number) xs
      (λ y apart own e. let other : goes_by topic y.name x ≡ false = rw (bytes-apart x.name y.name apart) refl in rw (other) (own e)) h.0 (own-name topic xs h.1),
)

-- what a name stands for
pub record IsNamed (topic : ℕ) (name : List ℕ) (n : ℕ) (xs : List KeptSubscription) (x : KeptSubscription) : Type 0 where
  pub found : subscription_with n xs ≡ Some x
  pub named : bytes_eq x.name name ≡ true
  pub attached : is_attached topic x ≡ true

pub named-at : (topic : ℕ) (name : List ℕ) (n : ℕ) (xs : List KeptSubscription) → Ascends xs → attached_at topic name xs ≡ Some n → (x : KeptSubscription) × IsNamed topic name n xs x
named-at topic name n xs up is = by (find (goes_by topic name) xs) refl is
  where
    by : (o : Option KeptSubscription) → find (goes_by topic name) xs ≡ o → option_map number_of o ≡ Some n → (x : KeptSubscription) × IsNamed topic name n xs x
    by None e k = absurd (cc (k))
    by (Some x) e k =
        let own : x.number ≡ n = cc (k) in
        let passes = and_parts (has_name name x) (is_attached topic x) (found-passes (goes_by topic name) xs x e) in
        (x, record { found = subst (λ (j : ℕ). subscription_with j xs ≡ Some x) own (found-by-number number_of (goes_by topic name) xs x up e); named = passes.0; attached = passes.1 })

-- ---- names with numbers

abbrev pub Named : Type 0
Named = List (List ℕ × ℕ)

abbrev pub Apart : Named → Type 0
Apart ps = Ordered (λ (p q : List ℕ × ℕ). bytes_eq p.0 q.0 ≡ false) ps

abbrev pub number_at : List ℕ → Named → Option ℕ
number_at name ps = lookup (bytes_eq name) ps

abbrev pub numbers_of : Named → List ℕ
numbers_of ps = map (λ (p : List ℕ × ℕ). p.1) ps

own-pair : (ps : Named) → Apart ps → AllByRecursion (λ (p : List ℕ × ℕ). number_at p.0 ps ≡ Some p.1) ps
own-pair [] h = tt
own-pair (p ∷ ps) h = (
  rw (bytes-self p.0) refl,
  each-then-both (λ (q : List ℕ × ℕ). bytes_eq p.0 q.0 ≡ false) (λ (q : List ℕ × ℕ). number_at q.0 ps ≡ Some q.1) (λ (q : List ℕ × ℕ). number_at q.0 (p ∷ ps) ≡ Some q.1) ps
      (λ q apart own. let other : bytes_eq q.0 p.0 ≡ false = bytes-turned q.0 p.0 ∙ apart in rw (other) own) h.0 (own-pair ps h.1),
)

among-found : (name : List ℕ) (ps : Named) (n : ℕ) → number_at name ps ≡ Some n → is_among (numbers_of ps) n ≡ true
among-found name [] n e = absurd (cc (e))
among-found name (p ∷ ps) n e = by (bytes_eq name p.0) e (among-found name ps n)
  where
    by : (b : Bool) → cond b (Some p.1) (number_at name ps) ≡ Some n → (number_at name ps ≡ Some n → is_among (numbers_of ps) n ≡ true) → (nat_eq n p.1 || is_among (numbers_of ps) n) ≡ true
    by true e' rest = let same : n ≡ p.1 = cc (e') in or_left (nat_eq n p.1) (is_among (numbers_of ps) n) (eq-eqb n p.1 same)
    by false e' rest = or_right (nat_eq n p.1) (is_among (numbers_of ps) n) (rest e')

-- what holds of each pair's number holds of one that is among them
from-among : (P : Type 0) (n : ℕ) (ps : Named) → is_among (numbers_of ps) n ≡ true → AllByRecursion (λ (p : List ℕ × ℕ). p.1 ≡ n → P) ps → P
from-among P n [] e h = absurd (cc (e))
from-among P n (p ∷ ps) e h = by (nat_eq n p.1) refl e (λ k. from-among P n ps k h.1)
  where
    by : (b : Bool) → nat_eq n p.1 ≡ b → (b || is_among (numbers_of ps) n) ≡ true → (is_among (numbers_of ps) n ≡ true → P) → P
    by true is e' rest = h.0 (sym (eqb-true n p.1 is))
    by false is e' rest = rest e'

module _ (topic : ℕ) (xs : List KeptSubscription) (up : Ascends xs) (names : Ordered (λ (a b : KeptSubscription). a.name ≢ b.name) xs) where
  abbrev IsIndex : Named → Type 0
  IsIndex ps = AllByRecursion (λ (p : List ℕ × ℕ). attached_at topic p.0 xs ≡ Some p.1) ps

  two-differ : (p q : List ℕ × ℕ) → bytes_eq p.0 q.0 ≡ false → attached_at topic p.0 xs ≡ Some p.1 → attached_at topic q.0 xs ≡ Some q.1 → nat_eq p.1 q.1 ≡ false
  two-differ p q apart one other =
      false_from_ne_true (nat_eq p.1 q.1)
      (λ e. let x = named-at topic p.0 p.1 xs up one in
      let y = named-at topic q.0 q.1 xs up other in
      let both : Some x.0 ≡ Some y.0 = sym x.1.found ∙ ap (λ (n : ℕ). subscription_with n xs) (eqb-true p.1 q.1 e) ∙ y.1.found in
      let same : x.0 ≡ y.0 = cc (both) in
      let name : p.0 ≡ q.0 = sym (bytes-are x.0.name p.0 x.1.named) ∙ ap (λ (z : KeptSubscription). z.name) same ∙ bytes-are y.0.name q.0 y.1.named in
      both_ways (bytes_eq p.0 q.0) apart (ap (bytes_eq p.0) (sym name) ∙ bytes-self p.0))

  pub numbers-differ : (ps : Named) → Apart ps → AllByRecursion (λ (p : List ℕ × ℕ). attached_at topic p.0 xs ≡ Some p.1) ps → IsDistinct (numbers_of ps)
  numbers-differ [] h k = tt
  numbers-differ (p ∷ ps) h k = (
    each-map (λ (q : List ℕ × ℕ). nat_eq p.1 q.1 ≡ false) (λ (n : ℕ). nat_eq p.1 n ≡ false) (λ (q : List ℕ × ℕ). q.1) ps (λ q e. e)
        (each-then-both (λ (q : List ℕ × ℕ). bytes_eq p.0 q.0 ≡ false) (λ (q : List ℕ × ℕ). attached_at topic q.0 xs ≡ Some q.1) (λ (q : List ℕ × ℕ). nat_eq p.1 q.1 ≡ false) ps (λ q apart other. two-differ p q apart k.0 other) h.0 k.1),
    numbers-differ ps h.1 k.1,
  )

  pub among-attached : (ps : Named) → Apart ps → ((name : List ℕ) → number_at name ps ≡ attached_at topic name xs) → AllByRecursion (λ (x : KeptSubscription). is_among (numbers_of ps) x.number ≡ is_attached topic x) xs
  among-attached ps h is =
      let index : IsIndex ps = each-then (λ (p : List ℕ × ℕ). number_at p.0 ps ≡ Some p.1) (λ (p : List ℕ × ℕ). attached_at topic p.0 xs ≡ Some p.1) ps (λ p e. sym (is p.0) ∙ e) (own-pair ps h) in
      each-then-both (λ (x : KeptSubscription). subscription_with x.number xs ≡ Some x) (λ (x : KeptSubscription). is_attached topic x ≡ true → attached_at topic x.name xs ≡ Some x.number) (λ (x : KeptSubscription). is_among (numbers_of ps) x.number ≡ is_attached topic x) xs
      (λ x by_number by_name. same-truth (is_among (numbers_of ps) x.number) (is_attached topic x)
      (λ among. from-among (is_attached topic x ≡ true) x.number ps among
      (each-then (λ (p : List ℕ × ℕ). attached_at topic p.0 xs ≡ Some p.1) (λ (p : List ℕ × ℕ). p.1 ≡ x.number → is_attached topic x ≡ true) ps
      (λ p e same. let y = named-at topic p.0 p.1 xs up e in
      let both : Some y.0 ≡ Some x = sym y.1.found ∙ ap (λ (n : ℕ). subscription_with n xs) same ∙ by_number in
      let own : y.0 ≡ x = cc (both) in
      subst (λ (z : KeptSubscription). is_attached topic z ≡ true) own y.1.attached) index))
      (λ attached. among-found x.name ps x.number (is x.name ∙ by_name attached)))
      (own-number xs up) (own-name topic xs names)

  pub index-right : (ps : Named) → Apart ps → ((name : List ℕ) → number_at name ps ≡ attached_at topic name xs) → IsDistinct (numbers_of ps)
  index-right ps h is = numbers-differ ps h (each-then (λ (p : List ℕ × ℕ). number_at p.0 ps ≡ Some p.1) (λ (p : List ℕ × ℕ). attached_at topic p.0 xs ≡ Some p.1) ps (λ p e. sym (is p.0) ∙ e) (own-pair ps h))

-- the topic's subscriptions are those with its numbers
pub entered-members : (topic first at : ℕ) (messages : List Message) (numbers : List ℕ) (xs : List KeptSubscription) → AllByRecursion (λ (x : KeptSubscription). is_among numbers x.number ≡ is_attached topic x) xs
    → map (enter_among first at messages numbers) xs ≡ map (enter_subscription topic (message_rows topic first at messages)) xs
entered-members topic first at messages numbers xs h =
    map-same (enter_among first at messages numbers) (enter_subscription topic (message_rows topic first at messages)) xs
    (each-then (λ (x : KeptSubscription). is_among numbers x.number ≡ is_attached topic x) (λ (x : KeptSubscription). enter_among first at messages numbers x ≡ enter_subscription topic (message_rows topic first at messages) x) xs
    (λ x e. ap (λ (b : Bool). if b then enter_wanted (message_rows x.topic first at messages) x else x) e ∙ by x (is_attached topic x) refl) h)
  where
    by : (x : KeptSubscription) (b : Bool) → is_attached topic x ≡ b → (if b then enter_wanted (message_rows x.topic first at messages) x else x) ≡ (if b then enter_wanted (message_rows topic first at messages) x else x)
    by x true e = ap (λ (n : ℕ). enter_wanted (message_rows n first at messages) x) (eqb-true x.topic topic ((and_parts (nat_eq x.topic topic) (not x.detached) e).0))
    by x false e = refl

-- ---- the index as a map keeps it

module _ {K : Type 0} (bytes : K → List ℕ) where
  abbrev pub named_of : List (K × ℕ) → Named
  named_of es = map (λ (e : K × ℕ). (bytes e.0, e.1)) es

  pub text-found : (name : List ℕ) (es : List (K × ℕ)) → lookup (is_at (λ k. slice_cmp nat_cmp name (bytes k))) es ≡ number_at name (named_of es)
  text-found name [] = refl
  text-found name (e ∷ es) = λ i. cond (is_eq-slice_cmp name (bytes e.0) i) (Some e.1) (text-found name es i)

  pub values-named : (es : List (K × ℕ)) → values_of es ≡ numbers_of (named_of es)
  values-named [] = refl
  values-named (e ∷ es) = ap (λ (ns : List ℕ). e.1 ∷ ns) (values-named es)

  abbrev compared : K → K → Ordering
  compared a b = slice_cmp nat_cmp (bytes a) (bytes b)

  apart-first : (k : K) (es : List (K × ℕ)) → AllByRecursion (λ (y : K). compared k y ≡ Less) (keys_of es) → AllByRecursion (λ (q : List ℕ × ℕ). bytes_eq (bytes k) q.0 ≡ false) (named_of es)
  apart-first k [] h = tt
  apart-first k (e ∷ es) h = (sym (is_eq-slice_cmp (bytes k) (bytes e.0)) ∙ ap is_eq h.0, apart-first k es h.1)

  pub apart-ordered : (es : List (K × ℕ)) → IsStrictlySortedBy (λ (a b : K). slice_cmp nat_cmp (bytes a) (bytes b)) (keys_of es) → Apart (named_of es)
  apart-ordered [] h = tt
  apart-ordered (e ∷ es) h = (apart-first e.0 es (sorted_head compared e.0 (keys_of es) h), apart-ordered es (sorted_tail compared e.0 (keys_of es) h))

-- ---- a topic's numbers

pub record AreMembers (topic : ℕ) (xs : List KeptSubscription) (numbers : List ℕ) : Type 0 where
  pub distinct : IsDistinct numbers
  pub right : AllByRecursion (λ (x : KeptSubscription). is_among numbers x.number ≡ is_attached topic x) xs

pub index-members : (topic : ℕ) (xs : List KeptSubscription) → Ascends xs → Ordered (λ (a b : KeptSubscription). a.name ≢ b.name) xs → (t : KeptTopic) → t.row.number ≡ topic → HasMembers xs t → IsOrdered string_cmp t.subs.numbers
    → AreMembers topic xs (values t.subs.numbers)
index-members topic xs up names t own members ordered =
    let ps : Named = named_of string_bytes t.subs.numbers.entries in
    let is : (name : List ℕ) → number_at name ps ≡ attached_at topic name xs = λ name. sym (text-found string_bytes name t.subs.numbers.entries) ∙ members name ∙ ap (λ (n : ℕ). attached_at n name xs) own in
    let apart : Apart ps = apart-ordered string_bytes t.subs.numbers.entries ordered in
    let numbers : values t.subs.numbers ≡ numbers_of ps = values-named string_bytes t.subs.numbers.entries in
    subst (AreMembers topic xs) (sym numbers) (record { distinct = index-right topic xs up names ps apart is; right = among-attached topic xs up names ps apart is })

pub topic-members : (topic : ℕ) (xs : List KeptSubscription) (topics : List KeptTopic) → Ascends xs → Ordered (λ (a b : KeptSubscription). a.name ≢ b.name) xs → AllByRecursion (HasMembers xs) topics → (t : KeptTopic)
    → find (λ (x : KeptTopic). nat_eq x.row.number topic) topics ≡ Some t → IsOrdered string_cmp t.subs.numbers → AreMembers topic xs (values t.subs.numbers)
topic-members topic xs topics up names members t found ordered =
    index-members topic xs up names t (eqb-true t.row.number topic (found-passes (λ (x : KeptTopic). nat_eq x.row.number topic) topics t found)) (each-found (HasMembers xs) (λ (x : KeptTopic). nat_eq x.row.number topic) topics t found members) ordered
