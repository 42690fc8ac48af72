-- Keys that were noted on a walk, and the messages that come behind them.
use Rattle.std.proofs.Common.{ℕ, ◌≡◌, ◌+◌, ◌<◌, ◌≤◌, Bool, true, false, cond, ◌&&◌, ◌||◌, not, nat_lt, List, [], ◌∷◌, ◌++◌, map, length, take, drop, get_or, zero, suc, refl, sym, ◌∙◌, ap, subst, arith, String}
use Rattle.std.specs.BTreeSet.{BTreeSet, contains_text, UpdatesBy}
use Rattle.std.specs.List.{list_any, AllByRecursion}
use Rattle.std.specs.Ordering.{nat_cmp}
use Rattle.std.specs.Cmp.Lexicographic.{slice_cmp}
use Rattle.std.specs.Str.{bytes_eq}
use Rattle.std.specs.String.{string_bytes, string_cmp}
use Rattle.std.proofs.lemmas.Map.Text.{btree_set_updates_text}
use Rattle.std.proofs.lemmas.Bool.{false≢true, and_right, or_from}
use Rattle.std.proofs.lemmas.Bool.Decides.{nat_tests}
use Rattle.std.proofs.lemmas.List.{take-append-drop, map_more}
use Rattle.std.proofs.lemmas.List.Folds.{list_any-append, list_any_more}
use Rattle.ps_message.specs.Lists.{is_empty}
use Rattle.ps_model.specs.declared.mark.Mark.{Mark}
use Rattle.ps_model.specs.declared.mark.Slot.{Slot}
use Rattle.ps_model.specs.Slots.{any_earlier, is_earlier}
use Rattle.ps_sub.specs.Keys.{HasKeysOf, has_order, is_noted}
use Rattle.ps_sub.specs.Steady.{IsAscending}

-- what holds of each holds of the one at a place
pub at-place : (P : Slot → Type 0) (xs : List Slot) (i : ℕ) (d : Slot) → AllByRecursion P xs → i < length xs → P (get_or xs i d)
at-place P [] i d h short = absurd (omega (arith, short))
at-place P (x ∷ xs) zero d h short = h.0
at-place P (x ∷ xs) (suc i) d h short = at-place P xs i d h.1 (omega (arith, short))

above-weaker : (n : ℕ) (xs : List Slot) → AllByRecursion (λ (e : Slot). n < e.item.number) xs → AllByRecursion (λ (e : Slot). n ≤ e.item.number) xs
above-weaker n [] h = h
above-weaker n (x ∷ xs) h = (omega (arith, h.0), above-weaker n xs h.1)

pub record IsSplit (front back : List Slot) (s : Slot) : Type 0 where
  pub below : AllByRecursion (λ (e : Slot). e.item.number < s.item.number) front
  pub from : AllByRecursion (λ (e : Slot). s.item.number ≤ e.item.number) back

-- what comes before a message has smaller numbers, and nothing else does
split : (xs : List Slot) (i : ℕ) (s : Slot) → IsAscending xs → i < length xs → s ≡ get_or xs i s → IsSplit (take i xs) (drop i xs) s
split [] i s h short is = absurd (omega (arith, short))
split (x ∷ xs) zero s h short is = record {
  below = tt;
  from = subst (λ (e : Slot). AllByRecursion (λ (f : Slot). e.item.number ≤ f.item.number) (x ∷ xs)) (sym is) (omega arith, above-weaker x.item.number xs h.0);
}
split (x ∷ xs) (suc i) s h short is =
    let short-there : i < length xs = omega (arith, short) in
    let later = split xs i s h.1 short-there is in
    record {
      below = (subst (λ (e : Slot). x.item.number < e.item.number) (sym is) (at-place (λ (e : Slot). x.item.number < e.item.number) xs i s h.0 short-there), later.below);
      from = later.from;
    }

empty-same : (a b : List ℕ) → bytes_eq a b ≡ true → is_empty a ≡ is_empty b
empty-same [] [] h = refl
empty-same [] (y ∷ ys) h = absurd (false≢true h)
empty-same (x ∷ xs) [] h = absurd (false≢true h)
empty-same (x ∷ xs) (y ∷ ys) h = refl

regroup : (ordered bare bare-there same test : Bool) → (same ≡ true → bare-there ≡ bare) → ((ordered && not bare) && (test && ((ordered && not bare-there) && same))) ≡ ((ordered && (true && (not bare && same))) && test)
regroup false bare bare-there same test h = refl
regroup true true bare-there same test h = refl
regroup true false true true true h = absurd (false≢true (sym (h refl)))
regroup true false true true false h = refl
regroup true false true false true h = refl
regroup true false true false false h = refl
regroup true false false true true h = refl
regroup true false false true false h = refl
regroup true false false false true h = refl
regroup true false false false false h = refl

share : (o a b c d : Bool) → (o && a) ≡ c → (o && b) ≡ d → (o && (a || b)) ≡ (c || d)
share true a b c d h k = λ i. h i || k i
share false a b c d h k = λ i. h i || k i

module _ (ordering : Bool) (test : Slot → Bool) (s : Slot) where
  earlier : Slot → Bool
  earlier e = is_earlier ordering e s && test e

  one-before : (e : Slot) → e.item.number < s.item.number → (has_order ordering s && is_noted ordering (test e) s.item.key e) ≡ (is_earlier ordering e s && test e)
  one-before e below =
      let less : nat_lt e.item.number s.item.number ≡ true = grind (arith, nat_tests) in
      regroup ordering (is_empty s.item.key) (is_empty e.item.key) (bytes_eq e.item.key s.item.key) (test e) (empty-same e.item.key s.item.key)
      ∙ ap (λ (b : Bool). (ordering && (b && (not (is_empty s.item.key) && bytes_eq e.item.key s.item.key))) && test e) (sym less)

  all-before : (es : List Slot) → AllByRecursion (λ (e : Slot). e.item.number < s.item.number) es
      → (has_order ordering s && list_any (λ (e : Slot). is_noted ordering (test e) s.item.key e) es) ≡ list_any (λ (e : Slot). is_earlier ordering e s && test e) es
  all-before [] h = and_right (has_order ordering s) false refl
  all-before (e ∷ es) h = share (has_order ordering s) _ _ _ _ (one-before e h.0) (all-before es h.1)

  not-before : (o less rest t : Bool) → less ≡ false → ((o && (less && rest)) && t) ≡ false
  not-before false less rest t h = refl
  not-before true false rest t h = refl
  not-before true true rest t h = absurd (false≢true (sym h))

  none-from : (es : List Slot) → AllByRecursion (λ (e : Slot). s.item.number ≤ e.item.number) es → list_any (λ (e : Slot). is_earlier ordering e s && test e) es ≡ false
  none-from [] h = refl
  none-from (e ∷ es) h =
      let least : s.item.number ≤ e.item.number = h.0 in
      let less : nat_lt e.item.number s.item.number ≡ false = grind (arith, nat_tests) in
      or_from _ _ (not-before ordering (nat_lt e.item.number s.item.number) (not (is_empty s.item.key) && bytes_eq e.item.key s.item.key) (test e) less) (none-from es h.1)

-- the set tells of each message whether it comes behind one that passes the test
pub before-at : {Y : Type 0} (ordering : Bool) (test : Slot → Bool) (slots : List Slot) (keys : BTreeSet (String Y)) (i : ℕ) (s : Slot) → IsAscending slots → i < length slots → s ≡ get_or slots i s
    → HasKeysOf ordering test (take i slots) keys → (has_order ordering s && contains_text keys s.item.key) ≡ any_earlier ordering test slots s
before-at ordering test slots keys i s ascending short is so_far =
    let parts = split slots i s ascending short is in
    let p : Slot → Bool = λ (e : Slot). is_earlier ordering e s && test e in
    ap (λ (b : Bool). has_order ordering s && b) (so_far s.item.key)
    ∙ all-before ordering test s (take i slots) parts.below
    ∙ plain (list_any p (take i slots)) (list_any p (drop i slots)) (none-from ordering test s (drop i slots) parts.from)
    ∙ sym (list_any-append p (take i slots) (drop i slots))
    ∙ ap (list_any p) (take-append-drop i slots)
  where
    plain : (a b : Bool) → b ≡ false → a ≡ (a || b)
    plain true b h = refl
    plain false b h = sym h

-- one message more
pub keys-more : {Y : Type 0} (ordering : Bool) (test : Slot → Bool) (slots : List Slot) (old new : BTreeSet (String Y)) (i : ℕ) (s : Slot) (noted : Bool) → i < length slots → s ≡ get_or slots i s → noted ≡ test s
    → ((key : List ℕ) → contains_text new key ≡ (contains_text old key || is_noted ordering noted key s)) → HasKeysOf ordering test (take i slots) old → HasKeysOf ordering test (take (i + 1) slots) new
keys-more ordering test slots old new i s noted short is tested after so_far = λ key.
    let p : Slot → Bool = λ (e : Slot). is_noted ordering (test e) key e in
    let here : is_noted ordering noted key s ≡ p (get_or slots i s) = ap (λ (b : Bool). is_noted ordering b key s) tested ∙ ap p is in
    after key ∙ (λ j. so_far key j || here j) ∙ sym (list_any_more p slots i s short)

-- one mark more
pub marks-more : (rule : Slot → Mark) (slots : List Slot) (old new : List Mark) (i : ℕ) (s : Slot) (mark : Mark) → i < length slots → s ≡ get_or slots i s → mark ≡ rule s
    → new ≡ old ++ mark ∷ [] → old ≡ map rule (take i slots) → new ≡ map rule (take (i + 1) slots)
marks-more rule slots old new i s mark short is made pushed so_far =
    pushed ∙ (λ j. so_far j ++ (made ∙ ap rule is) j ∷ []) ∙ sym (map_more rule slots i s short)

-- a key that was put into the set is noted
pub noted-after : {Y : Type 0} (old new : BTreeSet (String Y)) (ordering noted : Bool) (s : Slot) (bytes : List ℕ) → bytes ≡ s.item.key → noted ≡ true → has_order ordering s ≡ true
    → UpdatesBy string_cmp (λ k. slice_cmp nat_cmp bytes (string_bytes k)) old new true → (key : List ℕ) → contains_text new key ≡ (contains_text old key || is_noted ordering noted key s)
noted-after old new ordering noted s bytes same is_noted_here has puts key =
    btree_set_updates_text bytes old new true puts key
    ∙ swap (bytes_eq bytes key) (contains_text old key)
    ∙ (λ i. contains_text old key || (sym is_noted_here i && (sym has i && bytes_eq (same i) key)))
  where
    swap : (a b : Bool) → cond a true b ≡ (b || a)
    swap true true = refl
    swap true false = refl
    swap false true = refl
    swap false false = refl
