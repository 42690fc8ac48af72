-- Values and what their kinds read of them.
use Rattle.std.proofs.Common.{◌≡◌, ◌≢◌, ℕ, ◌+◌, ◌<◌, ◌^◌, List, [], ◌∷◌, map, length, get_or, drop, Bool, true, false, nat_lt, ℤ, pos, neg_ℤ, Some, None, option_map, Result, Ok, Err, string_cmp, Vec, BTreeMap, String, Global, refl, ap, sym, ◌∙◌, arith}
use Rattle.std.specs.Int.{w64}
use Rattle.std.specs.List.Sorted.{IsStrictlySortedBy}
use Rattle.std.specs.Map.{keys_of}
use Rattle.std.specs.Result.{result_ok, OkIff}
use Rattle.std.specs.Str.{all_ascii_digits}
use Rattle.std.specs.Str.Parse.{digits_value, starts_with_minus, ParsesSigned}
use Rattle.std.proofs.lemmas.Bool.{eqb-true, eqb-false, ltb-true, lt-ltb}
use Rattle.std.proofs.lemmas.Str.Parse.{IsNumeralModel, numerals_by_value, tells_all_ascii_digits, parse_signed_minus, parse_signed_plain}
use Rattle.serde_json.specs.Data.{Data}
use Rattle.serde_json.specs.View.{view, items_of, members_view}
use Rattle.serde_json.specs.declared.value.Value.{Value, Array, Object}
use Rattle.serde_json.proofs.Views.{Entry, view-Array, view-Object}
use Rattle.ps_base.specs.Keys.{has_ascending_keys}
use Rattle.ps_fields.specs.Fields.{items_in, pairs_of, values_of}
use Rattle.ps_fields.specs.Kinds.{key_and_text, list_of, map_of, number_below, texts_in, whole_text}

values_of-items_of : (ds : List Data) → values_of (items_of ds) ≡ ds
values_of-items_of [] = refl
values_of-items_of (d ∷ ds) = ap (λ rest. d ∷ rest) (values_of-items_of ds)

-- a list is its items
pub items_in-Array : (vs : Vec Value Global) → items_in (view (Array vs)) ≡ Some (map view vs.items)
items_in-Array vs = ap items_in (view-Array vs) ∙ ap Some (values_of-items_of (map view vs.items))

pub list_of-Array : (vs : Vec Value Global) → list_of (Some (view (Array vs))) ≡ Some (map view vs.items)
list_of-Array vs = ap (λ d. list_of (Some d)) (view-Array vs) ∙ ap Some (values_of-items_of (map view vs.items))

-- a map is the texts of its object
pub map_of-Object : (m : BTreeMap (String Global) Value) → texts_in (members_view m.entries) ≡ map_of (Some (view (Object m)))
map_of-Object m = ap (λ d. map_of (Some d)) (sym (view-Object m))

-- ---- whole numbers in texts

same_ok : {E P Q : Type 0} (r : Result ℤ E) (x : ℤ) → (P → Q) → (Q → P) → OkIff r P x → OkIff r Q x
same_ok (Ok y) x to from h = (to h.0, h.1)
same_ok (Err e) x to from h = λ q. h (from q)

none_below : (digits some below : Bool) (limit : ℕ) (bs : List ℕ) (sign : ℕ → ℤ) → nat_lt 0 (length bs) ≡ some → all_ascii_digits bs ≡ digits → nat_lt (digits_value 10 bs) limit ≡ below
    → ((all_ascii_digits bs ≡ true) × (0 < length bs) × (digits_value 10 bs < limit) → ⊥) → None ≡ option_map sign (number_below limit bs)
none_below true true true limit bs sign is are fits neither = absurd (neither (are, ltb-true _ _ is, ltb-true _ _ fits))
none_below false true below limit bs sign is are fits neither = rw (is, are)
none_below true false below limit bs sign is are fits neither = rw is
none_below false false below limit bs sign is are fits neither = rw is
none_below true true false limit bs sign is are fits neither = rw (is, are, fits)

number_told : {E : Type 0} (r : Result ℤ E) (limit : ℕ) (bs : List ℕ) (sign : ℕ → ℤ)
    → OkIff r ((all_ascii_digits bs ≡ true) × (0 < length bs) × (digits_value 10 bs < limit)) (sign (digits_value 10 bs)) → result_ok r ≡ option_map sign (number_below limit bs)
number_told (Ok x) limit bs sign h = rw (lt-ltb _ _ h.0.1, h.0.0, lt-ltb _ _ h.0.2) (ap Some h.1)
number_told (Err e) limit bs sign h = none_below _ _ _ limit bs sign refl refl refl h

own : IsNumeralModel (λ ds. all_ascii_digits ds ≡ true) (digits_value 10)
own = numerals_by_value _ tells_all_ascii_digits

whole_by : {E : Type 0} (minus : Bool) (bs : List ℕ) (r : Result ℤ E) → starts_with_minus bs ≡ minus → ParsesSigned w64 10 bs r → get_or bs 0 0 ≢ 43 → result_ok r ≡ whole_text bs
whole_by true bs r is h plus =
    rw is (number_told r (2 ^ 63 + 1) (drop 1 bs) (λ n. neg_ℤ (pos n))
    (same_ok r _ (λ p. (p.0, p.1, omega (arith, p.2))) (λ p. (p.0, p.1, omega (arith, p.2))) (parse_signed_minus own w64 bs r h (eqb-true _ _ is))))
whole_by false bs r is h plus = rw is (number_told r (2 ^ 63) bs pos (parse_signed_plain own w64 bs r h plus (eqb-false _ _ is)))

-- a text with no plus is parsed as a whole number
pub whole_told : {E : Type 0} (bs : List ℕ) (r : Result ℤ E) → ParsesSigned w64 10 bs r → get_or bs 0 0 ≢ 43 → result_ok r ≡ whole_text bs
whole_told bs r h plus = whole_by _ bs r refl h plus

-- ---- the keys of a map ascend

-- the texts of an object have ascending keys
pub ascending : (es : List Entry) → IsStrictlySortedBy string_cmp (keys_of es) → has_ascending_keys (map key_and_text (pairs_of (members_view es))) ≡ true
unfolding IsStrictlySortedBy
ascending [] sorted = refl
ascending (e ∷ []) sorted = refl
ascending (e ∷ f ∷ es) sorted = rw (sorted.0.0) (ascending (f ∷ es) sorted.1)
