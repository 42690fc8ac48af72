-- Texts of digits and the numbers that they write.
use Rattle.std.proofs.Common.{◌≡◌, ℕ, ◌<◌, ◌≤◌, ◌^◌, List, [], ◌∷◌, length, nat_lt, Bool, true, false, ◌&&◌, Result, Ok, refl, ap, sym, ◌∙◌, true≢false, arith}
use Rattle.std.specs.Char.{is_ascii_digit}
use Rattle.std.specs.List.{list_all}
use Rattle.std.specs.Str.{all_ascii_digits}
use Rattle.std.specs.Str.Parse.{digits_value, ParsesUnsigned}
use Rattle.std.proofs.lemmas.Bool.{ltb-true}
use Rattle.std.proofs.lemmas.Str.Parse.{IsNumeralModel, numerals_by_value, tells_all_ascii_digits, parse_gives, digits_value_short}
use Rattle.ps_fields.specs.Durations.{is_number}

own : IsNumeralModel (λ ds. all_ascii_digits ds ≡ true) (digits_value 10)
own = numerals_by_value _ tells_all_ascii_digits

each_digit : (bs : List ℕ) → list_all is_ascii_digit bs ≡ all_ascii_digits bs
each_digit [] = refl
each_digit (b ∷ bs) = ap (λ rest. is_ascii_digit b && rest) (each_digit bs)

both : (a b : Bool) → (a && b) ≡ true → (a ≡ true) × (b ≡ true)
both true b is = (refl, is)
both false b is = absurd (true≢false (sym is))

-- at most 12 digits are parsed as their number, which is small
pub parsed : {E : Type 0} (bs : List ℕ) (r : Result ℕ E) → ParsesUnsigned 64 10 bs r → is_number 12 bs ≡ true → (r ≡ Ok (digits_value 10 bs)) × (digits_value 10 bs < 10 ^ 12)
parsed bs r parses is =
    let some : (nat_lt 0 (length bs) ≡ true) × ((nat_lt (length bs) 13 && list_all is_ascii_digit bs) ≡ true) = both _ _ is in
    let short : (nat_lt (length bs) 13 ≡ true) × (list_all is_ascii_digit bs ≡ true) = both _ _ some.1 in
    let digits : all_ascii_digits bs ≡ true = sym (each_digit bs) ∙ short.1 in
    let short_enough : length bs ≤ 12 = omega (arith, ltb-true _ _ short.0) in
    let small : digits_value 10 bs < 10 ^ 12 = digits_value_short own bs 12 digits short_enough in
    let fits : digits_value 10 bs < 2 ^ 64 = omega (arith, small) in
    (parse_gives own 64 bs r parses digits (ltb-true _ _ some.0) fits, small)
