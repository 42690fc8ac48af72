-- Numbers with zeros before them, as the text of a moment has them.
use Rattle.std.proofs.Common.{◌≡◌, ℕ, ◌+◌, ◌-◌, ◌/◌, ◌^◌, ◌<◌, ◌≤◌, List, [], ◌∷◌, ◌++◌, false, ap, ap₂, ◌∙◌, arith, ⊎_elim, decimal}
use Rattle.std.specs.Fmt.{padded_integral, format_spec, char_count}
use Rattle.std.proofs.lemmas.Fmt.{decimal_digit, decimal_step}
use Rattle.std.proofs.lemmas.Bool.{cases_lt}
use Rattle.ps_model.specs.Timestamps.{digit, two_digits, three_digits, four_digits}

-- what a hole `{:0w}` prints
abbrev pub padded : ℕ → ℕ → List ℕ
padded width n = padded_integral (format_spec 32 0 4 width (2 ^ 64 - 1)) false [] (decimal n)

decimal-two : (n : ℕ) → 10 ≤ n → n < 100 → decimal n ≡ two_digits n
decimal-two n large small =
    let one : decimal (n / 10) ≡ (48 + n / 10) ∷ [] = decimal_digit (n / 10) (omega arith) in
    let high : 48 + n / 10 ≡ digit (n / 10) = omega arith in
    decimal_step n large (omega arith) ∙ ap (λ ds. ds ++ digit n ∷ []) (one ∙ ap (λ (d : ℕ). d ∷ []) high)

decimal-three : (n : ℕ) → 100 ≤ n → n < 1000 → decimal n ≡ three_digits n
decimal-three n large small =
    let rest = decimal-two (n / 10) (omega arith) (omega arith) in
    let high : n / 10 / 10 ≡ n / 100 = omega arith in
    decimal_step n (omega arith) (omega arith) ∙ ap (λ ds. ds ++ digit n ∷ []) (rest ∙ ap (λ (h : ℕ). digit h ∷ digit (n / 10) ∷ []) high)

decimal-four : (n : ℕ) → 1000 ≤ n → n < 10000 → decimal n ≡ four_digits n
decimal-four n large small =
    let rest = decimal-three (n / 10) (omega arith) (omega arith) in
    let first : n / 10 / 100 ≡ n / 1000 = omega arith in
    let second : n / 10 / 10 ≡ n / 100 = omega arith in
    decimal_step n (omega arith) (omega arith) ∙ ap (λ ds. ds ++ digit n ∷ []) (rest ∙ ap₂ (λ (g h : ℕ). digit g ∷ digit h ∷ digit (n / 10) ∷ []) first second)

pub padded-two : (n : ℕ) → n < 100 → padded 2 n ≡ two_digits n
unfolding padded_integral char_count
padded-two n small = ⊎_elim
    (λ one. let high : digit (n / 10) ≡ 48 = omega arith in let low : digit n ≡ 48 + n = omega arith in rw (decimal_digit n one, high, low))
    (λ two. rw (decimal-two n two small))
    (cases_lt n 10)

pub padded-three : (n : ℕ) → n < 1000 → padded 3 n ≡ three_digits n
unfolding padded_integral char_count
padded-three n small = ⊎_elim
    (λ one. let top : digit (n / 100) ≡ 48 = omega arith in let high : digit (n / 10) ≡ 48 = omega arith in let low : digit n ≡ 48 + n = omega arith in rw (decimal_digit n one, top, high, low))
    (λ more. ⊎_elim
    (λ two. let top : digit (n / 100) ≡ 48 = omega arith in rw (decimal-two n more two, top))
    (λ three. rw (decimal-three n three small))
    (cases_lt n 100))
    (cases_lt n 10)

pub padded-four : (n : ℕ) → n < 10000 → padded 4 n ≡ four_digits n
unfolding padded_integral char_count
padded-four n small = ⊎_elim
    (λ one. let first : digit (n / 1000) ≡ 48 = omega arith in let second : digit (n / 100) ≡ 48 = omega arith in let third : digit (n / 10) ≡ 48 = omega arith in let low : digit n ≡ 48 + n = omega arith in rw (decimal_digit n one, first, second, third, low))
    (λ more. ⊎_elim
    (λ two. let first : digit (n / 1000) ≡ 48 = omega arith in let second : digit (n / 100) ≡ 48 = omega arith in rw (decimal-two n more two, first, second))
    (λ most. ⊎_elim
    (λ three. let first : digit (n / 1000) ≡ 48 = omega arith in rw (decimal-three n most three, first))
    (λ four. rw (decimal-four n four small))
    (cases_lt n 1000))
    (cases_lt n 100))
    (cases_lt n 10)
