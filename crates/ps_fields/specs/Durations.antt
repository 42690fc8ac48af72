-- Durations as texts: decimal digits, if need be with a point and more digits behind it, and `s`.
use Rattle.std.specs.Prelude.{ℕ, ◌+◌, ◌*◌, ◌-◌, min, List, length, drop, get_or, Bool, ◌&&◌, nat_lt, eqb, if◌then◌else◌, Option, Some, None, option_and_then, option_map}
use Rattle.std.specs.Char.{is_ascii_digit}
use Rattle.std.specs.List.{list_all, position_or_len, before_first, after_first}
use Rattle.std.specs.Str.Parse.{digits_value}
use Rattle.ps_message.specs.Lists.{is_empty}

abbrev pub are_digits : List ℕ → Bool
are_digits text = list_all is_ascii_digit text

-- 1 digit or more, at most this many, and nothing else
abbrev pub is_number : ℕ → List ℕ → Bool
is_number most text = nat_lt 0 (length text) && (nat_lt (length text) (most + 1) && are_digits text)

-- the milliseconds of this many seconds
abbrev pub thousands : List ℕ → Option ℕ
thousands text = if is_number 12 text then Some (1000 * digits_value 10 text) else None

-- the digit at a place, or 0 past the end
abbrev pub digit : ℕ → List ℕ → ℕ
digit place text = min (get_or text place 48 - 48) 9

abbrev pub is_zero : ℕ → Bool
is_zero b = eqb b 48

-- the digits past the third one are all 0
abbrev pub is_whole : List ℕ → Bool
is_whole text = list_all is_zero (drop 3 text)

-- the milliseconds of the digits behind the point
abbrev pub thousandths : List ℕ → Option ℕ
thousandths text = if is_number 9 text && is_whole text then Some (100 * digit 0 text + 10 * digit 1 text + digit 2 text) else None

abbrev pub sum : Option ℕ → Option ℕ → Option ℕ
sum whole part = option_and_then (λ ms. option_map (λ more. ms + more) part) whole

abbrev pub is_point : ℕ → Bool
is_point b = eqb b 46

abbrev pub is_s : ℕ → Bool
is_s b = eqb b 115

-- the milliseconds of a number of seconds, with or without a point
abbrev pub in_number : List ℕ → Option ℕ
in_number number =
    if nat_lt (position_or_len is_point number) (length number)
    then sum (thousands (before_first is_point number)) (thousandths (after_first is_point number))
    else thousands number

-- the milliseconds of a duration; the only `s` ends it
abbrev pub milliseconds : List ℕ → Option ℕ
milliseconds text =
    if nat_lt (position_or_len is_s text) (length text) && is_empty (after_first is_s text) then in_number (before_first is_s text) else None
