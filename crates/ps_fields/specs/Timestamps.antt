-- The moment that a timestamp writes: a date, `T`, a time of day, perhaps a fraction of a second, and an offset (RFC 3339).
use Rattle.std.specs.Prelude.{ℕ, ◌+◌, ◌*◌, ◌-◌, ℤ, pos, negsuc, neg_ℤ, ◌+ℤ◌, ◌-ℤ◌, ◌*ℤ◌, List, [], ◌∷◌, take, drop, length, get_or, Bool, ◌&&◌, ◌||◌, not, ◌==◌, nat_eq, nat_le, nat_lt, if◌then◌else◌, Option, Some, None, option_map, option_and_then}
use Rattle.std.specs.Char.{is_ascii_digit}
use Rattle.std.specs.List.{list_any, position}
use Rattle.jiff_core.specs.Calendar.{days_from_civil, days_in_month}

-- ---- numbers

-- what two decimal digits write
abbrev pub pair : ℕ → ℕ → Option ℕ
pair tens ones = if is_ascii_digit tens && is_ascii_digit ones then Some (10 * (tens - 48) + (ones - 48)) else None

-- the same up to a greatest number
abbrev pub up_to : ℕ → Option ℕ → Option ℕ
up_to most None = None
up_to most (Some n) = if nat_le n most then Some n else None

-- ---- the date

abbrev pub is_date : ℕ → ℕ → ℕ → Bool
is_date year month day = nat_le 1 month && nat_le month 12 && nat_le 1 day && nat_le day (days_in_month (pos year) month)

-- the day's number from 1970 on, negative before, if the calendar has the day
abbrev pub day_number : ℕ → ℕ → ℕ → Option ℤ
day_number year month day = if is_date year month day then Some (days_from_civil (pos year) month day) else None

abbrev pub date_with : Option ℕ → Option ℕ → Option ℕ → Option ℕ → Option ℤ
date_with century years month day =
    option_and_then (λ c. option_and_then (λ y. option_and_then (λ m. option_and_then (λ d. day_number (100 * c + y) m d) day) month) years) century

-- the day's number at the front of a text, and what stands behind the date
abbrev pub date_front : List ℕ → Option (ℤ × List ℕ)
date_front (a ∷ b ∷ c ∷ d ∷ dash ∷ e ∷ f ∷ mark ∷ g ∷ h ∷ rest) =
    if dash == 45 && mark == 45 then option_map (λ day. (day, rest)) (date_with (pair a b) (pair c d) (pair e f) (pair g h)) else None
date_front _ = None

-- ---- the time of day

abbrev pub clock_with : Option ℕ → Option ℕ → Option ℕ → Option ℕ
clock_with hours minutes seconds = option_and_then (λ h. option_and_then (λ m. option_map (λ s. 3600000 * h + 60000 * m + 1000 * s) (up_to 59 seconds)) (up_to 59 minutes)) (up_to 23 hours)

-- the milliseconds from midnight on behind a `T`, and what stands behind the seconds
abbrev pub clock_front : List ℕ → Option (ℕ × List ℕ)
clock_front (t ∷ a ∷ b ∷ colon ∷ c ∷ d ∷ mark ∷ e ∷ f ∷ rest) =
    if (t == 84 || t == 116) && (colon == 58 && mark == 58) then option_map (λ ms. (ms, rest)) (clock_with (pair a b) (pair c d) (pair e f)) else None
clock_front _ = None

-- ---- the fraction of a second

abbrev pub digit_at : List ℕ → ℕ → ℕ
digit_at digits place = get_or digits place 48 - 48

abbrev pub is_nonzero : ℕ → Bool
is_nonzero digit = not (digit == 48)

-- milliseconds, rounded up to the next if digits past the third aren't zero
abbrev pub millis : List ℕ → ℕ
millis digits =
    100 * digit_at digits 0 + 10 * digit_at digits 1 + digit_at digits 2 + (if list_any is_nonzero (drop 3 digits) then 1 else 0)

abbrev pub is_no_digit : ℕ → Bool
is_no_digit b = not (is_ascii_digit b)

abbrev pub cut : Option ℕ → List ℕ → List ℕ × List ℕ
cut None text = (text, [])
cut (Some end) text = (take end text, drop end text)

-- the digits at the front of a text, and what stands behind them
abbrev pub digits_front : List ℕ → List ℕ × List ℕ
digits_front text = cut (position is_no_digit text) text

abbrev pub fraction_of : List ℕ × List ℕ → Option (ℕ × List ℕ)
fraction_of parts = if nat_eq (length parts.0) 0 || nat_lt 9 (length parts.0) then None else Some (millis parts.0, parts.1)

-- 1 to 9 digits behind a `.`, or nothing
abbrev pub fraction_front : List ℕ → Option (ℕ × List ℕ)
fraction_front [] = Some (0, [])
fraction_front (b ∷ rest) = if b == 46 then fraction_of (digits_front rest) else Some (0, b ∷ rest)

-- ---- the offset

abbrev pub signed : ℕ → ℕ → Option ℤ
signed sign minutes = if sign == 43 then Some (pos minutes) else if sign == 45 then Some (neg_ℤ (pos minutes)) else None

abbrev pub offset_with : ℕ → Option ℕ → Option ℕ → Option ℤ
offset_with sign hours minutes = option_and_then (λ h. option_and_then (λ m. signed sign (60 * h + m)) (up_to 59 minutes)) (up_to 23 hours)

-- the minutes that a time of day is ahead of UTC: `Z`, or a sign, hours and minutes
abbrev pub offset_of : List ℕ → Option ℤ
offset_of (z ∷ []) = if z == 90 || z == 122 then Some (pos 0) else None
offset_of (sign ∷ a ∷ b ∷ colon ∷ c ∷ d ∷ []) = if colon == 58 then offset_with sign (pair a b) (pair c d) else None
offset_of _ = None

-- ---- the moment

abbrev pub natural : ℤ → ℕ
natural (pos n) = n
natural (negsuc n) = 0

-- milliseconds since 1970, negative before
abbrev pub total : ℤ → ℕ → ℤ → ℤ
total day ms minutes = pos 86400000 *ℤ day +ℤ pos ms -ℤ pos 60000 *ℤ minutes

-- the same, and 0 before
abbrev pub moment_at : ℤ → ℕ → ℤ → ℕ
moment_at day ms minutes = natural (total day ms minutes)

-- the moment that this text writes, if it is a timestamp
abbrev pub timestamp_of : List ℕ → Option ℕ
timestamp_of text =
    option_and_then (λ date. option_and_then (λ clock. option_and_then (λ fraction. option_map (λ minutes. moment_at date.0 (clock.0 + fraction.0) minutes) (offset_of fraction.1)) (fraction_front clock.1)) (clock_front date.1)) (date_front text)
