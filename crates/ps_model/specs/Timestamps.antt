-- The text of a moment (RFC 3339, section 5.6; always in UTC and with three decimals, which is this project's own).
use Rattle.std.specs.Prelude.{ℕ, zero, suc, min, ◌+◌, ◌/◌, ◌%◌, Bool, ◌&&◌, ◌||◌, not, nat_eq, nat_lt, List, [], ◌∷◌, ◌++◌, codes, if◌then◌else◌}
use Rattle.ps_base.specs.Moments.{last_moment}

pub record Date : Type 0 where
  pub year : ℕ
  pub month : ℕ
  pub day : ℕ

abbrev pub is_leap : ℕ → Bool
is_leap year = nat_eq (year % 4) 0 && (not (nat_eq (year % 100) 0) || nat_eq (year % 400) 0)

abbrev pub days_in_month : ℕ → ℕ → ℕ
days_in_month year month =
    if nat_eq month 2 then (if is_leap year then 29 else 28)
    else if nat_eq month 4 || nat_eq month 6 || nat_eq month 9 || nat_eq month 11 then 30 else 31

-- the day after
abbrev pub next_day : Date → Date
next_day d =
    if nat_lt d.day (days_in_month d.year d.month) then record d { day = d.day + 1 }
    else if nat_lt d.month 12 then record d { month = d.month + 1; day = 1 }
    else record { year = d.year + 1; month = 1; day = 1 }

-- the date this many days after 1 January 1970
abbrev pub date_of : ℕ → Date
date_of zero = record { year = 1970; month = 1; day = 1 }
date_of (suc days) = next_day (date_of days)

-- the last digit, in ASCII
abbrev pub digit : ℕ → ℕ
digit n = 48 + n % 10

abbrev pub two_digits : ℕ → List ℕ
two_digits n = digit (n / 10) ∷ digit n ∷ []

abbrev pub three_digits : ℕ → List ℕ
three_digits n = digit (n / 100) ∷ two_digits n

abbrev pub four_digits : ℕ → List ℕ
four_digits n = digit (n / 1000) ∷ three_digits n

-- `YYYY-MM-DD`
abbrev pub date_text : Date → List ℕ
date_text d = four_digits d.year ++ codes "-" ++ two_digits d.month ++ codes "-" ++ two_digits d.day

-- `HH:MM:SS.mmm`
abbrev pub time_text : ℕ → List ℕ
time_text ms = two_digits (ms / 3600000 % 24) ++ codes ":" ++ two_digits (ms / 60000 % 60) ++ codes ":" ++ two_digits (ms / 1000 % 60) ++ codes "." ++ three_digits (ms % 1000)

-- a moment in milliseconds since 1970; one after the year 9999 is printed as the last one of that year
abbrev pub timestamp : ℕ → List ℕ
timestamp ms = let at = min ms last_moment in date_text (date_of (at / 86400000)) ++ codes "T" ++ time_text at ++ codes "Z"
