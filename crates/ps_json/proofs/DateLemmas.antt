-- The date that is so many days after 1 January 1970, beside the calendar of `jiff_core`.
use Rattle.std.proofs.Common.{◌≡◌, ℕ, ℤ, zero, suc, ◌+◌, ◌<◌, ◌≤◌, Bool, true, false, nat_lt, if◌then◌else◌, pos, negsuc, ◌≤ℤ◌, ◌<ℤ◌, inl, refl, ap, sym, ◌∙◌, unsigned_abs, arith, rules}
use Rattle.std.proofs.lemmas.Int.{by_lt_z}
use Rattle.jiff_core.specs.declared.civil.date.Date as jiff
use Rattle.jiff_core.specs.Calendar.{days_from_civil}
use Rattle.jiff_core.specs.Date.{epoch_day}
use Rattle.jiff_core.proofs.SignedLemmas.{signed_arith}
use Rattle.jiff_core.proofs.CalendarLemmas.{days_in_month_bounds}
use Rattle.jiff_core.proofs.DateLemmas.{epoch_day-lt, days_from_civil-day, days_from_civil-next_month, days_from_civil-next_year, days_from_civil-max, epoch_day_injective}
use Rattle.ps_model.specs.Timestamps.{Date, days_in_month, date_of}

epoch : jiff.Date
epoch = record { year = pos 1970; month = 1; day = 1; year_in = search rules; month_in = search rules; day_in = search rules }

epoch_zero : days_from_civil (pos 1970) 1 1 ≡ pos 0
unfolding days_from_civil
epoch_zero = omega (arith, signed_arith)

-- a day from 1970 on has a year from 1970 on
pub year_from_1970 : (d : jiff.Date) → pos 0 ≤ℤ epoch_day d → pos 1970 ≤ℤ d.year
unfolding epoch
year_from_1970 d late =
    by_lt_z d.year (pos 1970) (λ before. let earlier : epoch_day d <ℤ days_from_civil (pos 1970) 1 1 = epoch_day-lt d epoch (inl before) in absurd (omega (arith, signed_arith, epoch_zero)))
    (λ after. after)

pub pos-unsigned_abs : (z : ℤ) → pos 0 ≤ℤ z → pos (unsigned_abs z) ≡ z
pos-unsigned_abs (pos n) late = refl
pos-unsigned_abs (negsuc n) late = absurd (omega (arith, signed_arith))

-- d is a date of the calendar up to the year 9999, and n its day number
pub record IsDayAt (d : Date) (n : ℕ) : Type 0 where
  pub year : d.year ≤ 9999
  pub month : (1 ≤ d.month) × (d.month ≤ 12)
  pub day : (1 ≤ d.day) × (d.day ≤ days_in_month d.year d.month)
  pub number : days_from_civil (pos d.year) d.month d.day ≡ pos n

last_year : (y n : ℕ) → days_from_civil (pos y) 12 31 ≡ pos n → suc n ≤ 2932896 → y ≡ 9999 → ⊥
last_year y n is fits last = let end : pos n ≡ pos 2932896 = sym is ∙ (ap (λ (k : ℕ). days_from_civil (pos k) 12 31) last ∙ days_from_civil-max) in omega (arith, signed_arith, end)

next_at : (later within : Bool) (d : Date) (n : ℕ) → nat_lt d.day (days_in_month d.year d.month) ≡ later → nat_lt d.month 12 ≡ within → suc n ≤ 2932896 → IsDayAt d n
    → IsDayAt (if later then record d { day = d.day + 1 } else if within then record d { month = d.month + 1; day = 1 } else record { year = d.year + 1; month = 1; day = 1 }) (suc n)
next_at true within d n is short fits at =
    let before : d.day < days_in_month d.year d.month = grind (arith, is) in
    let step = days_from_civil-day (pos d.year) d.month d.day (d.day + 1) at.day.0 (omega arith) in
    let number : days_from_civil (pos d.year) d.month d.day ≡ pos n = at.number in
    record { year = at.year; month = at.month; day = (omega arith, omega arith); number = omega (arith, signed_arith, step, number) }
next_at false true d n is short fits at =
    let past : days_in_month d.year d.month ≤ d.day = grind (arith, is) in
    let early : d.month < 12 = grind (arith, short) in
    let last : d.day ≡ days_in_month d.year d.month = omega (arith, at.day.1) in
    let step = days_from_civil-next_month (pos d.year) d.month d.day at.month.0 last in
    let bounds = days_in_month_bounds (pos d.year) (d.month + 1) in
    let number : days_from_civil (pos d.year) d.month d.day ≡ pos n = at.number in
    record { year = at.year; month = (omega arith, omega arith); day = (omega arith, omega arith); number = omega (arith, signed_arith, step, number) }
next_at false false d n is short fits at =
    let past : days_in_month d.year d.month ≤ d.day = grind (arith, is) in
    let late : 12 ≤ d.month = grind (arith, short) in
    let december : d.month ≡ 12 = omega (arith, at.month.1) in
    let last : d.day ≡ days_in_month d.year d.month = omega (arith, at.day.1) in
    let end : d.day ≡ 31 = last ∙ rw december refl in
    let number : days_from_civil (pos d.year) 12 31 ≡ pos n = rw (december, end) at at.number in
    let year : d.year ≡ 9999 → ⊥ = last_year d.year n number fits in
    let step = days_from_civil-next_year (pos d.year) (pos (d.year + 1)) (omega (arith, signed_arith)) (omega (arith, signed_arith)) in
    record { year = omega (arith, at.year); month = (omega arith, omega arith); day = (omega arith, omega arith); number = omega (arith, signed_arith, step, number) }

pub date_of-day : (n : ℕ) → n ≤ 2932896 → IsDayAt (date_of n) n
date_of-day zero fits = record { year = omega arith; month = (omega arith, omega arith); day = (omega arith, search rules); number = epoch_zero }
date_of-day (suc n) fits = next_at _ _ (date_of n) n refl refl fits (date_of-day n (omega arith))

-- a date of the crate with that day number has these parts
pub same_date : (d : jiff.Date) (n : ℕ) → n ≤ 2932896 → epoch_day d ≡ pos n → (d.year ≡ pos (date_of n).year) × (d.month ≡ (date_of n).month) × (d.day ≡ (date_of n).day)
same_date d n fits is =
    let at = date_of-day n fits in
    let own : jiff.Date = record { year = pos (date_of n).year; month = (date_of n).month; day = (date_of n).day; year_in = (omega (arith, signed_arith), omega (arith, signed_arith, at.year)); month_in = at.month; day_in = at.day } in
    epoch_day_injective d own (is ∙ sym at.number)
