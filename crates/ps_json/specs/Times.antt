-- Durations and moments as they are printed.
use Rattle.std.specs.Prelude.{ℕ, ◌/◌, ◌%◌, nat_eq, List, ◌++◌, codes, decimal, if◌then◌else◌}
use Rattle.serde_json.specs.Data.{Data, string}
use Rattle.ps_model.specs.Timestamps.{Date, three_digits, timestamp}

-- milliseconds as seconds: `600s`, or with three decimals if they aren't whole seconds, `1.500s`
abbrev pub duration_text : ℕ → List ℕ
duration_text ms =
    if nat_eq (ms % 1000) 0 then decimal (ms / 1000) ++ codes "s"
    else decimal (ms / 1000) ++ (codes "." ++ (three_digits (ms % 1000) ++ codes "s"))

unfoldable pub duration_data : ℕ → Data
duration_data ms = string (duration_text ms)

-- milliseconds since 1970 as RFC 3339 has them
unfoldable pub moment_data : ℕ → Data
moment_data ms = string (timestamp ms)

-- the date of these numbers
abbrev pub date_with : ℕ → ℕ → ℕ → Date
date_with year month day = record { year = year; month = month; day = day }
