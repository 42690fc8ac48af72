-- Worked examples: the text of a moment.
use Rattle.std.specs.Prelude.{◌≡◌, true, false, codes}
use Rattle.ps_model.specs.Timestamps.{timestamp, is_leap}

pub record TimestampExamples : Type 0 where
  pub beginning : timestamp 0 ≡ codes "1970-01-01T00:00:00.000Z"
  -- parts of a second, and of a day
  pub one_millisecond : timestamp 1 ≡ codes "1970-01-01T00:00:00.001Z"
  pub one_second : timestamp 1000 ≡ codes "1970-01-01T00:00:01.000Z"
  pub seconds : timestamp 52000 ≡ codes "1970-01-01T00:00:52.000Z"
  pub five_minutes : timestamp 300000 ≡ codes "1970-01-01T00:05:00.000Z"
  pub all_digits : timestamp 45296789 ≡ codes "1970-01-01T12:34:56.789Z"
  pub end_of_the_day : timestamp 86399999 ≡ codes "1970-01-01T23:59:59.999Z"
  -- days, months and years
  pub next_day : timestamp 86400000 ≡ codes "1970-01-02T00:00:00.000Z"
  pub a_week_behind : timestamp 604801000 ≡ codes "1970-01-08T00:00:01.000Z"
  pub end_of_a_year_without_leap_day : timestamp 31535999999 ≡ codes "1970-12-31T23:59:59.999Z"
  pub next_year : timestamp 31536000000 ≡ codes "1971-01-01T00:00:00.000Z"
  pub february_without_leap_day : timestamp 36633600000 ≡ codes "1971-03-01T00:00:00.000Z"
  pub leap_day : timestamp 68169600000 ≡ codes "1972-02-29T00:00:00.000Z"
  pub end_of_the_leap_day : timestamp 68255999999 ≡ codes "1972-02-29T23:59:59.999Z"
  pub behind_the_leap_day : timestamp 68256000000 ≡ codes "1972-03-01T00:00:00.000Z"
  pub end_of_a_year_with_leap_day : timestamp 94694399999 ≡ codes "1972-12-31T23:59:59.999Z"
  pub leap_day_of_2000 : timestamp 951782400000 ≡ codes "2000-02-29T00:00:00.000Z"
  pub years_behind : timestamp 1700000001000 ≡ codes "2023-11-14T22:13:21.000Z"
  -- each fourth year has a leap day, of the hundreds each fourth one
  pub year_2024 : is_leap 2024 ≡ true
  pub year_2023 : is_leap 2023 ≡ false
  pub year_2000 : is_leap 2000 ≡ true
  pub year_2100 : is_leap 2100 ≡ false
