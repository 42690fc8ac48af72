use Rattle.std.proofs.Common.{refl}
use Rattle.ps_examples.proofs.examples.timestamp_examples.Goals as goal

pub returns : goal.returns
returns c = record {
  beginning = refl;
  one_millisecond = refl;
  one_second = refl;
  seconds = refl;
  five_minutes = refl;
  all_digits = refl;
  end_of_the_day = refl;
  next_day = refl;
  a_week_behind = refl;
  end_of_a_year_without_leap_day = refl;
  next_year = refl;
  february_without_leap_day = refl;
  leap_day = refl;
  end_of_the_leap_day = refl;
  behind_the_leap_day = refl;
  end_of_a_year_with_leap_day = refl;
  leap_day_of_2000 = refl;
  years_behind = refl;
  year_2024 = refl;
  year_2023 = refl;
  year_2000 = refl;
  year_2100 = refl;
}
