use Rattle.std.proofs.Common.{refl}
use Rattle.ps_examples.proofs.examples.retry_examples.Goals as goal

pub returns : goal.returns
returns c = record {
  two_rests_told = refl;
  two_rests_recorded = refl;
  first_rest = refl;
  second_rest = refl;
  out_after_two = refl;
  five_rests_told = refl;
  met_late = refl;
  met_late_is_a_tick = refl;
  met_late_rest = refl;
  before_its_end = refl;
  at_its_end = refl;
  long_after = refl;
  least_above_most = refl;
  least_above_most_before = refl;
  least_above_most_then = refl;
  no_rest = refl;
  no_least = refl;
  least_too_long = refl;
  most_too_long = refl;
}
