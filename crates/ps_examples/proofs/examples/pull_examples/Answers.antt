use Rattle.std.proofs.Common.{refl}
use Rattle.ps_examples.proofs.examples.pull_examples.Goals as goal

pub returns : goal.returns
returns c = record {
  two_of_three = refl;
  more_than_there_are = refl;
  the_rest = refl;
  none_asked_for = refl;
  no_subscription = refl;
  nothing_there = refl;
  nothing_there_is_not_recorded = refl;
  budget_reached = refl;
  budget_not_reached = refl;
  message_above_the_budget = refl;
  no_budget = refl;
  as_asked = refl;
  too_many = refl;
  too_many_bytes = refl;
  too_short = refl;
  shortest = refl;
  longest = refl;
  too_long = refl;
  before_its_end = refl;
  at_its_end = refl;
}
