use Rattle.std.proofs.Common.{refl}
use Rattle.ps_examples.proofs.examples.moment_examples.Goals as goal

pub returns : goal.returns
returns c = record {
  goes_back = refl;
  published_when_it_counts = refl;
  lease_counts_from_there = refl;
  lease_ends_from_there = refl;
  clock_stays = refl;
  unrecorded_moment = refl;
  past_the_end = refl;
  at_the_end_itself = refl;
  published_at_the_end = refl;
  no_lease_ends_there = refl;
  tick = refl;
  tick_with_nothing_to_do = refl;
  tick_that_ends_a_lease = refl;
  tick_behind_it = refl;
  counts_behind_it = refl;
  tick_of_nothing = refl;
  pull_at_an_end = refl;
  read_at_an_end = refl;
  update_without_change_at_an_end = refl;
  missing_name_at_an_end = refl;
  bad_argument_at_an_end = refl;
}
