use Rattle.std.proofs.Common.{refl}
use Rattle.ps_examples.proofs.examples.acknowledge_examples.Goals as goal

pub returns : goal.returns
returns c = record {
  once_in_time = refl;
  entries_after_once = refl;
  once_again = refl;
  once_again_unrecorded = refl;
  entries_after_again = refl;
  once_given_twice = refl;
  once_given_twice_recorded = refl;
  entries_after_given_twice = refl;
  given_twice = refl;
  nothing_after_given_twice = refl;
  failed_ids = refl;
  failed_ids_unrecorded = refl;
  one_of_two = refl;
  one_of_two_recorded = refl;
  the_other_of_two = refl;
  of_another = refl;
  of_another_unrecorded = refl;
  still_out_on_both = refl;
  once_of_another = refl;
  before_the_last = refl;
  before_the_last_unrecorded = refl;
  given_up = refl;
  never_out = refl;
  no_ids = refl;
  no_subscription = refl;
}
