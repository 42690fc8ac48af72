use Rattle.std.proofs.Common.{refl}
use Rattle.ps_examples.proofs.examples.time_seek_examples.Goals as goal

pub returns : goal.returns
returns c = record {
  sought = refl;
  recorded = refl;
  both_open = refl;
  counts_of_both_open = refl;
  former_lease = refl;
  former_lease_is_not_recorded = refl;
  former_lease_exactly_once = refl;
  given_up_and_sought = refl;
  lease_is_forgotten = refl;
  second_open = refl;
  none_open = refl;
  counts_of_none_open = refl;
  former_lease_of_none = refl;
  again = refl;
  of_no_message = refl;
  of_no_message_is_not_recorded = refl;
  published_behind_it = refl;
  published_before_it = refl;
  published_on_either_side = refl;
  made_in_time = refl;
  made_in_time_and_sought = refl;
  made_too_late_and_sought = refl;
  made_just_in_time_and_sought = refl;
  of_a_detached_one = refl;
  of_none = refl;
}
