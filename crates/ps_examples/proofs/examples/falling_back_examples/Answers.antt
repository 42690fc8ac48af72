use Rattle.std.proofs.Common.{refl}
use Rattle.ps_examples.proofs.examples.falling_back_examples.Goals as goal

pub returns : goal.returns
returns c = record {
  first_given_up = refl;
  all_back = refl;
  all_again = refl;
  old_lease = refl;
  old_lease_is_recorded = refl;
  old_lease_is_ahead = refl;
  the_others_again = refl;
  older_lease = refl;
  older_lease_unrecorded = refl;
  both_old_leases = refl;
  only_its_key = refl;
  the_others_stay = refl;
  only_later = refl;
  unordered = refl;
  ended_together = refl;
  put_off_in_vain = refl;
  put_off_at_once_in_vain = refl;
  ahead_ended = refl;
  ahead_unleased = refl;
  ahead_with_failures = refl;
  back_with_failures = refl;
  ending_is_recorded = refl;
  nothing_ends = refl;
}
