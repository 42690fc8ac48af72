use Rattle.std.proofs.Common.{refl}
use Rattle.ps_examples.proofs.examples.snapshot_examples.Goals as goal

pub returns : goal.returns
returns c = record {
  created = refl;
  created_is_recorded = refl;
  counts_of_created = refl;
  oldest_is_acknowledged = refl;
  nothing_is_listed = refl;
  at_the_last_moment = refl;
  created_twice = refl;
  just_an_hour = refl;
  less_than_an_hour = refl;
  less_than_an_hour_is_not_recorded = refl;
  counts_before_the_seek = refl;
  read_before_its_end = refl;
  leases_ended_then = refl;
  read_at_its_end = refl;
  it_ended_then = refl;
  updated = refl;
  updated_is_recorded = refl;
  updated_to_the_same = refl;
  deleted = refl;
  deleted_again = refl;
  of_a_deleted_topic = refl;
  of_the_topic = refl;
  of_the_deleted_topic = refl;
  of_the_project = refl;
}
