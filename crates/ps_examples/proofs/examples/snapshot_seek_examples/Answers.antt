use Rattle.std.proofs.Common.{refl}
use Rattle.ps_examples.proofs.examples.snapshot_seek_examples.Goals as goal

pub returns : goal.returns
returns c = record {
  sought_for = refl;
  recorded = refl;
  counts = refl;
  former_lease = refl;
  former_lease_is_not_recorded = refl;
  pulled = refl;
  counts_of_pulled = refl;
  leases_end = refl;
  again_without_change = refl;
  later_one_acknowledged = refl;
  acknowledged_before = refl;
  ahead_before = refl;
  nothing_before = refl;
  second_sought = refl;
  only_what_it_asks_for = refl;
  another_topic = refl;
  topic_deleted = refl;
  pulled_of_a_deleted_topic = refl;
}
