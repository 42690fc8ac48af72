use Rattle.std.proofs.Common.{refl}
use Rattle.ps_examples.proofs.examples.retention_examples.Goals as goal

pub returns : goal.returns
returns c = record {
  at_its_publish = refl;
  just_inside = refl;
  as_old_as_the_window = refl;
  out_just_inside = refl;
  ahead_just_inside = refl;
  ahead_outside = refl;
  topic_just_inside = refl;
  topic_as_old = refl;
  shorter_window_of_the_topic = refl;
  listed = refl;
  not_listed = refl;
  behind_the_bound = refl;
  the_bound_itself = refl;
  second_of_two_snapshots = refl;
  acknowledged = refl;
  acknowledged_and_retained = refl;
  retained_no_longer = refl;
  dead = refl;
  acknowledged_in_the_topics_window = refl;
  acknowledged_in_a_snapshot = refl;
  waiting_expires = refl;
  out_expires = refl;
  ahead_goes_as_acknowledged = refl;
  acknowledged_goes = refl;
  dead_goes = refl;
}
