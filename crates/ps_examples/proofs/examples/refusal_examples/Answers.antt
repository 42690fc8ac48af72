use Rattle.std.proofs.Common.{refl}
use Rattle.ps_examples.proofs.examples.refusal_examples.Goals as goal

pub returns : goal.returns
returns c = record {
  topic_first = refl;
  dead_topic_second = refl;
  taken_name_last = refl;
  subscription_first = refl;
  snapshot_second = refl;
  detached_last = refl;
  subscription_of_a_snapshot = refl;
  taken_snapshot = refl;
  detached_before_deleted = refl;
  topic_deleted = refl;
  labels_before_names = refl;
  ids_before_names = refl;
  ids_of_a_modification_before_names = refl;
  seconds_before_names = refl;
  bad_argument_of_a_full_record = refl;
  read_of_a_full_record = refl;
  missing_name_in_a_full_record = refl;
  taken_name_in_a_full_record = refl;
  list_of_a_full_record = refl;
  tick_of_a_full_record = refl;
  nothing_is_recorded = refl;
  nothing_settles = refl;
  last_entry = refl;
  behind_the_last_entry = refl;
  read_before_the_last_entry = refl;
}
