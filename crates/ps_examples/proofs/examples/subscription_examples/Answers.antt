use Rattle.std.proofs.Common.{refl}
use Rattle.ps_examples.proofs.examples.subscription_examples.Goals as goal

pub returns : goal.returns
returns c = record {
  created = refl;
  created_is_recorded = refl;
  retention_of_its_topic_is_shown = refl;
  created_twice = refl;
  read = refl;
  read_is_not_recorded = refl;
  read_where_none_is = refl;
  updated = refl;
  updated_is_recorded = refl;
  updated_again_is_not_recorded = refl;
  ordering_and_filter_stay = refl;
  ordering_and_filter_are_not_recorded = refl;
  all_fields = refl;
  all_fields_are_recorded = refl;
  push_alone = refl;
  push_alone_is_not_recorded = refl;
  no_field = refl;
  unknown_field = refl;
  known_and_unknown_field = refl;
  dead_topic_missing = refl;
  dead_topic_not_masked = refl;
  update_of_none = refl;
  deleted = refl;
  deleted_again = refl;
  counts_after_deletion = refl;
}
