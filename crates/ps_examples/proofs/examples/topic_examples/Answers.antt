use Rattle.std.proofs.Common.{refl}
use Rattle.ps_examples.proofs.examples.topic_examples.Goals as goal

pub returns : goal.returns
returns c = record {
  created = refl;
  created_is_recorded = refl;
  created_twice = refl;
  created_twice_is_not_recorded = refl;
  read = refl;
  read_is_not_recorded = refl;
  read_where_none_is = refl;
  updated = refl;
  updated_is_recorded = refl;
  updated_again = refl;
  updated_again_is_not_recorded = refl;
  rest_is_kept = refl;
  rest_is_recorded_as_default = refl;
  retention_ends = refl;
  both_fields = refl;
  no_field = refl;
  unknown_field = refl;
  one_known_one_unknown = refl;
  no_field_of_no_topic = refl;
  masked_field_is_checked = refl;
  update_of_no_topic = refl;
  deleted = refl;
  deleted_is_recorded = refl;
  deleted_again = refl;
}
