use Rattle.std.proofs.Common.{refl}
use Rattle.ps_examples.proofs.examples.publish_examples.Goals as goal

pub returns : goal.returns
returns c = record {
  thousand = refl;
  numbers_go_on = refl;
  recorded_as_made = refl;
  counts_after_two = refl;
  nobody_gets_it = refl;
  counts_where_nobody_gets_it = refl;
  counts_where_the_topic_keeps_it = refl;
  thousand_and_one = refl;
  no_message = refl;
  refused_is_not_recorded = refl;
  neither_payload_nor_attributes = refl;
  attributes_alone = refl;
  ordering_key_alone = refl;
  no_topic = refl;
  no_topic_and_no_message = refl;
}
