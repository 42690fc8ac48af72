use Rattle.std.proofs.Common.{refl}
use Rattle.ps_examples.proofs.examples.publish_limit_examples.Goals as goal

pub returns : goal.returns
returns c = record {
  hundred_attributes = refl;
  one_attribute_more = refl;
  empty_key = refl;
  shortest_key = refl;
  longest_key = refl;
  longer_key = refl;
  empty_value = refl;
  longest_value = refl;
  longer_value = refl;
  longest_ordering_key = refl;
  longer_ordering_key = refl;
  number_of_attributes_first = refl;
  then_their_keys = refl;
  then_their_values = refl;
  emptiness_before_the_ordering_key = refl;
  second_message = refl;
  first_of_two = refl;
  number_of_messages_first = refl;
}
