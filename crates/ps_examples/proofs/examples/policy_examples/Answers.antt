use Rattle.std.proofs.Common.{refl}
use Rattle.ps_examples.proofs.examples.policy_examples.Goals as goal

pub returns : goal.returns
returns c = record {
  empty_key = refl;
  longest_pair = refl;
  shortest_pair = refl;
  longer_key = refl;
  longer_value = refl;
  most_labels = refl;
  one_label_more = refl;
  no_attempts = refl;
  too_few_attempts = refl;
  fewest_attempts = refl;
  most_attempts = refl;
  too_many_attempts = refl;
  longest_delays = refl;
  least_too_long = refl;
  greatest_too_long = refl;
  seconds_first = refl;
  then_retention = refl;
  then_labels = refl;
  then_expiration = refl;
  then_the_filter = refl;
  then_attempts = refl;
  then_delays = refl;
  labels_of_a_topic_first = refl;
  masked_delays_and_labels = refl;
  masked_delays = refl;
}
