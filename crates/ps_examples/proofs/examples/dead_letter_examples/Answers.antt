use Rattle.std.proofs.Common.{refl}
use Rattle.ps_examples.proofs.examples.dead_letter_examples.Goals as goal

pub returns : goal.returns
returns c = record {
  deliveries = refl;
  deliveries_are_recorded = refl;
  fifth_lease = refl;
  before_the_fifth_failure = refl;
  nothing_is_recorded_then = refl;
  nothing_left = refl;
  topic_deleted = refl;
  sixth_delivery = refl;
  sixth_delivery_is_recorded = refl;
  back_to_the_backlog = refl;
  no_such_topic = refl;
  nothing_is_recorded_of_it = refl;
  neither_topic = refl;
  no_such_topic_on_a_taken_name = refl;
  no_such_topic_in_an_update = refl;
  no_subscription_to_update = refl;
  policy_not_named = refl;
  set_later = refl;
  too_few = refl;
  too_many = refl;
  most = refl;
}
