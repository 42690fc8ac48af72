use Rattle.std.proofs.Common.{refl}
use Rattle.ps_examples.proofs.examples.list_examples.Goals as goal

pub returns : goal.returns
returns c = record {
  first_page = refl;
  second_page = refl;
  page_that_just_fits = refl;
  page_without_a_size = refl;
  token_of_no_name = refl;
  token_behind_all = refl;
  another_project = refl;
  not_recorded = refl;
  size_left_out = refl;
  size_of_one = refl;
  greatest_size = refl;
  greater_size = refl;
  more_than_a_page = refl;
  just_a_page = refl;
  subscriptions = refl;
  subscriptions_of_a_topic = refl;
  first_of_a_topic = refl;
  subscriptions_of_no_topic = refl;
  detached_is_left_out = refl;
  detached_is_shown = refl;
  topic_deleted = refl;
  subscriptions_of_a_deleted_topic = refl;
  settles = refl;
}
