use Rattle.std.proofs.Common.{refl}
use Rattle.ps_examples.proofs.examples.lease_examples.Goals as goal

pub returns : goal.returns
returns c = record {
  topic_made = refl;
  subscription_made = refl;
  published = refl;
  published_is_recorded = refl;
  first_pull = refl;
  first_pull_is_recorded = refl;
  mark_after_a_pull = refl;
  just_before_the_deadline = refl;
  nothing_is_recorded_then = refl;
  at_the_deadline = refl;
  at_the_deadline_is_recorded = refl;
  counts_after_a_pull = refl;
  late = refl;
  late_is_recorded = refl;
  nothing_after_late = refl;
  late_exactly_once = refl;
  late_exactly_once_is_a_tick = refl;
  pulled_again_exactly_once = refl;
  in_time = refl;
  entries_after_it = refl;
  again = refl;
  entries_after_both = refl;
  nothing_after_both = refl;
  counts_after_both = refl;
  no_earlier_moment = refl;
}
