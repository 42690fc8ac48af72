use Rattle.std.proofs.Common.{refl}
use Rattle.ps_examples.proofs.examples.deadline_examples.Goals as goal

pub returns : goal.returns
returns c = record {
  put_off = refl;
  put_off_is_recorded = refl;
  just_before_it = refl;
  just_at_it = refl;
  brought_near = refl;
  just_before_the_near_one = refl;
  at_the_near_one = refl;
  the_same_deadline = refl;
  given_up = refl;
  mark_after_giving_up = refl;
  out_again_at_once = refl;
  last_keeps = refl;
  last_keeps_until = refl;
  last_keeps_no_longer = refl;
  last_gives_up = refl;
  last_counts_once = refl;
  ended = refl;
  ended_is_a_tick = refl;
  out_again = refl;
  too_long = refl;
  longest = refl;
  no_ids = refl;
  no_subscription = refl;
  too_long_for_all = refl;
}
