use Rattle.std.proofs.Common.{refl}
use Rattle.ps_examples.proofs.examples.ordering_examples.Goals as goal

pub returns : goal.returns
returns c = record {
  all_out = refl;
  one_by_one = refl;
  early = refl;
  early_is_recorded = refl;
  marks_after_early = refl;
  counts_after_early = refl;
  back_in_order = refl;
  marks_after_the_failure = refl;
  marks_after_the_pull = refl;
  counts_after_the_pull = refl;
  two_ahead = refl;
  all_done = refl;
  still_ahead = refl;
  caught_up = refl;
  together = refl;
  own_turns = refl;
  only_others = refl;
  still_held_back = refl;
  no_more_held_back = refl;
}
