use Rattle.std.proofs.Common.{refl}
use Rattle.ps_examples.proofs.examples.ordered_once_examples.Goals as goal

pub returns : goal.returns
returns c = record {
  early = refl;
  early_is_unrecorded = refl;
  marks_after_early = refl;
  entries_after_early = refl;
  two_early = refl;
  of_each_kind = refl;
  of_each_kind_recorded = refl;
  the_rest = refl;
  nothing_left = refl;
  lease_ended = refl;
  lease_ended_unrecorded = refl;
  all_again = refl;
}
