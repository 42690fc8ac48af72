use Rattle.std.proofs.Common.{refl}
use Rattle.ps_examples.proofs.examples.detach_examples.Goals as goal

pub returns : goal.returns
returns c = record {
  deleted = refl;
  without_its_topic = refl;
  retention_goes_with_its_topic = refl;
  pull_without_its_topic = refl;
  detached_without_its_topic = refl;
  shown_without_its_topic = refl;
  pull = refl;
  pull_of_nothing = refl;
  another_name = refl;
  counts_before = refl;
  recorded = refl;
  counts_behind = refl;
  again = refl;
  again_is_not_recorded = refl;
  shown = refl;
  published_behind = refl;
  counts_of_published_behind = refl;
  acknowledged = refl;
  acknowledged_is_not_recorded = refl;
  acknowledged_exactly_once = refl;
  modified = refl;
  modified_exactly_once = refl;
  updated = refl;
  detach_of_none = refl;
}
