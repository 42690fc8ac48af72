use Rattle.std.proofs.Common.{refl}
use Rattle.ps_examples.proofs.examples.setting_examples.Goals as goal

pub returns : goal.returns
returns c = record {
  no_seconds = refl;
  too_few_seconds = refl;
  fewest_seconds = refl;
  most_seconds = refl;
  too_many_seconds = refl;
  too_short = refl;
  shortest = refl;
  longest = refl;
  too_long = refl;
  topic_too_short = refl;
  topic_shortest = refl;
  topic_longest = refl;
  topic_too_long = refl;
  ends_too_soon = refl;
  ends_soonest = refl;
  ends_latest = refl;
  ends_too_late = refl;
  never_ends = refl;
}
