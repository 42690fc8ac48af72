use Rattle.std.proofs.Common.{refl}
use Rattle.std.specs.Fmt.{digits}
use Rattle.ps_examples.proofs.examples.dead_standing_examples.Goals as goal

pub returns : goal.returns
unfolding digits
returns c = record {
  dead_lettered = refl;
  forwarded = refl;
  forwarded_at_its_source = refl;
  source_at_the_other = refl;
}
