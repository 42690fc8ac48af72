use Rattle.std.proofs.Common.{refl}
use Rattle.std.specs.Fmt.{digits}
use Rattle.ps_examples.proofs.examples.load_examples.Goals as goal

pub returns : goal.returns
unfolding digits
returns c = record {
  fourteen_published = refl;
  fourteen = refl;
  none = refl;
  one = refl;
  seven = refl;
  thirty_three = refl;
}
