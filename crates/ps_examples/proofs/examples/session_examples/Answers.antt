use Rattle.std.proofs.Common.{refl}
use Rattle.ps_examples.proofs.examples.session_examples.Goals as goal

pub returns : goal.returns
returns c = record {
  every_answer = refl;
  every_entry = refl;
  counts = refl;
}
