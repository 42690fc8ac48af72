use Rattle.ps_ackid.proofs.IdLemmas.{same_text}
use Rattle.ps_ackid.proofs.laws.texts_differ.Goals as goal

pub returns : goal.returns
returns c = same_text
