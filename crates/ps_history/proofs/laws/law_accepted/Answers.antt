use Rattle.ps_history.proofs.Accepted.{accepts}
use Rattle.ps_history.proofs.laws.law_accepted.Goals as goal

pub returns : goal.returns
returns c = accepts
