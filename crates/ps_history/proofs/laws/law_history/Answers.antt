use Rattle.ps_history.proofs.Accepted.{histories_lead}
use Rattle.ps_history.proofs.laws.law_history.Goals as goal

pub returns : goal.returns
returns c = histories_lead
