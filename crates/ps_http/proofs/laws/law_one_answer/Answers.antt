use Rattle.ps_http.proofs.OneAnswer.{one_answer}
use Rattle.ps_http.proofs.laws.law_one_answer.Goals as goal

pub returns : goal.returns
returns c = one_answer
