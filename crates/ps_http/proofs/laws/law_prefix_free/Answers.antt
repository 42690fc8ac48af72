use Rattle.ps_http.proofs.RequestStays.{prefix_free}
use Rattle.ps_http.proofs.laws.law_prefix_free.Goals as goal

pub returns : goal.returns
returns c = prefix_free
