use Rattle.ps_http.proofs.RequestStays.{stays}
use Rattle.ps_http.proofs.laws.law_stays.Goals as goal

pub returns : goal.returns
returns c = stays
