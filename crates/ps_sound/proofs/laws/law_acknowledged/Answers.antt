use Rattle.ps_sound.proofs.replies.Acknowledging.{acknowledged_is_so}
use Rattle.ps_sound.proofs.laws.law_acknowledged.Goals as goal

pub returns : goal.returns
returns c = record { acknowledged = acknowledged_is_so }
