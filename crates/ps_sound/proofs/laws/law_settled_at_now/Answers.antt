use Rattle.ps_sound.proofs.histories.LawProofs.{settled_at_now}
use Rattle.ps_sound.proofs.laws.law_settled_at_now.Goals as goal

pub returns : goal.returns
returns c = record { settled_at_now = settled_at_now }
