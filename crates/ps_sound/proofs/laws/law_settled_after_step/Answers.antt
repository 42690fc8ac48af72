use Rattle.ps_sound.proofs.histories.LawProofs.{settled_after_step}
use Rattle.ps_sound.proofs.laws.law_settled_after_step.Goals as goal

pub returns : goal.returns
returns c = record { settled_after_step = settled_after_step }
