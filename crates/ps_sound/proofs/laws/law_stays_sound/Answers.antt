use Rattle.ps_sound.proofs.phases.Stepping.{stays_sound}
use Rattle.ps_sound.proofs.laws.law_stays_sound.Goals as goal

pub returns : goal.returns
returns c = record { stays_sound = stays_sound }
