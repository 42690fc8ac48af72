use Rattle.ps_sound.proofs.phases.Stepping.{sound_after_histories}
use Rattle.ps_sound.proofs.laws.law_sound_after_histories.Goals as goal

pub returns : goal.returns
returns c = record { sound_after_histories = sound_after_histories }
