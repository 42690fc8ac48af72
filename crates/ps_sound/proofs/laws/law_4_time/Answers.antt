use Rattle.ps_sound.proofs.histories.SoughtLaws.{sought_to_time}
use Rattle.ps_sound.proofs.laws.law_4_time.Goals as goal

pub returns : goal.returns
returns c = record { sought_to_time = sought_to_time }
