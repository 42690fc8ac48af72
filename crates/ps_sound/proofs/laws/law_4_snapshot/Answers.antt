use Rattle.ps_sound.proofs.histories.SoughtLaws.{sought_to_snapshot}
use Rattle.ps_sound.proofs.laws.law_4_snapshot.Goals as goal

pub returns : goal.returns
returns c = record { sought_to_snapshot = sought_to_snapshot }
