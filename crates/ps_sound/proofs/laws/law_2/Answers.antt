use Rattle.ps_sound.proofs.histories.ForGood.{acknowledged_for_good}
use Rattle.ps_sound.proofs.laws.law_2.Goals as goal

pub returns : goal.returns
returns c = record { acknowledged_for_good = acknowledged_for_good }
