use Rattle.ps_sound.proofs.histories.Recording.{settles_for_good}
use Rattle.ps_sound.proofs.laws.law_settles_for_good.Goals as goal

pub returns : goal.returns
returns c = record { settles_for_good = settles_for_good }
