use Rattle.ps_sound.proofs.living.GoneLaw.{gone_never_matters}
use Rattle.ps_sound.proofs.living.LiveHistories.{live_is_sound}
use Rattle.ps_sound.proofs.laws.law_gone_never_matters.Goals as goal

pub returns : goal.returns
returns c = record { gone_never_matters = gone_never_matters; live_is_sound = live_is_sound }
