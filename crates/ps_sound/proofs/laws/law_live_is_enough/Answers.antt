use Rattle.ps_sound.proofs.living.LiveHistories.{live_is_enough, live_replies_the_same}
use Rattle.ps_sound.proofs.laws.law_live_is_enough.Goals as goal

pub returns : goal.returns
returns c = record { live_is_enough = live_is_enough; live_replies_the_same = live_replies_the_same }
