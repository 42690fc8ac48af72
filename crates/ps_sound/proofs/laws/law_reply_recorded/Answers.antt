use Rattle.ps_sound.proofs.histories.Recording.{reply_is_recorded, recorded_is_accepted}
use Rattle.ps_sound.proofs.laws.law_reply_recorded.Goals as goal

pub returns : goal.returns
returns c = record { told_again = reply_is_recorded; accepted = recorded_is_accepted }
