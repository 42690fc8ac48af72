use Rattle.ps_sound.proofs.replies.Received.{received_is_handed_out}
use Rattle.ps_sound.proofs.laws.law_received.Goals as goal

pub returns : goal.returns
returns c = record { received = received_is_handed_out }
