use Rattle.ps_sound.proofs.replies.Published.{published_is_there}
use Rattle.ps_sound.proofs.laws.law_published.Goals as goal

pub returns : goal.returns
returns c = record { published = published_is_there }
