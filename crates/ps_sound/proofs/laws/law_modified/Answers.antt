use Rattle.ps_sound.proofs.replies.Modifying.{modified_is_so}
use Rattle.ps_sound.proofs.laws.law_modified.Goals as goal

pub returns : goal.returns
returns c = record { modified = modified_is_so }
