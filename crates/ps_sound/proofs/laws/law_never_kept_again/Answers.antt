use Rattle.ps_sound.proofs.histories.LawProofs.{never_kept_again}
use Rattle.ps_sound.proofs.laws.law_never_kept_again.Goals as goal

pub returns : goal.returns
returns c = record { never_kept_again = never_kept_again }
