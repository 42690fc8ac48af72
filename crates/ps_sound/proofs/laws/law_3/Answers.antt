use Rattle.ps_sound.proofs.histories.LawProofs.{leased_in_order}
use Rattle.ps_sound.proofs.laws.law_3.Goals as goal

pub returns : goal.returns
returns c = record { leased_in_order = leased_in_order }
