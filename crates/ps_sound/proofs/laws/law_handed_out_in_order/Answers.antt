use Rattle.ps_sound.proofs.histories.LawProofs.{handed_out_in_order}
use Rattle.ps_sound.proofs.laws.law_handed_out_in_order.Goals as goal

pub returns : goal.returns
returns c = record { handed_out_in_order = handed_out_in_order }
