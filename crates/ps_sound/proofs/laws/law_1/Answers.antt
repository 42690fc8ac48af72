use Rattle.ps_sound.proofs.histories.HandedFirst.{handed_out_once}
use Rattle.ps_sound.proofs.laws.law_1.Goals as goal

pub returns : goal.returns
returns c = record { handed_out_once = handed_out_once }
