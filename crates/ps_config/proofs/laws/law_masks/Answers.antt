use Rattle.ps_config.proofs.MaskLemmas.{topic_is_masked, sub_is_masked}
use Rattle.ps_config.proofs.laws.law_masks.Goals as goal

pub returns : goal.returns
returns c = record { topic = topic_is_masked; sub = sub_is_masked }
