use Rattle.std.proofs.Common.{rules, tests, not}
use Rattle.std.proofs.lemmas.List.Elements.{filter_from_retain}
use Rattle.ps_model.specs.declared.mark.Slot.{Slot}
use Rattle.ps_model.specs.Slots.{is_gone}
use Rattle.ps_sub.proofs.marks.drop_gone.Goals as goal

pub returns : goal.returns
returns c = filter_from_retain _ (λ (s : Slot). not (is_gone s.mark)) (λ p x b q k. search (rules, tests)) _ _ _ c.retain.ensures.filtered
