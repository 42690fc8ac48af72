use Rattle.std.proofs.Common.{sym, ap, ◌∙◌, Option}
use Rattle.std.specs.Prelude.{is_some, option_and_then}
use Rattle.ps_edge.specs.declared.path_log.PathLog.{PathLog}
use Rattle.ps_edge.proofs.PathLogLemmas.{slot_at-placed, slot_at-unplaced}
use Rattle.ps_edge.proofs.path_log.is_kept.Goals as goal

pub returns-in-Some : goal.returns-in-Some
returns-in-Some g c =
    c.is_some.ensures ∙ ap (λ (s : PathLog _). is_some s.keeper) (sym c.index-slots-at.is) ∙ sym (ap (λ (o : Option (Option _)). is_some (option_and_then (λ k. k) o)) (slot_at-placed c.args.path.now c.args.slots.now c.in-Some.at c.index-slots-at.result (sym c.in-Some.ensures) c.index-slots-at.is))

pub returns-in-None : goal.returns-in-None
returns-in-None g c =
    sym (ap (λ (o : Option (Option _)). is_some (option_and_then (λ k. k) o)) (slot_at-unplaced c.args.path.now c.args.slots.now (sym c.in-None.ensures)))
