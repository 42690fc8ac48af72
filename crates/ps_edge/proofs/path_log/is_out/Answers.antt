use Rattle.std.proofs.Common.{sym, ap, ◌∙◌, Option, false}
use Rattle.std.specs.Prelude.{is_none}
use Rattle.std.specs.Option.{option_map_or}
use Rattle.ps_edge.specs.declared.path_log.PathLog.{PathLog}
use Rattle.ps_edge.proofs.PathLogLemmas.{none-of, slot_at-placed, slot_at-unplaced}
use Rattle.ps_edge.proofs.path_log.is_out.Goals as goal

pub returns-in-Some : goal.returns-in-Some
returns-in-Some g c =
    none-of c.is_none.result _ (sym c.is_none.ensures) ∙ ap (λ (s : PathLog _). is_none s.keeper) (sym c.index-slots-at.is) ∙ sym (ap (λ (o : Option (Option _)). option_map_or is_none o false) (slot_at-placed c.args.path.now c.args.slots.now c.in-Some.at c.index-slots-at.result (sym c.in-Some.ensures) c.index-slots-at.is))

pub returns-in-None : goal.returns-in-None
returns-in-None g c =
    sym (ap (λ (o : Option (Option _)). option_map_or is_none o false) (slot_at-unplaced c.args.path.now c.args.slots.now (sym c.in-None.ensures)))
