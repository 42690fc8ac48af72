use Rattle.std.proofs.Common.{ap, ◌∙◌, not}
use Rattle.ps_edge.proofs.PathLogLemmas.{found-in, stored-placed, slot_at-placed, slot_at-unplaced, back-is, back-not, back-nowhere}
use Rattle.ps_edge.proofs.path_log.put_back.Goals as goal

pub returns-then-is_none : goal.returns-then-is_none
returns-then-is_none g c =
    let found = found-in c.args.path.now c.as_slice.result.now c.args.slots.now.items _ c.as_slice.ensures.value c.in-Some.ensures in
    stored-placed c.args.path.now _ c.args.slots.now.items c.in-Some.at c.index_mut-slot.result.now found c.index_mut-slot.ensures.value
    ∙ back-is c.args.path.now c.args.keeper c.args.slots.now.items _ (slot_at-placed c.args.path.now c.args.slots.now.items c.in-Some.at c.index.result.now found c.index.ensures) (ap not c.if-is_none.ensures)

pub returns-else-is_none : goal.returns-else-is_none
returns-else-is_none g c =
    let found = found-in c.args.path.now c.as_slice.result.now c.args.slots.now.items _ c.as_slice.ensures.value c.in-Some.ensures in
    back-not c.args.path.now c.args.keeper c.args.slots.now.items _ (slot_at-placed c.args.path.now c.args.slots.now.items c.in-Some.at c.index.result.now found c.index.ensures) (ap not c.if-is_none.ensures)

pub returns-in_default : goal.returns-in_default
returns-in_default g c =
    back-nowhere c.args.path.now c.args.keeper c.args.slots.now.items (slot_at-unplaced c.args.path.now c.args.slots.now.items (found-in c.args.path.now c.as_slice.result.now c.args.slots.now.items _ c.as_slice.ensures.value c.in_default.ensures))
