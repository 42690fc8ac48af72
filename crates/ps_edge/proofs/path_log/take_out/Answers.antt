use Rattle.std.proofs.Common.{Option, sym, ap, ◌∙◌}
use Rattle.std.specs.Prelude.{option_and_then}
use Rattle.ps_edge.proofs.PathLogLemmas.{found-in, stored-placed, slot_at-placed, slot_at-unplaced, stored-unplaced, on-err}
use Rattle.ps_edge.proofs.path_log.take_out.Goals as goal

pub returns-in-Some-clause-keeper : goal.returns-in-Some-clause-keeper
returns-in-Some-clause-keeper g c =
    let found = found-in c.args.path.now c.as_slice.result.now c.args.slots.now.items _ c.as_slice.ensures.value c.in-Some.ensures in
    c.take.ensures.value ∙ sym (ap (λ (o : Option (Option _)). option_and_then (λ k. k) o) (slot_at-placed c.args.path.now c.args.slots.now.items c.in-Some.at c.index_mut-slot.result.now found c.index_mut-slot.ensures.value))

pub returns-in-Some-clause-ok : goal.returns-in-Some-clause-ok
returns-in-Some-clause-ok g c =
    let found = found-in c.args.path.now c.as_slice.result.now c.args.slots.now.items _ c.as_slice.ensures.value c.in-Some.ensures in
    rw c.take.ensures.after (stored-placed c.args.path.now _ c.args.slots.now.items c.in-Some.at c.index_mut-slot.result.now found c.index_mut-slot.ensures.value)

pub returns-in_ok-push-in-None-clause-keeper : goal.returns-in_ok-push-in-None-clause-keeper
returns-in_ok-push-in-None-clause-keeper g c =
    let found = found-in c.args.path.now c.as_slice.result.now c.args.slots.now.items _ c.as_slice.ensures.value c.in-None.ensures in
    sym (ap (λ (o : Option (Option _)). option_and_then (λ k. k) o) (slot_at-unplaced c.args.path.now c.args.slots.now.items found))

pub returns-in_ok-push-in-None-clause-ok : goal.returns-in_ok-push-in-None-clause-ok
returns-in_ok-push-in-None-clause-ok g c =
    let found = found-in c.args.path.now c.as_slice.result.now c.args.slots.now.items _ c.as_slice.ensures.value c.in-None.ensures in
    let path = c.in_ok-path-in-None.ensures in
    let made = stored-unplaced c.args.path.now _ c.args.slots.now.items found in
    c.in_ok-push-in-None.ensures.items ∙ rw path (sym made)

pub returns-in_err-path-in-None-clause-fails : goal.returns-in_err-path-in-None-clause-fails
returns-in_err-path-in-None-clause-fails g c =
    on-err c.from_residual.result (slot_at-unplaced c.args.path.now c.args.slots.now.items (found-in c.args.path.now c.as_slice.result.now c.args.slots.now.items _ c.as_slice.ensures.value c.in-None.ensures))

pub returns-in_err-push-in-None-clause-fails : goal.returns-in_err-push-in-None-clause-fails
returns-in_err-push-in-None-clause-fails g c =
    on-err c.from_residual-in_err-push-in-None.result (slot_at-unplaced c.args.path.now c.args.slots.now.items (found-in c.args.path.now c.as_slice.result.now c.args.slots.now.items _ c.as_slice.ensures.value c.in-None.ensures))
