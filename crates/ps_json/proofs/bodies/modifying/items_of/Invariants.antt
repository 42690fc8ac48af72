use Rattle.std.proofs.Common.{◌≡◌, take}
use Rattle.ps_json.specs.Deliveries.{items_of}
use Rattle.ps_json.proofs.bodies.modifying.items_of.Given as goal

-- those of the ids so far
abbrev pub invariant-loop-id : goal.invariant-loop-id
invariant-loop-id l = l.items ≡ items_of l.seconds (take l.id-index l.ids)
