use Rattle.std.proofs.Common.{◌≡◌, ◌++◌, map, drop}
use Rattle.std.specs.List.{filter_map, list_any}
use Rattle.serde_json.specs.View.{view}
use Rattle.ps_json.specs.Deliveries.{id_of, is_no_id}
use Rattle.ps_json.proofs.bodies.acknowledging.read_ids.Given as goal

-- the items so far are ids, and stand before those that are left
abbrev pub invariant-loop-item : goal.invariant-loop-item
invariant-loop-item l =
    (list_any is_no_id (map view l.items) ≡ list_any is_no_id (map view (drop l.item-index l.items)))
    × (l.ids ++ filter_map id_of (map view (drop l.item-index l.items)) ≡ filter_map id_of (map view l.items))
