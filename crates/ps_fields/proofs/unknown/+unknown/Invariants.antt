use Rattle.std.proofs.Common.{◌≡◌, ◌+◌, ◌*◌, ◌-◌, drop, fold, map}
use Rattle.std.specs.List.{enumerate_from, flat_map}
use Rattle.serde_json.specs.View.{view, members_view}
use Rattle.ps_fields.specs.Fields.{pairs_of}
use Rattle.ps_fields.specs.Rows.{kind_in, rows}
use Rattle.ps_fields.specs.Paths.{lesser}
use Rattle.ps_fields.specs.Unknown.{unknown_at, unknown_in_item, unknown_in_items, unknown_paths}
use Rattle.ps_fields.proofs.unknown.+unknown.Given as goal

abbrev pub decreases-least_unknown : goal.decreases-least_unknown
decreases-least_unknown l = 3 * l.deep

abbrev pub decreases-with_field : goal.decreases-with_field
decreases-with_field l = 3 * l.deep + 2

abbrev pub decreases-with_items : goal.decreases-with_items
decreases-with_items l = 3 * l.deep + 1

-- the least so far, and the paths that are left
abbrev pub invariant-least_unknown-loop-name : goal.invariant-least_unknown-loop-name
invariant-least_unknown-loop-name l =
    fold lesser l.least (flat_map (λ field. unknown_at (unknown_paths (l.deep - 1)) l.at (kind_in field.0 (rows l.object)) field) (pairs_of (members_view l.name-iterator)))
    ≡ fold lesser l.initial.least (unknown_paths l.deep l.object l.at (members_view l.fields.entries))

-- the least so far, and the items that are left
abbrev pub invariant-with_items-loop-place : goal.invariant-with_items-loop-place
invariant-with_items-loop-place l =
    fold lesser l.least (flat_map (unknown_in_item (unknown_paths l.deep) l.object l.list) (enumerate_from l.place (map view (drop l.place l.items))))
    ≡ fold lesser l.initial.least (unknown_in_items (unknown_paths l.deep) l.object l.list (map view l.items))
