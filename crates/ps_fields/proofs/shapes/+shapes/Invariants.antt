use Rattle.std.proofs.Common.{◌≡◌, ◌+◌, ◌*◌, ◌-◌, drop, map}
use Rattle.serde_json.specs.Find.{get_member}
use Rattle.serde_json.specs.View.{members_view}
use Rattle.ps_message.specs.Lists.{first_of}
use Rattle.ps_fields.specs.Rows.{row_of}
use Rattle.ps_fields.specs.Shapes.{first_wrong, wrong_field}
use Rattle.ps_fields.proofs.shapes.+shapes.Given as goal

abbrev pub decreases-first_wrong : goal.decreases-first_wrong
decreases-first_wrong l = 3 * l.deep

abbrev pub decreases-wrong_field : goal.decreases-wrong_field
decreases-wrong_field l = 3 * l.deep + 2

abbrev pub decreases-wrong_inside : goal.decreases-wrong_inside
decreases-wrong_inside l = 3 * l.deep + 1

-- no row so far is wrong, so all is said by those that are left
abbrev pub invariant-first_wrong-loop-name : goal.invariant-first_wrong-loop-name
invariant-first_wrong-loop-name l =
    first_wrong l.deep l.fn.object l.at (members_view l.fields.entries)
    ≡ first_of (map (λ row. wrong_field (first_wrong (l.deep - 1)) l.at row (get_member row.0 (members_view l.fields.entries))) (map row_of (drop l.name-index l.name-items)))
