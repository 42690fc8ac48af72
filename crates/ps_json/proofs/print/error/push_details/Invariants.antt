use Rattle.std.proofs.Common.{◌≡◌, ◌++◌, map, take}
use Rattle.serde_json.specs.View.{view}
use Rattle.ps_json.specs.Replies.{detail_data}
use Rattle.ps_json.proofs.print.error.push_details.Given as goal

-- the ids so far were added
abbrev pub invariant-loop-id : goal.invariant-loop-id
invariant-loop-id l = map view l.details.items ≡ map view l.initial.details.items ++ map (detail_data l.reason) (take l.id-index l.ids)
