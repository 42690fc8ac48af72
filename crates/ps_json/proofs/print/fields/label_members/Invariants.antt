use Rattle.std.proofs.Common.{◌≡◌, take}
use Rattle.serde_json.specs.View.{members_view}
use Rattle.ps_json.specs.Objects.{label_members}
use Rattle.ps_json.proofs.print.fields.label_members.Given as goal

-- the pairs so far are put
abbrev pub invariant-loop-pair : goal.invariant-loop-pair
invariant-loop-pair l = members_view l.fields.entries ≡ label_members (take l.pair-index l.pairs)
