use Rattle.std.proofs.Common.{◌≡◌, fold}
use Rattle.serde_json.specs.View.{members_view}
use Rattle.ps_fields.specs.Paths.{lesser}
use Rattle.ps_json.specs.Missing.{asked_unbuilt}
use Rattle.ps_json.proofs.missing.least_field.Given as goal

-- the least so far, and the paths that are left
abbrev pub invariant-loop-name : goal.invariant-loop-name
invariant-loop-name l = fold lesser l.least (asked_unbuilt l.object l.at (members_view l.name-iterator)) ≡ fold lesser l.initial.least (asked_unbuilt l.object l.at (members_view l.fields.entries))
