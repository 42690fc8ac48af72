use Rattle.std.proofs.Common.{◌≡◌}
use Rattle.serde_json.specs.View.{members_view}
use Rattle.ps_json.specs.Missing.{has_filled}
use Rattle.ps_json.proofs.missing.has_filled.Given as goal

-- no field so far is filled, so all is said by those that are left
abbrev pub invariant-loop-value : goal.invariant-loop-value
invariant-loop-value l = has_filled (members_view l.fields.entries) ≡ has_filled (members_view l.value-iterator)
