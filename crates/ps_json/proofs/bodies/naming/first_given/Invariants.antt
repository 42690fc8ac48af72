use Rattle.std.proofs.Common.{◌≡◌}
use Rattle.serde_json.specs.View.{members_view}
use Rattle.ps_json.specs.Naming.{first_given}
use Rattle.ps_json.proofs.bodies.naming.first_given.Given as goal

-- none of the fields so far is given, so all is said by those that are left
abbrev pub invariant-loop-name : goal.invariant-loop-name
invariant-loop-name l = first_given (members_view l.fields.entries) ≡ first_given (members_view l.name-iterator)
