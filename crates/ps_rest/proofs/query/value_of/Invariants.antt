use Rattle.std.proofs.Common.{◌≡◌}
use Rattle.form_urlencoded.specs.Parse.{pairs_left}
use Rattle.ps_rest.specs.Targets.{first_of, value_of}
use Rattle.ps_rest.proofs.query.value_of.Given as goal

-- none of the pairs so far has the name, so all is said by those that are left
abbrev pub invariant-loop-pair : goal.invariant-loop-pair
invariant-loop-pair l = value_of l.name l.query ≡ first_of l.name (pairs_left l.pair-iterator)
