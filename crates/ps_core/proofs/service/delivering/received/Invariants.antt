use Rattle.std.proofs.Common.{◌≡◌, map, take}
use Rattle.std.specs.BTreeMap.{values}
use Rattle.ps_core.specs.Delivering.{received_all}
use Rattle.ps_core.specs.Keeping.{the_message}
use Rattle.ps_core.proofs.service.delivering.received.Given as goal

-- those so far
abbrev pub invariant-loop-handed : goal.invariant-loop-handed
invariant-loop-handed l = l.items ≡ received_all l.sub (map the_message (values l.messages)) (take l.handed-index l.given)
