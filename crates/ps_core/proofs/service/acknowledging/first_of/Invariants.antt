use Rattle.std.proofs.Common.{take}
use Rattle.std.specs.List.{AllByRecursion}
use Rattle.ps_core.specs.Delivering.{NotBefore}
use Rattle.ps_core.proofs.service.acknowledging.first_of.Given as goal

-- none of the deadlines so far is before the first
abbrev pub invariant-loop-seconds : goal.invariant-loop-seconds
invariant-loop-seconds l = AllByRecursion (NotBefore l.first l.at) (take l.seconds-index l.items)
