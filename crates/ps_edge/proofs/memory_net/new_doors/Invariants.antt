use Rattle.std.proofs.Common.{◌≡◌, replicate}
use Rattle.ps_edge.specs.MemoryNets.{entrance}
use Rattle.ps_edge.proofs.memory_net.new_doors.Given as goal

abbrev pub invariant-loop : goal.invariant-loop
invariant-loop l = l.doors.items ≡ replicate l.counter (entrance l.capacity l.script)
