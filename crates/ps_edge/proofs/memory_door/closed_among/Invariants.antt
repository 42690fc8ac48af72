use Rattle.std.proofs.Common.{◌≡◌, ◌≤◌, take}
use Rattle.ps_edge.specs.MemoryNets.{closed_among}
use Rattle.ps_edge.proofs.memory_door.closed_among.Given as goal

abbrev pub invariant-loop-door : goal.invariant-loop-door
invariant-loop-door l =
    record {
      counted : l.number ≡ closed_among (take l.door-index l.doors);
      few : l.number ≤ l.door-index;
    }
