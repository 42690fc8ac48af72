use Rattle.std.proofs.Common.{◌≡◌, ◌≤◌, ◌<◌, ◌+◌, ◌++◌, length, true}
use Rattle.std.specs.VecDeque.{deque_capacity}
use Rattle.ps_edge.specs.MemoryNets.{all_room, all_unused, dealt, links_of, others}
use Rattle.ps_edge.proofs.memory_net.deal.Given as goal

abbrev pub invariant-loop-item : goal.invariant-loop-item
invariant-loop-item l =
    let number = length l.initial.doors.items in
    record {
      doors : dealt l.at (links_of l.port number l.links.items) l.doors.items ≡ dealt 0 (links_of l.port number l.initial.links.items) l.initial.doors.items;
      rest : l.rest.items ++ others l.port number l.links.items ≡ l.initial.rest.items ++ others l.port number l.initial.links.items;
      count : length l.doors.items ≡ number;
      turn : 0 < number → l.at < number;
      unused : all_unused l.links.items ≡ true;
      room : all_room (length l.links.items) l.doors.items ≡ true;
      places : length l.rest.items + length l.links.items ≤ deque_capacity l.rest;
    }

abbrev pub decreases-loop-item : goal.decreases-loop-item
decreases-loop-item l = length l.links.items
