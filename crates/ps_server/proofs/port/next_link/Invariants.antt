use Rattle.std.specs.Prelude.{◌≡◌, ◌≤◌}
use Rattle.ps_server.proofs.port.next_link.Given as goal

abbrev pub invariant-loop : goal.invariant-loop
invariant-loop g l =
    let D = g.D.Door in
    record {
      closed : D.closed l.door ≡ D.closed l.initial.door;
      later : D.faults l.initial.door ≤ D.faults l.door;
    }
