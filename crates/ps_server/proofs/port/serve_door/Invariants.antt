use Rattle.std.specs.Prelude.{◌≤◌}
use Rattle.ps_book.specs.Books.{GoesOn}
use Rattle.ps_server.specs.Ports.{Leads}
use Rattle.ps_server.proofs.port.serve_door.Given as goal

abbrev pub invariant-loop : goal.invariant-loop
invariant-loop g l =
    let D = g.D.Door in
    record {
      goes : GoesOn g.M.Machine g.K.Keeper l.initial.book l.book;
      led : Leads g.M.Machine g.M.HttpProtocol g.C.Clock g.K.Keeper l.clock l.initial.book l.book;
      later : D.faults l.initial.door ≤ D.faults l.door;
    }
