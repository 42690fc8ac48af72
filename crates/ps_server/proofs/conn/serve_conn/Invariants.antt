use Rattle.std.specs.Prelude.{◌≤◌, Option, IsTrue}
use Rattle.ps_book.specs.Books.{BookMeans, GoesOn}
use Rattle.ps_server.specs.Serving.{Goes}
use Rattle.ps_server.proofs.conn.serve_conn.Given as goal

abbrev pub invariant-loop : goal.invariant-loop
invariant-loop g l =
    let M = g.M.Machine in
    let K = g.K.Keeper in
    let L = g.L.Link in
    record {
      later : L.faults l.initial.link ≤ L.faults l.link;
      goes : GoesOn M K l.initial.book l.book;
      steps : IsTrue (K.known l.book.keeper) → (w : M.World) (more : Option M.World) → BookMeans M K l.initial.book w more → Goes M g.M.HttpProtocol K L g.C.Clock l.clock l.initial.link l.link l.initial.book l.book l.kept (w, more);
    }
