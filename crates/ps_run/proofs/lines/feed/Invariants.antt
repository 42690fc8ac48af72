use Rattle.std.proofs.Common.{◌≤◌, take}
use Rattle.ps_book.specs.Books.{GoesOn}
use Rattle.ps_run.specs.Runs.{GoesOver}
use Rattle.ps_run.proofs.lines.feed.Given as goal

abbrev pub invariant-loop-byte : goal.invariant-loop-byte
invariant-loop-byte g l =
    let M = g.M.Machine in
    let O = g.O.Sink in
    record {
      reaches : GoesOver M g.M.Protocol g.K.Keeper O l.initial.book l.book l.initial.pending l.pending (take l.byte-index l.piece) l.initial.output l.output;
      goes : GoesOn M g.K.Keeper l.initial.book l.book;
      sink : O.faults l.initial.output ≤ O.faults l.output;
    }
