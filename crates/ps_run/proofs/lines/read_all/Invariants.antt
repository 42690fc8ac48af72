use Rattle.std.proofs.Common.{◌≤◌, ◌-◌, ◌^◌, take}
use Rattle.std.specs.Prelude.{IfSome}
use Rattle.ps_book.specs.Books.{BookMeans, GoesOn}
use Rattle.ps_run.specs.Fates.{text_of_line, line_state}
use Rattle.ps_run.specs.Leading.{LeadsOnWith}
use Rattle.ps_run.specs.Runs.{From}
use Rattle.ps_run.proofs.Inputs.{Moved}
use Rattle.ps_run.proofs.lines.read_all.Given as goal

abbrev pub invariant-loop-taken : goal.invariant-loop-taken
invariant-loop-taken g l =
    let M = g.M.Machine in
    let P = g.M.Protocol in
    let K = g.K.Keeper in
    let I = g.I.Source in
    let O = g.O.Sink in
    record {
      reaches : From M P K l.initial.book l.book (λ s. IfSome (I.left l.initial.input) (λ bytes.
          LeadsOnWith (text_of_line M.reply P.reading_of P.reply_text) (line_state M.next M.entry_of P.reading_of) (BookMeans M K l.book)
          s (take l.taken bytes) l.pending (O.holds l.initial.output) (O.holds l.output) (K.faults l.initial.book.keeper) (K.faults l.book.keeper)));
      moved : Moved (I.left l.initial.input) (I.left l.input) l.taken;
      most : l.taken ≤ 2 ^ 60;
      goes : GoesOn M K l.initial.book l.book;
      source : I.faults l.initial.input ≤ I.faults l.input;
      sink : O.faults l.initial.output ≤ O.faults l.output;
    }

abbrev pub decreases-loop-taken : goal.decreases-loop-taken
decreases-loop-taken g l = 2 ^ 60 - l.taken
