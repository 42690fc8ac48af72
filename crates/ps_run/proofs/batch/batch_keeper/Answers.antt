use Rattle.std.proofs.Common.{false, refl}
use Rattle.ps_book.specs.Books.{BookMeans}
use Rattle.ps_run.specs.Outside.{around}
use Rattle.ps_run.specs.Rules.{rules_of}
use Rattle.ps_run.specs.Runs.{From}
use Rattle.ps_run.proofs.Batching.{run-batched, begin-batched}
use Rattle.ps_run.proofs.FileLemmas.{closed-known, closed-means, closed-count, shown-bad}
use Rattle.ps_run.proofs.batch.batch_keeper.Goals as goal

pub returns-in-Ok-begin-clause-batched : goal.returns-in-Ok-begin-clause-batched
returns-in-Ok-begin-clause-batched g c =
    let M = g.M.Machine in
    let P = g.M.Protocol in
    let K = g.K.Keeper in
    let begins = c.in-Ok-begin.ensures.begins in
    let run = c.run_lines-status.ensures in
    let book = c.in-Ok-begin.book in
    let end = c.run_lines-status.new.book in
    let known = closed-known M K end c.close.result c.close.ensures in
    run-batched (rules_of M P)
    (around g.I.Source g.O.Sink K c.args.input.now c.args.output.now book.keeper)
    (around g.I.Source g.O.Sink K c.run_lines-status.new.input c.run_lines-status.new.output end.keeper)
    false (K.known c.args.keeper) (K.known c.close.result) (K.log c.args.keeper) (K.log c.close.result) (K.may_leave c.args.keeper) (K.may_leave c.close.result) (K.faults c.args.keeper) (K.faults c.close.result)
    (closed-count M K _ book end c.close.result c.close.ensures c.in-Ok-begin.ensures.later)
    (From M P K book end) (BookMeans M K end)
    (λ t A lines. record { opening = begins.w; opens = λ _. begins.means (run.goes.still_known (known t)); runs = lines (known t) begins.w _ begins.stands })
    (closed-means M K end c.close.result c.close.ensures)
    c.run_lines-status.result run.runs

pub returns-in-Err-clause-batched : goal.returns-in-Err-clause-batched
returns-in-Err-clause-batched g c =
    let M = g.M.Machine in
    let K = g.K.Keeper in
    let end = c.in-Err.ensures in
    rw c.status_of_begin.ensures
    (begin-batched (rules_of M g.M.Protocol)
    (around g.I.Source g.O.Sink K c.args.input.now c.args.output.now c.args.keeper)
    (around g.I.Source g.O.Sink K c.args.input.now c.args.output.now c.in-Err.field-0.keeper)
    c.in-Err.field-0.error
    (record { input = refl; output = refl; log = λ t _. end.kept_err t })
    end.failed
    (λ seq is t _. shown-bad M K c.args.keeper c.in-Err.field-0.keeper seq (end.bad seq is) (end.no_meaning seq is) t))
