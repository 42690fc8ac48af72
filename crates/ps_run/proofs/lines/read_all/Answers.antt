use Rattle.std.proofs.Common.{◌≡◌, ◌^◌, Err, ap, refl, arith, rules}
use Rattle.ps_run.specs.Fates.{text_of_line, line_state}
use Rattle.ps_run.proofs.Going.{rose_after, goes_none, goes_on}
use Rattle.ps_run.proofs.Inputs.{moved_none, moved_on, had_all, begins_none, goes_over, goes_stopped, goes_done, goes_unended, goes_failed, goes_full}
use Rattle.ps_run.proofs.lines.read_all.Goals as goal

pub loop-taken-init : goal.loop-taken-init
loop-taken-init g c =
    let M = g.M.Machine in
    let P = g.M.Protocol in
    record {
      reaches = λ known w more stands. begins_none (text_of_line M.reply P.reading_of P.reply_text) (line_state M.next M.entry_of P.reading_of) _ (w, more) _ _ _ _ _ c.requires.pends (omega arith) stands;
      moved = moved_none _;
      most = omega arith;
      goes = goes_none M g.K.Keeper _ c.requires.means;
      source = omega arith;
      sink = omega arith;
    }

pub loop-taken-preserved : goal.loop-taken-preserved
loop-taken-preserved g c =
    let M = g.M.Machine in
    let P = g.M.Protocol in
    let before = c.loop-taken.invariant in
    let read = c.in-Bytes.ensures in
    let step = c.in-Ok.ensures in
    record {
      reaches = λ known w more stands. goes_over (text_of_line M.reply P.reading_of P.reply_text) (line_state M.next M.entry_of P.reading_of) _ _ (w, more) _ _ _ c.read.new.room _ c.loop-taken.taken c.in-Bytes.count _ _ _ _ _ _ _ _ refl before.moved read.bytes (before.reaches (step.goes.still_known known) w more stands) (step.reaches known);
      moved = moved_on _ _ _ c.read.new.room c.loop-taken.taken c.in-Bytes.count before.moved read.bytes;
      most = search rules;
      goes = goes_on M g.K.Keeper _ _ _ before.goes step.goes;
      source = omega (arith, before.source, read.cause.later);
      sink = omega (arith, before.sink, step.sink_later);
    }

pub returns-in-Err-Write-clause-runs : goal.returns-in-Err-Write-clause-runs
returns-in-Err-Write-clause-runs g c =
    let M = g.M.Machine in
    let P = g.M.Protocol in
    let before = c.loop-taken.invariant in
    let step = c.in-Err-Write.ensures in (
      rose_after _ _ _ before.sink (step.write (ap Err c.in-Err-Write.field-0-is)),
      λ known w more stands. goes_stopped (text_of_line M.reply P.reading_of P.reply_text) (line_state M.next M.entry_of P.reading_of) _ _ (w, more) _ _ _ c.read.new.room _ c.loop-taken.taken c.in-Bytes.count _ _ _ _ _ _ _ refl before.moved c.in-Bytes.ensures.bytes (before.reaches (step.goes.still_known known) w more stands) (step.stopped known),
    )

pub returns-in-Err-Memory-clause-runs : goal.returns-in-Err-Memory-clause-runs
returns-in-Err-Memory-clause-runs g c known w more stands =
    let M = g.M.Machine in
    let P = g.M.Protocol in
    let before = c.loop-taken.invariant in
    let step = c.in-Err-Memory.ensures in
    goes_stopped (text_of_line M.reply P.reading_of P.reply_text) (line_state M.next M.entry_of P.reading_of) _ _ (w, more) _ _ _ c.read.new.room _ c.loop-taken.taken c.in-Bytes.count _ _ _ _ _ _ _ refl before.moved c.in-Bytes.ensures.bytes (before.reaches (step.goes.still_known known) w more stands) (step.stopped known)

pub returns-in-Ok-finish-clause-runs : goal.returns-in-Ok-finish-clause-runs
returns-in-Ok-finish-clause-runs g c known w more stands =
    let M = g.M.Machine in
    let P = g.M.Protocol in
    let before = c.loop-taken.invariant in
    let step = c.in-Ok-finish.ensures in
    goes_done (text_of_line M.reply P.reading_of P.reply_text) (line_state M.next M.entry_of P.reading_of) _ _ (w, more) _ _ _ c.read.new.room c.loop-taken.taken _ _ _ _ _ _ _ before.moved c.in-End.ensures.bytes (before.reaches (step.goes.still_known known) w more stands) (step.done known)

pub returns-in-Err-clause-runs : goal.returns-in-Err-clause-runs
returns-in-Err-clause-runs g c =
    let M = g.M.Machine in
    let P = g.M.Protocol in
    let before = c.loop-taken.invariant in
    let step = c.in-Err.ensures in (
      rose_after _ _ _ before.sink step.sink.failed,
      λ known w more stands. goes_unended (text_of_line M.reply P.reading_of P.reply_text) (line_state M.next M.entry_of P.reading_of) _ _ (w, more) _ _ _ c.read.new.room c.loop-taken.taken _ _ _ _ _ _ _ before.moved c.in-End.ensures.bytes (before.reaches (step.goes.still_known known) w more stands) (step.stopped known),
    )

pub returns-in-Failed-clause-runs : goal.returns-in-Failed-clause-runs
returns-in-Failed-clause-runs g c =
    let M = g.M.Machine in
    let P = g.M.Protocol in
    let before = c.loop-taken.invariant in
    let read = c.in-Failed.ensures in (
      rose_after _ _ _ before.source (read.cause.failed refl),
      λ known w more stands. goes_failed (text_of_line M.reply P.reading_of P.reply_text) (line_state M.next M.entry_of P.reading_of) _ (w, more) _ _ _ c.loop-taken.taken _ _ _ _ _ before.moved read.bytes (before.reaches known w more stands),
    )

pub returns-clause-runs : goal.returns-clause-runs
returns-clause-runs g c =
    let M = g.M.Machine in
    let P = g.M.Protocol in
    let before = c.loop-taken.invariant in
    let full : c.loop-taken.taken ≡ 2 ^ 60 = omega (arith, before.most) in (
      had_all _ _ _ _ full before.moved,
      λ known w more stands. goes_full (text_of_line M.reply P.reading_of P.reply_text) (line_state M.next M.entry_of P.reading_of) _ (w, more) _ _ c.loop-taken.taken (2 ^ 60) _ _ _ _ _ full before.moved (before.reaches known w more stands),
    )
