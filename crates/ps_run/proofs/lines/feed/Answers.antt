use Rattle.std.proofs.Common.{◌<◌, ◌≤◌, length, arith, sym}
use Rattle.std.proofs.lemmas.List.{append-nil}
use Rattle.std.proofs.lemmas.Result.{err_from_is_err_and}
use Rattle.ps_run.specs.Fates.{text_of_line, line_state}
use Rattle.ps_run.proofs.Going.{goes_none, goes_on}
use Rattle.ps_run.proofs.Runs.{reaches_none, reaches_more, reaches_piece, serves_more}
use Rattle.ps_run.proofs.lines.feed.Goals as goal

pub loop-byte-init : goal.loop-byte-init
loop-byte-init g c =
    let M = g.M.Machine in
    let P = g.M.Protocol in
    record {
      reaches = λ known w more stands over pending. reaches_none (text_of_line M.reply P.reading_of P.reply_text) (line_state M.next M.entry_of P.reading_of) _ (w, more) _ over _ _ _ _ (sym (append-nil over)) pending (omega arith) stands;
      goes = goes_none M g.K.Keeper _ c.requires;
      sink = omega arith;
    }

pub returns-in_err-take_byte-clause-stopped : goal.returns-in_err-take_byte-clause-stopped
returns-in_err-take_byte-clause-stopped g c =
    let M = g.M.Machine in
    let P = g.M.Protocol in
    let before = c.loop-byte.invariant in
    let step = c.in_err-take_byte.ensures in
    let within : c.loop-byte.byte-index < length c.args.piece.now = omega arith in
    let p = err_from_is_err_and c.from_residual.result c.from_residual.ensures.1 in
    rw (p.1) (λ known w more stands over pending rest. serves_more (text_of_line M.reply P.reading_of P.reply_text) (line_state M.next M.entry_of P.reading_of) _ _ (w, more) over c.args.piece.now rest c.loop-byte.byte-index _ _ _ _ _ _ _ within (before.reaches (step.goes.still_known known) w more stands over pending) (step.stopped known))

pub loop-byte-preserved : goal.loop-byte-preserved
loop-byte-preserved g c =
    let M = g.M.Machine in
    let P = g.M.Protocol in
    let before = c.loop-byte.invariant in
    let step = c.in_ok-take_byte.ensures in
    let within : c.loop-byte.byte-index < length c.args.piece.now = omega arith in
    record {
      reaches = λ known w more stands over pending. reaches_more (text_of_line M.reply P.reading_of P.reply_text) (line_state M.next M.entry_of P.reading_of) _ _ (w, more) over c.args.piece.now c.loop-byte.byte-index _ _ _ _ _ _ _ _ within (before.reaches (step.goes.still_known known) w more stands over pending) (step.reaches known);
      goes = goes_on M g.K.Keeper _ _ _ before.goes step.goes;
      sink = omega (arith, before.sink, step.sink_later);
    }

pub returns-clause-reaches : goal.returns-clause-reaches
returns-clause-reaches g c known w more stands over pending =
    let M = g.M.Machine in
    let P = g.M.Protocol in
    let all : length c.args.piece.now ≤ c.loop-byte.byte-index = omega arith in
    reaches_piece (text_of_line M.reply P.reading_of P.reply_text) (line_state M.next M.entry_of P.reading_of) _ (w, more) over c.args.piece.now c.loop-byte.byte-index _ _ _ _ _ all (c.loop-byte.invariant.reaches known w more stands over pending)
