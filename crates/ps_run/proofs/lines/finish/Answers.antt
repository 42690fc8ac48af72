use Rattle.std.proofs.Common.{true≢false, arith, sym, ◌∙◌}
use Rattle.std.proofs.lemmas.Result.{err_from_is_err_and}
use Rattle.ps_run.specs.Fates.{text_of_line, line_state}
use Rattle.ps_run.proofs.Runs.{whole_none, whole_last, serves_last}
use Rattle.ps_run.proofs.lines.finish.Goals as goal

pub returns-then-is_empty-clause-done : goal.returns-then-is_empty-clause-done
returns-then-is_empty-clause-done g c known w more stands over pending =
    let M = g.M.Machine in
    let P = g.M.Protocol in
    whole_none (text_of_line M.reply P.reading_of P.reply_text) (line_state M.next M.entry_of P.reading_of) _ (w, more) over _ _ _ ((c.is_empty.ensures over pending.pends).0 c.if-is_empty.true) (omega arith) stands

pub returns-in_err-serve_line-clause-stopped : goal.returns-in_err-serve_line-clause-stopped
returns-in_err-serve_line-clause-stopped g c =
    let M = g.M.Machine in
    let P = g.M.Protocol in
    let p = err_from_is_err_and c.from_residual.result c.from_residual.ensures.1 in
    rw (p.1) (λ known w more stands over pending. serves_last (text_of_line M.reply P.reading_of P.reply_text) (line_state M.next M.entry_of P.reading_of) _ (w, more) over _ _ _ _ _ pending.unended
    (λ empty. true≢false (sym ((c.is_empty.ensures over pending.pends).1 empty) ∙ c.if-is_empty.false)) (c.in_err-serve_line.ensures.served known w more stands over pending.pends))

pub returns-clause-done : goal.returns-clause-done
returns-clause-done g c known w more stands over pending =
    let M = g.M.Machine in
    let P = g.M.Protocol in
    whole_last (text_of_line M.reply P.reading_of P.reply_text) (line_state M.next M.entry_of P.reading_of) _ (w, more) over _ _ _ _ pending.unended
    (λ empty. true≢false (sym ((c.is_empty.ensures over pending.pends).1 empty) ∙ c.if-is_empty.false)) (c.in_ok-serve_line.ensures.served known w more stands over pending.pends)
