use Rattle.std.proofs.Common.{arith}
use Rattle.ps_run.specs.Fates.{text_of_line, line_state}
use Rattle.ps_run.proofs.Runs.{reaches_line, reaches_byte, serves_line, serves_none}
use Rattle.ps_run.proofs.lines.take_byte.Goals as goal

pub returns-in-Ok-clause-reaches : goal.returns-in-Ok-clause-reaches
returns-in-Ok-clause-reaches g c known w more stands over pending =
    let M = g.M.Machine in
    let P = g.M.Protocol in
    reaches_line (text_of_line M.reply P.reading_of P.reply_text) (line_state M.next M.entry_of P.reading_of) _ (w, more) over c.args.byte _ _ _ _ _ pending.unended c.if-byte-eq-FEED.true c.clear.ensures (c.in-Ok.ensures.served known w more stands over pending.pends)

pub returns-in-Err-clause-stopped : goal.returns-in-Err-clause-stopped
returns-in-Err-clause-stopped g c known w more stands over pending rest =
    let M = g.M.Machine in
    let P = g.M.Protocol in
    serves_line (text_of_line M.reply P.reading_of P.reply_text) (line_state M.next M.entry_of P.reading_of) _ (w, more) over c.args.byte rest _ _ _ _ _ pending.unended c.if-byte-eq-FEED.true (c.in-Err.ensures.served known w more stands over pending.pends)

pub returns-in-Ok-push-clause-reaches : goal.returns-in-Ok-push-clause-reaches
returns-in-Ok-push-clause-reaches g c known w more stands over pending =
    let M = g.M.Machine in
    let P = g.M.Protocol in
    reaches_byte (text_of_line M.reply P.reading_of P.reply_text) (line_state M.next M.entry_of P.reading_of) _ (w, more) over c.args.byte _ _ _ _ pending.unended c.if-byte-eq-FEED.false (c.in-Ok-push.ensures over pending.pends) (omega arith) stands

pub returns-in-Err-push-clause-stopped : goal.returns-in-Err-push-clause-stopped
returns-in-Err-push-clause-stopped g c known w more stands over pending rest =
    let M = g.M.Machine in
    let P = g.M.Protocol in
    serves_none (text_of_line M.reply P.reading_of P.reply_text) (line_state M.next M.entry_of P.reading_of) _ (w, more) _ _ _ _ (omega arith) stands
