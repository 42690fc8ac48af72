use Rattle.ps_run.proofs.Calls.{served}
use Rattle.ps_run.proofs.lines.serve_line.Goals as goal

pub returns-clause-served : goal.returns-clause-served
returns-clause-served g c known w more stands over pends =
    let M = g.M.Machine in
    served M.next M.reply M.entry_of g.M.Protocol.reply_text _ g.M.Protocol.reading_of _ _ (w, more) over _ _ _ _ c.write_all.result c.as_slice.ensures (c.answer_line-printed.ensures.fate known w more stands over pends) c.write_all.ensures.part c.write_all.ensures.whole
