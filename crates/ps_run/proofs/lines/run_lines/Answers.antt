use Rattle.std.proofs.Common.{arith}
use Rattle.ps_run.specs.Fates.{text_of_line, line_state}
use Rattle.ps_run.proofs.Inputs.{goes_unbegun}
use Rattle.ps_run.proofs.lines.run_lines.Goals as goal

pub returns-clause-runs : goal.returns-clause-runs
returns-clause-runs g c known w more stands =
    let M = g.M.Machine in
    let P = g.M.Protocol in
    goes_unbegun (text_of_line M.reply P.reading_of P.reply_text) (line_state M.next M.entry_of P.reading_of) _ (w, more) _ _ _ _ (omega arith) stands
