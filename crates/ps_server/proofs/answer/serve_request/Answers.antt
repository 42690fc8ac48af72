use Rattle.std.proofs.Common.{true, false, ◌∙◌}
use Rattle.ps_server.proofs.Calls.{sent}
use Rattle.ps_server.proofs.answer.serve_request.Goals as goal

pub returns-in-Ok-clause-served : goal.returns-in-Ok-clause-served
returns-in-Ok-clause-served g c known w more stands =
    let it = c.in-Ok.ensures.fate known w more stands in
    let send = c.send_all.ensures in
    (true, (it.0, sent g.L.Link c.args.link.now c.send_all.new.link _ _ c.send_all.result send.whole send.part send.left send.received send.cause send.waits (c.as_slice.ensures ∙ it.1)))

pub returns-in-Err-clause-served : goal.returns-in-Err-clause-served
returns-in-Err-clause-served g c known w more stands =
    let it = c.in-Err.ensures.fate known w more stands in
    let send = c.send_all-in-Err.ensures in
    (false, (it.0, sent g.L.Link c.args.link.now c.send_all-in-Err.new.link _ _ c.send_all-in-Err.result send.whole send.part send.left send.received send.cause send.waits c.memory_answer.ensures))
