use Rattle.ps_server.proofs.Calls.{has_call, told_by}
use Rattle.ps_server.proofs.answer.answer_call.Goals as goal

pub returns-in-Ok-clause-fate : goal.returns-in-Ok-clause-fate
returns-in-Ok-clause-fate g c known w more stands =
    let call = c.call-told.ensures in
    has_call g.M.Machine g.M.HttpProtocol g.K.Keeper c.args.book.now c.call-told.new.self w more c.args.at c.args.command.now c.args.close c.call-told.result c.answer.result known call.goes.later stands
    call.answered call.refused call.cause.failed call.no_bad_row
    (told_by c.answer.result c.args.close c.in-Ok.code c.in-Ok.body _ _ c.in-Ok.ensures.told c.as_slice.ensures c.answer.ensures)

pub returns-clause-fate : goal.returns-clause-fate
returns-clause-fate g c known w more stands =
    let call = c.call-told.ensures in
    has_call g.M.Machine g.M.HttpProtocol g.K.Keeper c.args.book.now c.call-told.new.self w more c.args.at c.args.command.now c.args.close c.call-told.result _ known call.goes.later stands
    call.answered call.refused call.cause.failed call.no_bad_row tt
