use Rattle.std.proofs.Common.{refl, rules}
use Rattle.ps_server.proofs.Calls.{of_command, of_refusal, of_unread, told_by}
use Rattle.ps_server.proofs.answer.answer_request.Goals as goal

pub returns-in-Ok-Command-clause-fate : goal.returns-in-Ok-Command-clause-fate
returns-in-Ok-Command-clause-fate g c known w more stands =
    of_command g.M.Machine g.M.HttpProtocol g.K.Keeper c.args.book.now c.answer_call.new.book (w, more) c.args.at c.in-Ok-Command.command c.args.request.now c.answer_call.result (search rules) (c.answer_call.ensures.fate known w more stands)

pub returns-in-Ok-Refused-clause-fate : goal.returns-in-Ok-Refused-clause-fate
returns-in-Ok-Refused-clause-fate g c known w more stands =
    of_refusal g.M.Machine g.M.HttpProtocol g.K.Keeper c.args.book.now w more c.args.at (c.in-Ok-Refused.code, c.in-Ok-Refused.body) c.args.request.now c.answer.result (search rules) stands
    (told_by c.answer.result c.args.request.now.close c.in-Ok-Refused.code c.in-Ok-Refused.body _ _ refl c.as_slice-in-Ok-Refused.ensures c.answer.ensures)

pub returns-in-Err-clause-fate : goal.returns-in-Err-clause-fate
returns-in-Err-clause-fate g c known w more stands = (of_unread g.M.Machine g.M.HttpProtocol g.K.Keeper c.args.book.now w more c.args.at c.args.request.now stands, tt)
