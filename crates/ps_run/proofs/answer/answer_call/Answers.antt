use Rattle.std.proofs.Common.{Err, ap, refl}
use Rattle.ps_run.proofs.Calls.{answered_fate, unprinted_fate, refused_fate}
use Rattle.ps_run.proofs.answer.answer_call.Goals as goal

pub returns-in-Ok-print_reply-clause-fate : goal.returns-in-Ok-print_reply-clause-fate
returns-in-Ok-print_reply-clause-fate g c known w more stands =
    let M = g.M.Machine in
    answered_fate M.next M.reply M.entry_of g.M.Protocol.reply_text _ M.number _ _ _ _ w more c.args.now c.args.command.now c.in-Ok.answer _ known c.in-Ok.ensures.cause.later (c.in-Ok.ensures.answered w more stands) c.in-Ok-print_reply.ensures

pub returns-in-Ok-clause-fate : goal.returns-in-Ok-clause-fate
returns-in-Ok-clause-fate g c known w more stands =
    let M = g.M.Machine in
    unprinted_fate M.next M.reply M.entry_of g.M.Protocol.reply_text _ M.number _ _ _ _ w more c.args.now c.args.command.now c.in-Ok.answer _ known c.in-Ok.ensures.cause.later (c.in-Ok.ensures.answered w more stands) refl

pub returns-clause-fate : goal.returns-clause-fate
returns-clause-fate g c known w more stands =
    let M = g.M.Machine in
    let call = c.in-Err.ensures in
    refused_fate M.next M.reply M.entry_of g.M.Protocol.reply_text _ _ _ _ _ w more c.args.now c.args.command.now c.in-Err.error _ known call.cause.later (call.refused w more stands) (c.print_fault.ensures.own (λ seq e. call.no_bad_row seq e known)) (λ e. call.cause.failed (ap Err e)) (λ seq e. call.no_bad_row seq e known)
