use Rattle.std.proofs.Common.{refl, sym, ◌∙◌, arith}
use Rattle.ps_run.proofs.Calls.{refusal_fate, unread_fate, fate_of_same, short_fate, long_fate}
use Rattle.ps_run.proofs.answer.answer_line.Goals as goal

pub returns-in_default-clause-fate : goal.returns-in_default-clause-fate
returns-in_default-clause-fate g c known w more stands over pends =
    let M = g.M.Machine in
    long_fate M.next M.reply M.entry_of g.M.Protocol.reply_text _ g.M.Protocol.reading_of _ _ w more over _ (c.in_default.ensures over pends) (omega arith) stands refl

pub returns-in-Ok-Call-clause-fate : goal.returns-in-Ok-Call-clause-fate
returns-in-Ok-Call-clause-fate g c known w more stands over pends =
    let M = g.M.Machine in
    let text = g.M.Protocol.reply_text in
    let line = c.in-Some.ensures over pends in
    short_fate M.next M.reply M.entry_of text _ g.M.Protocol.reading_of _ _ _ _ over _ line.0 line.1
    (fate_of_same M.next M.reply M.entry_of text _ _ _ _ _ _ _ (sym c.in-Ok-Call.field-0-is ∙ c.in-Ok-Call.ensures) (c.answer_call.ensures.fate known w more stands))

pub returns-in-Ok-Refused-clause-fate : goal.returns-in-Ok-Refused-clause-fate
returns-in-Ok-Refused-clause-fate g c known w more stands over pends =
    let M = g.M.Machine in
    let text = g.M.Protocol.reply_text in
    let line = c.in-Some.ensures over pends in
    short_fate M.next M.reply M.entry_of text _ g.M.Protocol.reading_of _ _ _ _ over _ line.0 line.1
    (fate_of_same M.next M.reply M.entry_of text _ _ _ _ _ _ _ (sym c.in-Ok-Refused.field-0-is ∙ c.in-Ok-Refused.ensures)
    (refusal_fate M.next M.reply M.entry_of text _ _ _ w more c.in-Ok-Refused.text _ (omega arith) stands refl))

pub returns-in-Err-clause-fate : goal.returns-in-Err-clause-fate
returns-in-Err-clause-fate g c known w more stands over pends =
    let M = g.M.Machine in
    unread_fate M.next M.reply M.entry_of g.M.Protocol.reply_text _ _ _ w more _ _ (omega arith) stands refl
