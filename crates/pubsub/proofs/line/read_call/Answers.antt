use Rattle.std.proofs.Common.{ap, ◌∙◌, sym, string_bytes}
use Rattle.std.proofs.lemmas.Result.{IfOk-weaker}
use Rattle.serde_json.specs.View.{view}
use Rattle.ps_rest.specs.Calls.{asked_by}
use Rattle.pubsub.specs.Reading.{reading_at}
use Rattle.pubsub.proofs.LineLemmas.{refused_reading}
use Rattle.pubsub.proofs.line.read_call.Goals as goal

pub returns-in-Err-Refused : goal.returns-in-Err-Refused
returns-in-Err-Refused c =
    let line = c.args.line.now in
    let refused = refused_reading _ _ _ c.in-Err-Refused.field-0-is c.in-Err-Refused.ensures in
    let verb = ap (λ text. asked_by text c.as_str-2.result.now (view line.body)) c.as_str.ensures.value in
    let path = ap (λ text. asked_by (string_bytes line.verb) text (view line.body)) c.as_str-2.ensures.value in
    IfOk-weaker c.refuse.result _ _ (λ reading is. is line.at ∙ ap (reading_at line.at) (sym refused ∙ (verb ∙ path))) c.refuse.ensures
