use Rattle.std.proofs.Common.{◌≡◌, ◌++◌, ◌||◌, ℕ, List, Err, false, drop, subst, refl, ap, ◌∙◌}
use Rattle.ps_http.specs.declared.bodies.Arrived.{Arrived}
use Rattle.ps_http.specs.Exchanges.{Rest, PausesWith}
use Rattle.ps_http.specs.Reading.{Reads}
use Rattle.ps_http.specs.Requests.{body_of}
use Rattle.ps_http.proofs.ExchangeLemmas.{write_failed, body_read, body_paused}
use Rattle.ps_http.proofs.exchange.read_rest.Goals as goal

pub returns-in-Err : goal.returns-in-Err
returns-in-Err g c =
    write_failed g.L.Link c.args.link.now c.send_continue.new.link c.args.kept.now c.send_continue.new.self c.args.head c.args.at _ c.requires.says c.in-Err.ensures.sends c.in-Err.ensures.sends.failed

pub returns-in-Ok : goal.returns-in-Ok
returns-in-Ok g c =
    let same : c.kept.inside.bytes.items ≡ c.args.kept.now.bytes = ap (λ (r : Rest). r.bytes) c.kept.view_is ∙ c.in_default.ensures.bytes in
    let buffer = c.read_body.new.bytes.items in
    let grew = c.in-Ok.ensures.reads in
    let all : buffer ≡ c.args.kept.now.bytes ++ grew.0 = grew.1 ∙ ap (λ (b : List ℕ). b ++ grew.0) same in
    let rest : Rest = record { bytes = c.take_body-body.new.bytes.items; continued = false } in
    body_read g.L.Link (λ v. v.items) c.args.link.now c.send_continue.new.link c.read_body.new.link c.args.kept.now rest c.args.head c.args.at buffer grew.0
    (body_of (drop c.args.at buffer) c.in-Ok.arrived) c.take_body-body.result c.request.result
    c.requires.says c.in_default.ensures.sends grew.2 all c.in-Ok.ensures.says c.take_body-body.ensures.body c.take_body-body.ensures.refused refl c.request.ensures

pub returns-in-Err-read_body : goal.returns-in-Err-read_body
returns-in-Err-read_body g c =
    let same : c.kept.inside.bytes.items ≡ c.args.kept.now.bytes = ap (λ (r : Rest). r.bytes) c.kept.view_is ∙ c.in_default.ensures.bytes in
    let kept_on : c.kept.inside.continued ≡ (c.args.kept.now.continued || c.args.head.waits) = ap (λ (r : Rest). r.continued) c.kept.view_is ∙ c.in_default.ensures.continued in
    let buffer = c.read_body.new.bytes.items in
    let rest : Rest = record { bytes = buffer; continued = c.kept.inside.continued } in
    let reads = subst (λ (b : List ℕ). Reads g.L.Link {T = Arrived} c.send_continue.new.link c.read_body.new.link b buffer (Err c.in-Err-read_body.pause)) same c.in-Err-read_body.ensures.reads in
    let answers = subst (λ (b : List ℕ). PausesWith b c.in-Err-read_body.pause c.paused.result) c.as_slice.ensures.value c.paused.ensures in
    body_paused g.L.Link c.args.link.now c.send_continue.new.link c.read_body.new.link c.args.kept.now rest c.args.head c.args.at c.in-Err-read_body.pause c.paused.result
    c.requires.says c.in_default.ensures.sends reads c.in-Err-read_body.ensures.waits c.in-Err-read_body.ensures.paused kept_on answers
