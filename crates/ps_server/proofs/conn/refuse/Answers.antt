use Rattle.std.proofs.Common.{refl, inr, true, ◌∙◌, ap}
use Rattle.ps_http.specs.Answers.{answer_text}
use Rattle.ps_server.proofs.Calls.{sent, text_is}
use Rattle.ps_server.proofs.conn.refuse.Goals as goal

pub returns-in-Ok-send_all-clause-refuses : goal.returns-in-Ok-send_all-clause-refuses
returns-in-Ok-send_all-clause-refuses g c =
    let send = c.send_all.ensures in
    inr (
      c.send_all.result,
      sent g.L.Link c.args.link.now c.send_all.new.link _ _ c.send_all.result send.whole send.part send.left send.received send.cause send.waits
          (c.as_slice.ensures ∙ c.in-Ok.ensures ∙ ap (λ b. answer_text c.args.code b true) c.refusal_body.ensures ∙ text_is true c.args.code (g.M.HttpProtocol.refusal_body c.args.code)),
      rw (c.in-Ok-send_all.is) refl,
    )

pub returns-in-Ok-clause-refuses : goal.returns-in-Ok-clause-refuses
returns-in-Ok-clause-refuses g c =
    let send = c.send_all.ensures in
    inr (
      c.send_all.result,
      sent g.L.Link c.args.link.now c.send_all.new.link _ _ c.send_all.result send.whole send.part send.left send.received send.cause send.waits
          (c.as_slice.ensures ∙ c.in-Ok.ensures ∙ ap (λ b. answer_text c.args.code b true) c.refusal_body.ensures ∙ text_is true c.args.code (g.M.HttpProtocol.refusal_body c.args.code)),
      rw (c.in-Err-send_all.is) refl,
    )
