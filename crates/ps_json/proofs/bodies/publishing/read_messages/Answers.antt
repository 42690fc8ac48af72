use Rattle.std.proofs.Common.{◌+◌, ◌++◌, drop, map, ◌∙◌, ap}
use Rattle.ps_json.proofs.CheckLemmas.{passed_on}
use Rattle.ps_json.proofs.PublishingLemmas.{refused_here, read_here, kept_here, message_in}
use Rattle.ps_json.proofs.bodies.publishing.read_messages.Goals as goal

pub returns-in_err-read_message : goal.returns-in_err-read_message
returns-in_err-read_message c =
    passed_on c.from_residual.result c.in_err-read_message.field-0.0 _ c.from_residual.ensures.1
    (refused_here c.args.items.now c.loop-place.place c.index-items-place.result c.in_err-read_message.field-0.0 (message_in c.index-items-place.result) (map message_in c.args.items.now) c.loop-place-test.true c.index-items-place.is c.loop-place.invariant.0 c.in_err-read_message.ensures)

pub loop-place-preserved : goal.loop-place-preserved
loop-place-preserved c = (
  read_here c.args.items.now c.loop-place.place c.index-items-place.result c.in_ok-read_message.field-0 c.loop-place-test.true c.index-items-place.is c.loop-place.invariant.0 c.in_ok-read_message.ensures,
  ap (λ made. made ++ map message_in (drop (c.loop-place.place + 1) c.args.items.now)) c.in_ok-push.ensures.ok
      ∙ kept_here c.args.items.now c.loop-place.place c.index-items-place.result c.in_ok-read_message.field-0 c.loop-place.messages c.loop-place-test.true c.index-items-place.is c.in_ok-read_message.ensures c.loop-place.invariant.1,
)
