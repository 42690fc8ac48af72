use Rattle.std.proofs.Common.{◌≡◌, ◌+◌, ◌∙◌, ap, map, rules}
use Rattle.serde_json.specs.View.{view}
use Rattle.ps_json.specs.Messages.{message_id}
use Rattle.ps_json.proofs.MessageLemmas.{ids_more}
use Rattle.ps_json.proofs.print.message.message_ids.Goals as goal

pub loop-place-preserved : goal.loop-place-preserved
loop-place-preserved c =
    let next : view c.in_ok-message_id.field-0 ≡ message_id (c.args.first + c.loop-place.place) = search rules in
    ap (map view) c.in_ok-push.ensures.items ∙ ids_more c.loop-place.ids.items c.in_ok-message_id.field-0 c.args.first c.loop-place.place c.loop-place.invariant next
