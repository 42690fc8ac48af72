use Rattle.std.proofs.Common.{Some, ap, ◌∙◌, sym}
use Rattle.serde_json.specs.View.{view, members_view}
use Rattle.ps_json.proofs.CheckLemmas.{refused_as}
use Rattle.ps_json.proofs.PublishingLemmas.{no_key, whole_message}
use Rattle.ps_json.proofs.bodies.publishing.read_message.Goals as goal

pub returns-in_default-text : goal.returns-in_default-text
returns-in_default-text c =
    refused_as _ _ _ c.in_ok-shape_in_message-3.ensures
    (no_key c.args.place (view c.args.item.now) (members_view c.in-Some.fields.now.entries) c.payload.inside.bytes.items c.attributes.inside.pairs _
    c.in-Some.ensures
    (ap Some c.payload.view_is ∙ sym c.in-Some-2.is ∙ c.in_ok-payload.ensures)
    (ap Some c.attributes.view_is ∙ sym c.in-Some-3.is ∙ c.in_ok-attributes.ensures)
    c.in_default-text.ensures)

pub returns : goal.returns
returns c =
    whole_message c.args.place (view c.args.item.now) (members_view c.in-Some.fields.now.entries) c.payload.inside.bytes.items c.attributes.inside.pairs c.in_ok-from_str.field-0
    c.in-Some.ensures
    (ap Some c.payload.view_is ∙ sym c.in-Some-2.is ∙ c.in_ok-payload.ensures)
    (ap Some c.attributes.view_is ∙ sym c.in-Some-3.is ∙ c.in_ok-attributes.ensures)
    (ap Some c.in_ok-from_str.ensures ∙ c.in-Some-text.ensures)
