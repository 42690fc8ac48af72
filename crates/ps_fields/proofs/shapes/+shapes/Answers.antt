use Rattle.std.proofs.Common.{◌≡◌, ◌-◌, ◌<◌, ◌++◌, map, Some, option_and_then, ap, sym, ◌∙◌, rules}
use Rattle.std.proofs.lemmas.Result.{IfOk-weaker}
use Rattle.serde_json.specs.Find.{get_member}
use Rattle.serde_json.specs.View.{view, members_view}
use Rattle.ps_message.specs.Lists.{first_of}
use Rattle.ps_fields.specs.Fields.{items_in}
use Rattle.ps_fields.specs.Shapes.{first_wrong, inside, wrong_field, wrong_text}
use Rattle.ps_fields.proofs.KindLemmas.{items_in-Array}
use Rattle.ps_fields.proofs.ShapeLemmas.{wrong_step}
use Rattle.ps_fields.proofs.shapes.+shapes.Goals as goal

pub first_wrong-loop-name-init : goal.first_wrong-loop-name-init
first_wrong-loop-name-init t c =
    let some : 0 < c.args.deep = search rules in
    wrong_step c.args.deep c.args.object c.args.at.now (members_view c.args.fields.now.entries) some
    ∙ ap (λ rows. first_of (map (λ row. wrong_field (first_wrong (c.args.deep - 1)) c.args.at.now row (get_member row.0 (members_view c.args.fields.now.entries))) rows)) (sym c.rows-name-items.ensures)

pub wrong_inside-returns-in-Texts-Array : goal.wrong_inside-returns-in-Texts-Array
wrong_inside-returns-in-Texts-Array t c =
    let path = c.args.at.now ++ c.args.name.now in
    let items : items_in (view c.args.value.now) ≡ Some (map view c.as_slice.result.now) =
    ap (λ v. items_in (view v)) c.in-Texts-Array.is-1 ∙ (items_in-Array c.in-Texts-Array.items ∙ ap (λ vs. Some (map view vs)) (sym c.as_slice.ensures.value)) in
    let same : inside (first_wrong c.args.deep) path c.args.kind (view c.args.value.now) ≡ wrong_text path (map view c.as_slice.result.now) =
    ap (λ kind. inside (first_wrong c.args.deep) path kind (view c.args.value.now)) c.in-Texts-Array.is-0 ∙ ap (option_and_then (wrong_text path)) items in
    IfOk-weaker c.wrong_text.result _ _ (λ wrong is. is ∙ sym same) c.wrong_text.ensures
