use Rattle.std.proofs.Common.{◌≡◌, ◌++◌, Some, option_map, ap, sym, ◌∙◌, rules}
use Rattle.serde_json.specs.View.{view}
use Rattle.ps_fields.specs.Paths.{item_path}
use Rattle.ps_fields.specs.Shapes.{is_no_text}
use Rattle.ps_fields.proofs.ShapeLemmas.{position-map}
use Rattle.ps_fields.proofs.shapes.wrong_text.Goals as goal

pub returns-in_default : goal.returns-in_default
returns-in_default c = ap (option_map (item_path (c.args.at.now ++ c.args.name.now))) (c.in_default.ensures ∙ sym (position-map is_no_text view c.args.items.now))

pub returns : goal.returns
returns c =
    let path : c.in_ok-item_path.field-0 ≡ item_path (c.args.at.now ++ c.args.name.now) c.in-Some.place = search rules in
    ap Some path ∙ ap (option_map (item_path (c.args.at.now ++ c.args.name.now))) (c.in-Some.ensures ∙ sym (position-map is_no_text view c.args.items.now))
