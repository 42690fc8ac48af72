use Rattle.std.proofs.Common.{◌≡◌, true, None, Some, codes, option_map, string_bytes, ap, ◌∙◌, sym, rules}
use Rattle.serde_json.specs.View.{view, members_view}
use Rattle.serde_json.specs.Find.{get_member}
use Rattle.ps_fields.specs.Fields.{all_names, text_field}
use Rattle.ps_json.specs.Line.{is_line_field, body_or_empty}
use Rattle.ps_json.specs.Shown.{shown}
use Rattle.ps_json.proofs.LineLemmas.{after_at, after_verb, after_path, no_verb, no_path, whole_line}
use Rattle.ps_json.proofs.batch_line.from_fields.Goals as goal

pub returns-in_err-verb : goal.returns-in_err-verb
returns-in_err-verb c =
    let ms = members_view c.args.fields.entries in
    let only : all_names is_line_field ms ≡ true = search rules in
    let none : text_field (codes "verb") (after_at ms) ≡ None = ap (text_field (codes "verb")) (sym c.take_whole.ensures.rest) ∙ sym c.in_err-verb.ensures.value in
    ap (option_map shown) c.from_residual-in_err-verb.ensures ∙ sym (no_verb ms c.in_ok-at.at only (sym c.in_ok-at.ensures.value) none)

pub returns-in_err-path : goal.returns-in_err-path
returns-in_err-path c =
    let ms = members_view c.args.fields.entries in
    let only : all_names is_line_field ms ≡ true = search rules in
    let verb : text_field (codes "verb") (after_at ms) ≡ Some (string_bytes c.in_ok-verb.verb) = ap (text_field (codes "verb")) (sym c.take_whole.ensures.rest) ∙ sym c.in_ok-verb.ensures.value in
    let left : members_view c.take_text.new.fields.entries ≡ after_verb ms = search rules in
    let none : text_field (codes "path") (after_verb ms) ≡ None = ap (text_field (codes "path")) (sym left) ∙ sym c.in_err-path.ensures.value in
    ap (option_map shown) c.from_residual-in_err-path.ensures ∙ sym (no_path ms c.in_ok-at.at (string_bytes c.in_ok-verb.verb) only (sym c.in_ok-at.ensures.value) verb none)

pub returns : goal.returns
returns c =
    let ms = members_view c.args.fields.entries in
    let only : all_names is_line_field ms ≡ true = search rules in
    let verb : text_field (codes "verb") (after_at ms) ≡ Some (string_bytes c.in_ok-verb.verb) = ap (text_field (codes "verb")) (sym c.take_whole.ensures.rest) ∙ sym c.in_ok-verb.ensures.value in
    let left : members_view c.take_text.new.fields.entries ≡ after_verb ms = search rules in
    let path : text_field (codes "path") (after_verb ms) ≡ Some (string_bytes c.in_ok-path.path) = ap (text_field (codes "path")) (sym left) ∙ sym c.in_ok-path.ensures.value in
    let rest : members_view c.take_text-2.new.fields.entries ≡ after_path ms = search rules in
    let body : view c.take_body-body.result ≡ body_or_empty (get_member (codes "body") (after_path ms)) = c.take_body-body.ensures ∙ ap (λ m. body_or_empty (get_member (codes "body") m)) rest in
    whole_line ms c.in_ok-at.at (string_bytes c.in_ok-verb.verb) (string_bytes c.in_ok-path.path) (view c.take_body-body.result) only (sym c.in_ok-at.ensures.value) verb path body
