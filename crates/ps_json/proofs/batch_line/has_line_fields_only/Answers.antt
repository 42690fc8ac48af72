use Rattle.std.proofs.Common.{◌≡◌, ◌∙◌, ap, sym, rules, string_bytes}
use Rattle.std.specs.List.{list_all}
use Rattle.std.specs.Map.{keys_of}
use Rattle.ps_fields.proofs.FieldLemmas.{all_names-members_view}
use Rattle.ps_json.specs.Line.{is_line_field}
use Rattle.ps_json.proofs.batch_line.has_line_fields_only.Goals as goal

pub loop-name-init : goal.loop-name-init
loop-name-init c =
    let all : c.into_iter-name-iterator.result ≡ keys_of c.args.fields.now.entries = search rules in
    all_names-members_view is_line_field c.args.fields.now.entries ∙ ap (list_all (λ k. is_line_field (string_bytes k))) (sym all)
