use Rattle.std.proofs.Common.{◌≡◌, string_bytes}
use Rattle.std.specs.List.{list_all}
use Rattle.serde_json.specs.View.{members_view}
use Rattle.ps_fields.specs.Fields.{all_names}
use Rattle.ps_json.specs.Line.{is_line_field}
use Rattle.ps_json.proofs.batch_line.has_line_fields_only.Given as goal

-- the fields so far pass, so all is said by those that are left
abbrev pub invariant-loop-name : goal.invariant-loop-name
invariant-loop-name l = all_names is_line_field (members_view l.fields.entries) ≡ list_all (λ k. is_line_field (string_bytes k)) l.name-iterator
