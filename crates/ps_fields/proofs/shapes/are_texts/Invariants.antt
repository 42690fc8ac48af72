use Rattle.std.proofs.Common.{◌≡◌}
use Rattle.std.specs.List.{list_all}
use Rattle.serde_json.specs.View.{members_view}
use Rattle.ps_fields.specs.Fields.{pairs_of}
use Rattle.ps_fields.specs.Kinds.{is_text}
use Rattle.ps_fields.proofs.shapes.are_texts.Given as goal

-- the values so far are texts, so all is said by those that are left
abbrev pub invariant-loop-value : goal.invariant-loop-value
invariant-loop-value l = list_all is_text (pairs_of (members_view l.texts.entries)) ≡ list_all is_text (pairs_of (members_view l.value-iterator))
