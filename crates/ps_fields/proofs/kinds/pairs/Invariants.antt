use Rattle.std.proofs.Common.{◌≡◌, ◌++◌, map}
use Rattle.std.specs.List.{list_all}
use Rattle.serde_json.specs.View.{members_view}
use Rattle.ps_fields.specs.Fields.{pairs_of}
use Rattle.ps_fields.specs.Kinds.{is_text, key_and_text}
use Rattle.ps_fields.proofs.kinds.pairs.Given as goal

-- the values so far are texts, and stand with their keys before those that are left
abbrev pub invariant-loop-key : goal.invariant-loop-key
invariant-loop-key l =
    (list_all is_text (pairs_of (members_view l.texts.entries)) ≡ list_all is_text (pairs_of (members_view l.key-iterator)))
    × (l.pairs ++ map key_and_text (pairs_of (members_view l.key-iterator)) ≡ map key_and_text (pairs_of (members_view l.texts.entries)))
