use Rattle.std.proofs.Common.{◌≡◌, ◌++◌, map, append-nil, ap, sym, ◌∙◌}
use Rattle.serde_json.specs.View.{members_view}
use Rattle.ps_base.specs.Keys.{has_ascending_keys}
use Rattle.ps_fields.specs.Fields.{pairs_of}
use Rattle.ps_fields.specs.Kinds.{key_and_text}
use Rattle.ps_fields.proofs.KindLemmas.{ascending}
use Rattle.ps_fields.proofs.kinds.pairs.Goals as goal

pub returns-clause-ascending : goal.returns-clause-ascending
returns-clause-ascending c =
    let all : c.loop-key.pairs ≡ map key_and_text (pairs_of (members_view c.args.texts.now.entries)) =
    sym (append-nil c.loop-key.pairs) ∙ ap (λ rest. c.loop-key.pairs ++ map key_and_text (pairs_of (members_view rest))) (sym c.in-None.ensures.steps.0) ∙ c.loop-key.invariant.1 in
    ap has_ascending_keys all ∙ ascending c.args.texts.now.entries c.iter-key-items.ensures.ordered
