use Rattle.std.proofs.Common.{◌∙◌, ap}
use Rattle.ps_filter.specs.Tokens.{tokens}
use Rattle.ps_filter.proofs.GrammarLemmas.{read_whole}
use Rattle.ps_filter.proofs.filter.Filter.read.Goals as goal

pub invariant_of-result : goal.invariant_of-result
invariant_of-result c =
    (c.end.new.self, read_whole c.args.text.now _ _ _ _ _ _ c.in_ok-text.ensures (c.new-cursor.ensures ∙ c.as_slice.ensures ∙ c.in_ok-tokens.ensures ∙ ap tokens c.as_bytes.ensures.value) c.in_ok-tree.ensures c.in_ok-end.ensures)
