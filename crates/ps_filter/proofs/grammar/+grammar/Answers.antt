use Rattle.std.proofs.Common.{◌∙◌, sym, arith}
use Rattle.ps_filter.specs.Kept.{meaning}
use Rattle.ps_filter.proofs.GrammarLemmas.{joined_by_and, joined_by_or}
use Rattle.ps_filter.proofs.grammar.+grammar.Goals as goal

pub joined-returns-then-is_word : goal.joined-returns-then-is_word
joined-returns-then-is_word t c =
    rw (joined_by_and c.args.deep c.args.level (meaning c.args.tree) c.args.tokens.now _ _ (omega arith) c.in-Some.ensures (sym c.is_word.ensures ∙ c.if-is_word.true) (sym c.has_ors.ensures ∙ c.if-has_ors.false)) c.behind_and.ensures

pub joined-returns-then-is_word-2 : goal.joined-returns-then-is_word-2
joined-returns-then-is_word-2 t c =
    rw (joined_by_or c.args.deep c.args.level (meaning c.args.tree) c.args.tokens.now _ _ (omega arith) c.in-Some.ensures (sym c.is_word.ensures ∙ c.if-is_word.false) (sym c.is_word-2.ensures ∙ c.if-is_word-2.true) (sym c.has_ands.ensures ∙ c.if-has_ands.false)) c.behind_or.ensures
