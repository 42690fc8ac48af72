use Rattle.ps_filter.proofs.Whole.{reads_the_grammar, accepts_the_grammar, one_tree, deep_enough}
use Rattle.ps_filter.proofs.laws.law_grammar.Goals as goal

pub returns : goal.returns
returns c = record { reads = reads_the_grammar; accepts = accepts_the_grammar; one_tree = one_tree; deep_enough = deep_enough }
