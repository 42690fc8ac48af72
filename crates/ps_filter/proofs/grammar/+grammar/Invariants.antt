use Rattle.std.proofs.Common.{◌+◌, ◌*◌}
use Rattle.ps_filter.proofs.grammar.+grammar.Given as goal

abbrev pub decreases-expression : goal.decreases-expression
decreases-expression l = 2 * l.deep

abbrev pub decreases-joined : goal.decreases-joined
decreases-joined l = 2 * l.deep

abbrev pub decreases-term : goal.decreases-term
decreases-term l = 2 * l.deep

abbrev pub decreases-behind_and : goal.decreases-behind_and
decreases-behind_and l = 2 * l.deep + 1

abbrev pub decreases-behind_or : goal.decreases-behind_or
decreases-behind_or l = 2 * l.deep + 1

abbrev pub decreases-in_parentheses : goal.decreases-in_parentheses
decreases-in_parentheses l = 2 * l.deep + 1
