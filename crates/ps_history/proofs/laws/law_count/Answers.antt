use Rattle.ps_core.specs.Counts.{counts_entries}
use Rattle.ps_history.proofs.laws.law_count.Goals as goal

pub returns : goal.returns
returns c = counts_entries
