use Rattle.std.proofs.Common.{◌≡◌, map, take}
use Rattle.ps_model.specs.Showing.{topic_shown}
use Rattle.ps_core.specs.Pages.{rows_at}
use Rattle.ps_core.specs.State.{topic_number}
use Rattle.ps_core.proofs.service.Core.topics_shown.Given as goal

abbrev pub invariant-loop-number : goal.invariant-loop-number
invariant-loop-number l = l.items ≡ map topic_shown (rows_at topic_number (take l.number-index l.numbers) l.self.topics)
