use Rattle.std.proofs.Common.{◌≡◌, map, take}
use Rattle.ps_model.specs.Showing.{sub_shown}
use Rattle.ps_core.specs.Pages.{rows_at, sub_number}
use Rattle.ps_core.specs.State.{seen}
use Rattle.ps_core.proofs.service.Core.subscriptions_shown.Given as goal

abbrev pub invariant-loop-number : goal.invariant-loop-number
invariant-loop-number l = l.items ≡ map (sub_shown (seen l.self)) (rows_at sub_number (take l.number-index l.numbers) (seen l.self).subs)
