use Rattle.std.proofs.Common.{◌≡◌, map, take}
use Rattle.ps_core.specs.Pages.{rows_at, sub_number, sub_name}
use Rattle.ps_core.specs.State.{seen}
use Rattle.ps_core.proofs.service.Core.subscription_names.Given as goal

abbrev pub invariant-loop-number : goal.invariant-loop-number
invariant-loop-number l = l.names ≡ map sub_name (rows_at sub_number (take l.number-index l.numbers) (seen l.self).subs)
