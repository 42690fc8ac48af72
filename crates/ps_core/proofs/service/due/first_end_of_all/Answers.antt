use Rattle.std.proofs.Common.{sym, ap, ◌∙◌, arith}
use Rattle.std.specs.List.{list_any}
use Rattle.ps_core.specs.Settling.{has_due}
use Rattle.ps_core.proofs.settling.Loop.{any-behind}
use Rattle.ps_core.proofs.service.due.first_end_of_all.Goals as goal

pub loop-subscription-init : goal.loop-subscription-init
loop-subscription-init c u before = ap (list_any (has_due u)) (c.into_iter-subscription-iterator.ensures.into_iter_gives ∙ c.values-subscription-items.ensures.rest)

pub loop-subscription-preserved : goal.loop-subscription-preserved
loop-subscription-preserved c u before =
    any-behind (has_due u) c.in-Some.subscription.now _ _ c.in-Some.ensures.steps (c.first_end.ensures u (omega (arith, before, c.min-first.ensures)))
    ∙ c.loop-subscription.invariant u (omega (arith, before, c.min-first.ensures))

pub returns : goal.returns
returns c u before = sym (c.loop-subscription.invariant u before) ∙ ap (list_any (has_due u)) c.in-None.ensures.steps.0
