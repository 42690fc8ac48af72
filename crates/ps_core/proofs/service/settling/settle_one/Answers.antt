use Rattle.std.proofs.Common.{ap, ◌∙◌}
use Rattle.ps_sub.specs.SubState.{SubState}
use Rattle.ps_core.specs.Effects.{settle_subscription}
use Rattle.ps_core.proofs.service.settling.settle_one.Goals as goal

pub returns : goal.returns
returns c =
    let x = c.args.subscription.now in
    ap (λ (sub : SubState). record x { sub = sub }) c.in_ok-_dead_letters.ensures.after ∙ ap (λ at. settle_subscription at x) c.milliseconds.ensures.value
