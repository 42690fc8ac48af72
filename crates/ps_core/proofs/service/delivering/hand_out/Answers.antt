use Rattle.std.proofs.Common.{◌≡◌, ◌+◌, ◌*◌, ℕ, Result, Ok, Err, OnOk, ap, ◌∙◌}
use Rattle.ps_sub.specs.SubState.{SubState}
use Rattle.ps_core.specs.Effects.{given_of, lend_subscription}
use Rattle.ps_core.proofs.service.delivering.hand_out.Goals as goal

on_ok : {A E P : Type 0} (r : Result A E) → P → OnOk r P
on_ok (Ok a) p = p
on_ok (Err e) p = tt

pub returns-clause-after : goal.returns-clause-after
returns-clause-after c =
    let x = c.args.subscription.now in
    let now = c.milliseconds-now.ensures.value in
    let given : c.in_ok-given.given ≡ given_of c.args.at c.args.max c.args.budget x = c.in_ok-given.ensures.given ∙ ap (λ (at : ℕ). given_of at c.args.max c.args.budget x) now in
    on_ok c.received.result
    (ap (λ (sub : SubState). record x { sub = sub }) c.in_ok-given.ensures.after ∙ λ i. lend_subscription (now i + 1000 * c.args.seconds) (given i) x)
