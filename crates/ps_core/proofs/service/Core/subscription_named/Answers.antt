use Rattle.std.proofs.Common.{sym, refl, ◌∙◌}
use Rattle.ps_core.proofs.carrying.Kept.{subscription-there}
use Rattle.ps_core.proofs.looking.Found.{looked-self}
use Rattle.ps_core.proofs.service.Core.subscription_named.Goals as goal

pub returns-in-Some : goal.returns-in-Some
returns-in-Some c =
    let there = subscription-there _ _ c.self.inside.tables c.self.invariant refl c.args.name.now c.in-Some.number (sym c.find.ensures.number ∙ c.in-Some.is) in
    rw (← c.self.view_is) (looked-self _ c.get.result (c.get.ensures.value ∙ there.1.got ∙ sym there.1.named))
