use Rattle.std.proofs.Common.{Some, refl, sym, ◌≡◌, ◌∙◌}
use Rattle.ps_core.proofs.carrying.Kept.{topic-there}
use Rattle.ps_core.proofs.listing.Subscriptions.{members-found}
use Rattle.ps_core.proofs.service.Core.subscriptions_of.Goals as goal

pub returns-in_err-topic-clause-found : goal.returns-in_err-topic-clause-found
returns-in_err-topic-clause-found c =
    let there = topic-there _ _ c.self.inside.tables c.self.invariant refl c.args.name.now c.in_ok-number.number (sym c.find.ensures.number ∙ c.in_ok-number.was) in
    absurd (let got = there.1.got in let none = c.in_err-topic.ensures.value in cc (got, none))

pub returns-clause-found : goal.returns-clause-found
returns-clause-found c =
    let there = topic-there _ _ c.self.inside.tables c.self.invariant refl c.args.name.now c.in_ok-number.number (sym c.find.ensures.number ∙ c.in_ok-number.was) in
    let got : Some c.in_ok-topic.topic.now ≡ Some there.0 = c.in_ok-topic.ensures.value ∙ there.1.got in
    let same : there.0 ≡ c.in_ok-topic.topic.now = cc (got) in
    rw (← c.self.view_is) (rw same at (members-found _ _ c.self.inside.tables c.args.name.now c.in_ok-number.number there.0 c.self.invariant there.1))
