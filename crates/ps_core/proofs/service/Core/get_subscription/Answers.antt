use Rattle.std.proofs.Common.{◌∙◌, sym, ap, find, List, ℕ}
use Rattle.ps_model.specs.declared.reply.Reply.TheVariants.{Subscription}
use Rattle.ps_tables.specs.Members.{has_name}
use Rattle.ps_core.proofs.carrying.Outcomes.{missing-carried}
use Rattle.ps_core.proofs.looking.Shown.{subscription-missing, subscription-found}
use Rattle.ps_core.proofs.service.Core.get_subscription.Goals as goal

pub returns-in-None : goal.returns-in-None
returns-in-None c =
    let name = c.args.name.now in
    let missing = ap (λ (n : List ℕ). find (has_name n) c.args.self.now.subscriptions) (sym c.text.ensures.value) ∙ c.in-None.ensures in
    missing-carried c.args._at _ c.args.self.now _ name c.missing.result c.missing.ensures.reply c.missing.ensures.same c.text-in-None.ensures.value
    (subscription-missing c.args._at name c.args.self.now c.requires.can.room missing)

pub returns-in_ok-shown-in-Some : goal.returns-in_ok-shown-in-Some
returns-in_ok-shown-in-Some c =
    let name = c.args.name.now in
    let there = ap (λ (n : List ℕ). find (has_name n) c.args.self.now.subscriptions) (sym c.text.ensures.value) ∙ c.in-Some.ensures in
    rw (c.shows.ensures.reply ∙ ap Subscription (c.in_ok-shown-in-Some.ensures), c.shows.ensures.same)
    (subscription-found c.args._at name c.args.self.now c.requires.can.room c.in-Some.subscription.now there)
