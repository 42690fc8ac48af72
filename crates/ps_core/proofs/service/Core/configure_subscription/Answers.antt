use Rattle.std.proofs.Common.{◌≡◌, true, nat_eq, refl, sym, subst}
use Rattle.std.specs.List.{AllByRecursion}
use Rattle.ps_tables.specs.declared.kept_subscription.KeptSubscription.{KeptSubscription}
use Rattle.ps_tables.specs.declared.tables.Tables.{Tables}
use Rattle.ps_core.specs.contracts.service.Core.{the_view}
use Rattle.ps_core.specs.Changing.{KeepsRest}
use Rattle.ps_core.specs.Keeping.{IsKept}
use Rattle.ps_core.specs.State.{State}
use Rattle.ps_core.proofs.changing.Subscriptions.{kept-settings, settings-view}
use Rattle.ps_core.proofs.service.Core.configure_subscription.Goals as goal

pub invariant_of-self-in_default : goal.invariant_of-self-in_default
invariant_of-self-in_default c =
    let x = c.self.inside in
    let after : Tables = record x.tables { subscriptions = c.put_settings.new.subscriptions } in
    let rest : AllByRecursion (λ (y : KeptSubscription). nat_eq y.number c.args.number ≡ true → KeepsRest c.args.config.now y.sub.config) (the_view x).subscriptions =
    subst (λ (s : State). AllByRecursion (λ (y : KeptSubscription). nat_eq y.number c.args.number ≡ true → KeepsRest c.args.config.now y.sub.config) s.subscriptions) (sym c.self.view_is) c.requires.rest in
    subst (λ (s : State). IsKept s x.next_end after) (sym (settings-view c.args.number c.args.config.now x.clock x.count x.next_topic x.next_sub x.next_message x.tables after refl refl c.in_default.ensures.values))
    (kept-settings c.args.number c.args.config.now (the_view x) x.next_end x.tables after c.self.invariant c.requires.settings rest refl refl refl refl c.in_default.ensures.numbered)

pub returns-clause-steady : goal.returns-clause-steady
returns-clause-steady c = let kept = invariant_of-self-in_default c in kept.steady
