use Rattle.std.proofs.Common.{◌≡◌, true, false, nat_eq, Some, find, refl, sym, ap, ◌∙◌, subst}
use Rattle.std.specs.List.{AllByRecursion}
use Rattle.std.specs.Option.{IsSome}
use Rattle.ps_base.proofs.Lists.{each-found, each-then}
use Rattle.ps_config.specs.Masks.{masked_sub}
use Rattle.ps_config.specs.declared.config.SubConfig.{SubConfig}
use Rattle.ps_model.specs.declared.command.Command.TheVariants.{UpdateSubscription}
use Rattle.ps_model.specs.declared.reply.Reply.TheVariants.{Subscription}
use Rattle.ps_model.specs.declared.reply.SubShown.{SubShown}
use Rattle.ps_model.specs.Same.{same_sub_config}
use Rattle.ps_model.specs.Showing.{sub_shown}
use Rattle.ps_tables.specs.declared.kept_subscription.KeptSubscription.{KeptSubscription}
use Rattle.ps_core.specs.contracts.service.Core.{the_view}
use Rattle.ps_core.specs.Carrying.{IsCarried}
use Rattle.ps_core.specs.Changing.{KeepsRest, change_subscription, with_settings}
use Rattle.ps_core.specs.Effects.{recorded_at}
use Rattle.ps_tables.specs.Members.{has_name}
use Rattle.ps_core.specs.State.{State, seen, sub_row}
use Rattle.ps_tables.specs.Subscriptions.{number_of}
use Rattle.ps_core.specs.Steady.{HasGoodSettings, IsSteady, IsSteadySubscription}
use Rattle.ps_tables.proofs.lists.Options.{one-some}
use Rattle.ps_core.proofs.carrying.Outcomes.{missing-carried}
use Rattle.ps_tables.proofs.numbers.Changes.{same-number}
use Rattle.ps_core.proofs.changing.Settings.{sub-stays-good}
use Rattle.ps_core.proofs.changing.UpdatingSubscriptions as updates
use Rattle.ps_core.proofs.service.Core.update_subscription.Goals as goal

pub returns-in_default : goal.returns-in_default
returns-in_default c =
    let name = c.args.name.now in
    let x = c.self.inside in
    missing-carried c.args.at (UpdateSubscription name c.args.mask c.args.config.now) c.args.self.now _ name c.missing.result c.missing.ensures.reply c.missing.ensures.same c.text-in_default.ensures.value
    (updates.sub-missing c.args.at name c.args.mask c.args.config.now c.args.self.now c.requires.can c.requires.built c.requires.good
    (updates.sub-unlooked (the_view x) c.args.self.now x.next_end x.tables c.self.invariant c.self.view_is _ name c.text.ensures.value c.find.result c.find.ensures.number c.in_default.is))

pub index-subscription-requires : goal.index-subscription-requires
index-subscription-requires c =
    let x = c.self.inside in
    let found = updates.sub-looked (the_view x) c.args.self.now x.next_end x.tables c.self.invariant refl c.self.view_is _ c.args.name.now c.text.ensures.value c.find.result c.in-Some.number c.find.ensures.number c.in-Some.is in
    subst IsSome (sym found.1.0.got) refl

pub returns-then-not-changed : goal.returns-then-not-changed
returns-then-not-changed c =
    let name = c.args.name.now in
    let x = c.self.inside in
    let y = c.index-subscription.result.now in
    let found = updates.sub-looked (the_view x) c.args.self.now x.next_end x.tables c.self.invariant refl c.self.view_is _ name c.text.ensures.value c.find.result c.in-Some.number c.find.ensures.number c.in-Some.is in
    let here : found.0 ≡ y = one-some (sym found.1.0.got ∙ c.index-subscription.ensures) in
    let named : find (has_name name) c.args.self.now.subscriptions ≡ Some y = found.1.1 ∙ ap (λ (z : KeptSubscription). Some z) here in
    let number : c.in-Some.number ≡ y.number = sym found.1.0.number ∙ ap number_of here in
    let steady : IsSteady c.args.self.now = subst IsSteady c.self.view_is c.self.invariant.steady in
    let own : IsSteadySubscription c.args.self.now y = each-found (IsSteadySubscription c.args.self.now) (has_name name) c.args.self.now.subscriptions y named steady.each in
    let made : c.apply_sub.new.config ≡ masked_sub c.args.mask y.sub.config c.args.config.now = c.apply_sub.ensures ∙ (λ i. masked_sub c.args.mask ((c.in_ok-new.ensures ∙ c.config.ensures) i) (c.in_ok-copy.ensures i)) in
    let same : same_sub_config (masked_sub c.args.mask y.sub.config c.args.config.now) y.sub.config ≡ true =
    (λ i. same_sub_config (sym made i) (sym c.config-2.ensures i)) ∙ sym c.same_sub_config-changed.ensures.same ∙ c.if-not-changed.true in
    let shown : ◌≡◌ {A = SubShown} (record c.in_ok-shown.shown { config = c.in_ok-shown-2.field-0 }) (record (sub_shown (seen c.args.self.now) (sub_row y)) { config = masked_sub c.args.mask y.sub.config c.args.config.now }) =
    λ i. record (c.in_ok-shown.ensures i) { config = (c.in_ok-shown-2.ensures ∙ made) i } in
    rw (c.shows.ensures.reply, c.shows.ensures.same)
    (subst (λ (z : SubShown). IsCarried c.args.at (UpdateSubscription name c.args.mask c.args.config.now) c.args.self.now c.args.self.now (Subscription z) false) (sym shown)
    (updates.sub-rests c.args.at name c.args.mask c.args.config.now c.args.self.now c.requires.can c.requires.built c.requires.good y steady named same))

pub configure_subscription-requires-clause-settings : goal.configure_subscription-requires-clause-settings
configure_subscription-requires-clause-settings c =
    let name = c.args.name.now in
    let x = c.self.inside in
    let y = c.index-subscription.result.now in
    let found = updates.sub-looked (the_view x) c.args.self.now x.next_end x.tables c.self.invariant refl c.self.view_is _ name c.text.ensures.value c.find.result c.in-Some.number c.find.ensures.number c.in-Some.is in
    let here : found.0 ≡ y = one-some (sym found.1.0.got ∙ c.index-subscription.ensures) in
    let named : find (has_name name) c.args.self.now.subscriptions ≡ Some y = found.1.1 ∙ ap (λ (z : KeptSubscription). Some z) here in
    let number : c.in-Some.number ≡ y.number = sym found.1.0.number ∙ ap number_of here in
    let steady : IsSteady c.args.self.now = subst IsSteady c.self.view_is c.self.invariant.steady in
    let own : IsSteadySubscription c.args.self.now y = each-found (IsSteadySubscription c.args.self.now) (has_name name) c.args.self.now.subscriptions y named steady.each in
    let made : c.apply_sub.new.config ≡ masked_sub c.args.mask y.sub.config c.args.config.now = c.apply_sub.ensures ∙ (λ i. masked_sub c.args.mask ((c.in_ok-new.ensures ∙ c.config.ensures) i) (c.in_ok-copy.ensures i)) in
    subst HasGoodSettings (sym made) (sub-stays-good c.args.mask y.sub.config c.args.config.now c.requires.built c.requires.good own.settings)

pub configure_subscription-requires-clause-rest : goal.configure_subscription-requires-clause-rest
configure_subscription-requires-clause-rest c =
    let name = c.args.name.now in
    let x = c.self.inside in
    let y = c.index-subscription.result.now in
    let found = updates.sub-looked (the_view x) c.args.self.now x.next_end x.tables c.self.invariant refl c.self.view_is _ name c.text.ensures.value c.find.result c.in-Some.number c.find.ensures.number c.in-Some.is in
    let here : found.0 ≡ y = one-some (sym found.1.0.got ∙ c.index-subscription.ensures) in
    let named : find (has_name name) c.args.self.now.subscriptions ≡ Some y = found.1.1 ∙ ap (λ (z : KeptSubscription). Some z) here in
    let number : c.in-Some.number ≡ y.number = sym found.1.0.number ∙ ap number_of here in
    let steady : IsSteady c.args.self.now = subst IsSteady c.self.view_is c.self.invariant.steady in
    let own : IsSteadySubscription c.args.self.now y = each-found (IsSteadySubscription c.args.self.now) (has_name name) c.args.self.now.subscriptions y named steady.each in
    let made : c.apply_sub.new.config ≡ masked_sub c.args.mask y.sub.config c.args.config.now = c.apply_sub.ensures ∙ (λ i. masked_sub c.args.mask ((c.in_ok-new.ensures ∙ c.config.ensures) i) (c.in_ok-copy.ensures i)) in
    subst (λ (s : State). AllByRecursion (λ (z : KeptSubscription). nat_eq z.number c.in-Some.number ≡ true → KeepsRest c.apply_sub.new.config z.sub.config) s.subscriptions) (sym c.record.ensures)
    (subst (λ (k : SubConfig). AllByRecursion (λ (z : KeptSubscription). nat_eq z.number c.in-Some.number ≡ true → KeepsRest k z.sub.config) c.args.self.now.subscriptions) (sym made)
    (each-then (λ (z : KeptSubscription). nat_eq z.number c.in-Some.number ≡ true → z ≡ y) (λ (z : KeptSubscription). nat_eq z.number c.in-Some.number ≡ true → KeepsRest (masked_sub c.args.mask y.sub.config c.args.config.now) z.sub.config) c.args.self.now.subscriptions
    (λ z is e. record { ordering = ap (λ (k : KeptSubscription). k.sub.config.ordering) (sym (is e)); filter = ap (λ (k : KeptSubscription). k.sub.config.filter) (sym (is e)) })
    (same-number number_of c.in-Some.number y c.args.self.now.subscriptions steady.subscriptions
    (subst (λ (n : _). find (λ (z : KeptSubscription). nat_eq z.number n) c.args.self.now.subscriptions ≡ Some y) (sym number) (updates.here c.args.at name c.args.mask c.args.config.now c.args.self.now c.requires.can c.requires.built c.requires.good y steady named)))))

pub returns : goal.returns
returns c =
    let name = c.args.name.now in
    let x = c.self.inside in
    let y = c.index-subscription.result.now in
    let found = updates.sub-looked (the_view x) c.args.self.now x.next_end x.tables c.self.invariant refl c.self.view_is _ name c.text.ensures.value c.find.result c.in-Some.number c.find.ensures.number c.in-Some.is in
    let here : found.0 ≡ y = one-some (sym found.1.0.got ∙ c.index-subscription.ensures) in
    let named : find (has_name name) c.args.self.now.subscriptions ≡ Some y = found.1.1 ∙ ap (λ (z : KeptSubscription). Some z) here in
    let number : c.in-Some.number ≡ y.number = sym found.1.0.number ∙ ap number_of here in
    let steady : IsSteady c.args.self.now = subst IsSteady c.self.view_is c.self.invariant.steady in
    let own : IsSteadySubscription c.args.self.now y = each-found (IsSteadySubscription c.args.self.now) (has_name name) c.args.self.now.subscriptions y named steady.each in
    let made : c.apply_sub.new.config ≡ masked_sub c.args.mask y.sub.config c.args.config.now = c.apply_sub.ensures ∙ (λ i. masked_sub c.args.mask ((c.in_ok-new.ensures ∙ c.config.ensures) i) (c.in_ok-copy.ensures i)) in
    let other : same_sub_config (masked_sub c.args.mask y.sub.config c.args.config.now) y.sub.config ≡ false =
    (λ i. same_sub_config (sym made i) (sym c.config-2.ensures i)) ∙ sym c.same_sub_config-changed.ensures.same ∙ c.if-not-changed.false in
    let shown : ◌≡◌ {A = SubShown} (record c.in_ok-shown.shown { config = c.in_ok-shown-2.field-0 }) (record (sub_shown (seen c.args.self.now) (sub_row y)) { config = masked_sub c.args.mask y.sub.config c.args.config.now }) =
    λ i. record (c.in_ok-shown.ensures i) { config = (c.in_ok-shown-2.ensures ∙ made) i } in
    let after : c.configure_subscription.new.self ≡ change_subscription y.number (with_settings (masked_sub c.args.mask y.sub.config c.args.config.now)) (recorded_at c.args.at c.args.self.now) =
    c.in_ok-configure_subscription.ensures.changed ∙ (λ i. change_subscription (number i) (with_settings (made i)) (c.record.ensures i)) in
    rw (c.changes.ensures.reply, c.changes.ensures.changed)
    (subst (λ (p : State × SubShown). IsCarried c.args.at (UpdateSubscription name c.args.mask c.args.config.now) c.args.self.now p.0 (Subscription p.1) true) (λ i. (sym after i, sym shown i))
    (updates.sub-changed c.args.at name c.args.mask c.args.config.now c.args.self.now c.requires.can c.requires.built c.requires.good y steady named (subst IsSteady after c.in_ok-configure_subscription.ensures.steady) other))
