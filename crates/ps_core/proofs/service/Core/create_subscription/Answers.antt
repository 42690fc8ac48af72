use Rattle.std.proofs.Common.{ℕ, ◌≡◌, ◌≤◌, ◌<◌, ◌+◌, nat_eq, List, None, Some, find, map, sym, refl, arith, ap, subst, ◌∙◌}
use Rattle.std.specs.BTreeMap.{insert_entry, values}
use Rattle.std.specs.Ordering.{nat_cmp}
use Rattle.ps_model.specs.declared.command.Command.TheVariants.{CreateSubscription}
use Rattle.ps_model.specs.declared.reply.Reply.TheVariants.{Subscription}
use Rattle.ps_model.specs.declared.world.TopicRow.{TopicRow}
use Rattle.ps_model.specs.Showing.{sub_shown}
use Rattle.ps_model.specs.Worlds.{topic_named}
use Rattle.ps_tables.specs.declared.kept_subscription.KeptSubscription.{KeptSubscription}
use Rattle.ps_core.specs.Built.{unbuilt_topic_setting}
use Rattle.ps_core.specs.Effects.{recorded_at, add_subscription, new_subscription}
use Rattle.ps_core.specs.Keeping.{state_of, has_topic_name, the_message}
use Rattle.ps_tables.specs.Members.{has_name}
use Rattle.ps_core.specs.State.{State, seen, sub_row, topic_number}
use Rattle.ps_core.specs.Steady.{IsSteady}
use Rattle.ps_tables.specs.TableEdits.{JoinsTopic, PutsName}
use Rattle.ps_core.specs.contracts.service.Core.{the_view}
use Rattle.ps_base.proofs.Lists.{each-found}
use Rattle.ps_tables.proofs.numbers.Changes.{found-by-number}
use Rattle.ps_core.proofs.carrying.Outcomes.{missing-carried, taken-carried}
use Rattle.ps_core.proofs.creating.Kept.{joined, kept-subscription, subscriptions-added}
use Rattle.ps_core.proofs.creating.Settings.{no-window}
use Rattle.ps_core.proofs.creating.Steady.{subscription-steady}
use Rattle.ps_core.proofs.creating.Subscriptions.{sub-made, sub-missing, sub-taken}
use Rattle.ps_core.proofs.creating.Topics.{carried-as}
use Rattle.ps_core.proofs.looking.Found.{found-none, found-some}
use Rattle.ps_core.proofs.service.Core.create_subscription.Goals as goal

pub returns-in_default : goal.returns-in_default
returns-in_default c =
    let topic = c.args.topic.now in
    let missing = ap (topic_named (seen c.args.self.now)) (sym c.text.ensures.value) ∙ c.in_default.ensures in
    missing-carried c.args.at _ c.args.self.now _ topic c.missing.result c.missing.ensures.reply c.missing.ensures.same c.text-in_default.ensures.value
    (sub-missing c.args.at c.args.name.now topic c.args.config.now c.args.self.now c.requires.can.room (record { built = c.requires.built; good = c.requires.good }) missing)

pub returns-then-is_some : goal.returns-then-is_some
returns-then-is_some c =
    let name = c.args.name.now in
    let topic = c.args.topic.now in
    let there = ap (topic_named (seen c.args.self.now)) (sym c.text.ensures.value) ∙ c.in-Some.ensures in
    let found = found-some (λ (x : KeptSubscription). x) _ c.subscription_named.result c.subscription_named.ensures (sym c.is_some.ensures ∙ c.if-is_some.true) in
    let taken = ap (λ (n : List ℕ). find (has_name n) c.args.self.now.subscriptions) (sym c.text-2.ensures.value) ∙ found.1 in
    taken-carried c.args.at _ c.args.self.now _ name c.taken.result c.taken.ensures.reply c.taken.ensures.same c.text-then-is_some.ensures.value
    (sub-taken c.args.at name topic c.args.config.now c.args.self.now c.requires.can.room (record { built = c.requires.built; good = c.requires.good }) c.in-Some.kept.now.row there found.0 taken)

-- the topic is there
there : (c : goal.After-changes) → topic_named (seen c.args.self.now) c.args.topic.now ≡ Some c.in-Some.kept.now.row
there c = ap (topic_named (seen c.args.self.now)) (sym c.text.ensures.value) ∙ c.in-Some.ensures

-- no subscription has the name
nowhere : (c : goal.After-changes) → find (has_name c.args.name.now) c.args.self.now.subscriptions ≡ None
nowhere c =
    ap (λ (n : List ℕ). find (has_name n) c.args.self.now.subscriptions) (sym c.text-2.ensures.value)
    ∙ found-none (λ (x : KeptSubscription). x) _ c.subscription_named.result c.subscription_named.ensures (sym c.is_some.ensures ∙ c.if-is_some.false)

-- the state with one entry more
recorded : (c : goal.After-changes) → the_view c.self-2.inside ≡ recorded_at c.args.at c.args.self.now
recorded c = c.self-2.view_is ∙ c.record.ensures

steady : (c : goal.After-changes) → IsSteady c.args.self.now
steady c = rw (← c.self.view_is) c.self.invariant.steady

new : (c : goal.After-changes) → find (has_name c.args.name.now) (the_view c.self-2.inside).subscriptions ≡ None
new c = ap (λ (s : State). find (has_name c.args.name.now) s.subscriptions) (recorded c) ∙ nowhere c

-- the topic by its number
numbered : (c : goal.After-changes) → find (λ (r : TopicRow). nat_eq r.number c.in-Some.kept.now.row.number) (the_view c.self-2.inside).topics ≡ Some c.in-Some.kept.now.row
numbered c =
    ap (λ (s : State). find (λ (r : TopicRow). nat_eq r.number c.in-Some.kept.now.row.number) s.topics) (recorded c)
    ∙ found-by-number topic_number (has_topic_name c.args.topic.now) c.args.self.now.topics c.in-Some.kept.now.row (steady c).topics (there c)

-- the subscription that is added
own : (c : goal.After-changes) → c.in_ok-subscription.subscription ≡ new_subscription (the_view c.self-2.inside).next_sub c.args.name.now c.in-Some.kept.now.row.number c.args.config.now
own c =
    let next = ap (λ (s : State). s.next_sub) c.self.view_is ∙ sym (ap (λ (s : State). s.next_sub) (recorded c)) in
    c.in_ok-subscription.ensures ∙ ap (λ (n : ℕ). new_subscription n c.args.name.now c.in-Some.kept.now.row.number c.args.config.now) next

-- what the tables have now
abbrev added : (c : goal.After-changes) → KeptSubscription
added c = new_subscription (the_view c.self-2.inside).next_sub c.args.name.now c.in-Some.kept.now.row.number c.args.config.now

joins : (c : goal.After-changes) → JoinsTopic c.self-2.inside.tables.topics (added c) c.add_subscription.new.self.topics
joins c = subst (λ (x : KeptSubscription). JoinsTopic c.self-2.inside.tables.topics x c.add_subscription.new.self.topics) (own c) c.in_default-add_subscription.ensures.topics

entries : (c : goal.After-changes) → c.add_subscription.new.self.subscriptions.entries ≡ insert_entry nat_cmp c.self-2.inside.tables.subscriptions.entries (added c).number (added c)
entries c = c.in_default-add_subscription.ensures.subscriptions ∙ ap (λ (x : KeptSubscription). insert_entry nat_cmp c.self-2.inside.tables.subscriptions.entries x.number x) (own c)

names : (c : goal.After-changes) → PutsName c.self-2.inside.tables.subscription_numbers c.args.name.now (added c).number c.add_subscription.new.self.subscription_numbers
names c = subst (λ (x : KeptSubscription). PutsName c.self-2.inside.tables.subscription_numbers x.name x.number c.add_subscription.new.self.subscription_numbers) (own c) c.in_default-add_subscription.ensures.subscription_numbers

steady-after : (c : goal.After-changes) → IsSteady (add_subscription c.args.name.now c.in-Some.kept.now.row.number c.args.config.now (the_view c.self-2.inside))
steady-after c =
    let s = the_view c.self-2.inside in
    let few : s.next_sub ≤ s.count = omega (arith, (steady c).subs_few, ap (λ (s : State). s.next_sub) (recorded c), ap (λ (s : State). s.count) (recorded c)) in
    let made = each-found (λ (r : TopicRow). r.number < s.next_topic) (λ (r : TopicRow). nat_eq r.number c.in-Some.kept.now.row.number) s.topics c.in-Some.kept.now.row (numbered c) c.self-2.invariant.steady.topics_below in
    subscription-steady c.args.name.now c.in-Some.kept.now.row.number c.args.config.now s c.text-2.ensures.grammar c.self-2.invariant.steady few made (record { built = c.requires.built; good = c.requires.good }) (new c)

-- the state with the subscription
made : (c : goal.After-changes) → (let x = c.self-2.inside in
    state_of x.clock x.count x.next_topic (x.next_sub + 1) x.next_message c.add_subscription.new.self ≡ add_subscription c.args.name.now c.in-Some.kept.now.row.number c.args.config.now (the_view x))
made c =
    let s = the_view c.self-2.inside in
    let x = new_subscription s.next_sub c.args.name.now c.in-Some.kept.now.row.number c.args.config.now in
    λ i. record (add_subscription c.args.name.now c.in-Some.kept.now.row.number c.args.config.now s) {
      topics = (joined s c.self-2.inside.next_end c.self-2.inside.tables c.add_subscription.new.self x c.self-2.invariant refl (new c) refl c.in-Some.kept.now.row (numbered c) (joins c)).rows i;
      subscriptions = (subscriptions-added s c.self-2.inside.next_end c.self-2.inside.tables x c.self-2.invariant refl refl c.add_subscription.new.self (entries c)).1 i;
      messages = map the_message (values (c.in_default-add_subscription.ensures.messages i));
    }

pub invariant_of-self-2 : goal.invariant_of-self-2
invariant_of-self-2 c =
    rw (made c)
    (kept-subscription c.args.name.now c.in-Some.kept.now.row.number c.args.config.now (the_view c.self-2.inside) c.self-2.inside.next_end c.self-2.inside.tables c.add_subscription.new.self c.self-2.invariant refl refl (steady-after c) (new c)
    c.in-Some.kept.now.row (numbered c) (joins c) c.in_default-add_subscription.ensures.topic_numbers (entries c) (names c) c.in_default-add_subscription.ensures.messages)

pub returns : goal.returns
returns c =
    let name = c.args.name.now in
    let topic = c.args.topic.now in
    let config = c.args.config.now in
    let row = c.in-Some.kept.now.row in
    let now = c.args.self.now in
    let window = no-window row.config (each-found (λ (r : TopicRow). unbuilt_topic_setting r.config ≡ None) (has_topic_name topic) now.topics row (there c) (steady c).topic_settings) in
    let shown = sub_shown (seen now) (sub_row (new_subscription now.next_sub name row.number config)) in
    let own = c.in_ok-subscription.ensures ∙ ap (λ (s : State). new_subscription s.next_sub name row.number config) c.self.view_is in
    carried-as c.args.at (CreateSubscription name topic config) now (recorded_at c.args.at (add_subscription name row.number config now)) _ (Subscription shown) _ _
    (made c ∙ ap (add_subscription name row.number config) (recorded c)) (c.changes.ensures.reply ∙ ap Subscription (c.in_ok-shown.ensures ∙ ap (λ (x : KeptSubscription). sub_shown (seen now) (sub_row x)) own)) c.changes.ensures.changed
    (sub-made c.args.at name topic config now (steady c) row (subst (λ (s : State). IsSteady (add_subscription name row.number config s)) (recorded c) (steady-after c)) c.requires.can.room (record { built = c.requires.built; good = c.requires.good }) (there c) window (nowhere c))
