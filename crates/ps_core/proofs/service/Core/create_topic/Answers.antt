use Rattle.std.proofs.Common.{◌≡◌, ◌≤◌, ◌+◌, None, map, sym, refl, arith, ap, subst, ◌∙◌}
use Rattle.std.specs.BTreeMap.{values}
use Rattle.ps_model.specs.declared.command.Command.TheVariants.{CreateTopic}
use Rattle.ps_model.specs.declared.reply.Reply.TheVariants.{Topic}
use Rattle.ps_model.specs.declared.world.TopicRow.{TopicRow}
use Rattle.ps_model.specs.Showing.{topic_shown}
use Rattle.ps_model.specs.Worlds.{topic_named}
use Rattle.ps_core.specs.Effects.{recorded_at, add_topic}
use Rattle.ps_core.specs.Keeping.{state_of, the_message, the_row}
use Rattle.ps_core.specs.State.{State, seen}
use Rattle.ps_core.specs.Steady.{IsSteady}
use Rattle.ps_tables.specs.TableEdits.{AddsTopic, PutsName}
use Rattle.ps_core.specs.contracts.service.Core.{the_view}
use Rattle.ps_core.proofs.carrying.Outcomes.{taken-carried}
use Rattle.ps_core.proofs.creating.Kept.{kept-topic, rows-added}
use Rattle.ps_core.proofs.creating.Steady.{topic-steady}
use Rattle.ps_core.proofs.creating.Topics.{carried-as, topic-made, topic-taken}
use Rattle.ps_core.proofs.looking.Found.{found-none, found-some}
use Rattle.ps_core.proofs.service.Core.create_topic.Goals as goal

pub returns-then-is_some : goal.returns-then-is_some
returns-then-is_some c =
    let name = c.args.name.now in
    let found = found-some the_row _ c.topic_named.result c.topic_named.ensures (sym c.is_some.ensures ∙ c.if-is_some.true) in
    let there = ap (topic_named (seen c.args.self.now)) (sym c.text.ensures.value) ∙ found.1 in
    taken-carried c.args.at _ c.args.self.now _ name c.taken.result c.taken.ensures.reply c.taken.ensures.same c.text-then-is_some.ensures.value
    (topic-taken c.args.at name c.args.config.now c.args.self.now c.requires.can.room c.requires.good found.0 there)

-- no topic has the name
nowhere : (c : goal.After-changes) → topic_named (seen c.args.self.now) c.args.name.now ≡ None
nowhere c =
    ap (topic_named (seen c.args.self.now)) (sym c.text.ensures.value)
    ∙ found-none the_row _ c.topic_named.result c.topic_named.ensures (sym c.is_some.ensures ∙ c.if-is_some.false)

-- the state with one entry more
recorded : (c : goal.After-changes) → the_view c.self-2.inside ≡ recorded_at c.args.at c.args.self.now
recorded c = c.self-2.view_is ∙ c.record.ensures

-- the row of the new topic
abbrev row : (c : goal.After-changes) → TopicRow
row c = record { number = (the_view c.self-2.inside).next_topic; name = c.args.name.now; config = c.args.config.now }

row-is : (c : goal.After-changes) → ◌≡◌ {A = TopicRow} (record { number = c.self.inside.next_topic; name = c.in_ok-copy.field-0; config = c.in_ok-copy-2.field-0 }) (row c)
row-is c = λ i. record {
  number = (ap (λ (s : State). s.next_topic) c.self.view_is ∙ sym (ap (λ (s : State). s.next_topic) (recorded c))) i;
  name = c.in_ok-copy.ensures i;
  config = c.in_ok-copy-2.ensures i;
}

adds : (c : goal.After-changes) → AddsTopic c.self-2.inside.tables.topics (row c) c.add_topic.new.self.topics
adds c = subst (λ (r : TopicRow). AddsTopic c.self-2.inside.tables.topics r c.add_topic.new.self.topics) (row-is c) c.in_default.ensures.topics

names : (c : goal.After-changes) → PutsName c.self-2.inside.tables.topic_numbers (row c).name (row c).number c.add_topic.new.self.topic_numbers
names c = subst (λ (r : TopicRow). PutsName c.self-2.inside.tables.topic_numbers r.name r.number c.add_topic.new.self.topic_numbers) (row-is c) c.in_default.ensures.topic_numbers

-- the state with the topic
made : (c : goal.After-changes) → (let x = c.self-2.inside in
    state_of x.clock x.count (x.next_topic + 1) x.next_sub x.next_message c.add_topic.new.self ≡ add_topic c.args.name.now c.args.config.now (the_view x))
made c =
    let s = the_view c.self-2.inside in
    λ i. record (add_topic c.args.name.now c.args.config.now s) {
      topics = rows-added s c.self-2.inside.next_end c.self-2.inside.tables (row c) c.self-2.invariant refl refl c.add_topic.new.self (adds c) i;
      subscriptions = values (c.in_default.ensures.subscriptions i);
      messages = map the_message (values (c.in_default.ensures.messages i));
    }

new : (c : goal.After-changes) → topic_named (seen (the_view c.self-2.inside)) c.args.name.now ≡ None
new c = ap (λ (s : State). topic_named (seen s) c.args.name.now) (recorded c) ∙ nowhere c

steady : (c : goal.After-changes) → IsSteady c.args.self.now
steady c = rw (← c.self.view_is) c.self.invariant.steady

steady-after : (c : goal.After-changes) → IsSteady (add_topic c.args.name.now c.args.config.now (the_view c.self-2.inside))
steady-after c =
    let few : (the_view c.self-2.inside).next_topic ≤ (the_view c.self-2.inside).count = omega (arith, (steady c).topics_few, ap (λ (s : State). s.next_topic) (recorded c), ap (λ (s : State). s.count) (recorded c)) in
    topic-steady c.args.name.now c.args.config.now (the_view c.self-2.inside) c.text.ensures.grammar c.self-2.invariant.steady few c.requires.built (new c)

pub invariant_of-self-2 : goal.invariant_of-self-2
invariant_of-self-2 c =
    rw (made c)
    (kept-topic (the_view c.self-2.inside) c.self-2.inside.next_end c.self-2.inside.tables c.add_topic.new.self (row c) c.self-2.invariant refl refl (steady-after c) (new c) (adds c) (names c)
    c.in_default.ensures.subscriptions c.in_default.ensures.subscription_numbers c.in_default.ensures.messages)

pub returns : goal.returns
returns c =
    let name = c.args.name.now in
    let config = c.args.config.now in
    carried-as c.args.at (CreateTopic name config) c.args.self.now (recorded_at c.args.at (add_topic name config c.args.self.now)) _ (Topic (topic_shown (record { number = c.args.self.now.next_topic; name = name; config = config }))) _ _
    (made c ∙ ap (add_topic name config) (recorded c)) (c.changes.ensures.reply ∙ ap Topic (c.in_ok-shown.ensures ∙ ap topic_shown (row-is c))) c.changes.ensures.changed
    (topic-made c.args.at name config c.args.self.now (steady c) (subst (λ (s : State). IsSteady (add_topic name config s)) (recorded c) (steady-after c)) c.requires.can.room c.requires.good (nowhere c))
