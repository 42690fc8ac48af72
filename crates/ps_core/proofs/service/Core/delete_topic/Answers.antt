use Rattle.std.proofs.Common.{◌≡◌, nat_cmp, true, find, None, Some, refl, sym, ap, ◌∙◌, subst}
use Rattle.std.specs.BTreeMap.{is_at}
use Rattle.std.specs.Map.{remove_entry}
use Rattle.ps_model.specs.declared.command.Command.TheVariants.{DeleteTopic}
use Rattle.ps_model.specs.declared.reply.Reply.TheVariants.{Empty}
use Rattle.ps_tables.specs.declared.tables.KeptTopic.{KeptTopic}
use Rattle.ps_tables.specs.declared.tables.Tables.{Tables}
use Rattle.ps_core.specs.contracts.service.Core.{the_view}
use Rattle.ps_core.specs.Carrying.{IsCarried}
use Rattle.ps_core.specs.Effects.{drop_topic, recorded_at}
use Rattle.ps_core.specs.Keeping.{IsKept, has_topic_name, state_of, topic_at}
use Rattle.ps_tables.specs.Members.{numbered}
use Rattle.ps_core.specs.State.{State}
use Rattle.ps_core.specs.Steady.{IsSteady}
use Rattle.ps_tables.specs.TableEdits.{RemovesName}
use Rattle.ps_core.proofs.carrying.Kept.{IsTopicAt, topic-nowhere, topic-there}
use Rattle.ps_core.proofs.carrying.Outcomes.{missing-carried}
use Rattle.ps_core.proofs.changing.Deleting.{topic-deleted, topic-missing}
use Rattle.ps_core.proofs.changing.Topics.{dropped-view, kept-dropped}
use Rattle.ps_core.proofs.service.Core.delete_topic.Goals as goal

pub returns-in_default : goal.returns-in_default
returns-in_default c =
    let name = c.args.name.now in
    let x = c.self.inside in
    let at : numbered x.tables.topic_numbers name ≡ None = ap (numbered x.tables.topic_numbers) (sym c.text.ensures.value) ∙ sym c.find.ensures.number ∙ c.in_default.is in
    let nowhere : find (has_topic_name name) c.args.self.now.topics ≡ None =
    subst (λ (s : State). find (has_topic_name name) s.topics ≡ None) c.self.view_is (topic-nowhere (the_view x) x.next_end x.tables c.self.invariant name at) in
    missing-carried c.args.at (DeleteTopic name) c.args.self.now _ name c.missing.result c.missing.ensures.reply c.missing.ensures.same c.text-in_default.ensures.value (topic-missing c.args.at name c.args.self.now c.requires.can nowhere)

-- the state with one entry more
recorded : (c : goal.Joined-topic) → the_view c.self-2.inside ≡ recorded_at c.args.at c.args.self.now
recorded c = c.self-2.view_is ∙ c.record.ensures

steady : (c : goal.Joined-topic) → IsSteady c.args.self.now
steady c = subst IsSteady c.self.view_is c.self.invariant.steady

-- the number that the name has
at : (c : goal.Joined-topic) → numbered c.self-2.inside.tables.topic_numbers c.args.name.now ≡ Some c.in-Some.number
at c =
    let name = c.args.name.now in
    let x = c.self.inside in
    c.self-2.invariant.topic_numbers name ∙ ap (λ (s : State). topic_at name s.topics) (recorded c ∙ ap (recorded_at c.args.at) (sym c.self.view_is)) ∙ sym (c.self.invariant.topic_numbers name)
    ∙ ap (numbered x.tables.topic_numbers) (sym c.text.ensures.value) ∙ sym c.find.ensures.number ∙ c.in-Some.is

-- the topic that has the name
there : (c : goal.Joined-topic) → (x : KeptTopic) × IsTopicAt (the_view c.self-2.inside) c.self-2.inside.tables c.args.name.now c.in-Some.number x
there c = topic-there (the_view c.self-2.inside) c.self-2.inside.next_end c.self-2.inside.tables c.self-2.invariant refl c.args.name.now c.in-Some.number (at c)

abbrev after : goal.Joined-topic → Tables
after c = record c.self-2.inside.tables { topics = c.remove-topic.new.self; topic_numbers = c.remove.new.self }

view : (c : goal.Joined-topic) → (let x = c.self-2.inside in state_of x.clock x.count x.next_topic x.next_sub x.next_message (after c)) ≡ drop_topic (there c).0.row.number (the_view c.self-2.inside)
view c =
    let x = c.self-2.inside in
    dropped-view x.clock x.count x.next_topic x.next_sub x.next_message c.in-Some.number x.next_end x.tables (after c) c.self-2.invariant refl refl c.remove-topic.ensures.entries
    ∙ ap (λ n. drop_topic n (the_view x)) (sym (there c).1.number)

pub invariant_of-self : goal.invariant_of-self
invariant_of-self c =
    let name = c.args.name.now in
    let x = c.self-2.inside in
    let topic = there c in
    subst (λ (s : State). IsKept s x.next_end (after c)) (sym (view c))
    (kept-dropped (the_view x) name topic.0.row x.next_end x.tables c.remove-topic.new.self c.remove.new.self refl c.self-2.invariant topic.1.named
    (c.remove-topic.ensures.entries ∙ ap (λ n. remove_entry (is_at (nat_cmp n)) x.tables.topics.entries) (sym topic.1.number))
    (subst (λ text. RemovesName x.tables.topic_numbers text c.remove.new.self) c.text-2.ensures.value c.remove.ensures.names))

pub returns : goal.returns
returns c =
    let name = c.args.name.now in
    let topic = there c in
    let named : find (has_topic_name name) c.args.self.now.topics ≡ Some topic.0.row = ap (λ (s : State). find (has_topic_name name) s.topics) (sym (recorded c)) ∙ topic.1.named in
    rw (c.changes.ensures.reply, c.changes.ensures.changed)
    (subst (λ (s : State). IsCarried c.args.at (DeleteTopic name) c.args.self.now s Empty true) (sym (view c ∙ ap (drop_topic topic.0.row.number) (recorded c)))
    (topic-deleted c.args.at name topic.0.row c.args.self.now c.requires.can (steady c) (subst IsSteady (recorded c) c.self-2.invariant.steady) named))
