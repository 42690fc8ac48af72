use Rattle.std.proofs.Common.{◌≡◌, ◌<◌, nat_cmp, true, find, Some, refl, sym, ap, ◌∙◌, subst}
use Rattle.std.specs.BTreeMap.{is_at, values}
use Rattle.std.specs.Map.{remove_entry}
use Rattle.std.specs.Option.{IsSome}
use Rattle.ps_model.specs.declared.command.Command.TheVariants.{DeleteSubscription}
use Rattle.ps_model.specs.declared.reply.Reply.TheVariants.{Empty}
use Rattle.ps_model.specs.declared.world.MessageRow.{MessageRow}
use Rattle.ps_sub.specs.Showing.{marks}
use Rattle.ps_tables.specs.declared.kept_subscription.KeptSubscription.{KeptSubscription}
use Rattle.ps_tables.specs.declared.name_index.NameIndex.{NameIndex}
use Rattle.ps_tables.specs.declared.tables.Tables.{Tables}
use Rattle.ps_core.specs.contracts.service.Core.{the_view}
use Rattle.ps_core.specs.Carrying.{IsCarried}
use Rattle.ps_tables.specs.Releasing.{released, times}
use Rattle.ps_core.specs.Effects.{drop_subscription, recorded_at}
use Rattle.ps_core.specs.Keeping.{IsKept, state_of, the_message}
use Rattle.ps_tables.specs.Members.{has_name}
use Rattle.ps_core.specs.State.{State}
use Rattle.ps_tables.specs.Subscriptions.{number_of}
use Rattle.ps_core.specs.Steady.{IsSteady}
use Rattle.ps_tables.specs.TableEdits.{LeavesTopic, RemovesName}
use Rattle.ps_tables.proofs.lists.Options.{one-some}
use Rattle.ps_tables.proofs.lists.Ordered.{ordered-of-map}
use Rattle.ps_core.proofs.carrying.Outcomes.{missing-carried}
use Rattle.ps_core.proofs.changing.Deleting as deletes
use Rattle.ps_core.proofs.changing.Dropping.{others-due, others-fewer, others-tables, others_of, subscription-dropped}
use Rattle.ps_core.proofs.changing.KeptLeft.{IsLeftTables, left-kept, left-view}
use Rattle.ps_core.proofs.changing.UpdatingSubscriptions as updates
use Rattle.ps_core.proofs.service.Core.delete_subscription.Goals as goal

pub returns-in_default : goal.returns-in_default
returns-in_default c =
    let name = c.args.name.now in
    let x = c.self.inside in
    missing-carried c.args.at (DeleteSubscription name) c.args.self.now _ name c.missing.result c.missing.ensures.reply c.missing.ensures.same c.text-in_default.ensures.value
    (deletes.sub-missing c.args.at name c.args.self.now c.requires.can
    (updates.sub-unlooked (the_view x) c.args.self.now x.next_end x.tables c.self.invariant c.self.view_is _ name c.text.ensures.value c.find.result c.find.ensures.number c.in_default.is))

pub index-subscription-requires : goal.index-subscription-requires
index-subscription-requires c =
    let x = c.self.inside in
    let found = updates.sub-looked (the_view x) c.args.self.now x.next_end x.tables c.self.invariant refl c.self.view_is _ c.args.name.now c.text.ensures.value c.find.result c.in-Some.number c.find.ensures.number c.in-Some.is in
    subst IsSome (sym found.1.0.got) refl

pub leave-requires-clause-ordered : goal.leave-requires-clause-ordered
leave-requires-clause-ordered c = ordered-of-map (λ (a b : MessageRow). a.number < b.number) the_message (values c.self-2.inside.tables.messages) c.self-2.invariant.steady.messages

-- the subscription that has the name
abbrev own : goal.After-drop-marks-inside → KeptSubscription
own c = c.index-subscription.result.now

found : (c : goal.After-drop-marks-inside) → (c.in-Some.number ≡ (own c).number) × (find (has_name c.args.name.now) c.args.self.now.subscriptions ≡ Some (own c))
found c =
    let x = c.self.inside in
    let y = updates.sub-looked (the_view x) c.args.self.now x.next_end x.tables c.self.invariant refl c.self.view_is _ c.args.name.now c.text.ensures.value c.find.result c.in-Some.number c.find.ensures.number c.in-Some.is in
    let here : y.0 ≡ own c = one-some (sym y.1.0.got ∙ c.index-subscription.ensures) in
    (sym y.1.0.number ∙ ap number_of here, y.1.1 ∙ ap (λ (z : KeptSubscription). Some z) here)

-- the state with one entry more
recorded : (c : goal.After-drop-marks-inside) → the_view c.self-2.inside ≡ recorded_at c.args.at c.args.self.now
recorded c = c.self-2.view_is ∙ c.record.ensures

abbrev after : goal.After-drop-marks-inside → Tables
after c = record c.leave.new.self { subscriptions = c.remove-subscription.new.self; subscription_numbers = c.remove.new.self }

named-marks : (c : goal.After-drop-marks-inside) → c.as_slice.result.now ≡ marks (own c).sub.slots
named-marks c = c.as_slice.ensures ∙ c.in_ok-marks.ensures

left : (c : goal.After-drop-marks-inside) → IsLeftTables (own c) (values c.self-2.inside.tables.subscriptions) (others_of (own c).number (values c.self-2.inside.tables.subscriptions)) (times (marks (own c).sub.slots)) c.self-2.inside.tables (after c)
left c =
    let x = c.self-2.inside in
    let name = c.args.name.now in
    let named : find (has_name name) (values x.tables.subscriptions) ≡ Some (own c) = ap (λ (s : State). find (has_name name) s.subscriptions) (recorded c) ∙ (found c).1 in
    let topics : LeavesTopic x.tables.topics (own c).topic name c.leave.new.self.topics = subst (λ text. LeavesTopic x.tables.topics (own c).topic text c.leave.new.self.topics) c.text-2.ensures.value c.leave.ensures.topics in
    let entries : c.remove-subscription.new.self.entries ≡ remove_entry (is_at (nat_cmp (own c).number)) x.tables.subscriptions.entries =
    c.remove-subscription.ensures.entries ∙ (λ i. remove_entry (is_at (nat_cmp ((found c).0 i))) (c.leave.ensures.subscriptions i).entries) in
    let removed : RemovesName x.tables.subscription_numbers name c.remove.new.self =
    subst (λ (index : NameIndex). RemovesName index name c.remove.new.self) c.leave.ensures.subscription_numbers (subst (λ text. RemovesName c.leave.new.self.subscription_numbers text c.remove.new.self) c.text-3.ensures.value c.remove.ensures.names) in
    let messages : values c.leave.new.self.messages ≡ released (times (marks (own c).sub.slots)) (values x.tables.messages) = c.leave.ensures.messages ∙ (λ i. released (times (named-marks c i)) (values x.tables.messages)) in
    others-tables (the_view x) name (own c) x.next_end x.tables (after c) refl c.self-2.invariant named topics c.leave.ensures.topic_numbers entries removed c.leave.ensures.numbered messages

view : (c : goal.After-drop-marks-inside) → (let x = c.self-2.inside in state_of x.clock x.count x.next_topic x.next_sub x.next_message (after c)) ≡ drop_subscription (own c).number (the_view c.self-2.inside)
view c =
    let x = c.self-2.inside in
    left-view x.clock x.count x.next_topic x.next_sub x.next_message (own c) (others_of (own c).number (values x.tables.subscriptions)) (times (marks (own c).sub.slots)) x.next_end x.tables (after c) c.self-2.invariant (left c)

pub invariant_of-self : goal.invariant_of-self
invariant_of-self c =
    let x = c.self-2.inside in
    subst (λ (s : State). IsKept s x.next_end (after c)) (sym (view c))
    (left-kept (the_view x) (own c) (others_of (own c).number (values x.tables.subscriptions)) (times (marks (own c).sub.slots)) x.next_end x.tables (after c) refl c.self-2.invariant (others-fewer (own c).number (the_view x) c.self-2.invariant.steady)
    (λ at none. others-due (own c).number at (the_view x) none) (left c))

pub returns : goal.returns
returns c =
    let name = c.args.name.now in
    rw (c.changes.ensures.reply, c.changes.ensures.changed)
    (subst (λ (s : State). IsCarried c.args.at (DeleteSubscription name) c.args.self.now s Empty true) (sym (view c ∙ ap (drop_subscription (own c).number) (recorded c)))
    (subscription-dropped c.args.at name c.args.self.now (own c) c.requires.can (subst IsSteady c.self.view_is c.self.invariant.steady) (found c).1))
