use Rattle.std.proofs.Common.{◌≡◌, ◌<◌, ℕ, true, nat_cmp, List, find, Some, refl, sym, ap, ◌∙◌, subst}
use Rattle.std.specs.BTreeMap.{BTreeMap, is_at, values}
use Rattle.std.specs.Map.{lookup}
use Rattle.std.specs.Option.{IsSome}
use Rattle.ps_model.specs.declared.command.Command.TheVariants.{Detach}
use Rattle.ps_model.specs.declared.reply.Reply.TheVariants.{Empty}
use Rattle.ps_model.specs.declared.world.MessageRow.{MessageRow}
use Rattle.ps_sub.specs.Showing.{marks}
use Rattle.ps_tables.specs.declared.kept_subscription.KeptSubscription.{KeptSubscription}
use Rattle.ps_tables.specs.declared.tables.KeptMessage.{KeptMessage}
use Rattle.ps_tables.specs.declared.tables.KeptTopic.{KeptTopic}
use Rattle.ps_tables.specs.declared.tables.Tables.{Tables}
use Rattle.ps_core.specs.contracts.service.Core.{the_view}
use Rattle.ps_core.specs.Carrying.{IsCarried}
use Rattle.ps_core.specs.Changing.{change_subscription}
use Rattle.ps_tables.specs.Numbers.{IsNumbered}
use Rattle.ps_tables.specs.Releasing.{message_number, released, times}
use Rattle.ps_tables.specs.Subscriptions.{detach_subscription, number_of}
use Rattle.ps_core.specs.Effects.{let_go, recorded_at}
use Rattle.ps_core.specs.Keeping.{IsKept, the_message}
use Rattle.ps_tables.specs.Members.{has_name}
use Rattle.ps_core.specs.State.{State}
use Rattle.ps_tables.specs.TableEdits.{Detaches, LeavesTopic}
use Rattle.ps_core.specs.Steady.{IsSteady}
use Rattle.ps_tables.proofs.lists.Ordered.{ordered-of-map}
use Rattle.ps_core.proofs.carrying.Kept.{IsSubscriptionAt, subscription-got}
use Rattle.ps_tables.proofs.numbers.Changes.{found-by-number}
use Rattle.ps_core.proofs.changing.Detaching.{detached-again, sub-detached}
use Rattle.ps_core.proofs.changing.DetachingKept.{detached-view, kept-detached}
use Rattle.ps_core.proofs.carrying.Outcomes.{missing-carried}
use Rattle.ps_core.proofs.changing.Deleting as deletes
use Rattle.ps_core.proofs.changing.UpdatingSubscriptions as updates
use Rattle.ps_core.proofs.service.Core.detach.Goals as goal

pub returns-in_default : goal.returns-in_default
returns-in_default c =
    let name = c.args.name.now in
    let x = c.self.inside in
    missing-carried c.args.at (Detach name) c.args.self.now _ name c.missing.result c.missing.ensures.reply c.missing.ensures.same c.text-in_default.ensures.value
    (deletes.detach-missing c.args.at name c.args.self.now c.requires.can
    (updates.sub-unlooked (the_view x) c.args.self.now x.next_end x.tables c.self.invariant c.self.view_is _ name c.text.ensures.value c.find.result c.find.ensures.number c.in_default.is))

pub index-subscription-requires : goal.index-subscription-requires
index-subscription-requires c =
    let x = c.self.inside in
    let found = updates.sub-looked (the_view x) c.args.self.now x.next_end x.tables c.self.invariant refl c.self.view_is _ c.args.name.now c.text.ensures.value c.find.result c.in-Some.number c.find.ensures.number c.in-Some.is in
    subst IsSome (sym found.1.0.got) refl

pub returns-then-subscription : goal.returns-then-subscription
returns-then-subscription c =
    let name = c.args.name.now in
    let x = c.self.inside in
    let found = updates.sub-looked (the_view x) c.args.self.now x.next_end x.tables c.self.invariant refl c.self.view_is _ name c.text.ensures.value c.find.result c.in-Some.number c.find.ensures.number c.in-Some.is in
    let there = found.1.0.got in
    let got = c.index-subscription.ensures in
    let same : found.0 ≡ c.index-subscription.result.now = cc (there, got) in
    let detached : found.0.detached ≡ true = ap (λ (y : KeptSubscription). y.detached) same ∙ c.if-subscription.true in
    rw (c.nothing.ensures.reply, c.nothing.ensures.same)
    (detached-again c.args.at name c.args.self.now c.requires.can found.0 (subst IsSteady c.self.view_is c.self.invariant.steady) found.1.1 detached)

pub leave-requires-clause-ordered : goal.leave-requires-clause-ordered
leave-requires-clause-ordered c = ordered-of-map (λ (a b : MessageRow). a.number < b.number) the_message (values c.self-2.inside.tables.messages) c.self-2.invariant.steady.messages

-- the state with one entry more
recorded : (c : goal.After-drop-marks-inside) → the_view c.self-2.inside ≡ recorded_at c.args.at c.args.self.now
recorded c = c.self-2.view_is ∙ c.record.ensures

-- the subscription that has the name, before the entry and after it
looked : (c : goal.After-drop-marks-inside) → (x : KeptSubscription) × (IsSubscriptionAt (the_view c.self.inside) c.self.inside.tables c.args.name.now c.in-Some.number x × (find (has_name c.args.name.now) c.args.self.now.subscriptions ≡ Some x))
looked c =
    let x = c.self.inside in
    updates.sub-looked (the_view x) c.args.self.now x.next_end x.tables c.self.invariant refl c.self.view_is _ c.args.name.now c.text.ensures.value c.find.result c.in-Some.number c.find.ensures.number c.in-Some.is

got : (c : goal.After-drop-marks-inside) → (looked c).0 ≡ c.index-subscription.result.now
got c = let there = (looked c).1.0.got in let is = c.index-subscription.ensures in cc (there, is)

named : (c : goal.After-drop-marks-inside) → find (has_name c.args.name.now) (values c.self-2.inside.tables.subscriptions) ≡ Some (looked c).0
named c = ap (λ (s : State). find (has_name c.args.name.now) s.subscriptions) (recorded c) ∙ (looked c).1.1

found : (c : goal.After-drop-marks-inside) → lookup (is_at (nat_cmp (looked c).0.number)) c.self-2.inside.tables.subscriptions.entries ≡ Some (looked c).0
found c =
    let x = c.self-2.inside in
    subscription-got (the_view x) x.next_end x.tables c.self-2.invariant refl (looked c).0.number
    ∙ found-by-number number_of (has_name c.args.name.now) (values x.tables.subscriptions) (looked c).0 c.self-2.invariant.steady.subscriptions (named c)

abbrev after : goal.After-drop-marks-inside → Tables
after c = c.detach.new.self

left : (c : goal.After-drop-marks-inside) → LeavesTopic c.self-2.inside.tables.topics (looked c).0.topic c.args.name.now (after c).topics
left c =
    let was = c.self-2.inside.tables.topics in
    subst (λ (m : BTreeMap ℕ KeptTopic). LeavesTopic was (looked c).0.topic c.args.name.now m) (sym c.detach.ensures.topics)
    (subst (λ (text : List ℕ). LeavesTopic was (looked c).0.topic text c.leave.new.self.topics) c.text-2.ensures.value
    (subst (λ (n : ℕ). LeavesTopic was n c.text-2.result.now c.leave.new.self.topics) (ap (λ (y : KeptSubscription). y.topic) (sym (got c))) c.leave.ensures.topics))

detaches : (c : goal.After-drop-marks-inside) → Detaches c.self-2.inside.tables.subscriptions (looked c).0.number (after c).subscriptions
detaches c =
    subst (λ n. Detaches c.self-2.inside.tables.subscriptions n (after c).subscriptions) (sym (looked c).1.0.number)
    (subst (λ (m : BTreeMap ℕ KeptSubscription). Detaches m c.in-Some.number (after c).subscriptions) c.leave.ensures.subscriptions c.detach.ensures.subscriptions)

lets-go : (c : goal.After-drop-marks-inside) → values (after c).messages ≡ released (times (marks (looked c).0.sub.slots)) (values c.self-2.inside.tables.messages)
lets-go c =
    let told : c.as_slice.result.now ≡ marks (looked c).0.sub.slots = c.as_slice.ensures ∙ c.in_ok-marks.ensures ∙ ap (λ (y : KeptSubscription). marks y.sub.slots) (sym (got c)) in
    ap values c.detach.ensures.messages ∙ c.leave.ensures.messages ∙ (λ i. released (times (told i)) (values c.self-2.inside.tables.messages))

numbered : (c : goal.After-drop-marks-inside) → IsNumbered message_number (after c).messages.entries
numbered c = subst (λ (m : BTreeMap ℕ KeptMessage). IsNumbered message_number m.entries) (sym c.detach.ensures.messages) c.leave.ensures.numbered

pub invariant_of-self : goal.invariant_of-self
invariant_of-self c =
    let x = c.self-2.inside in
    subst (λ (s : State). IsKept s x.next_end (after c))
    (sym (detached-view x.clock x.count x.next_topic x.next_sub x.next_message x.next_end x.tables (after c) c.args.name.now (looked c).0 c.self-2.invariant (named c) (found c)
    (left c) (c.detach.ensures.topic_numbers ∙ c.leave.ensures.topic_numbers) (c.detach.ensures.subscription_numbers ∙ c.leave.ensures.subscription_numbers) (detaches c) (lets-go c) (numbered c)))
    (kept-detached x.clock x.count x.next_topic x.next_sub x.next_message x.next_end x.tables (after c) c.args.name.now (looked c).0 c.self-2.invariant (named c) (found c)
    (left c) (c.detach.ensures.topic_numbers ∙ c.leave.ensures.topic_numbers) (c.detach.ensures.subscription_numbers ∙ c.leave.ensures.subscription_numbers) (detaches c) (lets-go c) (numbered c))

pub returns : goal.returns
returns c =
    let x = c.self-2.inside in
    let y = (looked c).0 in
    let view = detached-view x.clock x.count x.next_topic x.next_sub x.next_message x.next_end x.tables (after c) c.args.name.now y c.self-2.invariant (named c) (found c)
    (left c) (c.detach.ensures.topic_numbers ∙ c.leave.ensures.topic_numbers) (c.detach.ensures.subscription_numbers ∙ c.leave.ensures.subscription_numbers) (detaches c) (lets-go c) (numbered c) in
    rw (c.changes.ensures.reply, c.changes.ensures.changed)
    (subst (λ (s : State). IsCarried c.args.at (Detach c.args.name.now) c.args.self.now s Empty true)
    (sym (view ∙ ap (λ (s : State). let_go (change_subscription y.number detach_subscription s)) (recorded c)))
    (sub-detached c.args.at c.args.name.now c.args.self.now c.requires.can y (subst IsSteady c.self.view_is c.self.invariant.steady) (looked c).1.1
    (ap (λ (z : KeptSubscription). z.detached) (got c) ∙ c.if-subscription.false)))
