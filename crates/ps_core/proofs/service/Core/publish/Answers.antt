use Rattle.std.proofs.Common.{◌≡◌, ◌≤◌, ℕ, Bool, length, find, Some, sym, ap, subst, ◌∙◌, arith}
use Rattle.std.specs.BTreeMap.{values}
use Rattle.ps_base.specs.Moments.{last_moment}
use Rattle.ps_model.specs.declared.command.Command.TheVariants.{Publish}
use Rattle.ps_model.specs.declared.reply.Reply.{Reply}
use Rattle.ps_model.specs.declared.reply.Reply.TheVariants.{Published}
use Rattle.ps_model.specs.declared.world.TopicRow.{TopicRow}
use Rattle.ps_model.specs.Worlds.{topic_named}
use Rattle.ps_core.specs.contracts.service.Core.{the_view}
use Rattle.ps_core.specs.Carrying.{IsCarried}
use Rattle.ps_core.specs.Effects.{add_published, recorded_at}
use Rattle.ps_tables.specs.Entering.{IsPublished}
use Rattle.ps_core.specs.Keeping.{IsKept, has_topic_name}
use Rattle.ps_core.specs.State.{State, seen}
use Rattle.ps_core.specs.Steady.{IsSteady}
use Rattle.ps_core.proofs.publishing.Steady.{published-steady}
use Rattle.ps_core.proofs.carrying.Outcomes.{missing-carried}
use Rattle.ps_core.proofs.publishing.Published.{can-publish, kept-published, publish-carried, publish-few, publish-missing, published-made, topic-listed}
use Rattle.ps_core.proofs.service.Core.publish.Goals as goal

pub returns-in_default : goal.returns-in_default
returns-in_default c =
    let s : State = c.args.self.now in
    let name = c.args.topic.now in
    missing-carried c.args.at (Publish name c.args.messages.now) s _ name c.missing.result c.missing.ensures.reply c.missing.ensures.same c.text-in_default.ensures.value
    (publish-missing c.args.at name c.args.messages.now s c.requires.can.room c.requires.fits (ap (topic_named (seen s)) (sym c.text.ensures.value) ∙ c.in_default.ensures))

pub publish-requires-clause-can : goal.publish-requires-clause-can
publish-requires-clause-can c =
    let inside = c.self-2.inside in
    let recorded : the_view inside ≡ recorded_at c.args.at c.args.self.now = c.self-2.view_is ∙ c.record.ensures in
    let now : inside.clock ≡ c.args.at = ap (λ (w : State). w.now) recorded in
    let next : c.self.inside.next_message ≡ inside.next_message = ap (λ (w : State). w.next_message) c.self.view_is ∙ sym (ap (λ (w : State). w.next_message) recorded) in
    can-publish c.self.inside.next_message c.args.at inside.clock inside.count inside.next_topic inside.next_sub inside.next_message inside.next_end c.args.messages.now inside.tables c.self-2.invariant next
    (omega (arith, now)) (omega (arith, now, c.self-2.invariant.steady.now)) c.self-2.invariant.steady.count (publish-few c.args.messages.now c.requires.fits).1

pub publish-requires-clause-there : goal.publish-requires-clause-there
publish-requires-clause-there c =
    let recorded : the_view c.self-2.inside ≡ recorded_at c.args.at c.args.self.now = c.self-2.view_is ∙ c.record.ensures in
    topic-listed (has_topic_name c.text.result.now) (values c.self-2.inside.tables.topics) c.in-Some.kept.now.row (ap (λ (w : State). find (has_topic_name c.text.result.now) w.topics) recorded ∙ c.in-Some.ensures)

pub invariant_of-self-2 : goal.invariant_of-self-2
invariant_of-self-2 c =
    let s : State = c.args.self.now in
    let inside = c.self-2.inside in
    let at = c.args.at in
    let topic = c.in-Some.kept.now.row.number in
    let messages = c.args.messages.now in
    let recorded : the_view inside ≡ recorded_at at s = c.self-2.view_is ∙ c.record.ensures in
    let next : c.self.inside.next_message ≡ inside.next_message = ap (λ (w : State). w.next_message) c.self.view_is ∙ sym (ap (λ (w : State). w.next_message) recorded) in
    let published : IsPublished inside.next_message at topic messages inside.tables c.publish.new.self = subst (λ (n : ℕ). IsPublished n at topic messages inside.tables c.publish.new.self) next c.in_default-publish.ensures.published in
    let within : at ≤ last_moment = omega (arith, c.self-2.invariant.steady.now, ap (λ (w : State). w.now) recorded) in
    let before : IsSteady s = subst IsSteady c.self.view_is c.self.invariant.steady in
    let steady : IsSteady (add_published at topic messages (the_view inside)) =
    subst (λ (w : State). IsSteady (add_published at topic messages w)) (sym recorded) (published-steady at topic messages s before c.requires.can.later within c.requires.can.room (publish-few messages c.requires.fits).1) in
    subst (λ (w : State). IsKept w inside.next_end c.publish.new.self) (sym (published-made at topic inside.clock inside.count inside.next_topic inside.next_sub inside.next_message messages inside.tables c.publish.new.self published))
    (kept-published at topic inside.clock inside.count inside.next_topic inside.next_sub inside.next_message inside.next_end messages inside.tables c.publish.new.self c.self-2.invariant steady published)

pub returns : goal.returns
returns c =
    let s : State = c.args.self.now in
    let inside = c.self-2.inside in
    let at = c.args.at in
    let name = c.args.topic.now in
    let row : TopicRow = c.in-Some.kept.now.row in
    let messages = c.args.messages.now in
    let recorded : the_view inside ≡ recorded_at at s = c.self-2.view_is ∙ c.record.ensures in
    let first : c.self.inside.next_message ≡ s.next_message = ap (λ (w : State). w.next_message) c.self.view_is in
    let next : c.self.inside.next_message ≡ inside.next_message = first ∙ sym (ap (λ (w : State). w.next_message) recorded) in
    let published : IsPublished inside.next_message at row.number messages inside.tables c.publish.new.self = subst (λ (n : ℕ). IsPublished n at row.number messages inside.tables c.publish.new.self) next c.in_default-publish.ensures.published in
    let within : at ≤ last_moment = omega (arith, c.self-2.invariant.steady.now, ap (λ (w : State). w.now) recorded) in
    let before : IsSteady s = subst IsSteady c.self.view_is c.self.invariant.steady in
    let named : topic_named (seen s) name ≡ Some row = ap (topic_named (seen s)) (sym c.text.ensures.value) ∙ c.in-Some.ensures in
    let made = published-made at row.number inside.clock inside.count inside.next_topic inside.next_sub inside.next_message messages inside.tables c.publish.new.self published ∙ ap (add_published at row.number messages) recorded in
    let reply : c.changes.result.reply ≡ Published s.next_message (length messages) = c.changes.ensures.reply ∙ ap (λ (n : ℕ). Published n (length messages)) first in
    subst (λ (p : State × Reply × Bool). IsCarried at (Publish name messages) s p.0 p.1 p.2) (sym (λ i. (made i, reply i, c.changes.ensures.changed i)))
    (publish-carried at name messages s row before c.requires.can.room c.requires.can.later within c.requires.fits named)
