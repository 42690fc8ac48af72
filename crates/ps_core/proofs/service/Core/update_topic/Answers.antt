use Rattle.std.proofs.Common.{◌≡◌, true, false, Some, None, refl, sym, ap, ◌∙◌, subst}
use Rattle.std.specs.Option.{IsSome}
use Rattle.ps_base.proofs.Lists.{each-found}
use Rattle.ps_config.specs.Masks.{masked_topic}
use Rattle.ps_config.specs.declared.config.TopicConfig.{TopicConfig}
use Rattle.ps_model.specs.declared.command.Command.TheVariants.{UpdateTopic}
use Rattle.ps_model.specs.declared.reply.Reply.TheVariants.{Topic}
use Rattle.ps_model.specs.declared.reply.TopicShown.{TopicShown}
use Rattle.ps_model.specs.declared.world.TopicRow.{TopicRow}
use Rattle.ps_model.specs.Same.{same_topic_config}
use Rattle.ps_model.specs.Worlds.{topic_named}
use Rattle.ps_core.specs.Built.{unbuilt_topic_setting}
use Rattle.ps_tables.specs.declared.tables.KeptTopic.{KeptTopic}
use Rattle.ps_core.specs.contracts.service.Core.{the_view}
use Rattle.ps_core.specs.Carrying.{IsCarried}
use Rattle.ps_core.specs.Changing.{change_topic, with_config}
use Rattle.ps_core.specs.Effects.{recorded_at}
use Rattle.ps_core.specs.Keeping.{has_topic_name}
use Rattle.ps_core.specs.State.{State, seen}
use Rattle.ps_core.specs.Steady.{IsSteady}
use Rattle.ps_tables.proofs.lists.Options.{one-some}
use Rattle.ps_core.proofs.carrying.Outcomes.{missing-carried}
use Rattle.ps_core.proofs.changing.Updating as updates
use Rattle.ps_core.proofs.changing.Settings.{topic-built}
use Rattle.ps_core.proofs.service.Core.update_topic.Goals as goal

pub returns-in_default : goal.returns-in_default
returns-in_default c =
    let name = c.args.name.now in
    let x = c.self.inside in
    missing-carried c.args.at (UpdateTopic name c.args.mask c.args.config.now) c.args.self.now _ name c.missing.result c.missing.ensures.reply c.missing.ensures.same c.text-in_default.ensures.value
    (updates.topic-missing c.args.at name c.args.mask c.args.config.now c.args.self.now c.requires.can c.requires.good
    (updates.topic-unlooked (the_view x) c.args.self.now x.next_end x.tables c.self.invariant c.self.view_is _ name c.text.ensures.value c.find.result c.find.ensures.number c.in_default.is))

pub index-topic-requires : goal.index-topic-requires
index-topic-requires c =
    let x = c.self.inside in
    let topic = updates.topic-looked (the_view x) c.args.self.now x.next_end x.tables c.self.invariant refl c.self.view_is _ c.args.name.now c.text.ensures.value c.find.result c.in-Some.number c.find.ensures.number c.in-Some.is in
    subst IsSome (sym topic.1.0.got) refl

pub returns-then-not-changed : goal.returns-then-not-changed
returns-then-not-changed c =
    let name = c.args.name.now in
    let x = c.self.inside in
    let row = c.index-topic.result.now.row in
    let topic = updates.topic-looked (the_view x) c.args.self.now x.next_end x.tables c.self.invariant refl c.self.view_is _ name c.text.ensures.value c.find.result c.in-Some.number c.find.ensures.number c.in-Some.is in
    let here : topic.0 ≡ c.index-topic.result.now = one-some (sym topic.1.0.got ∙ c.index-topic.ensures) in
    let named : topic_named (seen c.args.self.now) name ≡ Some row = topic.1.1 ∙ ap (λ (y : KeptTopic). Some y.row) here in
    let steady : IsSteady c.args.self.now = subst IsSteady c.self.view_is c.self.invariant.steady in
    let made : c.apply_topic.new.config ≡ masked_topic c.args.mask row.config c.args.config.now = c.apply_topic.ensures ∙ (λ i. masked_topic c.args.mask (c.in_ok-new.ensures i) (c.in_ok-copy.ensures i)) in
    let same : same_topic_config (masked_topic c.args.mask row.config c.args.config.now) row.config ≡ true = ap (λ (k : TopicConfig). same_topic_config k row.config) (sym made) ∙ sym c.same_topic_config-changed.ensures.same ∙ c.if-not-changed.true in
    let shown : ◌≡◌ {A = TopicShown} (record { name = c.in_ok-shown.shown.name; config = c.in_ok-shown-2.field-0 }) (record { name = row.name; config = masked_topic c.args.mask row.config c.args.config.now }) =
    λ i. record { name = (c.in_ok-shown.ensures i).name; config = (c.in_ok-shown-2.ensures ∙ made) i } in
    rw (c.shows.ensures.reply, c.shows.ensures.same)
    (subst (λ (x : TopicShown). IsCarried c.args.at (UpdateTopic name c.args.mask c.args.config.now) c.args.self.now c.args.self.now (Topic x) false) (sym shown)
    (updates.topic-rests c.args.at name c.args.mask c.args.config.now c.args.self.now c.requires.can c.requires.good row steady named same))

pub configure_topic-requires : goal.configure_topic-requires
configure_topic-requires c =
    let name = c.args.name.now in
    let x = c.self.inside in
    let row = c.index-topic.result.now.row in
    let topic = updates.topic-looked (the_view x) c.args.self.now x.next_end x.tables c.self.invariant refl c.self.view_is _ name c.text.ensures.value c.find.result c.in-Some.number c.find.ensures.number c.in-Some.is in
    let here : topic.0 ≡ c.index-topic.result.now = one-some (sym topic.1.0.got ∙ c.index-topic.ensures) in
    let named : topic_named (seen c.args.self.now) name ≡ Some row = topic.1.1 ∙ ap (λ (y : KeptTopic). Some y.row) here in
    let steady : IsSteady c.args.self.now = subst IsSteady c.self.view_is c.self.invariant.steady in
    let made : c.apply_topic.new.config ≡ masked_topic c.args.mask row.config c.args.config.now = c.apply_topic.ensures ∙ (λ i. masked_topic c.args.mask (c.in_ok-new.ensures i) (c.in_ok-copy.ensures i)) in
    record {
      built = subst (λ (k : TopicConfig). unbuilt_topic_setting k ≡ None) (sym made) (topic-built c.args.mask row.config c.args.config.now c.requires.built
          (each-found (λ (r : TopicRow). unbuilt_topic_setting r.config ≡ None) (has_topic_name name) c.args.self.now.topics row named steady.topic_settings));
    }

pub returns : goal.returns
returns c =
    let name = c.args.name.now in
    let x = c.self.inside in
    let row = c.index-topic.result.now.row in
    let topic = updates.topic-looked (the_view x) c.args.self.now x.next_end x.tables c.self.invariant refl c.self.view_is _ name c.text.ensures.value c.find.result c.in-Some.number c.find.ensures.number c.in-Some.is in
    let here : topic.0 ≡ c.index-topic.result.now = one-some (sym topic.1.0.got ∙ c.index-topic.ensures) in
    let named : topic_named (seen c.args.self.now) name ≡ Some row = topic.1.1 ∙ ap (λ (y : KeptTopic). Some y.row) here in
    let steady : IsSteady c.args.self.now = subst IsSteady c.self.view_is c.self.invariant.steady in
    let made : c.apply_topic.new.config ≡ masked_topic c.args.mask row.config c.args.config.now = c.apply_topic.ensures ∙ (λ i. masked_topic c.args.mask (c.in_ok-new.ensures i) (c.in_ok-copy.ensures i)) in
    let other : same_topic_config (masked_topic c.args.mask row.config c.args.config.now) row.config ≡ false = ap (λ (k : TopicConfig). same_topic_config k row.config) (sym made) ∙ sym c.same_topic_config-changed.ensures.same ∙ c.if-not-changed.false in
    let shown : ◌≡◌ {A = TopicShown} (record { name = c.in_ok-shown.shown.name; config = c.in_ok-shown-2.field-0 }) (record { name = row.name; config = masked_topic c.args.mask row.config c.args.config.now }) =
    λ i. record { name = (c.in_ok-shown.ensures i).name; config = (c.in_ok-shown-2.ensures ∙ made) i } in
    let number : c.in-Some.number ≡ row.number = sym topic.1.0.number ∙ ap (λ (y : KeptTopic). y.row.number) here in
    let after : c.configure_topic.new.self ≡ change_topic row.number (with_config (masked_topic c.args.mask row.config c.args.config.now)) (recorded_at c.args.at c.args.self.now) =
    c.configure_topic.ensures.changed ∙ (λ i. change_topic (number i) (with_config (made i)) (c.record.ensures i)) in
    rw (c.changes.ensures.reply, c.changes.ensures.changed)
    (subst (λ (p : State × TopicShown). IsCarried c.args.at (UpdateTopic name c.args.mask c.args.config.now) c.args.self.now p.0 (Topic p.1) true) (λ i. (sym after i, sym shown i))
    (updates.topic-changed c.args.at name c.args.mask c.args.config.now c.args.self.now c.requires.can c.requires.good row steady named (subst IsSteady after c.configure_topic.ensures.steady) other))
