use Rattle.std.proofs.Common.{◌<◌, refl, sym, ap, ◌∙◌, subst}
use Rattle.ps_model.specs.declared.world.TopicRow.{TopicRow}
use Rattle.ps_core.specs.Changing.{change_topic, with_config}
use Rattle.ps_core.specs.Keeping.{IsKept, the_row}
use Rattle.ps_core.specs.State.{State}
use Rattle.ps_tables.proofs.lists.Ordered.{ordered-of-map}
use Rattle.ps_core.proofs.changing.Topics.{configured-view, kept-configured}
use Rattle.ps_core.proofs.service.Core.configure_topic.Goals as goal

pub put_config-requires-clause-ordered : goal.put_config-requires-clause-ordered
put_config-requires-clause-ordered c = ordered-of-map (λ (a b : TopicRow). a.number < b.number) the_row _ c.self.invariant.steady.topics

pub invariant_of-self : goal.invariant_of-self
invariant_of-self c =
    let x = c.self.inside in
    subst (λ (s : State). IsKept s x.next_end (record x.tables { topics = c.put_config.new.topics })) (sym (configured-view x.clock x.count x.next_topic x.next_sub x.next_message c.args.number c.args.config x.tables (record x.tables { topics = c.put_config.new.topics }) refl refl c.put_config.ensures.values))
    (kept-configured _ c.args.number x.next_end c.args.config x.tables c.put_config.new.topics c.requires.built c.self.invariant c.put_config.ensures.numbered c.put_config.ensures.values)

pub returns-clause-changed : goal.returns-clause-changed
returns-clause-changed c =
    let x = c.self.inside in
    configured-view x.clock x.count x.next_topic x.next_sub x.next_message c.args.number c.args.config x.tables (record x.tables { topics = c.put_config.new.topics }) refl refl c.put_config.ensures.values
    ∙ ap (change_topic c.args.number (with_config c.args.config)) c.self.view_is

pub returns-clause-steady : goal.returns-clause-steady
returns-clause-steady c = let kept = invariant_of-self c in kept.steady
