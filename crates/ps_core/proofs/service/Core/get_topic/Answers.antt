use Rattle.std.proofs.Common.{◌∙◌, sym, ap}
use Rattle.ps_model.specs.declared.reply.Reply.TheVariants.{Topic}
use Rattle.ps_model.specs.Worlds.{topic_named}
use Rattle.ps_core.specs.State.{seen}
use Rattle.ps_core.proofs.carrying.Outcomes.{missing-carried}
use Rattle.ps_core.proofs.looking.Shown.{topic-missing, topic-found}
use Rattle.ps_core.proofs.service.Core.get_topic.Goals as goal

pub returns-in-None : goal.returns-in-None
returns-in-None c =
    let name = c.args.name.now in
    let missing = ap (topic_named (seen c.args.self.now)) (sym c.text.ensures.value) ∙ c.in-None.ensures in
    missing-carried c.args._at _ c.args.self.now _ name c.missing.result c.missing.ensures.reply c.missing.ensures.same c.text-in-None.ensures.value
    (topic-missing c.args._at name c.args.self.now c.requires.can.room missing)

pub returns-in_ok-topic_shown-in-Some : goal.returns-in_ok-topic_shown-in-Some
returns-in_ok-topic_shown-in-Some c =
    let name = c.args.name.now in
    let there = ap (topic_named (seen c.args.self.now)) (sym c.text.ensures.value) ∙ c.in-Some.ensures in
    rw (c.shows.ensures.reply ∙ ap Topic (c.in_ok-topic_shown-in-Some.ensures), c.shows.ensures.same)
    (topic-found c.args._at name c.args.self.now c.requires.can.room c.in-Some.topic.now.row there)
