use Rattle.std.proofs.Common.{◌∙◌, sym}
use Rattle.ps_json.proofs.CheckLemmas.{refused_as, name_given, name_refused}
use Rattle.ps_json.proofs.bodies.topic.topic_at.Goals as goal

pub returns-in-Some : goal.returns-in-Some
returns-in-Some c = name_given _ _ _ (sym c.in-Some.is ∙ c.in_ok-topic.ensures)

pub returns-in-None : goal.returns-in-None
returns-in-None c = refused_as _ _ _ c.refused.ensures (name_refused _ _ (sym c.in-None.is ∙ c.in_ok-topic.ensures))
