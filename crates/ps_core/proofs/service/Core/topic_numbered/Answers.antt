use Rattle.std.proofs.Common.{option_map, ap, refl, ◌∙◌}
use Rattle.ps_core.specs.Keeping.{the_row}
use Rattle.ps_core.proofs.carrying.Kept.{topic-got}
use Rattle.ps_core.proofs.looking.Found.{looked}
use Rattle.ps_core.proofs.service.Core.topic_numbered.Goals as goal

pub returns : goal.returns
returns c =
    rw (← c.self.view_is) (looked the_row _ c.get.result (ap (option_map the_row) c.get.ensures.value ∙ topic-got _ _ c.self.inside.tables c.self.invariant refl c.args.number))
