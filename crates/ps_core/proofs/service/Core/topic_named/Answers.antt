use Rattle.std.proofs.Common.{option_map, sym, ap, refl, ◌∙◌}
use Rattle.ps_core.specs.Keeping.{the_row}
use Rattle.ps_core.proofs.carrying.Kept.{topic-there}
use Rattle.ps_core.proofs.looking.Found.{looked}
use Rattle.ps_core.proofs.service.Core.topic_named.Goals as goal

pub returns-in-Some : goal.returns-in-Some
returns-in-Some c =
    let there = topic-there _ _ c.self.inside.tables c.self.invariant refl c.args.name.now c.in-Some.number (sym c.find.ensures.number ∙ c.in-Some.is) in
    rw (← c.self.view_is) (looked the_row _ c.get.result (ap (option_map the_row) (c.get.ensures.value ∙ there.1.got) ∙ sym there.1.named))
