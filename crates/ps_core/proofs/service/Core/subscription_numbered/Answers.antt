use Rattle.std.proofs.Common.{option_map, nat_eq, refl, sym, ap, ◌∙◌}
use Rattle.ps_model.specs.declared.world.SubRow.{SubRow}
use Rattle.ps_core.specs.State.{sub_row}
use Rattle.ps_core.proofs.carrying.Kept.{subscription-got, find-in-map}
use Rattle.ps_core.proofs.looking.Found.{looked}
use Rattle.ps_core.proofs.service.Core.subscription_numbered.Goals as goal

pub returns : goal.returns
returns c =
    rw (← c.self.view_is)
    (looked sub_row _ c.get.result
    (ap (option_map sub_row) (c.get.ensures.value ∙ subscription-got _ _ c.self.inside.tables c.self.invariant refl c.args.number)
    ∙ sym (find-in-map sub_row (λ (r : SubRow). nat_eq r.number c.args.number) _)))
