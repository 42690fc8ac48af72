use Rattle.std.proofs.Common.{sym, ◌∙◌, ap, not}
use Rattle.ps_model.specs.Step.{moment}
use Rattle.ps_core.specs.State.{seen}
use Rattle.ps_core.specs.Effects.{is_any_due}
use Rattle.ps_core.proofs.settling.Due.{full-rests, open-moves}
use Rattle.ps_core.proofs.service.Core.is_due.Goals as goal

pub returns-then-not-is_full : goal.returns-then-not-is_full
returns-then-not-is_full c =
    let at = moment (seen c.args.self.now) c.args.now in
    let moves = open-moves at c.args.self.now c.moment.ensures.steady (sym c.is_full.ensures ∙ c.if-not-is_full.true) in
    c.is_any_due.ensures ∙ ap (λ u. is_any_due u c.args.self.now) c.moment.ensures.value ∙ sym moves

pub returns-else-not-is_full : goal.returns-else-not-is_full
returns-else-not-is_full c =
    let at = moment (seen c.args.self.now) c.args.now in
    ap not c.if-not-is_full.false ∙ sym (full-rests at c.args.self.now (sym c.is_full.ensures ∙ c.if-not-is_full.false))
