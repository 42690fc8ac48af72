use Rattle.std.proofs.Common.{◌≤◌, subst, sym}
use Rattle.ps_base.specs.Moments.{last_moment}
use Rattle.ps_core.specs.Carrying.{CanRecord}
use Rattle.ps_core.specs.State.{State}
use Rattle.ps_core.specs.contracts.service.Core.{the_view}
use Rattle.ps_core.proofs.carrying.Recorded.{kept-recorded}
use Rattle.ps_core.proofs.service.Core.record.Goals as goal

pub invariant_of-self : goal.invariant_of-self
invariant_of-self c =
    let can : CanRecord c.args.at (the_view c.self.inside) = subst (CanRecord c.args.at) (sym c.self.view_is) c.requires.can in
    let within : c.args.at ≤ last_moment = subst (λ n. n ≤ last_moment) c.milliseconds-self-inside.ensures.value c.milliseconds-self-inside.ensures.within in
    rw c.milliseconds-self-inside.ensures.value (kept-recorded c.args.at (the_view c.self.inside) can c.self.inside.next_end c.self.inside.tables c.self.invariant within)
