use Rattle.std.proofs.Common.{sym, refl, arith}
use Rattle.ps_core.specs.contracts.service.Core.{the_view}
use Rattle.ps_core.proofs.settling.Moving.{settle-rests}
use Rattle.ps_core.proofs.settling.Ending.{kept-settled}
use Rattle.ps_core.proofs.service.Core.settle.Goals as goal

pub returns-then-now-self-clause-after : goal.returns-then-now-self-clause-after
returns-then-now-self-clause-after c =
    let kept = c.self.invariant in
    rw (← c.self.view_is) (sym (settle-rests c.args.at (the_view c.self.inside) kept.steady (kept.none_before c.args.at (omega (arith, c.milliseconds-now.ensures.value)))))

pub invariant_of-self : goal.invariant_of-self
invariant_of-self c =
    kept-settled c.args.at (the_view c.self.inside) c.self.inside.next_end c.in-Ok.settled.next_end c.self.inside.tables _ c.self.invariant refl c.in-Ok.ensures.after refl refl refl refl c.in-Ok.ensures.numbered c.in-Ok.ensures.next_end
