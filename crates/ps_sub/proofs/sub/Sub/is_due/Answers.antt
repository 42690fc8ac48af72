use Rattle.std.proofs.Common.{sym, ◌∙◌}
use Rattle.ps_sub.proofs.DueLemmas.{settled-rest, settled-due}
use Rattle.ps_sub.proofs.sub.Sub.is_due.Goals as goal

pub returns-clause-rest : goal.returns-clause-rest
returns-clause-rest c = λ e forward.
    let told = rw c.as_slice.ensures.value at c.any_moved.ensures in
    rw (← c.self.view_is) (settled-rest c.args.now forward c.self.inside.config c.args.holds.now c.self.inside.slots.items (sym told ∙ e) c.self.invariant.live)

pub returns-clause-due : goal.returns-clause-due
returns-clause-due c = λ e forward.
    let told = rw c.as_slice.ensures.value at c.any_moved.ensures in
    rw (← c.self.view_is) (settled-due c.args.now forward c.self.inside.config c.args.holds.now c.self.inside.slots.items (sym told ∙ e))
