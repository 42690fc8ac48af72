use Rattle.ps_sub.proofs.SteadyLemmas.{steady-configured, delays-checked}
use Rattle.ps_sub.proofs.sub.Sub.configure.Goals as goal

pub invariant_of-self : goal.invariant_of-self
invariant_of-self c = rw c.in_ok-self-inside.ensures (steady-configured _ _ c.args.config.now (delays-checked c.args.config.now c.requires.settings) (rw (← c.self.view_is) at c.requires.ordering) c.self.invariant)
