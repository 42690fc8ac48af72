use Rattle.ps_sub.proofs.SteadyLemmas.{steady-none, delays-checked}
use Rattle.ps_sub.proofs.sub.Sub.new.Goals as goal

pub invariant_of-result : goal.invariant_of-result
invariant_of-result c = rw (c.new.ensures.items, c.in_ok-copy.ensures) (steady-none c.args.config.now (delays-checked c.args.config.now c.requires.settings))
