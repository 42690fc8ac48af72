use Rattle.ps_core.proofs.carrying.Outcomes.{tick-carried}
use Rattle.ps_core.proofs.service.Core.carry.Goals as goal

pub returns-in-Tick : goal.returns-in-Tick
returns-in-Tick c = rw (c.in-Tick.is, c.nothing.ensures.reply, c.nothing.ensures.same) (tick-carried c.args.at c.args.self.now c.requires.can)
