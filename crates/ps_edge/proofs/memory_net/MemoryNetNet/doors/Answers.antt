use Rattle.std.proofs.Common.{◌∙◌, ap, length}
use Rattle.ps_edge.proofs.NetLemmas.{length-opened, opened-new}
use Rattle.ps_edge.proofs.memory_net.MemoryNetNet.doors.Goals as goal

pub returns-clause-number : goal.returns-clause-number
returns-clause-number c = ap length c.in_ok-doors.ensures.gives ∙ length-opened c.args.port c.args.number c.count.new.self c.self.inside.links.items

pub returns-clause-unused : goal.returns-clause-unused
returns-clause-unused c = rw c.in_ok-doors.ensures.gives (opened-new c.args.port c.args.number c.count.new.self c.self.inside.links.items)
