use Rattle.ps_sockets.proofs.CountLemmas.{none-fewer}
use Rattle.ps_sockets.proofs.net.TcpNetNet.back.Goals as goal

-- no door is closed
pub returns-clause-out : goal.returns-clause-out
returns-clause-out g c = none-fewer c.args.self.now.out c.args.doors
