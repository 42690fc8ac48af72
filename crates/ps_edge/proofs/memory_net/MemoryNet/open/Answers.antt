use Rattle.std.proofs.Common.{◌≡◌, ◌∙◌, ap, arith, length}
use Rattle.ps_edge.specs.MemoryNets.{all_unused}
use Rattle.ps_edge.proofs.NetLemmas.{others-unused, room-made}
use Rattle.ps_edge.proofs.memory_net.MemoryNet.open.Goals as goal

pub deal-requires-clause-room : goal.deal-requires-clause-room
deal-requires-clause-room c =
    let size : length c.self.inside.links.items ≡ c.len-count.result = omega (arith, c.len-count.ensures, c.self.inside.links.ok.0) in
    rw c.replace-links.ensures.value (rw size (rw c.in_ok-doors.ensures (room-made c.len-count.result c.args.number c.self.inside.script)))

pub invariant_of-self-2 : goal.invariant_of-self-2
invariant_of-self-2 c =
    ap all_unused c.deal.ensures.rest ∙ rw c.in_ok-rest.ensures.items (rw c.replace-links.ensures.value (others-unused c.args.port (length c.in_ok-doors.doors.items) c.self.inside.links.items c.self.invariant))
