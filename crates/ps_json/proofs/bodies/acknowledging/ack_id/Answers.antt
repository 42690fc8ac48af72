use Rattle.std.proofs.Common.{IfSome, rules}
use Rattle.ps_ackid.specs.AckTexts.{IsAckId}
use Rattle.ps_json.proofs.AckIdLemmas.{ack_id_told}
use Rattle.ps_json.proofs.bodies.acknowledging.ack_id.Goals as goal

pub returns : goal.returns
returns c =
    let small : IfSome c.read.result IsAckId = search rules in
    ack_id_told c.args.text.now c.read.result small (rw c.as_bytes.ensures.value at c.read.ensures.some) (rw c.as_bytes.ensures.value at c.read.ensures.none)
