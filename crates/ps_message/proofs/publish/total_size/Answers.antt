use Rattle.std.proofs.Common.{arith}
use Rattle.ps_message.specs.Messages.{size_of}
use Rattle.ps_message.proofs.SizeLemmas.{total-drop, total-size_le}
use Rattle.ps_message.proofs.publish.total_size.Goals as goal

pub overflow_add-size : goal.overflow_add-size
overflow_add-size c =
    let added = total-drop size_of c.args.messages.now c.loop-message.message-index c.message-item.result c.loop-message-test.true c.message-item.is in
    let most = total-size_le c.args.messages.now in
    omega arith
