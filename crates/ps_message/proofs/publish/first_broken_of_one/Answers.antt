use Rattle.ps_message.proofs.PublishLemmas.{is_first}
use Rattle.ps_message.proofs.publish.first_broken_of_one.Goals as goal

pub returns-in-Some : goal.returns-in-Some
returns-in-Some c =
    is_first c.args.messages.now c.loop-message.message-index c.loop-message.place c.message-item.result c.in-Some.reason _ c.loop-message-test.true c.message-item.is c.in-Some.ensures c.loop-message.invariant.1
