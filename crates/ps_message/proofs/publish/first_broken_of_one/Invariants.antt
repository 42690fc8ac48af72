use Rattle.std.proofs.Common.{◌≡◌, drop}
use Rattle.ps_message.specs.Lists.{first_of}
use Rattle.ps_message.specs.Messages.{all_message_checks}
use Rattle.ps_message.proofs.publish.first_broken_of_one.Given as goal

-- the messages so far break nothing
abbrev pub invariant-loop-message : goal.invariant-loop-message
invariant-loop-message l = (l.place ≡ l.message-index) × (first_of (all_message_checks l.place (drop l.message-index l.messages)) ≡ first_of (all_message_checks 0 l.messages))
