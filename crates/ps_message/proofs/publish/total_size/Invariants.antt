use Rattle.std.proofs.Common.{◌≡◌, ◌+◌, drop}
use Rattle.ps_message.specs.Lists.{total}
use Rattle.ps_message.specs.Messages.{size_of}
use Rattle.ps_message.proofs.publish.total_size.Given as goal

-- what was added, and what is left to add
abbrev pub invariant-loop-message : goal.invariant-loop-message
invariant-loop-message l = l.size + total size_of (drop l.message-index l.messages) ≡ total size_of l.messages
