use Rattle.std.proofs.Common.{◌≡◌, ◌+◌, ◌^◌, ◌≤◌, min, drop}
use Rattle.ps_message.specs.Lists.{total}
use Rattle.ps_message.specs.Messages.{attribute_bytes, size_of}
use Rattle.ps_message.proofs.message.Message.size.Given as goal

-- what was counted, and what is left to count
abbrev pub invariant-loop-pair : goal.invariant-loop-pair
invariant-loop-pair l = (l.size ≤ 2 ^ 40) × (min (2 ^ 40) (l.size + total attribute_bytes (drop l.pair-index l.pair-items)) ≡ size_of l.self)
