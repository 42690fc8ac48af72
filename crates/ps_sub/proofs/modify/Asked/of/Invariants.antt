use Rattle.std.proofs.Common.{take}
use Rattle.ps_sub.specs.Modifying.{HasItems}
use Rattle.ps_sub.proofs.modify.Asked.of.Given as goal

-- the map has the items so far
abbrev pub invariant-loop-ticket : goal.invariant-loop-ticket
invariant-loop-ticket l = HasItems (take l.ticket-index l.items) l.seconds
