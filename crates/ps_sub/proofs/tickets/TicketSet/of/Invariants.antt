use Rattle.std.proofs.Common.{take}
use Rattle.ps_sub.specs.Tickets.{HasTickets}
use Rattle.ps_sub.proofs.tickets.TicketSet.of.Given as goal

-- the set has the tickets so far
abbrev pub invariant-loop-ticket : goal.invariant-loop-ticket
invariant-loop-ticket l = HasTickets (take l.ticket-index l.tickets) l.pairs
