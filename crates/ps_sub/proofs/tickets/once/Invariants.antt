use Rattle.std.proofs.Common.{◌≡◌, ◌++◌, drop}
use Rattle.ps_model.specs.Lists.{once, once_after}
use Rattle.ps_model.specs.Acknowledging.{same_ticket}
use Rattle.ps_sub.specs.Tickets.{HasTickets}
use Rattle.ps_sub.proofs.tickets.once.Given as goal

-- the set has what was kept so far; and that, with what is kept of the rest, is all
abbrev pub invariant-loop-ticket : goal.invariant-loop-ticket
invariant-loop-ticket l = record {
  seen : HasTickets l.kept.items l.seen;
  so_far : l.kept.items ++ once_after same_ticket l.kept.items (drop l.ticket-index l.tickets) ≡ once same_ticket l.tickets;
}
