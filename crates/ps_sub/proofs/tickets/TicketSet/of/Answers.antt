use Rattle.ps_sub.proofs.TicketLemmas.{tickets-more}
use Rattle.ps_sub.proofs.tickets.TicketSet.of.Goals as goal

pub loop-ticket-preserved : goal.loop-ticket-preserved
loop-ticket-preserved c = tickets-more c.args.tickets.now c.loop-ticket.ticket-index _ c.loop-ticket.pairs c.insert.new.self c.loop-ticket-test.true c.in_ok-insert.ensures.updates c.loop-ticket.invariant
