use Rattle.ps_sub.proofs.ModifyLemmas.{items-more}
use Rattle.ps_sub.proofs.modify.Asked.of.Goals as goal

pub loop-ticket-preserved : goal.loop-ticket-preserved
loop-ticket-preserved c = items-more c.args.items.now c.loop-ticket.ticket-index _ c.loop-ticket.seconds c.insert.new.self c.loop-ticket-test.true c.in_ok-insert.ensures.updates c.loop-ticket.invariant
