use Rattle.ps_sub.proofs.TicketLemmas.{early-are}
use Rattle.ps_sub.proofs.acknowledge.unordered.Goals as goal

pub returns : goal.returns
returns c = early-are c.args.config.now c.args.tickets.now c.in_ok-once.field-0.items c.args.after.now c.if-not-config.false c.in_ok-once.ensures c.living.result c.living.ensures
