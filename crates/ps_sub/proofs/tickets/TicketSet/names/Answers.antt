use Rattle.std.proofs.Common.{◌∙◌, sym, ap, false}
use Rattle.std.specs.List.{list_any}
use Rattle.std.specs.Option.{option_map_or}
use Rattle.ps_model.specs.Acknowledging.{same_ticket}
use Rattle.ps_sub.proofs.TicketLemmas.{named-by}
use Rattle.ps_sub.proofs.tickets.TicketSet.names.Goals as goal

pub returns-in-Some : goal.returns-in-Some
returns-in-Some c = λ tickets has.
    let number = c.args.slot.now.item.number in
    c.contains.ensures ∙ has (record { number = number; lease = c.in-Some.lease })
    ∙ ap (λ lease. option_map_or (λ l. list_any (same_ticket (record { number = number; lease = l })) tickets) lease false) (sym c.in-Some.is ∙ c.ack_lease.ensures)
    ∙ named-by c.args.exactly_once number c.args.slot.now.mark tickets

pub returns-in-None : goal.returns-in-None
returns-in-None c = λ tickets has.
    let number = c.args.slot.now.item.number in
    ap (λ lease. option_map_or (λ l. list_any (same_ticket (record { number = number; lease = l })) tickets) lease false) (sym c.in-None.is ∙ c.ack_lease.ensures)
    ∙ named-by c.args.exactly_once number c.args.slot.now.mark tickets
