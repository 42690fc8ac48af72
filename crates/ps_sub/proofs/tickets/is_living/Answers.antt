use Rattle.std.proofs.Common.{◌∙◌, sym}
use Rattle.ps_model.specs.declared.mark.Slot.{Slot}
use Rattle.ps_model.specs.Slots.{is_out}
use Rattle.ps_sub.proofs.TicketLemmas.{good-out}
use Rattle.ps_sub.proofs.tickets.is_living.Goals as goal

pub returns-in-Some : goal.returns-in-Some
returns-in-Some c =
    let named = c.is_out.ensures ∙ sym (c.in-Some.ensures (λ (s : Slot). is_out c.args.ticket.lease s.mark)) in
    record { acknowledges = named ∙ good-out c.args.ticket c.args.slots.now; names = named }

pub returns-in-None : goal.returns-in-None
returns-in-None c =
    let named = sym (c.in-None.ensures (λ (s : Slot). is_out c.args.ticket.lease s.mark)) in
    record { acknowledges = named ∙ good-out c.args.ticket c.args.slots.now; names = named }
