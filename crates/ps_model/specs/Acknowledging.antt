-- Acknowledgements (Pub/Sub documentation, "Exactly-once delivery": outside this mode a late acknowledgement may count, in it only a live lease counts; the state of a message that is acknowledged before an earlier one of its key is this project's own).
use Rattle.std.specs.Prelude.{ℕ, Bool, true, false, ◌&&◌, not, nat_eq, List, [], Option, Some, None, filter, if◌then◌else◌}
use Rattle.std.specs.List.{list_any}
use Rattle.ps_model.specs.declared.mark.Mark.{Mark}
use Rattle.ps_model.specs.declared.mark.Mark.TheVariants.{Backlog, Leased, Ahead, Done, Gone}
use Rattle.ps_model.specs.declared.mark.DoneCause.TheVariants.{Acknowledged}
use Rattle.ps_model.specs.declared.mark.Slot.{Slot}
use Rattle.ps_model.specs.declared.mark.Ticket.{Ticket}
use Rattle.ps_config.specs.declared.config.SubConfig.{SubConfig}
use Rattle.ps_model.specs.Lists.{once}
use Rattle.ps_model.specs.Slots.{any_earlier, remarked, failures_of, is_unacked}

-- this was its last lease
abbrev pub is_last : ℕ → Option ℕ → Bool
is_last lease None = false
is_last lease (Some own) = nat_eq own lease

-- the lease may acknowledge: it is live, or it was the last one and the mode is at least once
abbrev pub may_ack : Bool → ℕ → Mark → Bool
may_ack exactly_once lease (Leased failures own deadline) = nat_eq own lease
may_ack exactly_once lease (Backlog failures until last) = not exactly_once && is_last lease last
may_ack exactly_once lease (Ahead failures) = false
may_ack exactly_once lease (Done cause) = false
may_ack exactly_once lease (Gone cause) = false

-- the ticket may acknowledge the slot
abbrev pub fits : Bool → Ticket → Slot → Bool
fits exactly_once ticket s = nat_eq s.item.number ticket.number && may_ack exactly_once ticket.lease s.mark

abbrev pub is_good : Bool → List Slot → Ticket → Bool
is_good exactly_once slots ticket = list_any (fits exactly_once ticket) slots

-- some ticket may acknowledge it
abbrev pub is_named : Bool → List Ticket → Slot → Bool
is_named exactly_once tickets s = list_any (λ ticket. fits exactly_once ticket s) tickets

-- an earlier message of its key stays unacknowledged
abbrev pub is_early : SubConfig → List Ticket → List Slot → Slot → Bool
is_early config tickets slots s = any_earlier config.ordering (λ e. is_unacked e.mark && not (is_named config.exactly_once tickets e)) slots s

abbrev pub mark_after_ack : SubConfig → List Ticket → List Slot → Slot → Mark
mark_after_ack config tickets slots s =
    if is_named config.exactly_once tickets s then
    if is_early config tickets slots s then
    if config.exactly_once then s.mark else Ahead (failures_of s.mark)
    else Done Acknowledged
    else s.mark

-- the slots after these tickets acknowledge together
abbrev pub acknowledge : SubConfig → List Ticket → List Slot → List Slot
acknowledge config tickets slots = remarked (mark_after_ack config tickets slots) slots

abbrev pub same_ticket : Ticket → Ticket → Bool
same_ticket a b = nat_eq a.number b.number && nat_eq a.lease b.lease

-- the ticket is for a message before its turn
abbrev pub is_unordered : SubConfig → List Ticket → List Slot → Ticket → Bool
is_unordered config tickets slots ticket = list_any (λ s. fits config.exactly_once ticket s && is_early config tickets slots s) slots

-- in exactly-once mode, the tickets that name no live lease
abbrev pub invalid : SubConfig → List Slot → List Ticket → List Ticket
invalid config slots tickets = if config.exactly_once then filter (λ ticket. not (is_good true slots ticket)) (once same_ticket tickets) else []

-- in exactly-once mode, the tickets of messages before their turn, which stay as they are
abbrev pub unordered : SubConfig → List Slot → List Ticket → List Ticket
unordered config slots tickets = if config.exactly_once then filter (is_unordered config tickets slots) (once same_ticket tickets) else []
