-- Tickets that are looked up by their numbers.
use Rattle.std.specs.Prelude.{ℕ, ◌≡◌, Bool, not, nat_eq, List, Option, Some, None, if◌then◌else◌}
use Rattle.std.specs.BTreeMap.{BTreeMap, get}
use Rattle.std.specs.BTreeSet.{BTreeSet, contains}
use Rattle.std.specs.List.{list_any}
use Rattle.std.specs.declared.cmp.Ordering.{Ordering}
use Rattle.std.specs.Ordering.{nat_cmp, ordering_then}
use Rattle.ps_model.specs.declared.mark.Mark.{Mark}
use Rattle.ps_model.specs.declared.mark.Mark.TheVariants.{Backlog, Leased, Ahead, Done, Gone}
use Rattle.ps_model.specs.declared.mark.Slot.{Slot}
use Rattle.ps_model.specs.declared.mark.Ticket.{Ticket}
use Rattle.ps_model.specs.Acknowledging.{same_ticket}

-- a message's number and a lease, in this order
abbrev pub pair_cmp : ℕ × ℕ → ℕ × ℕ → Ordering
pair_cmp a b = ordering_then (nat_cmp a.0 b.0) (nat_cmp a.1 b.1)

abbrev pub pair_of : Ticket → ℕ × ℕ
pair_of ticket = (ticket.number, ticket.lease)

-- the set has these tickets
abbrev pub HasTickets : List Ticket → BTreeSet (ℕ × ℕ) → Type 0
HasTickets tickets pairs = (ticket : Ticket) → contains pair_cmp pairs (pair_of ticket) ≡ list_any (same_ticket ticket) tickets

-- the lease that may acknowledge a message: the one that is out, or the last one outside exactly-once mode
abbrev pub ack_lease : Bool → Mark → Option ℕ
ack_lease exactly_once (Leased failures lease deadline) = Some lease
ack_lease exactly_once (Backlog failures until last) = if exactly_once then None else last
ack_lease exactly_once (Ahead failures) = None
ack_lease exactly_once (Done cause) = None
ack_lease exactly_once (Gone cause) = None
