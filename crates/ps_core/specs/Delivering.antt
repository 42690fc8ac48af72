-- What the core is asked of leases, and what it makes of the messages that go out and of the ids that come back.
use Rattle.std.specs.Prelude.{ℕ, ◌≡◌, ◌≢◌, ◌≤◌, ◌+◌, ◌*◌, Bool, ◌&&◌, ◌||◌, not, nat_eq, List, None, map, filter}
use Rattle.std.specs.BTreeSet.{BTreeSet, contains}
use Rattle.std.specs.List.{list_any}
use Rattle.std.specs.declared.cmp.Ordering.{Ordering}
use Rattle.std.specs.Ordering.{nat_cmp, ordering_then}
use Rattle.ps_base.specs.declared.ack_id.AckId.{AckId}
use Rattle.ps_model.specs.declared.mark.Handed.{Handed}
use Rattle.ps_model.specs.declared.mark.Ticket.{Ticket}
use Rattle.ps_model.specs.declared.reply.ReceivedMessage.{ReceivedMessage}
use Rattle.ps_model.specs.declared.world.MessageRow.{MessageRow}
use Rattle.ps_model.specs.Acknowledging.{same_ticket}
use Rattle.ps_model.specs.Answering.{same_id, ticket_of, unknown_ids}
use Rattle.ps_model.specs.Worlds.{message_at}
use Rattle.ps_sub.specs.Tickets.{pair_cmp}
use Rattle.ps_tables.specs.declared.kept_subscription.KeptSubscription.{KeptSubscription}
use Rattle.ps_tables.specs.declared.tables.KeptMessage.{KeptMessage}
use Rattle.ps_core.specs.Effects.{given_of}
use Rattle.ps_core.specs.Keeping.{the_message}
use Rattle.ps_core.specs.State.{sub_row}

-- a message that goes out on the subscription of this number, which has no dead-letter policy
abbrev pub received : ℕ → Handed → MessageRow → ReceivedMessage
received sub h r = record {
  id = record { sub = sub; message = h.number; lease = h.lease };
  attempt = None;
  publish = r.publish;
  message = r.message;
}

abbrev pub received_all : ℕ → List MessageRow → List Handed → List ReceivedMessage
received_all sub messages given = map (λ (h : Handed). received sub h (message_at messages h.number)) given

-- what a pull of this subscription gives the caller, if these messages are kept
abbrev pub pulled : ℕ → ℕ → ℕ → KeptSubscription → List KeptMessage → List ReceivedMessage
pulled at most budget x messages = received_all x.number (map the_message messages) (given_of at most budget x)

-- an item for the lease that its id names
abbrev pub item_of : AckId × ℕ → Ticket × ℕ
item_of x = (ticket_of x.0, x.1)

-- those of the subscription of this number
abbrev pub items_of : ℕ → List (AckId × ℕ) → List (Ticket × ℕ)
items_of sub items = map item_of (filter (λ (x : AckId × ℕ). nat_eq x.0.sub sub) items)

-- the deadline that an item sets isn't before this moment
abbrev pub NotBefore : ℕ → ℕ → AckId × ℕ → Type 0
NotBefore first at x = x.1 ≢ 0 → first ≤ at + 1000 * x.1

-- the id names another subscription, or one of these leases
abbrev pub is_unknown : ℕ → List Ticket → AckId → Bool
is_unknown sub named id = not (nat_eq id.sub sub) || list_any (same_ticket (ticket_of id)) named

-- the id names one of these leases of the subscription of this number
abbrev pub is_named : ℕ → List Ticket → AckId → Bool
is_named sub named id = nat_eq id.sub sub && list_any (same_ticket (ticket_of id)) named

-- in exactly-once mode, the ids of the items that name no lease of this subscription that is out
abbrev pub modified_ids : KeptSubscription → List (AckId × ℕ) → List AckId
modified_ids x items = unknown_ids (sub_row x) x.sub.slots (map (λ (y : AckId × ℕ). y.0) items)

-- the leases that the ids name on the subscription of this number
abbrev pub tickets_of : ℕ → List AckId → List Ticket
tickets_of sub ids = map ticket_of (filter (λ (id : AckId). nat_eq id.sub sub) ids)

-- ---- ids in a set

-- the numbers of a subscription, of a message and of a lease, in this order
abbrev pub triple_cmp : ℕ × (ℕ × ℕ) → ℕ × (ℕ × ℕ) → Ordering
triple_cmp a b = ordering_then (nat_cmp a.0 b.0) (pair_cmp a.1 b.1)

abbrev pub triple_of : AckId → ℕ × (ℕ × ℕ)
triple_of id = (id.sub, (id.message, id.lease))

-- the set has these ids
abbrev pub HasIds : List AckId → BTreeSet (ℕ × (ℕ × ℕ)) → Type 0
HasIds ids set = (id : AckId) → contains triple_cmp set (triple_of id) ≡ list_any (same_id id) ids
