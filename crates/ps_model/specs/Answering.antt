-- Acknowledgements and changed deadlines, by their ids (API reference, Acknowledge and ModifyAckDeadline; Pub/Sub documentation, "Exactly-once delivery": which ids failed. That the other ids of the request take effect, and the refusal as unordered, are this project's own).
use Rattle.std.specs.Prelude.{ℕ, Bool, true, ◌&&◌, not, nat_eq, List, [], Option, Some, None, map, filter, is_some, if◌then◌else◌}
use Rattle.std.specs.List.{list_any}
use Rattle.ps_base.specs.declared.refusal.Refusal.TheVariants.{NotFound}
use Rattle.ps_base.specs.declared.ack_id.AckId.{AckId}
use Rattle.ps_model.specs.declared.mark.Slot.{Slot}
use Rattle.ps_model.specs.declared.mark.Ticket.{Ticket}
use Rattle.ps_model.specs.declared.reply.Reply.TheVariants.{Acked, Modified}
use Rattle.ps_model.specs.declared.world.World.{World}
use Rattle.ps_model.specs.declared.world.SubRow.{SubRow}
use Rattle.ps_model.specs.Lists.{once}
use Rattle.ps_model.specs.Acknowledging.{mark_after_ack, is_good, is_unordered}
use Rattle.ps_model.specs.Modifying.{extended, extended_mark, is_given_up, modify_dead, names}
use Rattle.ps_model.specs.Failing.{mark_after_failing}
use Rattle.ps_model.specs.Worlds.{sub_named, slots_of, remark_at}
use Rattle.ps_model.specs.Forwarding.{letters_of, dead_topic}
use Rattle.ps_model.specs.Outcomes.{Outcome, Leaves, answers, refuses}

abbrev pub ticket_of : AckId → Ticket
ticket_of id = record { number = id.message; lease = id.lease }

-- the leases that these ids name on this subscription
abbrev pub tickets_of : SubRow → List AckId → List Ticket
tickets_of sub ids = map ticket_of (filter (λ (id : AckId). nat_eq id.sub sub.number) ids)

abbrev pub same_id : AckId → AckId → Bool
same_id a b = nat_eq a.sub b.sub && (nat_eq a.message b.message && nat_eq a.lease b.lease)

-- in exactly-once mode, the ids that name no live lease of this subscription
abbrev pub invalid_ids : SubRow → List Slot → List AckId → List AckId
invalid_ids sub slots ids =
    if sub.config.exactly_once then filter (λ (id : AckId). not (nat_eq id.sub sub.number && is_good true slots (ticket_of id))) (once same_id ids) else []

-- in exactly-once mode, the ids of messages before their turn
abbrev pub unordered_ids : SubRow → List Slot → List AckId → List AckId
unordered_ids sub slots ids =
    if sub.config.exactly_once then filter (λ (id : AckId). nat_eq id.sub sub.number && is_unordered sub.config (tickets_of sub ids) slots (ticket_of id)) (once same_id ids) else []

-- the ids of one request are taken together
abbrev pub acknowledge_at : World → List ℕ → List AckId → Option SubRow → Outcome
acknowledge_at w name ids None = refuses w (NotFound name)
acknowledge_at w name ids (Some sub) =
    let slots = slots_of w sub.number in
    answers (remark_at sub.number (mark_after_ack sub.config (tickets_of sub ids) slots) w)
    (Acked sub.config.exactly_once (invalid_ids sub slots ids) (unordered_ids sub slots ids))

abbrev pub acknowledge_ids : World → List ℕ → List AckId → Outcome
acknowledge_ids w name ids = acknowledge_at w name ids (sub_named w name)

abbrev pub items_of : SubRow → List (AckId × ℕ) → List (Ticket × ℕ)
items_of sub items = map (λ (x : AckId × ℕ). (ticket_of x.0, x.1)) (filter (λ (x : AckId × ℕ). nat_eq x.0.sub sub.number) items)

-- in exactly-once mode, the ids that name no live lease of this subscription, whatever their seconds
abbrev pub unknown_ids : SubRow → List Slot → List AckId → List AckId
unknown_ids sub slots ids =
    if sub.config.exactly_once then filter (λ (id : AckId). not (nat_eq id.sub sub.number && list_any (names (ticket_of id)) slots)) (once same_id ids) else []

-- first the deadlines are set, then the leases with 0 seconds fail together
abbrev pub modify_at : World → ℕ → List ℕ → List (AckId × ℕ) → Option SubRow → Outcome
modify_at w t name items None = refuses w (NotFound name)
modify_at w t name items (Some sub) =
    let slots = slots_of w sub.number in
    let forward = is_some (dead_topic w sub) in
    Leaves
    (remark_at sub.number (mark_after_failing (is_given_up (items_of sub items)) t forward sub.config (extended t (items_of sub items) slots)) (remark_at sub.number (extended_mark t (items_of sub items)) w))
    (letters_of w sub (modify_dead t forward sub.config (items_of sub items) slots))
    (Modified sub.config.exactly_once (unknown_ids sub slots (map (λ (x : AckId × ℕ). x.0) items)))

abbrev pub modify_ids : World → ℕ → List ℕ → List (AckId × ℕ) → Outcome
modify_ids w t name items = modify_at w t name items (sub_named w name)
