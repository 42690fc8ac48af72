-- What each command does to a state.
use Rattle.std.specs.Prelude.{ℕ, ◌+◌, Bool, false, not, nat_eq, List, [], ◌∷◌, ◌++◌, length, map, filter, if◌then◌else◌}
use Rattle.std.specs.List.{list_any}
use Rattle.ps_config.specs.Masks.{masked_topic, masked_sub}
use Rattle.ps_config.specs.declared.config.SubConfig.{SubConfig}
use Rattle.ps_config.specs.declared.config.TopicConfig.{TopicConfig}
use Rattle.ps_config.specs.declared.mask.Mask.{Mask}
use Rattle.ps_message.specs.declared.message.Message.{Message}
use Rattle.ps_model.specs.declared.mark.Handed.{Handed}
use Rattle.ps_model.specs.declared.mark.Slot.{Slot}
use Rattle.ps_model.specs.declared.mark.Ticket.{Ticket}
use Rattle.ps_model.specs.declared.world.MessageRow.{MessageRow}
use Rattle.ps_model.specs.declared.world.TopicRow.{TopicRow}
use Rattle.ps_model.specs.Acknowledging.{acknowledge}
use Rattle.ps_model.specs.Choice.{choice, handed, lent}
use Rattle.ps_model.specs.Failing.{fail, is_due}
use Rattle.ps_model.specs.Forwarding.{message_rows}
use Rattle.ps_model.specs.Modifying.{modify}
use Rattle.ps_model.specs.Retention.{caught_up_mark}
use Rattle.ps_model.specs.Slots.{remarked}
use Rattle.ps_tables.specs.declared.kept_subscription.KeptSubscription.{KeptSubscription}
use Rattle.ps_core.specs.State.{State}
use Rattle.ps_tables.specs.Subscriptions.{with_slots, filter_of, is_had, enter_subscription}

-- ---- settling

-- the leases of a subscription that are over fail
abbrev pub settle_subscription : ℕ → KeptSubscription → KeptSubscription
settle_subscription at x = with_slots x (fail (is_due at) at false x.sub.config x.sub.slots)

abbrev pub settle_state : ℕ → State → State
settle_state at s = record s { subscriptions = map (settle_subscription at) s.subscriptions }

-- some lease is over
abbrev pub is_any_due : ℕ → State → Bool
is_any_due at s = list_any (λ (x : KeptSubscription). list_any (is_due at) x.sub.slots) s.subscriptions

-- one entry more, of this moment
abbrev pub recorded_at : ℕ → State → State
recorded_at at s = record s { now = at; count = s.count + 1 }

-- ---- topics

abbrev pub add_topic : List ℕ → TopicConfig → State → State
add_topic name config s = record s { next_topic = s.next_topic + 1; topics = s.topics ++ (record { number = s.next_topic; name = name; config = config }) ∷ [] }

-- the topic with this row's number has this row
abbrev pub put_topic : TopicRow → State → State
put_topic row s = record s { topics = map (λ (r : TopicRow). if nat_eq r.number row.number then row else r) s.topics }

abbrev pub configure_topic : Mask → TopicConfig → TopicRow → TopicRow
configure_topic mask config r = record r { config = masked_topic mask r.config config }

abbrev pub drop_topic : ℕ → State → State
drop_topic number s = record s { topics = filter (λ (r : TopicRow). not (nat_eq r.number number)) s.topics }

-- ---- subscriptions

abbrev pub new_subscription : ℕ → List ℕ → ℕ → SubConfig → KeptSubscription
new_subscription number name topic config =
    record { number = number; name = name; topic = topic; detached = false; filter = filter_of config.filter; sub = record { slots = []; config = config; next_lease = 1 } }

-- a subscription of the topic with this number
abbrev pub add_subscription : List ℕ → ℕ → SubConfig → State → State
add_subscription name topic config s = record s { next_sub = s.next_sub + 1; subscriptions = s.subscriptions ++ new_subscription s.next_sub name topic config ∷ [] }

-- the subscription with this one's number is this one
abbrev pub put_subscription : KeptSubscription → State → State
put_subscription x s = record s { subscriptions = map (λ (y : KeptSubscription). if nat_eq y.number x.number then x else y) s.subscriptions }

abbrev pub configure_subscription : Mask → SubConfig → KeptSubscription → KeptSubscription
configure_subscription mask config x = record x { sub = record x.sub { config = masked_sub mask x.sub.config config } }

-- the messages that no subscription has go
abbrev pub let_go : State → State
let_go s = record s { messages = filter (λ (m : MessageRow). is_had s.subscriptions m.number) s.messages }

abbrev pub drop_subscription : ℕ → State → State
drop_subscription number s = let_go (record s { subscriptions = filter (λ (x : KeptSubscription). not (nat_eq x.number number)) s.subscriptions })

-- ---- messages

-- new messages of the topic with this number; those stay that some subscription has
abbrev pub add_published : ℕ → ℕ → List Message → State → State
add_published at topic messages s =
    let rows = message_rows topic s.next_message at messages in
    let subscriptions = map (enter_subscription topic rows) s.subscriptions in
    record s {
      next_message = s.next_message + length rows;
      subscriptions = subscriptions;
      messages = s.messages ++ filter (λ (m : MessageRow). is_had subscriptions m.number) rows;
    }

-- what a pull of this subscription hands out
abbrev pub given_of : ℕ → ℕ → ℕ → KeptSubscription → List Handed
given_of at most budget x = handed x.sub.next_lease (choice at x.sub.config.ordering most budget x.sub.slots)

-- the subscription after these were handed out
abbrev pub lend_subscription : ℕ → List Handed → KeptSubscription → KeptSubscription
lend_subscription deadline given x = record x { sub = record x.sub { slots = lent deadline given x.sub.slots; next_lease = x.sub.next_lease + length given } }

-- what was ahead of a message that is acknowledged now catches up with it
abbrev pub caught_up : Bool → List Slot → List Slot
caught_up ordering slots = remarked (caught_up_mark ordering slots) slots

abbrev pub caught_up_subscription : KeptSubscription → KeptSubscription
caught_up_subscription x = with_slots x (caught_up x.sub.config.ordering x.sub.slots)

-- the subscription after these acknowledged
abbrev pub ack_subscription : List Ticket → KeptSubscription → KeptSubscription
ack_subscription tickets x = with_slots x (caught_up x.sub.config.ordering (acknowledge x.sub.config tickets x.sub.slots))

-- the subscription after deadlines were set and leases given up
abbrev pub modify_subscription : ℕ → List (Ticket × ℕ) → KeptSubscription → KeptSubscription
modify_subscription at items x = with_slots x (modify at false x.sub.config items x.sub.slots)
