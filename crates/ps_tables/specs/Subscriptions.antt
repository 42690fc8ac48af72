-- What a subscription keeps, and what enters it.
use Rattle.std.specs.Prelude.{ℕ, List, [], map, ◌+◌, Bool, true, ◌&&◌, not, nat_eq, ◌∷◌, ◌++◌, Option, Some, None, filter, if◌then◌else◌}
use Rattle.ps_model.specs.declared.mark.Slot.{Slot}
use Rattle.ps_model.specs.declared.world.MessageRow.{MessageRow}
use Rattle.ps_tables.specs.declared.kept_subscription.KeptSubscription.{KeptSubscription}
use Rattle.std.specs.List.{list_any}
use Rattle.ps_filter.specs.Filters.{meets}
use Rattle.ps_model.specs.Seeking.{fresh}
use Rattle.ps_model.specs.Worlds.{item_at}
use Rattle.ps_sub.specs.Showing.{has}

abbrev pub number_of : KeptSubscription → ℕ
number_of x = x.number

-- the subscription with other slots
abbrev pub with_slots : KeptSubscription → List Slot → KeptSubscription
with_slots x slots = record x { sub = record x.sub { slots = slots } }

-- what a subscription keeps of its filter's text, and none if every message enters
abbrev pub filter_of : List ℕ → Option (List ℕ)
filter_of [] = None
filter_of (c ∷ cs) = Some (c ∷ cs)

-- nothing enters any more, and everything that had entered is gone
abbrev pub detach_subscription : KeptSubscription → KeptSubscription
detach_subscription x = record x { detached = true; sub = record x.sub { slots = [] } }

-- some subscription has the message
abbrev pub is_had : List KeptSubscription → ℕ → Bool
is_had subscriptions number = list_any (λ (x : KeptSubscription). has x.sub.slots number) subscriptions

-- a message that entered
abbrev pub slot_in : MessageRow → Slot
slot_in m = record { item = item_at m.number m; mark = fresh }

-- of new messages those that match the subscription's filter
abbrev pub wanted_of : KeptSubscription → List MessageRow → List MessageRow
wanted_of x rows = filter (λ (m : MessageRow). meets x.sub.config.filter m.message) rows

-- the subscription is one of the topic with this number, and isn't detached
abbrev pub is_attached : ℕ → KeptSubscription → Bool
is_attached topic x = nat_eq x.topic topic && not x.detached

-- the messages that a subscription of their topic wants enter it
abbrev pub enter_subscription : ℕ → List MessageRow → KeptSubscription → KeptSubscription
enter_subscription topic rows x = if is_attached topic x then with_slots x (x.sub.slots ++ map slot_in (wanted_of x rows)) else x
