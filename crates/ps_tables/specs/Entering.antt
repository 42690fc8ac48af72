-- How new messages enter the subscriptions of their topic: one subscription after the other, and into each one message after the other.
use Rattle.std.specs.Prelude.{◌≡◌, ◌≢◌, ◌<◌, ◌≤◌, ◌+◌, ◌^◌, ℕ, zero, suc, Bool, false, true, nat_eq, nat_lt, List, [], ◌∷◌, ◌++◌, Option, Some, None, length, map, filter, find, if◌then◌else◌}
use Rattle.std.specs.BTreeMap.{values}
use Rattle.std.specs.List.{AllByRecursion, list_any}
use Rattle.ps_base.specs.Moments.{last_moment}
use Rattle.ps_filter.specs.Filters.{meets}
use Rattle.ps_message.specs.declared.message.Message.{Message}
use Rattle.ps_model.specs.declared.mark.Slot.{Slot}
use Rattle.ps_model.specs.declared.world.MessageRow.{MessageRow}
use Rattle.ps_model.specs.Forwarding.{message_rows}
use Rattle.ps_model.specs.Sound.{Ordered}
use Rattle.ps_tables.specs.declared.kept_subscription.KeptSubscription.{KeptSubscription}
use Rattle.ps_tables.specs.declared.tables.KeptMessage.{KeptMessage}
use Rattle.ps_tables.specs.declared.tables.KeptTopic.{KeptTopic}
use Rattle.ps_tables.specs.declared.tables.Tables.{Tables}
use Rattle.ps_tables.specs.Subscriptions.{with_slots, slot_in, wanted_of, filter_of, is_had, enter_subscription, number_of}
use Rattle.ps_tables.specs.Numbers.{IsNumbered}
use Rattle.ps_tables.specs.Members.{HasMembers, holders_of}

-- the slot is of a message before those with numbers from this one on, published by this moment
pub record IsBefore (first at : ℕ) (slot : Slot) : Type 0 where
  pub number : slot.item.number < first
  pub publish : slot.item.publish ≤ at

-- messages with numbers from this one on can enter at this moment
pub record IsReady (first at : ℕ) (x : KeptSubscription) : Type 0 where
  pub filter : x.filter ≡ filter_of x.sub.config.filter
  pub slots : AllByRecursion (IsBefore first at) x.sub.slots

-- the row of a new message
abbrev pub new_row : ℕ → ℕ → ℕ → Message → MessageRow
new_row topic number at m = record { number = number; topic = topic; publish = at; message = m; kept = true }

-- ---- one subscription

abbrev pub is_wanted : KeptSubscription → Message → Bool
is_wanted x m = meets x.sub.config.filter m

-- the message enters if the subscription wants it
abbrev pub enter_message : MessageRow → KeptSubscription → KeptSubscription
enter_message m x = if is_wanted x m.message then with_slots x (x.sub.slots ++ slot_in m ∷ []) else x

-- of these messages those enter that the subscription wants
abbrev pub enter_wanted : List MessageRow → KeptSubscription → KeptSubscription
enter_wanted rows x = with_slots x (x.sub.slots ++ map slot_in (wanted_of x rows))

-- one more where the subscription wants the message
abbrev pub counted : KeptSubscription → Message → ℕ → ℕ
counted x m holders = if is_wanted x m then holders + 1 else holders

-- the counts of messages that the subscription wants are one more, from a place on
abbrev pub count_from : ℕ → KeptSubscription → List Message → List ℕ → List ℕ
count_from place x [] counts = counts
count_from place x (m ∷ ms) [] = []
count_from zero x (m ∷ ms) (n ∷ counts) = counted x m n ∷ count_from zero x ms counts
count_from (suc place) x (m ∷ ms) (n ∷ counts) = n ∷ count_from place x ms counts

-- ---- those with these numbers

-- the messages enter the subscription with this number
abbrev pub enter_numbered : ℕ → ℕ → List Message → ℕ → KeptSubscription → KeptSubscription
enter_numbered first at messages n x = if nat_eq x.number n then enter_wanted (message_rows x.topic first at messages) x else x

abbrev pub is_among : List ℕ → ℕ → Bool
is_among numbers n = list_any (nat_eq n) numbers

-- the messages enter a subscription if its number is among these
abbrev pub enter_among : ℕ → ℕ → List Message → List ℕ → KeptSubscription → KeptSubscription
enter_among first at messages numbers x = if is_among numbers x.number then enter_wanted (message_rows x.topic first at messages) x else x

abbrev pub subscription_with : ℕ → List KeptSubscription → Option KeptSubscription
subscription_with n xs = find (λ (x : KeptSubscription). nat_eq x.number n) xs

abbrev pub count_found : List Message → Option KeptSubscription → List ℕ → List ℕ
count_found messages None counts = counts
count_found messages (Some x) counts = count_from 0 x messages counts

-- each subscription with one of these numbers counts
abbrev pub count_each : List Message → List KeptSubscription → List ℕ → List ℕ → List ℕ
count_each messages xs [] counts = counts
count_each messages xs (n ∷ numbers) counts = count_each messages xs numbers (count_found messages (subscription_with n xs) counts)

-- numbers that differ from one another
abbrev pub IsDistinct : List ℕ → Type 0
IsDistinct numbers = Ordered (λ (a b : ℕ). nat_eq a b ≡ false) numbers

-- ---- what is kept of the messages

-- a message that so many subscriptions have
abbrev pub kept_with : MessageRow → ℕ → KeptMessage
kept_with m holders = record { row = m; holders = holders }

-- of new messages those that some subscription has, with how many have each
abbrev pub kept_rows : List MessageRow → List ℕ → List KeptMessage
kept_rows [] counts = []
kept_rows (m ∷ ms) [] = []
kept_rows (m ∷ ms) (n ∷ counts) = if nat_lt 0 n then kept_with m n ∷ kept_rows ms counts else kept_rows ms counts

-- a message with the number of subscriptions that have it
abbrev pub kept_by : List KeptSubscription → MessageRow → KeptMessage
kept_by subscriptions m = kept_with m (holders_of subscriptions m.number)

-- ---- the tables

-- the tables are such that messages with numbers from `first` on can enter
pub record CanPublish (first at : ℕ) (messages : List Message) (tables : Tables) : Type 0 where
  pub room : first + length messages < 2 ^ 64
  pub within : at ≤ last_moment
  pub topics : IsNumbered (λ (x : KeptTopic). x.row.number) tables.topics.entries
  pub members : AllByRecursion (HasMembers (values tables.subscriptions)) (values tables.topics)
  pub subscriptions : IsNumbered number_of tables.subscriptions.entries
  pub ordered : Ordered (λ (a b : KeptSubscription). a.number < b.number) (values tables.subscriptions)
  pub names : Ordered (λ (a b : KeptSubscription). a.name ≢ b.name) (values tables.subscriptions)
  pub ready : AllByRecursion (IsReady first at) (values tables.subscriptions)
  pub message_keys : IsNumbered (λ (x : KeptMessage). x.row.number) tables.messages.entries
  pub below : AllByRecursion (λ (x : KeptMessage). x.row.number < first) (values tables.messages)

-- the topic is one of these
abbrev pub has_topic : ℕ → Tables → Bool
has_topic topic tables = list_any (λ (x : KeptTopic). nat_eq x.row.number topic) (values tables.topics)

-- the messages entered the subscriptions of the topic, and those are kept that some subscription has
pub record IsPublished (first at topic : ℕ) (messages : List Message) (old new : Tables) : Type 0 where
  pub topics : new.topics ≡ old.topics
  pub topic_numbers : new.topic_numbers ≡ old.topic_numbers
  pub subscription_numbers : new.subscription_numbers ≡ old.subscription_numbers
  pub subscriptions : values new.subscriptions ≡ map (enter_subscription topic (message_rows topic first at messages)) (values old.subscriptions)
  pub subscription_keys : IsNumbered number_of new.subscriptions.entries
  pub kept : values new.messages ≡ values old.messages ++ map (kept_by (values new.subscriptions)) (filter (λ (m : MessageRow). is_had (values new.subscriptions) m.number) (message_rows topic first at messages))
  pub message_keys : IsNumbered (λ (x : KeptMessage). x.row.number) new.messages.entries
