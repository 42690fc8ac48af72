-- What holds of every state of a core.
use Rattle.std.specs.Prelude.{◌≡◌, ◌≢◌, ◌+◌, ◌*◌, ◌^◌, ◌<◌, ◌≤◌, Bool, true, false, List, None, []}
use Rattle.std.specs.List.{AllByRecursion}
use Rattle.ps_base.specs.Moments.{last_moment}
use Rattle.ps_config.specs.declared.config.SubConfig.{SubConfig}
use Rattle.ps_model.specs.declared.mark.Slot.{Slot}
use Rattle.ps_model.specs.declared.world.TopicRow.{TopicRow}
use Rattle.ps_model.specs.declared.world.MessageRow.{MessageRow}
use Rattle.ps_message.specs.Limits.{most_messages}
use Rattle.ps_model.specs.Checks.{new_sub_fault}
use Rattle.ps_model.specs.Slots.{any_earlier, is_ahead, is_gone, is_unacked}
use Rattle.ps_model.specs.Sound.{Ordered}
use Rattle.ps_model.specs.Worlds.{row_of, slot_of}
use Rattle.ps_names.specs.Names.{is_topic_name, is_sub_name}
use Rattle.ps_tables.specs.declared.kept_subscription.KeptSubscription.{KeptSubscription}
use Rattle.ps_core.specs.Built.{unbuilt_topic_setting, unbuilt_sub_setting}
use Rattle.ps_tables.specs.Subscriptions.{filter_of, is_had}
use Rattle.ps_core.specs.State.{State}

-- a message that is ahead has an earlier unacknowledged one of its key, so nothing is to catch up
abbrev pub IsCaughtUp : Bool → List Slot → Type 0
IsCaughtUp ordering slots = AllByRecursion (λ (s : Slot). is_ahead s.mark ≡ true → any_earlier ordering (λ (e : Slot). is_unacked e.mark) slots s ≡ true) slots

-- the slot is of a message that is there, and agrees with the message's row; nothing that is gone stays
pub record IsJoined (s : State) (x : KeptSubscription) (slot : Slot) : Type 0 where
  pub row : slot_of s.messages (row_of x.number slot) ≡ slot
  pub number : slot.item.number < s.next_message
  pub publish : slot.item.publish ≤ s.now
  pub here : is_gone slot.mark ≡ false

-- settings that pass their checks, all of them built
pub record HasGoodSettings (config : SubConfig) : Type 0 where
  pub built : unbuilt_sub_setting config ≡ None
  pub good : new_sub_fault config ≡ None

pub record IsSteadySubscription (s : State) (x : KeptSubscription) : Type 0 where
  pub settings : HasGoodSettings x.sub.config
  pub filter : x.filter ≡ filter_of x.sub.config.filter
  pub leases : x.sub.next_lease ≤ most_messages * s.count + 1
  pub slots : Ordered (λ (a b : Slot). a.item.number < b.item.number) x.sub.slots
  pub joined : AllByRecursion (IsJoined s x) x.sub.slots
  pub caught_up : IsCaughtUp x.sub.config.ordering x.sub.slots
  -- what is detached has nothing
  pub detached : x.detached ≡ true → x.sub.slots ≡ []
  -- its topic was made
  pub topic : x.topic < s.next_topic

pub record IsSteady (s : State) : Type 0 where
  pub now : s.now ≤ last_moment
  pub count : s.count ≤ 2 ^ 50
  pub topics : Ordered (λ (a b : TopicRow). a.number < b.number) s.topics
  pub topics_below : AllByRecursion (λ (r : TopicRow). r.number < s.next_topic) s.topics
  pub topic_names : Ordered (λ (a b : TopicRow). a.name ≢ b.name) s.topics
  pub topic_grammar : AllByRecursion (λ (r : TopicRow). is_topic_name r.name ≡ true) s.topics
  pub topic_settings : AllByRecursion (λ (r : TopicRow). unbuilt_topic_setting r.config ≡ None) s.topics
  pub topics_few : s.next_topic ≤ s.count + 1
  pub subscriptions : Ordered (λ (a b : KeptSubscription). a.number < b.number) s.subscriptions
  pub subscriptions_below : AllByRecursion (λ (x : KeptSubscription). x.number < s.next_sub) s.subscriptions
  pub subscription_names : Ordered (λ (a b : KeptSubscription). a.name ≢ b.name) s.subscriptions
  pub subscription_grammar : AllByRecursion (λ (x : KeptSubscription). is_sub_name x.name ≡ true) s.subscriptions
  pub subs_few : s.next_sub ≤ s.count + 1
  pub each : AllByRecursion (IsSteadySubscription s) s.subscriptions
  pub messages : Ordered (λ (a b : MessageRow). a.number < b.number) s.messages
  pub messages_below : AllByRecursion (λ (m : MessageRow). m.number < s.next_message) s.messages
  pub messages_few : s.next_message ≤ most_messages * s.count + 1
  pub kept : AllByRecursion (λ (m : MessageRow). m.kept ≡ true) s.messages
  -- what is kept is had by some subscription
  pub wanted : AllByRecursion (λ (m : MessageRow). is_had s.subscriptions m.number ≡ true) s.messages
