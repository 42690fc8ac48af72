-- The checks of a command that need no world, and the form in which a command is read (API reference, the limits of each field).
use Rattle.std.specs.Prelude.{◌≡◌, ◌↔◌, ℕ, min, max, Bool, true, not, ◌&&◌, nat_eq, nat_lt, nat_le, List, [], ◌∷◌, Option, Some, None, option_map}
use Rattle.std.specs.List.{list_any}
use Rattle.ps_base.specs.declared.ack_id.AckId.{AckId}
use Rattle.ps_base.specs.declared.reason.Reason.{Reason}
use Rattle.ps_base.specs.declared.reason.Reason.TheVariants.{AckDeadlineSeconds, MaxMessages, AckIds, UpdateMask}
use Rattle.ps_config.specs.declared.config.SubConfig.{SubConfig}
use Rattle.ps_config.specs.Limits.{labels_fault, topic_fault, sub_fault, sub_checks_before_filter, sub_checks_behind_filter}
use Rattle.ps_config.specs.Masks.{is_mask, whole_mask, default_topic, default_sub, masked_topic, masked_sub, is_masked_topic, is_masked_sub}
use Rattle.ps_config.specs.Numbers.{least_ack_seconds, most_ack_seconds}
use Rattle.ps_message.specs.Limits.{most_messages, most_bytes}
use Rattle.ps_message.specs.Lists.{is_empty, first_of}
use Rattle.ps_message.specs.Messages.{broken, publish_fault}
use Rattle.ps_model.specs.declared.command.Command.{Command}
use Rattle.ps_model.specs.declared.command.Command.TheVariants.{Tick, CreateTopic, UpdateTopic, GetTopic, DeleteTopic, ListTopics, ListTopicSubscriptions, ListTopicSnapshots, Publish, CreateSubscription, UpdateSubscription, GetSubscription, DeleteSubscription, ListSubscriptions, Pull, Acknowledge, ModifyAckDeadline, SeekTime, SeekSnapshot, Detach, CreateSnapshot, UpdateSnapshot, GetSnapshot, DeleteSnapshot, ListSnapshots}
use Rattle.ps_filter.specs.Filters.{filter_fault}

-- a filter setting is empty or a filter
abbrev pub filter_setting_fault : List ℕ → Option Reason
filter_setting_fault [] = None
filter_setting_fault (c ∷ cs) = filter_fault (c ∷ cs)

-- the first limit that the filter of a subscription or a setting behind it breaks
abbrev pub fault_from_filter : SubConfig → Option Reason
fault_from_filter config = first_of (filter_setting_fault config.filter ∷ first_of (sub_checks_behind_filter whole_mask config) ∷ [])

-- the first check that the settings of a new subscription break
abbrev pub new_sub_fault : SubConfig → Option Reason
new_sub_fault config = first_of (
    first_of (sub_checks_before_filter whole_mask config)
    ∷ filter_setting_fault config.filter
    ∷ first_of (sub_checks_behind_filter whole_mask config)
    ∷ [])

abbrev pub has_long_deadline : AckId × ℕ → Bool
has_long_deadline item = nat_lt most_ack_seconds item.1

-- the first check that a command breaks, of those that need no world
abbrev pub argument_fault : Command → Option Reason
argument_fault Tick = None
argument_fault (CreateTopic topic config) = topic_fault whole_mask config
argument_fault (UpdateTopic topic mask config) = first_of (broken (not (is_mask 2 mask)) UpdateMask ∷ topic_fault mask config ∷ [])
argument_fault (GetTopic topic) = None
argument_fault (DeleteTopic topic) = None
argument_fault (ListTopics project paging) = None
argument_fault (ListTopicSubscriptions topic paging) = None
argument_fault (ListTopicSnapshots topic paging) = None
argument_fault (Publish topic messages) = publish_fault messages
argument_fault (CreateSubscription subscription topic config) = new_sub_fault config
argument_fault (UpdateSubscription subscription mask config) = first_of (broken (not (is_mask 9 mask)) UpdateMask ∷ sub_fault mask config ∷ [])
argument_fault (GetSubscription subscription) = None
argument_fault (DeleteSubscription subscription) = None
argument_fault (ListSubscriptions project paging) = None
argument_fault (Pull subscription most budget seconds) = broken (nat_eq most 0) MaxMessages
argument_fault (Acknowledge subscription ids) = broken (is_empty ids) AckIds
argument_fault (ModifyAckDeadline subscription items) = first_of (broken (is_empty items) AckIds ∷ broken (list_any has_long_deadline items) AckDeadlineSeconds ∷ [])
argument_fault (SeekTime subscription time) = None
argument_fault (SeekSnapshot subscription snapshot) = None
argument_fault (Detach subscription) = None
argument_fault (CreateSnapshot snapshot subscription labels) = labels_fault labels
argument_fault (UpdateSnapshot snapshot labels) = labels_fault labels
argument_fault (GetSnapshot snapshot) = None
argument_fault (DeleteSnapshot snapshot) = None
argument_fault (ListSnapshots project paging) = None

-- the nearest seconds of a lease
abbrev pub lease_seconds : ℕ → ℕ
lease_seconds seconds = max least_ack_seconds (min seconds most_ack_seconds)

-- The form in which a command is carried out and recorded: a pull asks for no more messages and bytes than one may, and for the nearest seconds of a lease; an update has its masked fields, and the others at their defaults.
abbrev pub as_read : Command → Command
as_read (UpdateTopic topic mask config) = UpdateTopic topic mask (masked_topic mask default_topic config)
as_read (UpdateSubscription subscription mask config) = UpdateSubscription subscription mask (masked_sub mask default_sub config)
as_read (Pull subscription most budget seconds) = Pull subscription (min most most_messages) (min budget most_bytes) (option_map lease_seconds seconds)
as_read c = c

abbrev pub is_lease_normal : Option ℕ → Bool
is_lease_normal None = true
is_lease_normal (Some seconds) = nat_le least_ack_seconds seconds && nat_le seconds most_ack_seconds

-- a command already stands in that form
abbrev pub is_normal : Command → Bool
is_normal (UpdateTopic topic mask config) = is_masked_topic mask config
is_normal (UpdateSubscription subscription mask config) = is_masked_sub mask config
is_normal (Pull subscription most budget seconds) = nat_le most most_messages && (nat_le budget most_bytes && is_lease_normal seconds)
is_normal c = true

-- the form of a command stands in that form itself
abbrev pub AsReadIsNormal : Type 0
AsReadIsNormal = (c : Command) → is_normal (as_read c) ≡ true

-- the test passes the commands that are their own form, and no other ones
abbrev pub NormalIsAsRead : Type 0
NormalIsAsRead = (c : Command) → (is_normal c ≡ true) ↔ (as_read c ≡ c)
