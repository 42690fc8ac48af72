-- The bytes of each command that is recorded: a tag, then the command's fields one after another.
use Rattle.std.specs.Prelude.{ℕ, nat_eq, Bool, true, false, ◌&&◌, List, [], ◌∷◌, Some, None, if◌then◌else◌}
use Rattle.ps_names.specs.Names.{is_topic_name, is_sub_name, is_snap_name}
use Rattle.ps_config.specs.Masks.{is_mask}
use Rattle.ps_model.specs.declared.command.Command.{Command}
use Rattle.ps_model.specs.declared.command.Command.TheVariants.{Tick, CreateTopic, UpdateTopic, GetTopic, DeleteTopic, ListTopics, ListTopicSubscriptions, ListTopicSnapshots, Publish, CreateSubscription, UpdateSubscription, GetSubscription, DeleteSubscription, ListSubscriptions, Pull, Acknowledge, ModifyAckDeadline, SeekTime, SeekSnapshot, Detach, CreateSnapshot, UpdateSnapshot, GetSnapshot, DeleteSnapshot, ListSnapshots}
use Rattle.ps_model.specs.Checks.{is_normal}
use Rattle.ps_model.specs.Forms.{Reading, checked_at, CheckedFits, IsBelow32, IsBelow64, PairFits, OptionFits, ListFits, NameFits, LabelsFit, TopicConfigFits, SubConfigFits, MessageFits, AckIdFits}
use Rattle.ps_entry.specs.Fields.{create_topic_form, create_topic_at, update_topic_form, update_topic_at, delete_topic_form, delete_topic_at, create_subscription_form, create_subscription_at, update_subscription_form, update_subscription_at, delete_subscription_form, delete_subscription_at, detach_form, detach_at, create_snapshot_form, create_snapshot_at, update_snapshot_form, update_snapshot_at, delete_snapshot_form, delete_snapshot_at, publish_form, publish_at, pull_form, pull_at, acknowledge_form, acknowledge_at, modify_ack_deadline_form, modify_ack_deadline_at, seek_time_form, seek_time_at, seek_snapshot_form, seek_snapshot_at}

-- the commands that have a tag: those that only read have none, and an update names fields that its resource has
abbrev pub has_tag : Command → Bool
has_tag (UpdateTopic topic mask config) = is_mask 2 mask
has_tag (UpdateSubscription subscription mask config) = is_mask 9 mask
has_tag (GetTopic topic) = false
has_tag (GetSubscription subscription) = false
has_tag (GetSnapshot snapshot) = false
has_tag (ListTopics project paging) = false
has_tag (ListTopicSubscriptions topic paging) = false
has_tag (ListTopicSnapshots topic paging) = false
has_tag (ListSubscriptions project paging) = false
has_tag (ListSnapshots project paging) = false
has_tag _ = true

-- the commands that are recorded, each in the form in which it is recorded
abbrev pub has_spelling : Command → Bool
has_spelling c = has_tag c && is_normal c

-- the tag, then the fields
abbrev pub command_form : Command → List ℕ
command_form Tick = 0x01 ∷ []
command_form (CreateTopic topic config) = 0x02 ∷ create_topic_form topic config
command_form (UpdateTopic topic mask config) = 0x03 ∷ update_topic_form topic mask config
command_form (DeleteTopic topic) = 0x04 ∷ delete_topic_form topic
command_form (CreateSubscription subscription topic config) = 0x05 ∷ create_subscription_form subscription topic config
command_form (UpdateSubscription subscription mask config) = 0x06 ∷ update_subscription_form subscription mask config
command_form (DeleteSubscription subscription) = 0x07 ∷ delete_subscription_form subscription
command_form (Detach subscription) = 0x08 ∷ detach_form subscription
command_form (CreateSnapshot snapshot subscription labels) = 0x09 ∷ create_snapshot_form snapshot subscription labels
command_form (UpdateSnapshot snapshot labels) = 0x0a ∷ update_snapshot_form snapshot labels
command_form (DeleteSnapshot snapshot) = 0x0b ∷ delete_snapshot_form snapshot
command_form (Publish topic messages) = 0x0c ∷ publish_form topic messages
command_form (Pull subscription max budget seconds) = 0x0d ∷ pull_form subscription max budget seconds
command_form (Acknowledge subscription ids) = 0x0e ∷ acknowledge_form subscription ids
command_form (ModifyAckDeadline subscription items) = 0x0f ∷ modify_ack_deadline_form subscription items
command_form (SeekTime subscription time) = 0x10 ∷ seek_time_form subscription time
command_form (SeekSnapshot subscription snapshot) = 0x11 ∷ seek_snapshot_form subscription snapshot
command_form _ = []

-- reads the fields after this tag
abbrev pub fields_at : ℕ → Reading Command
fields_at tag bytes =
    if nat_eq tag 0x01 then Some (Tick, bytes)
    else if nat_eq tag 0x02 then create_topic_at bytes
    else if nat_eq tag 0x03 then update_topic_at bytes
    else if nat_eq tag 0x04 then delete_topic_at bytes
    else if nat_eq tag 0x05 then create_subscription_at bytes
    else if nat_eq tag 0x06 then update_subscription_at bytes
    else if nat_eq tag 0x07 then delete_subscription_at bytes
    else if nat_eq tag 0x08 then detach_at bytes
    else if nat_eq tag 0x09 then create_snapshot_at bytes
    else if nat_eq tag 0x0a then update_snapshot_at bytes
    else if nat_eq tag 0x0b then delete_snapshot_at bytes
    else if nat_eq tag 0x0c then publish_at bytes
    else if nat_eq tag 0x0d then pull_at bytes
    else if nat_eq tag 0x0e then acknowledge_at bytes
    else if nat_eq tag 0x0f then modify_ack_deadline_at bytes
    else if nat_eq tag 0x10 then seek_time_at bytes
    else if nat_eq tag 0x11 then seek_snapshot_at bytes
    else None

abbrev pub tagged_at : Reading Command
tagged_at [] = None
tagged_at (tag ∷ bytes) = fields_at tag bytes

-- no other command than one that is recorded
abbrev pub command_at : Reading Command
command_at = checked_at has_spelling tagged_at

-- the commands whose lengths and counts can be encoded
abbrev pub FieldsFit : Command → Type 0
FieldsFit Tick = Unit {0}
FieldsFit (CreateTopic topic config) = NameFits is_topic_name topic × TopicConfigFits config
FieldsFit (UpdateTopic topic mask config) = NameFits is_topic_name topic × (IsBelow32 mask.0 × TopicConfigFits config)
FieldsFit (DeleteTopic topic) = NameFits is_topic_name topic
FieldsFit (CreateSubscription subscription topic config) = NameFits is_sub_name subscription × (NameFits is_topic_name topic × SubConfigFits config)
FieldsFit (UpdateSubscription subscription mask config) = NameFits is_sub_name subscription × (IsBelow32 mask.0 × SubConfigFits config)
FieldsFit (DeleteSubscription subscription) = NameFits is_sub_name subscription
FieldsFit (Detach subscription) = NameFits is_sub_name subscription
FieldsFit (CreateSnapshot snapshot subscription labels) = NameFits is_snap_name snapshot × (NameFits is_sub_name subscription × LabelsFit labels)
FieldsFit (UpdateSnapshot snapshot labels) = NameFits is_snap_name snapshot × LabelsFit labels
FieldsFit (DeleteSnapshot snapshot) = NameFits is_snap_name snapshot
FieldsFit (Publish topic messages) = NameFits is_topic_name topic × ListFits MessageFits messages
FieldsFit (Pull subscription max budget seconds) = NameFits is_sub_name subscription × (IsBelow32 max × (IsBelow64 budget × OptionFits IsBelow32 seconds))
FieldsFit (Acknowledge subscription ids) = NameFits is_sub_name subscription × ListFits AckIdFits ids
FieldsFit (ModifyAckDeadline subscription items) = NameFits is_sub_name subscription × ListFits (PairFits AckIdFits IsBelow32) items
FieldsFit (SeekTime subscription time) = NameFits is_sub_name subscription × IsBelow64 time
FieldsFit (SeekSnapshot subscription snapshot) = NameFits is_sub_name subscription × NameFits is_snap_name snapshot
FieldsFit _ = ⊥

abbrev pub CommandFits : Command → Type 0
CommandFits = CheckedFits has_spelling FieldsFit
