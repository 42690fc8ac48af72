-- The family of a command. Each family has a copy function of its own.
use Rattle.std.specs.Prelude.{Bool, true, false}
use Rattle.ps_model.specs.declared.command.Command.{Command}
use Rattle.ps_model.specs.declared.command.Command.TheVariants.{CreateTopic, UpdateTopic, GetTopic, DeleteTopic, ListTopics, ListTopicSubscriptions, ListTopicSnapshots, Publish, CreateSubscription, UpdateSubscription, GetSubscription, DeleteSubscription, ListSubscriptions, Pull, Acknowledge, ModifyAckDeadline, SeekTime, SeekSnapshot, Detach, CreateSnapshot, UpdateSnapshot, GetSnapshot, DeleteSnapshot, ListSnapshots}

abbrev pub is_topic_command : Command → Bool
is_topic_command (CreateTopic a b) = true
is_topic_command (UpdateTopic a b c) = true
is_topic_command (GetTopic a) = true
is_topic_command (DeleteTopic a) = true
is_topic_command (Publish a b) = true
is_topic_command _ = false

abbrev pub is_subscription_command : Command → Bool
is_subscription_command (CreateSubscription a b c) = true
is_subscription_command (UpdateSubscription a b c) = true
is_subscription_command (GetSubscription a) = true
is_subscription_command (DeleteSubscription a) = true
is_subscription_command (Detach a) = true
is_subscription_command _ = false

abbrev pub is_delivery_command : Command → Bool
is_delivery_command (Pull a b c d) = true
is_delivery_command (Acknowledge a b) = true
is_delivery_command (ModifyAckDeadline a b) = true
is_delivery_command (SeekTime a b) = true
is_delivery_command (SeekSnapshot a b) = true
is_delivery_command _ = false

abbrev pub is_snapshot_command : Command → Bool
is_snapshot_command (CreateSnapshot a b c) = true
is_snapshot_command (UpdateSnapshot a b) = true
is_snapshot_command (GetSnapshot a) = true
is_snapshot_command (DeleteSnapshot a) = true
is_snapshot_command _ = false

abbrev pub is_list_command : Command → Bool
is_list_command (ListTopics a b) = true
is_list_command (ListTopicSubscriptions a b) = true
is_list_command (ListTopicSnapshots a b) = true
is_list_command (ListSubscriptions a b) = true
is_list_command (ListSnapshots a b) = true
is_list_command _ = false
