-- What is built so far: of every other call, and of every other setting, the name of what is missing.
use Rattle.std.specs.Prelude.{ℕ, Bool, not, nat_eq, List, [], ◌∷◌, Option, Some, None, is_some, codes, if◌then◌else◌}
use Rattle.ps_config.specs.declared.config.TopicConfig.{TopicConfig}
use Rattle.ps_config.specs.declared.config.SubConfig.{SubConfig}
use Rattle.ps_config.specs.declared.mask.Mask.{Mask}
use Rattle.ps_model.specs.declared.command.Command.{Command}
use Rattle.ps_model.specs.declared.command.Command.TheVariants.{Tick, CreateTopic, UpdateTopic, GetTopic, DeleteTopic, ListTopics, ListTopicSubscriptions, ListTopicSnapshots, Publish, CreateSubscription, UpdateSubscription, GetSubscription, DeleteSubscription, ListSubscriptions, Pull, Acknowledge, ModifyAckDeadline, SeekTime, SeekSnapshot, Detach, CreateSnapshot, UpdateSnapshot, GetSnapshot, DeleteSnapshot, ListSnapshots}
use Rattle.ps_config.specs.Masks.{default_sub, has_bit}

-- the first name whose test holds
abbrev pub first_name : List (Bool × List ℕ) → Option (List ℕ)
first_name [] = None
first_name (test ∷ tests) = if test.0 then Some test.1 else first_name tests

-- settings other than their defaults, by name in byte order
abbrev pub unbuilt_topic_setting : TopicConfig → Option (List ℕ)
unbuilt_topic_setting c = first_name ((is_some c.retention, codes "messageRetentionDuration") ∷ [])

abbrev pub sub_settings : SubConfig → List (Bool × List ℕ)
sub_settings c =
    (is_some c.dead_letter, codes "deadLetterPolicy")
    ∷ (not (nat_eq c.retention default_sub.retention), codes "messageRetentionDuration")
    ∷ (c.retain_acked, codes "retainAckedMessages")
    ∷ []

abbrev pub unbuilt_sub_setting : SubConfig → Option (List ℕ)
unbuilt_sub_setting c = first_name (sub_settings c)

-- settings that a mask names
abbrev pub unbuilt_topic_mask : Mask → Option (List ℕ)
unbuilt_topic_mask mask = first_name ((has_bit mask 1, codes "messageRetentionDuration") ∷ [])

abbrev pub unbuilt_sub_mask : Mask → Option (List ℕ)
unbuilt_sub_mask mask = first_name (
    (has_bit mask 5, codes "deadLetterPolicy")
    ∷ (has_bit mask 2, codes "messageRetentionDuration")
    ∷ (has_bit mask 8, codes "pushConfig")
    ∷ (has_bit mask 1, codes "retainAckedMessages")
    ∷ [])

-- what a command asks for that isn't built: a setting, or the whole call
abbrev pub unbuilt : Command → Option (List ℕ)
unbuilt Tick = None
unbuilt (CreateTopic topic config) = unbuilt_topic_setting config
unbuilt (UpdateTopic topic mask config) = unbuilt_topic_mask mask
unbuilt (GetTopic topic) = None
unbuilt (DeleteTopic topic) = None
unbuilt (ListTopics project paging) = None
unbuilt (ListTopicSubscriptions topic paging) = None
unbuilt (ListTopicSnapshots topic paging) = Some (codes "ListTopicSnapshots")
unbuilt (Publish topic messages) = None
unbuilt (CreateSubscription subscription topic config) = unbuilt_sub_setting config
unbuilt (UpdateSubscription subscription mask config) = unbuilt_sub_mask mask
unbuilt (GetSubscription subscription) = None
unbuilt (DeleteSubscription subscription) = None
unbuilt (ListSubscriptions project paging) = None
unbuilt (Pull subscription most budget seconds) = None
unbuilt (Acknowledge subscription ids) = None
unbuilt (ModifyAckDeadline subscription items) = None
unbuilt (SeekTime subscription time) = Some (codes "Seek")
unbuilt (SeekSnapshot subscription snapshot) = Some (codes "Seek")
unbuilt (Detach subscription) = None
unbuilt (CreateSnapshot snapshot subscription labels) = Some (codes "CreateSnapshot")
unbuilt (UpdateSnapshot snapshot labels) = Some (codes "UpdateSnapshot")
unbuilt (GetSnapshot snapshot) = Some (codes "GetSnapshot")
unbuilt (DeleteSnapshot snapshot) = Some (codes "DeleteSnapshot")
unbuilt (ListSnapshots project paging) = Some (codes "ListSnapshots")
