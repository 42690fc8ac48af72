-- Topics, subscriptions and snapshots as replies show them.
use Rattle.std.specs.Prelude.{ℕ, List, [], ◌∷◌, Option, Some, option_map, unwrap_or, codes}
use Rattle.serde_json.specs.Data.{Data, string, object, no_members}
use Rattle.ps_config.specs.declared.config.DeadLetterPolicy.{DeadLetterPolicy}
use Rattle.ps_config.specs.declared.config.RetryPolicy.{RetryPolicy}
use Rattle.ps_model.specs.declared.reply.TopicShown.{TopicShown}
use Rattle.ps_model.specs.declared.reply.SubShown.{SubShown}
use Rattle.ps_model.specs.declared.reply.SnapShown.{SnapShown}
use Rattle.ps_json.specs.Objects.{Field, with_fields, object_of, whole, filled_text, flag, filled_labels}
use Rattle.ps_json.specs.Times.{duration_data, moment_data}

abbrev pub topic_fields : TopicShown → List Field
topic_fields t =
    (codes "labels", filled_labels t.config.labels)
    ∷ (codes "messageRetentionDuration", option_map duration_data t.config.retention)
    ∷ (codes "name", Some (string t.name))
    ∷ []

abbrev pub topic_data : TopicShown → Data
topic_data t = object_of (topic_fields t)

-- the name of the topic, or what stands for one that was deleted
abbrev pub topic_name_data : Option (List ℕ) → Data
topic_name_data topic = string (unwrap_or topic (codes "_deleted-topic_"))

-- after how long without use it ends; nothing if it never does
abbrev pub expiration_fields : Option ℕ → List Field
expiration_fields ttl = (codes "ttl", option_map duration_data ttl) ∷ []

abbrev pub expiration_data : Option ℕ → Data
expiration_data ttl = object_of (expiration_fields ttl)

abbrev pub dead_letter_fields : DeadLetterPolicy → List Field
dead_letter_fields policy =
    (codes "deadLetterTopic", Some (string policy.topic))
    ∷ (codes "maxDeliveryAttempts", Some (whole policy.attempts))
    ∷ []

abbrev pub dead_letter_data : DeadLetterPolicy → Data
dead_letter_data policy = object_of (dead_letter_fields policy)

abbrev pub retry_fields : RetryPolicy → List Field
retry_fields policy =
    (codes "maximumBackoff", Some (duration_data policy.most))
    ∷ (codes "minimumBackoff", Some (duration_data policy.least))
    ∷ []

abbrev pub retry_data : RetryPolicy → Data
retry_data policy = object_of (retry_fields policy)

-- what each subscription shows
abbrev pub setting_fields : SubShown → List Field
setting_fields s =
    (codes "ackDeadlineSeconds", Some (whole s.config.ack_seconds))
    ∷ (codes "expirationPolicy", Some (expiration_data s.config.expiration))
    ∷ (codes "messageRetentionDuration", Some (duration_data s.config.retention))
    ∷ (codes "name", Some (string s.name))
    ∷ (codes "topic", Some (topic_name_data s.topic))
    ∷ []

-- shown if they hold
abbrev pub flag_fields : SubShown → List Field
flag_fields s =
    (codes "detached", flag s.detached)
    ∷ (codes "enableExactlyOnceDelivery", flag s.config.exactly_once)
    ∷ (codes "enableMessageOrdering", flag s.config.ordering)
    ∷ (codes "retainAckedMessages", flag s.config.retain_acked)
    ∷ []

-- shown if they are set
abbrev pub policy_fields : SubShown → List Field
policy_fields s =
    (codes "deadLetterPolicy", option_map dead_letter_data s.config.dead_letter)
    ∷ (codes "filter", filled_text s.config.filter)
    ∷ (codes "labels", filled_labels s.config.labels)
    ∷ (codes "retryPolicy", option_map retry_data s.config.retry)
    ∷ (codes "topicMessageRetentionDuration", option_map duration_data s.topic_retention)
    ∷ []

abbrev pub subscription_data : SubShown → Data
subscription_data s = object (with_fields (policy_fields s) (with_fields (flag_fields s) (with_fields (setting_fields s) no_members)))

abbrev pub snapshot_fields : SnapShown → List Field
snapshot_fields s =
    (codes "expireTime", Some (moment_data s.expiry))
    ∷ (codes "labels", filled_labels s.labels)
    ∷ (codes "name", Some (string s.name))
    ∷ (codes "topic", Some (topic_name_data s.topic))
    ∷ []

abbrev pub snapshot_data : SnapShown → Data
snapshot_data s = object_of (snapshot_fields s)
