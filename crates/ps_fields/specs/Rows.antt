-- The fields of bodies and of the objects in them: a row for each, in the order in which they are read.
use Rattle.std.specs.Borrow.{Bor}
use Rattle.std.specs.Prelude.{ℕ, List, [], ◌∷◌, codes, if◌then◌else◌, Option, Some, None}
use Rattle.std.specs.Str.{bytes_eq}
use Rattle.ps_fields.specs.declared.rows.Object.{Object}
use Rattle.ps_fields.specs.declared.rows.Object.TheVariants.{Topic, Subscription, Expiration, DeadLetter, Retry, TopicUpdate, SubscriptionUpdate, Publish, Message, Pull, Acknowledge, ModifyAckDeadline}
use Rattle.ps_fields.specs.declared.rows.Kind.{Kind}
use Rattle.ps_fields.specs.declared.rows.Kind.TheVariants.{Text, Flag, Whole, Duration, Bytes, Map, Texts, Listed, Items, Open, Any}

-- a field's name and kind
abbrev pub Row : Type 0
Row = List ℕ × Kind

abbrev pub row_of : Bor (List ℕ) × Kind → Row
row_of row = (row.0.now, row.1)

abbrev pub topic_rows : List Row
topic_rows =
    (codes "name", Text)
    ∷ (codes "labels", Map)
    ∷ (codes "messageRetentionDuration", Duration)
    ∷ (codes "state", Any)
    ∷ (codes "satisfiesPzs", Any)
    ∷ (codes "kmsKeyName", Any)
    ∷ (codes "schemaSettings", Any)
    ∷ (codes "messageStoragePolicy", Any)
    ∷ (codes "ingestionDataSourceSettings", Any)
    ∷ (codes "messageTransforms", Any)
    ∷ (codes "tags", Any)
    ∷ []

abbrev pub subscription_rows : List Row
subscription_rows =
    (codes "name", Text)
    ∷ (codes "topic", Text)
    ∷ (codes "ackDeadlineSeconds", Whole)
    ∷ (codes "retainAckedMessages", Flag)
    ∷ (codes "messageRetentionDuration", Duration)
    ∷ (codes "labels", Map)
    ∷ (codes "enableMessageOrdering", Flag)
    ∷ (codes "expirationPolicy", Listed Expiration)
    ∷ (codes "filter", Text)
    ∷ (codes "deadLetterPolicy", Listed DeadLetter)
    ∷ (codes "retryPolicy", Listed Retry)
    ∷ (codes "enableExactlyOnceDelivery", Flag)
    ∷ (codes "pushConfig", Open)
    ∷ (codes "detached", Any)
    ∷ (codes "topicMessageRetentionDuration", Any)
    ∷ (codes "state", Any)
    ∷ (codes "analyticsHubSubscriptionInfo", Any)
    ∷ (codes "bigqueryConfig", Any)
    ∷ (codes "cloudStorageConfig", Any)
    ∷ (codes "messageTransforms", Any)
    ∷ (codes "tags", Any)
    ∷ []

abbrev pub message_rows : List Row
message_rows =
    (codes "data", Bytes)
    ∷ (codes "attributes", Map)
    ∷ (codes "orderingKey", Text)
    ∷ (codes "messageId", Any)
    ∷ (codes "publishTime", Any)
    ∷ []

-- the fields of an object
abbrev pub rows : Object → List Row
rows Topic = topic_rows
rows Subscription = subscription_rows
rows Expiration = (codes "ttl", Duration) ∷ []
rows DeadLetter = (codes "deadLetterTopic", Text) ∷ (codes "maxDeliveryAttempts", Whole) ∷ []
rows Retry = (codes "minimumBackoff", Duration) ∷ (codes "maximumBackoff", Duration) ∷ []
rows TopicUpdate = (codes "topic", Listed Topic) ∷ (codes "updateMask", Text) ∷ []
rows SubscriptionUpdate = (codes "subscription", Listed Subscription) ∷ (codes "updateMask", Text) ∷ []
rows Publish = (codes "messages", Items Message) ∷ []
rows Message = message_rows
rows Pull = (codes "maxMessages", Whole) ∷ (codes "returnImmediately", Flag) ∷ []
rows Acknowledge = (codes "ackIds", Texts) ∷ []
rows ModifyAckDeadline = (codes "ackIds", Texts) ∷ (codes "ackDeadlineSeconds", Whole) ∷ []

-- the kind of the field of this name, if it is listed
abbrev pub kind_in : List ℕ → List Row → Option Kind
kind_in name [] = None
kind_in name (row ∷ rest) = if bytes_eq row.0 name then Some row.1 else kind_in name rest
