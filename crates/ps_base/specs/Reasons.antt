-- The text of each reason.
use Rattle.std.specs.Prelude.{ℕ, List, [], ◌++◌, codes, decimal}
use Rattle.ps_base.specs.declared.reason.Reason.{Reason}
use Rattle.ps_base.specs.declared.reason.Reason.TheVariants.{Path, Body, Name, Shape, UnknownField, UpdateMask, Labels, MessageRetentionDuration, Topic, AckDeadlineSeconds, ExpirationPolicy, FilterTooLong, FilterMixed, FilterSyntax, DeadLetterTopic, MaxDeliveryAttempts, RetryPolicy, Subscription, Messages, MessageEmpty, MessageAttributes, MessageAttributeKey, MessageAttributeValue, MessageOrderingKey, RequestSize, MaxMessages, AckIds, SeekTarget, Snapshot, PageSize, Detached, TopicDeleted, SnapshotLifetime, SnapshotTopic}

-- the text for a broken rule of the message at this place
abbrev pub of_message : ℕ → List ℕ → List ℕ
of_message place rule = codes "messages[" ++ (decimal place ++ (codes "]: " ++ rule))

abbrev pub reason_text : Reason → List ℕ
reason_text Path = codes "path"
reason_text Body = codes "body"
reason_text Name = codes "name"
reason_text (Shape path) = codes "shape: " ++ path
reason_text (UnknownField path) = codes "unknown field: " ++ path
reason_text UpdateMask = codes "updateMask"
reason_text Labels = codes "labels"
reason_text MessageRetentionDuration = codes "messageRetentionDuration"
reason_text Topic = codes "topic"
reason_text AckDeadlineSeconds = codes "ackDeadlineSeconds"
reason_text ExpirationPolicy = codes "expirationPolicy"
reason_text FilterTooLong = codes "filter: too long"
reason_text (FilterMixed at) = codes "filter: mixed at " ++ decimal at
reason_text (FilterSyntax at) = codes "filter: syntax at " ++ decimal at
reason_text DeadLetterTopic = codes "deadLetterTopic"
reason_text MaxDeliveryAttempts = codes "maxDeliveryAttempts"
reason_text RetryPolicy = codes "retryPolicy"
reason_text Subscription = codes "subscription"
reason_text Messages = codes "messages"
reason_text (MessageEmpty place) = of_message place (codes "empty")
reason_text (MessageAttributes place) = of_message place (codes "attributes")
reason_text (MessageAttributeKey place) = of_message place (codes "attribute key")
reason_text (MessageAttributeValue place) = of_message place (codes "attribute value")
reason_text (MessageOrderingKey place) = of_message place (codes "ordering key")
reason_text RequestSize = codes "request size"
reason_text MaxMessages = codes "maxMessages"
reason_text AckIds = codes "ackIds"
reason_text SeekTarget = codes "seek target"
reason_text Snapshot = codes "snapshot"
reason_text PageSize = codes "pageSize"
reason_text Detached = codes "detached"
reason_text TopicDeleted = codes "topic deleted"
reason_text SnapshotLifetime = codes "snapshot lifetime"
reason_text SnapshotTopic = codes "snapshot topic"

-- the text of a reason that has no path and no place, and empty for the others
abbrev pub words_of : Reason → List ℕ
words_of (Shape path) = []
words_of (UnknownField path) = []
words_of (FilterMixed at) = []
words_of (FilterSyntax at) = []
words_of (MessageEmpty place) = []
words_of (MessageAttributes place) = []
words_of (MessageAttributeKey place) = []
words_of (MessageAttributeValue place) = []
words_of (MessageOrderingKey place) = []
words_of reason = reason_text reason
