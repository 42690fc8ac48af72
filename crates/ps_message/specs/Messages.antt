-- Messages: their bytes, and what a publish may hold.
use Rattle.std.specs.Prelude.{ℕ, ◌+◌, ◌^◌, min, Bool, ◌&&◌, ◌||◌, nat_lt, List, [], ◌∷◌, ◌++◌, Option, Some, None, length, if◌then◌else◌}
use Rattle.std.specs.List.{list_any}
use Rattle.ps_base.specs.declared.reason.Reason.{Reason}
use Rattle.ps_base.specs.declared.reason.Reason.TheVariants.{Messages, MessageEmpty, MessageAttributes, MessageAttributeKey, MessageAttributeValue, MessageOrderingKey, RequestSize}
use Rattle.ps_message.specs.declared.message.Message.{Message}
use Rattle.ps_message.specs.Limits.{most_messages, most_bytes, most_attributes, most_bytes_of_attribute_key, most_bytes_of_attribute_value, most_bytes_of_ordering_key}
use Rattle.ps_message.specs.Lists.{is_empty, total, first_of}

abbrev pub attribute_bytes : List ℕ × List ℕ → ℕ
attribute_bytes pair = length pair.0 + length pair.1

-- payload, keys and values of the attributes, and ordering key together
abbrev pub bytes_of : Message → ℕ
bytes_of m = length m.payload + total attribute_bytes m.attributes + length m.key

-- the bytes of a message as the budget of a pull counts them
abbrev pub size_of : Message → ℕ
size_of m = min (2 ^ 40) (bytes_of m)

-- a check, which names a reason if it is broken
abbrev pub broken : Bool → Reason → Option Reason
broken test reason = if test then Some reason else None

abbrev pub has_bad_key : List ℕ × List ℕ → Bool
has_bad_key pair = is_empty pair.0 || nat_lt most_bytes_of_attribute_key (length pair.0)

abbrev pub has_long_value : List ℕ × List ℕ → Bool
has_long_value pair = nat_lt most_bytes_of_attribute_value (length pair.1)

-- the checks of the message at this place of a publish, in order
abbrev pub message_checks : ℕ → Message → List (Option Reason)
message_checks place m =
    broken (is_empty m.payload && is_empty m.attributes) (MessageEmpty place)
    ∷ broken (nat_lt most_attributes (length m.attributes)) (MessageAttributes place)
    ∷ broken (list_any has_bad_key m.attributes) (MessageAttributeKey place)
    ∷ broken (list_any has_long_value m.attributes) (MessageAttributeValue place)
    ∷ broken (nat_lt most_bytes_of_ordering_key (length m.key)) (MessageOrderingKey place)
    ∷ []

-- those of each message, from this place on
abbrev pub all_message_checks : ℕ → List Message → List (Option Reason)
all_message_checks place [] = []
all_message_checks place (m ∷ ms) = message_checks place m ++ all_message_checks (place + 1) ms

-- at least one message and not too many, each within its limits, and all together too
abbrev pub publish_checks : List Message → List (Option Reason)
publish_checks messages =
    broken (is_empty messages || nat_lt most_messages (length messages)) Messages
    ∷ (all_message_checks 0 messages ++ broken (nat_lt most_bytes (total bytes_of messages)) RequestSize ∷ [])

-- the first check that a publish breaks
abbrev pub publish_fault : List Message → Option Reason
publish_fault messages = first_of (publish_checks messages)
