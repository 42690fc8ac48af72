-- Messages, their numbers and their ack ids as replies show them.
use Rattle.std.specs.Prelude.{ℕ, zero, suc, ◌+◌, List, [], ◌∷◌, Option, Some, None, option_map, map, codes, decimal}
use Rattle.serde_json.specs.Data.{Data, string}
use Rattle.base64.specs.Engines.{standard}
use Rattle.base64.specs.GeneralPurpose.{encode_of}
use Rattle.ps_ackid.specs.AckTexts.{ack_text}
use Rattle.ps_model.specs.declared.reply.ReceivedMessage.{ReceivedMessage}
use Rattle.ps_json.specs.Objects.{Field, object_of, whole, filled_text, filled_list, filled_labels}
use Rattle.ps_json.specs.Times.{moment_data}

-- a message's number as a text
abbrev pub message_id : ℕ → Data
message_id number = string (decimal number)

-- this many numbers, one after another
abbrev pub numbers_from : ℕ → ℕ → List ℕ
numbers_from first zero = []
numbers_from first (suc n) = first ∷ numbers_from (first + 1) n

-- what was published: the numbers of the messages
abbrev pub published_fields : ℕ → ℕ → List Field
published_fields first count = (codes "messageIds", filled_list (map message_id (numbers_from first count))) ∷ []

abbrev pub published_data : ℕ → ℕ → Data
published_data first count = object_of (published_fields first count)

-- a payload that isn't empty, in standard base64 with its padding
abbrev pub payload_data : List ℕ → Option Data
payload_data [] = None
payload_data (b ∷ bytes) = Some (string (encode_of standard (b ∷ bytes)))

abbrev pub message_fields : ReceivedMessage → List Field
message_fields r =
    (codes "attributes", filled_labels r.message.attributes)
    ∷ (codes "data", payload_data r.message.payload)
    ∷ (codes "messageId", Some (message_id r.id.message))
    ∷ (codes "orderingKey", filled_text r.message.key)
    ∷ (codes "publishTime", Some (moment_data r.publish))
    ∷ []

abbrev pub message_data : ReceivedMessage → Data
message_data r = object_of (message_fields r)

-- a message that was handed out
abbrev pub received_fields : ReceivedMessage → List Field
received_fields r =
    (codes "ackId", Some (string (ack_text r.id)))
    ∷ (codes "deliveryAttempt", option_map whole r.attempt)
    ∷ (codes "message", Some (message_data r))
    ∷ []

abbrev pub received_data : ReceivedMessage → Data
received_data r = object_of (received_fields r)

abbrev pub received_list_fields : List ReceivedMessage → List Field
received_list_fields items = (codes "receivedMessages", filled_list (map received_data items)) ∷ []

abbrev pub received_list_data : List ReceivedMessage → Data
received_list_data items = object_of (received_list_fields items)
