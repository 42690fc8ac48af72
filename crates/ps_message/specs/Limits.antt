-- The limits of messages (Pub/Sub documentation, "Quotas and limits": a profile after the published ones).
use Rattle.std.specs.Prelude.{ℕ}

-- of a publish, and of a pull
abbrev pub most_messages : ℕ
most_messages = 1000

-- of payloads, keys and values of attributes, and ordering keys of a publish together; a pull ends before a message if those before it have so many
abbrev pub most_bytes : ℕ
most_bytes = 10000000

abbrev pub most_attributes : ℕ
most_attributes = 100

abbrev pub most_bytes_of_attribute_key : ℕ
most_bytes_of_attribute_key = 256

abbrev pub most_bytes_of_attribute_value : ℕ
most_bytes_of_attribute_value = 1024

abbrev pub most_bytes_of_ordering_key : ℕ
most_bytes_of_ordering_key = 1024
