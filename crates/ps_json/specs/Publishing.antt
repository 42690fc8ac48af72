-- What a publish asks, by the name in its path and the fields of its body: its checks in their order, and the command.
use Rattle.std.specs.Prelude.{ℕ, ⊤, ◌∷◌, ◌++◌, List, [], map, codes, Option, Some, None, option_map, unwrap_or, Result, Ok, Err}
use Rattle.std.specs.List.{enumerate_from, flat_map}
use Rattle.serde_json.specs.Data.{Data, Members, no_members}
use Rattle.serde_json.specs.Find.{as_object, get_member}
use Rattle.ps_base.specs.declared.reason.Reason.TheVariants.{Shape}
use Rattle.ps_base.specs.declared.refusal.Refusal.{Refusal}
use Rattle.ps_base.specs.declared.refusal.Refusal.TheVariants.{InvalidArgument}
use Rattle.ps_names.specs.Names.{is_topic_name}
use Rattle.ps_message.specs.declared.message.Message.{Message}
use Rattle.ps_message.specs.Messages.{publish_fault}
use Rattle.ps_model.specs.declared.command.Command.{Command}
use Rattle.ps_model.specs.declared.command.Command.TheVariants.{Publish}
use Rattle.ps_fields.specs.declared.rows.Object.TheVariants as body
use Rattle.ps_fields.specs.Kinds.{bytes_of, list_of, map_of, text_of}
use Rattle.ps_fields.specs.Paths.{item_path}
use Rattle.ps_json.specs.Bodies.{known}
use Rattle.ps_json.specs.Checks.{and_then, checked, name_read, shape}

-- the fields of an item; none if it is no object
abbrev pub members_in : Data → Members
members_in item = unwrap_or (as_object item) no_members

-- ---- a message

abbrev pub data_of : Members → Option (List ℕ)
data_of ms = bytes_of (get_member (codes "data") ms)

abbrev pub attributes_of : Members → Option (List (List ℕ × List ℕ))
attributes_of ms = map_of (get_member (codes "attributes") ms)

abbrev pub key_of : Members → Option (List ℕ)
key_of ms = text_of (get_member (codes "orderingKey") ms)

abbrev pub message_of : Members → Message
message_of ms = record { payload = unwrap_or (data_of ms) []; attributes = unwrap_or (attributes_of ms) []; key = unwrap_or (key_of ms) [] }

-- the path of a field of the message at this place
abbrev pub field_path : ℕ → List ℕ → List ℕ
field_path place name = (item_path (codes "messages") place ++ codes ".") ++ name

-- the shapes of the message at this place
abbrev pub message_shapes : ℕ × Data → List (Option Refusal)
message_shapes item =
    shape (item_path (codes "messages") item.0) (as_object item.1)
    ∷ shape (field_path item.0 (codes "data")) (data_of (members_in item.1))
    ∷ shape (field_path item.0 (codes "attributes")) (attributes_of (members_in item.1))
    ∷ shape (field_path item.0 (codes "orderingKey")) (key_of (members_in item.1))
    ∷ []

-- ---- all of them

abbrev pub all_shapes : List Data → List (Option Refusal)
all_shapes items = flat_map message_shapes (enumerate_from 0 items)

abbrev pub messages_read : Option (List Data) → Result (List Message) Refusal
messages_read None = Err (InvalidArgument (Shape (codes "messages")))
messages_read (Some items) = checked (all_shapes items) (map (λ item. message_of (members_in item)) items)

-- the messages of a body, or the first shape that is broken
abbrev pub messages_in : Members → Result (List Message) Refusal
messages_in ms = messages_read (list_of (get_member (codes "messages") ms))

-- they break no limit
abbrev pub within_limits : List Message → Result ⊤ Refusal
within_limits messages = checked (option_map InvalidArgument (publish_fault messages) ∷ []) tt

abbrev pub publish : List ℕ → Members → Result Command Refusal
publish name ms =
    and_then (name_read (is_topic_name name) name) (λ topic.
    and_then (messages_in ms) (λ messages.
    and_then (known body.Publish ms) (λ none.
    and_then (within_limits messages) (λ none. Ok (Publish topic messages)))))
