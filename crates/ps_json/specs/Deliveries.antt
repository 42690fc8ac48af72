-- What a pull, an acknowledgement and a change of deadlines ask, by the name in the path and the fields of the body: their checks in their order, and the command.
use Rattle.std.specs.Prelude.{ℕ, List, [], map, ℤ, pos, negsuc, min, Bool, true, nat_lt, ◌||◌, codes, if◌then◌else◌, Option, Some, None, is_none, option_and_then, unwrap_or, Result, Ok, Err}
use Rattle.std.specs.List.{filter_map, list_any}
use Rattle.serde_json.specs.Data.{Data, Members}
use Rattle.serde_json.specs.Find.{as_str, get_member}
use Rattle.ps_base.specs.declared.ack_id.AckId.{AckId}
use Rattle.ps_base.specs.declared.reason.Reason.TheVariants.{AckDeadlineSeconds, AckIds, MaxMessages}
use Rattle.ps_base.specs.declared.refusal.Refusal.{Refusal}
use Rattle.ps_base.specs.declared.refusal.Refusal.TheVariants.{InvalidArgument}
use Rattle.ps_names.specs.Names.{is_sub_name}
use Rattle.ps_config.specs.Numbers.{most_ack_seconds}
use Rattle.ps_message.specs.Limits.{most_messages, most_bytes}
use Rattle.ps_message.specs.Lists.{is_empty}
use Rattle.ps_model.specs.declared.command.Command.{Command}
use Rattle.ps_model.specs.declared.command.Command.TheVariants.{Pull, Acknowledge, ModifyAckDeadline}
use Rattle.ps_fields.specs.declared.rows.Object.TheVariants as body
use Rattle.ps_fields.specs.Kinds.{list_of, whole_of}
use Rattle.ps_json.specs.AckIds.{ack_id_of}
use Rattle.ps_json.specs.Bodies.{well_formed}
use Rattle.ps_json.specs.Checks.{and_then, name_read}

-- ---- pull

abbrev pub is_below_one : ℤ → Bool
is_below_one (pos n) = nat_lt n 1
is_below_one (negsuc n) = true

-- a number that isn't negative, or the most messages of a pull if it is more
abbrev pub pull_size : ℤ → ℕ
pull_size (pos n) = min n most_messages
pull_size (negsuc n) = 0

-- how many messages are asked for
abbrev pub max_in : Members → ℤ
max_in ms = unwrap_or (whole_of (get_member (codes "maxMessages") ms)) (pos 0)

-- that many, if it is one at least
abbrev pub size_read : ℤ → Result ℕ Refusal
size_read max = if is_below_one max then Err (InvalidArgument MaxMessages) else Ok (pull_size max)

-- for as long as the subscription leases them
abbrev pub pull : List ℕ → Members → Result Command Refusal
pull name ms =
    and_then (name_read (is_sub_name name) name) (λ subscription.
    and_then (well_formed body.Pull ms) (λ none.
    and_then (size_read (max_in ms)) (λ max. Ok (Pull subscription max most_bytes None))))

-- ---- acknowledgement

abbrev pub ids_in : Members → List Data
ids_in ms = unwrap_or (list_of (get_member (codes "ackIds") ms)) []

abbrev pub id_of : Data → Option AckId
id_of item = option_and_then ack_id_of (as_str item)

abbrev pub is_no_id : Data → Bool
is_no_id item = is_none (id_of item)

-- the ids of a list in its order, equal ones too, if there is one and each item is one
abbrev pub ids_read : List Data → Option (List AckId)
ids_read items = if is_empty items || list_any is_no_id items then None else Some (filter_map id_of items)

abbrev pub ids_or : Option (List AckId) → Result (List AckId) Refusal
ids_or None = Err (InvalidArgument AckIds)
ids_or (Some ids) = Ok ids

abbrev pub ids_asked : Members → Result (List AckId) Refusal
ids_asked ms = ids_or (ids_read (ids_in ms))

abbrev pub acknowledge : List ℕ → Members → Result Command Refusal
acknowledge name ms =
    and_then (name_read (is_sub_name name) name) (λ subscription.
    and_then (well_formed body.Acknowledge ms) (λ none.
    and_then (ids_asked ms) (λ ids. Ok (Acknowledge subscription ids))))

-- ---- a change of deadlines

-- how many seconds are asked for
abbrev pub deadline_in : Members → ℤ
deadline_in ms = unwrap_or (whole_of (get_member (codes "ackDeadlineSeconds") ms)) (pos 0)

-- these, if a lease can have them
abbrev pub deadline_read : ℤ → Result ℕ Refusal
deadline_read (pos n) = if nat_lt most_ack_seconds n then Err (InvalidArgument AckDeadlineSeconds) else Ok n
deadline_read (negsuc n) = Err (InvalidArgument AckDeadlineSeconds)

-- each id with these seconds
abbrev pub items_of : ℕ → List AckId → List (AckId × ℕ)
items_of seconds ids = map (λ (id : AckId). (id, seconds)) ids

abbrev pub modify : List ℕ → Members → Result Command Refusal
modify name ms =
    and_then (name_read (is_sub_name name) name) (λ subscription.
    and_then (well_formed body.ModifyAckDeadline ms) (λ none.
    and_then (ids_asked ms) (λ ids.
    and_then (deadline_read (deadline_in ms)) (λ seconds. Ok (ModifyAckDeadline subscription (items_of seconds ids))))))
