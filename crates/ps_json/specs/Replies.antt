-- What answers calls: bodies and codes, and their lines.
use Rattle.std.specs.Prelude.{ℕ, List, [], ◌∷◌, ◌++◌, Option, option_map, map, codes}
use Rattle.serde_json.specs.Data.{Data, number, unsigned, string, array, object, member, no_members}
use Rattle.serde_json.specs.View.{items_of}
use Rattle.serde_json.specs.Written.{compact_text}
use Rattle.ps_base.specs.declared.ack_id.AckId.{AckId}
use Rattle.ps_base.specs.Refusals as refusal
use Rattle.ps_base.specs.declared.refusal.Refusal.{Refusal}
use Rattle.ps_ackid.specs.AckTexts.{ack_text}
use Rattle.ps_model.specs.declared.reply.PageItems.{PageItems}
use Rattle.ps_model.specs.declared.reply.PageItems.TheVariants.{Topics, Subscriptions, Snapshots, SubscriptionNames, SnapshotNames}
use Rattle.ps_model.specs.declared.reply.Reply.{Reply}
use Rattle.ps_model.specs.declared.reply.Reply.TheVariants.{Empty, Topic, Subscription, Snapshot, Page, Published, Received, Acked, Modified, Refused}
use Rattle.ps_json.specs.Objects.{Field, object_of, filled_list}
use Rattle.ps_json.specs.Resources.{topic_data, subscription_data, snapshot_data}
use Rattle.ps_json.specs.Messages.{published_data, received_list_data}

-- JSON with no space and its keys in byte order, and a line feed
abbrev pub line_text : Data → List ℕ
line_text d = compact_text d ++ 10 ∷ []

-- the body and the code of an answer
abbrev pub reply_data : ℕ → Data → Data
reply_data code body = object (member (codes "body") body (member (codes "code") (number (unsigned code)) no_members))

-- the body of an error
abbrev pub error_data : ℕ → List ℕ → List ℕ → Data
error_data code message status =
    object (member (codes "error") (object (member (codes "code") (number (unsigned code)) (member (codes "message") (string message) (member (codes "status") (string status) no_members)))) no_members)

abbrev pub refusal_data : Refusal → Data
refusal_data refused = error_data (refusal.code_of refused) (refusal.message_of refused) (refusal.status_of refused)

-- an ack id that did nothing, and why
abbrev pub detail_data : List ℕ → AckId → Data
detail_data reason id = object (member (codes "ackId") (string (ack_text id)) (member (codes "reason") (string reason) no_members))

-- the invalid ones first, each list in its order
abbrev pub details_of : List AckId → List AckId → List Data
details_of invalid unordered =
    map (detail_data (codes "PERMANENT_FAILURE_INVALID_ACK_ID")) invalid ++ map (detail_data (codes "UNORDERED_ACK_ID")) unordered

-- the body of the error that tells details
abbrev pub details_data : List Data → Data
details_data details =
    object (member (codes "error") (object (member (codes "code") (number (unsigned 400)) (member (codes "details") (array (items_of details)) (member (codes "message") (string (codes "ack ids")) (member (codes "status") (string (codes "FAILED_PRECONDITION")) no_members))))) no_members)

-- the body that says them; `{}` if there are none
abbrev pub acked_data : List Data → Data
acked_data [] = object no_members
acked_data (d ∷ ds) = details_data (d ∷ ds)

abbrev pub acked_code : List Data → ℕ
acked_code [] = 200
acked_code (d ∷ ds) = 400

-- a page's list, under its name
abbrev pub items_field : PageItems → Field
items_field (Topics topics) = (codes "topics", filled_list (map topic_data topics))
items_field (Subscriptions subs) = (codes "subscriptions", filled_list (map subscription_data subs))
items_field (Snapshots snaps) = (codes "snapshots", filled_list (map snapshot_data snaps))
items_field (SubscriptionNames names) = (codes "subscriptions", filled_list (map string names))
items_field (SnapshotNames names) = (codes "snapshots", filled_list (map string names))

abbrev pub page_fields : PageItems → Option (List ℕ) → List Field
page_fields items next = items_field items ∷ (codes "nextPageToken", option_map string next) ∷ []

abbrev pub page_data : PageItems → Option (List ℕ) → Data
page_data items next = object_of (page_fields items next)

-- the body of a reply
unfoldable pub body_of : Reply → Data
body_of Empty = object no_members
body_of (Topic topic) = topic_data topic
body_of (Subscription sub) = subscription_data sub
body_of (Snapshot snap) = snapshot_data snap
body_of (Page items next) = page_data items next
body_of (Published first count) = published_data first count
body_of (Received exactly_once ordering items) = received_list_data items
body_of (Acked exactly_once invalid unordered) = acked_data (details_of invalid unordered)
body_of (Modified exactly_once invalid) = acked_data (details_of invalid [])
body_of (Refused refused) = refusal_data refused

-- the code of a reply: a refusal's own, 400 if ack ids did nothing, and else 200
abbrev pub code_of : Reply → ℕ
code_of (Refused refused) = refusal.code_of refused
code_of (Acked exactly_once invalid unordered) = acked_code (details_of invalid unordered)
code_of (Modified exactly_once invalid) = acked_code (details_of invalid [])
code_of _ = 200

-- the line of an error
abbrev pub error_text : ℕ → List ℕ → List ℕ → List ℕ
error_text code message status = line_text (reply_data code (error_data code message status))

-- the line of a refusal
abbrev pub refusal_text : Refusal → List ℕ
refusal_text refused = error_text (refusal.code_of refused) (refusal.message_of refused) (refusal.status_of refused)

-- the line that answers bytes that are no line of a batch
abbrev pub no_line_text : List ℕ
no_line_text = error_text 400 (codes "line") (codes "INVALID_ARGUMENT")

-- the line of a reply
abbrev pub reply_text : Reply → List ℕ
reply_text reply = line_text (reply_data (code_of reply) (body_of reply))
