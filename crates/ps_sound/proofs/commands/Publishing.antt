-- What a publish leaves.
use Rattle.std.proofs.Common.{ℕ, ◌≡◌, ◌+◌, ◌<◌, ◌≤◌, ◌||◌, nat_lt, List, [], ◌∷◌, ◌++◌, Some, None, length, refl, arith}
use Rattle.std.specs.Str.{bytes_eq}
use Rattle.std.proofs.lemmas.Bool.{or_parts, ltb-false}
use Rattle.ps_base.specs.declared.reason.Reason.TheVariants.{Messages, RequestSize}
use Rattle.ps_message.specs.declared.message.Message.{Message}
use Rattle.ps_message.specs.Lists.{is_empty, total}
use Rattle.ps_message.specs.Messages.{broken, bytes_of, all_message_checks, publish_fault}
use Rattle.ps_model.specs.declared.world.World.{World}
use Rattle.ps_model.specs.declared.world.TopicRow.{TopicRow}
use Rattle.ps_model.specs.declared.world.MessageRow.{MessageRow}
use Rattle.ps_model.specs.Worlds.{topic_named}
use Rattle.ps_model.specs.Forwarding.{message_rows, add_messages}
use Rattle.ps_base.proofs.Lists.{each-found}
use Rattle.ps_sound.proofs.worlds.Settings.{first-none, broken-none}
use Rattle.ps_sound.proofs.worlds.Underway.{IsUnderway, underway-more}
use Rattle.ps_sound.proofs.phases.Adding.{IsNewMessage, rows-each, rows-ascend, rows-publishes, rows-length, add-underway}

-- a publish that passes the checks has at most 1,000 messages
pub publish-few : (messages : List Message) → publish_fault messages ≡ None → length messages ≤ 1000
publish-few messages e =
    let check : broken (is_empty messages || nat_lt 1000 (length messages)) Messages ≡ None =
    (first-none (broken (is_empty messages || nat_lt 1000 (length messages)) Messages ∷ (all_message_checks 0 messages ++ broken (nat_lt 10000000 (total bytes_of messages)) RequestSize ∷ [])) e).0 in
    ltb-false 1000 (length messages) (or_parts (is_empty messages) (nat_lt 1000 (length messages)) (broken-none (is_empty messages || nat_lt 1000 (length messages)) Messages check)).1

pub publish-underway : (t count : ℕ) (w : World) (name : List ℕ) (topic : TopicRow) (messages : List Message) → topic_named w name ≡ Some topic → length messages ≤ 1000 → IsUnderway t count w
    → IsUnderway t (count + 1) (add_messages (message_rows topic.number w.next_message t messages) w)
publish-underway t count w name topic messages found few h =
    add-underway t (count + 1) w rows (underway-more t count (count + 1) w (omega arith) h) (rows-ascend topic.number w.next_message t messages) (rows-publishes topic.number w.next_message t messages)
    (rows-each (IsNewMessage t w.next_message (w.next_message + length rows) w.next_topic) topic.number w.next_message t messages
    (λ k m from below. record { from = from; below = omega (arith, below, same); now = refl; topic = listed; kept = refl }))
    (omega (arith, h.marks.few, few, same))
  where
    rows : List MessageRow
    rows = message_rows topic.number w.next_message t messages

    same : length rows ≡ length messages
    same = rows-length topic.number w.next_message t messages

    listed : topic.number < w.next_topic
    listed = each-found (λ (r : TopicRow). r.number < w.next_topic) (λ (r : TopicRow). bytes_eq r.name name) w.topics topic found h.topics.below
