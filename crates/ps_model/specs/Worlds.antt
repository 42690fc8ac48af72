-- Look-ups in a world, and a world with one part changed.
use Rattle.std.specs.Prelude.{ℕ, false, nat_eq, nat_lt, List, [], ◌++◌, Option, Some, None, map, filter, find, option_and_then, unwrap_or, if◌then◌else◌}
use Rattle.std.specs.Str.{bytes_eq}
use Rattle.ps_model.specs.declared.mark.Item.{Item}
use Rattle.ps_model.specs.declared.mark.Mark.{Mark}
use Rattle.ps_model.specs.declared.mark.Slot.{Slot}
use Rattle.ps_model.specs.declared.world.World.{World}
use Rattle.ps_model.specs.declared.world.TopicRow.{TopicRow}
use Rattle.ps_model.specs.declared.world.SubRow.{SubRow}
use Rattle.ps_model.specs.declared.world.SnapRow.{SnapRow}
use Rattle.ps_model.specs.declared.world.MessageRow.{MessageRow}
use Rattle.ps_model.specs.declared.world.MarkRow.{MarkRow}
use Rattle.ps_message.specs.Messages.{size_of}
use Rattle.ps_model.specs.declared.hold.Hold.{Hold}
use Rattle.ps_model.specs.declared.hold.Holds.{Holds}

abbrev pub topic_named : World → List ℕ → Option TopicRow
topic_named w name = find (λ (r : TopicRow). bytes_eq r.name name) w.topics

-- none if it was deleted
abbrev pub topic_numbered : World → ℕ → Option TopicRow
topic_numbered w number = find (λ (r : TopicRow). nat_eq r.number number) w.topics

abbrev pub sub_named : World → List ℕ → Option SubRow
sub_named w name = find (λ (r : SubRow). bytes_eq r.name name) w.subs

abbrev pub snap_named : World → List ℕ → Option SnapRow
snap_named w name = find (λ (r : SnapRow). bytes_eq r.name name) w.snaps

-- This stands in for a message that doesn't exist, so that every look-up has an answer. A sound world never needs it.
abbrev pub no_message : ℕ → MessageRow
no_message number = record { number = number; topic = 0; publish = 0; message = record { payload = []; attributes = []; key = [] }; kept = false }

abbrev pub message_numbered : List MessageRow → ℕ → Option MessageRow
message_numbered messages number = find (λ (r : MessageRow). nat_eq r.number number) messages

abbrev pub message_at : List MessageRow → ℕ → MessageRow
message_at messages number = unwrap_or (message_numbered messages number) (no_message number)

-- what a subscription knows of a message
abbrev pub item_at : ℕ → MessageRow → Item
item_at number r = record { number = number; publish = r.publish; key = r.message.key; size = size_of r.message }

abbrev pub slot_of : List MessageRow → MarkRow → Slot
slot_of messages r = record { item = item_at r.message (message_at messages r.message); mark = r.mark }

-- the marks of one subscription
abbrev pub rows_of : List MarkRow → ℕ → List MarkRow
rows_of marks sub = filter (λ (r : MarkRow). nat_eq r.sub sub) marks

-- the messages of a subscription with their marks
abbrev pub slots_of : World → ℕ → List Slot
slots_of w sub = map (slot_of w.messages) (rows_of w.marks sub)

abbrev pub row_of : ℕ → Slot → MarkRow
row_of sub s = record { sub = sub; message = s.item.number; mark = s.mark }

abbrev pub sub_numbered : World → ℕ → Option SubRow
sub_numbered w number = find (λ (r : SubRow). nat_eq r.number number) w.subs

-- the mark that a rule gives to a row; a row of no subscription keeps its mark
abbrev pub new_mark : (SubRow → List Slot → Slot → Mark) → World → MarkRow → Option SubRow → Mark
new_mark rule w r None = r.mark
new_mark rule w r (Some sub) = rule sub (slots_of w sub.number) (slot_of w.messages r)

abbrev pub remark_row : MarkRow → Mark → MarkRow
remark_row r mark = record { sub = r.sub; message = r.message; mark = mark }

-- the world after a rule is applied to every mark
abbrev pub remark_all : (SubRow → List Slot → Slot → Mark) → World → World
remark_all rule w = record w { marks = map (λ (r : MarkRow). remark_row r (new_mark rule w r (sub_numbered w r.sub))) w.marks }

-- the world after a rule is applied to the marks of one subscription
abbrev pub remark_at : ℕ → (Slot → Mark) → World → World
remark_at number rule w = record w { marks = map (λ (r : MarkRow). if nat_eq r.sub number then remark_row r (rule (slot_of w.messages r)) else r) w.marks }

-- the world in which one subscription has these slots
abbrev pub with_slots_at : ℕ → List Slot → World → World
with_slots_at number slots w = record w {
  marks = filter (λ (r : MarkRow). nat_lt r.sub number) w.marks ++ (map (row_of number) slots ++ filter (λ (r : MarkRow). nat_lt number r.sub) w.marks);
}

-- the world with this row in place of the row with its number
abbrev pub put_sub : SubRow → World → World
put_sub row w = record w { subs = map (λ (r : SubRow). if nat_eq r.number row.number then row else r) w.subs }

abbrev pub put_topic : TopicRow → World → World
put_topic row w = record w { topics = map (λ (r : TopicRow). if nat_eq r.number row.number then row else r) w.topics }

-- the retention window of a topic, if the topic exists and has one
abbrev pub window_of : World → ℕ → Option ℕ
window_of w topic = option_and_then (λ (r : TopicRow). r.config.retention) (topic_numbered w topic)

abbrev pub hold_of : SnapRow → Hold
hold_of r = record { numbers = r.listed; after = r.bound }

-- what holds messages of the topic
abbrev pub holds_of : World → ℕ → Holds
holds_of w topic = record {
  topic_window = window_of w topic;
  snapshots = map hold_of (filter (λ (r : SnapRow). nat_eq r.topic topic) w.snaps);
}
