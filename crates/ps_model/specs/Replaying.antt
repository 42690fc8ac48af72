-- Seek, to a time or to a snapshot (API reference, Seek; Pub/Sub documentation, "Replay and purge messages with Seek". The refusals are this project's own).
use Rattle.std.specs.Prelude.{ℕ, Bool, true, false, ◌&&◌, nat_eq, nat_lt, List, [], ◌∷◌, Option, Some, None, map, filter, if◌then◌else◌}
use Rattle.ps_base.specs.declared.refusal.Refusal.TheVariants.{NotFound, FailedPrecondition}
use Rattle.ps_base.specs.declared.reason.Reason.TheVariants.{Detached, SnapshotTopic}
use Rattle.ps_model.specs.declared.mark.Mark.TheVariants.{Done}
use Rattle.ps_model.specs.declared.mark.DoneCause.TheVariants.{Acknowledged}
use Rattle.ps_model.specs.declared.mark.Slot.{Slot}
use Rattle.ps_model.specs.declared.mark.Item.{Item}
use Rattle.ps_model.specs.declared.reply.Reply.TheVariants.{Empty}
use Rattle.ps_model.specs.declared.world.World.{World}
use Rattle.ps_model.specs.declared.world.SubRow.{SubRow}
use Rattle.ps_model.specs.declared.world.SnapRow.{SnapRow}
use Rattle.ps_model.specs.declared.world.MessageRow.{MessageRow}
use Rattle.ps_model.specs.Slots.{remark, is_gone}
use Rattle.ps_model.specs.Seeking.{fresh, sought_mark}
use Rattle.ps_model.specs.Retention.{is_held_by}
use Rattle.ps_filter.specs.Filters.{meets}
use Rattle.ps_model.specs.Worlds.{sub_named, snap_named, hold_of, item_at, slots_of, remark_at, with_slots_at}
use Rattle.ps_model.specs.Outcomes.{Outcome, answers, refuses}

-- the slots with a message that a snapshot brings back, in its place by number
abbrev pub bring_back : Item → List Slot → List Slot
bring_back item [] = record { item = item; mark = fresh } ∷ []
bring_back item (s ∷ ss) =
    if nat_lt item.number s.item.number then record { item = item; mark = fresh } ∷ (s ∷ ss)
    else if nat_eq item.number s.item.number then record { item = item; mark = fresh } ∷ ss
    else s ∷ bring_back item ss

-- acknowledged, unless it is gone
abbrev pub put_aside : Slot → Slot
put_aside s = if is_gone s.mark then s else remark s (Done Acknowledged)

abbrev pub bring_all : List Item → List Slot → List Slot
bring_all [] slots = slots
bring_all (item ∷ items) slots = bring_all items (bring_back item slots)

-- a seek to a list of messages: these are in the backlog again, all else that isn't gone is acknowledged
abbrev pub seek_list : List Item → List Slot → List Slot
seek_list items slots = bring_all items (map put_aside slots)

-- the messages that a snapshot holds and that match the subscription's filter
abbrev pub held_items : World → SubRow → SnapRow → List Item
held_items w sub snap = map (λ (r : MessageRow). item_at r.number r)
    (filter (λ (r : MessageRow). nat_eq r.topic snap.topic && (is_held_by r.number (hold_of snap) && meets sub.config.filter r.message)) w.messages)

abbrev pub seek_time_in : World → ℕ → SubRow → Bool → Outcome
seek_time_in w time sub true = refuses w (FailedPrecondition Detached)
seek_time_in w time sub false = answers (remark_at sub.number (sought_mark time) w) Empty

abbrev pub seek_time_at : World → List ℕ → ℕ → Option SubRow → Outcome
seek_time_at w name time None = refuses w (NotFound name)
seek_time_at w name time (Some sub) = seek_time_in w time sub sub.detached

abbrev pub seek_to_time : World → List ℕ → ℕ → Outcome
seek_to_time w name time = seek_time_at w name time (sub_named w name)

abbrev pub seek_snap_in : World → SubRow → SnapRow → Outcome
seek_snap_in w sub snap =
    if sub.detached then refuses w (FailedPrecondition Detached)
    else if nat_eq snap.topic sub.topic then answers (with_slots_at sub.number (seek_list (held_items w sub snap) (slots_of w sub.number)) w) Empty
    else refuses w (FailedPrecondition SnapshotTopic)

abbrev pub seek_snap_at : World → List ℕ → List ℕ → Option SubRow → Option SnapRow → Outcome
seek_snap_at w name snapshot None snap = refuses w (NotFound name)
seek_snap_at w name snapshot (Some sub) None = refuses w (NotFound snapshot)
seek_snap_at w name snapshot (Some sub) (Some snap) = seek_snap_in w sub snap

abbrev pub seek_to_snapshot : World → List ℕ → List ℕ → Outcome
seek_to_snapshot w name snapshot = seek_snap_at w name snapshot (sub_named w name) (snap_named w snapshot)
