-- Snapshots as resources (API reference, CreateSnapshot: what a snapshot holds, its lifetime of 7 days from the oldest unacknowledged message, and that it is refused if less than an hour would be left. That messages ahead aren't listed is this project's own).
use Rattle.std.specs.Prelude.{ℕ, ◌+◌, ◌-◌, min, not, nat_eq, nat_lt, List, [], ◌∷◌, ◌++◌, Option, Some, None, map, filter, is_none, if◌then◌else◌}
use Rattle.ps_base.specs.declared.refusal.Refusal.TheVariants.{NotFound, AlreadyExists, FailedPrecondition}
use Rattle.ps_base.specs.declared.reason.Reason.TheVariants.{Detached, TopicDeleted, SnapshotLifetime}
use Rattle.ps_model.specs.declared.mark.Slot.{Slot}
use Rattle.ps_model.specs.declared.reply.Reply.TheVariants.{Empty, Snapshot}
use Rattle.ps_model.specs.declared.world.World.{World}
use Rattle.ps_model.specs.declared.world.SubRow.{SubRow}
use Rattle.ps_model.specs.declared.world.SnapRow.{SnapRow}
use Rattle.ps_model.specs.Slots.{is_unacked}
use Rattle.ps_model.specs.Showing.{snap_shown}
use Rattle.ps_model.specs.Worlds.{sub_named, snap_named, topic_numbered, slots_of}
use Rattle.ps_model.specs.Outcomes.{Outcome, Shows, answers, refuses}

-- 7 days, in milliseconds
abbrev pub lifetime : ℕ
lifetime = 604800000

-- the unacknowledged messages of the subscription
abbrev pub open_slots : World → SubRow → List Slot
open_slots w sub = filter (λ s. is_unacked s.mark) (slots_of w sub.number)

-- the earliest publish moment, or t if there is none
abbrev pub oldest : ℕ → List Slot → ℕ
oldest t [] = t
oldest t (s ∷ []) = s.item.publish
oldest t (s ∷ r ∷ ss) = min s.item.publish (oldest t (r ∷ ss))

abbrev pub new_snap : World → ℕ → List ℕ → SubRow → List (List ℕ × List ℕ) → SnapRow
new_snap w t name sub labels = record {
  number = w.next_snap;
  name = name;
  topic = sub.topic;
  labels = labels;
  listed = map (λ (s : Slot). s.item.number) (open_slots w sub);
  bound = w.next_message - 1;
  expiry = lifetime + oldest t (open_slots w sub);
}

-- refused if it would expire within the hour
abbrev pub create_snap_in : World → ℕ → SubRow → SnapRow → Outcome
create_snap_in w t sub row =
    if sub.detached then refuses w (FailedPrecondition Detached)
    else if is_none (topic_numbered w sub.topic) then refuses w (FailedPrecondition TopicDeleted)
    else if nat_lt row.expiry (t + 3600000) then refuses w (FailedPrecondition SnapshotLifetime)
    else answers (record w { next_snap = w.next_snap + 1; snaps = w.snaps ++ row ∷ [] }) (Snapshot (snap_shown w row))

abbrev pub create_snap_at : World → ℕ → List ℕ → List ℕ → List (List ℕ × List ℕ) → Option SubRow → Option SnapRow → Outcome
create_snap_at w t name subscription labels None taken = refuses w (NotFound subscription)
create_snap_at w t name subscription labels (Some sub) (Some taken) = refuses w (AlreadyExists name)
create_snap_at w t name subscription labels (Some sub) None = create_snap_in w t sub (new_snap w t name sub labels)

abbrev pub create_snap : World → ℕ → List ℕ → List ℕ → List (List ℕ × List ℕ) → Outcome
create_snap w t name subscription labels = create_snap_at w t name subscription labels (sub_named w subscription) (snap_named w name)

abbrev pub update_snap_at : World → List ℕ → List (List ℕ × List ℕ) → Option SnapRow → Outcome
update_snap_at w name labels None = refuses w (NotFound name)
update_snap_at w name labels (Some old) =
    let row : SnapRow = record old { labels = labels } in
    answers (record w { snaps = map (λ (r : SnapRow). if nat_eq r.number row.number then row else r) w.snaps }) (Snapshot (snap_shown w row))

abbrev pub update_snap : World → List ℕ → List (List ℕ × List ℕ) → Outcome
update_snap w name labels = update_snap_at w name labels (snap_named w name)

abbrev pub get_snap_at : World → List ℕ → Option SnapRow → Outcome
get_snap_at w name None = refuses w (NotFound name)
get_snap_at w name (Some row) = Shows (Snapshot (snap_shown w row))

abbrev pub get_snap : World → List ℕ → Outcome
get_snap w name = get_snap_at w name (snap_named w name)

abbrev pub delete_snap_at : World → List ℕ → Option SnapRow → Outcome
delete_snap_at w name None = refuses w (NotFound name)
delete_snap_at w name (Some row) = answers (record w { snaps = filter (λ (r : SnapRow). not (nat_eq r.number row.number)) w.snaps }) Empty

abbrev pub delete_snap : World → List ℕ → Outcome
delete_snap w name = delete_snap_at w name (snap_named w name)
