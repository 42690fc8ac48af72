-- Retention windows, snapshots that hold messages, and what goes when nothing holds it (Pub/Sub documentation, "Replay and purge messages with Seek": snapshots, retaining acknowledged messages; "Topic message retention". That a message leaves a window when its age equals the window is this project's own).
use Rattle.std.specs.Prelude.{ℕ, ◌-◌, Bool, true, false, ◌&&◌, ◌||◌, not, nat_eq, nat_lt, List, Option, Some, None, if◌then◌else◌}
use Rattle.std.specs.List.{list_any}
use Rattle.ps_model.specs.declared.mark.Mark.{Mark}
use Rattle.ps_model.specs.declared.mark.Mark.TheVariants.{Backlog, Leased, Ahead, Done, Gone}
use Rattle.ps_model.specs.declared.mark.DoneCause.{DoneCause}
use Rattle.ps_model.specs.declared.mark.DoneCause.TheVariants.{Acknowledged, Dead}
use Rattle.ps_model.specs.declared.mark.GoneCause.{GoneCause}
use Rattle.ps_model.specs.declared.mark.GoneCause.TheVariants as gone
use Rattle.ps_model.specs.declared.mark.Slot.{Slot}
use Rattle.ps_config.specs.declared.config.SubConfig.{SubConfig}
use Rattle.ps_model.specs.declared.hold.Hold.{Hold}
use Rattle.ps_model.specs.declared.hold.Holds.{Holds}
use Rattle.ps_model.specs.Slots.{any_earlier, remarked, is_unacked, is_done}

-- a snapshot holds the message
abbrev pub is_held_by : ℕ → Hold → Bool
is_held_by number hold = nat_lt hold.after number || list_any (nat_eq number) hold.numbers

-- there is a window, and the age at t is below it
abbrev pub is_within : ℕ → ℕ → Option ℕ → Bool
is_within t publish None = false
is_within t publish (Some window) = nat_lt (t - publish) window

-- The age is below the subscription's window, which counts for a done message only if the subscription retains these; or it is below the topic's window; or a snapshot holds the message.
abbrev pub is_held : ℕ → SubConfig → Holds → Slot → Bool
is_held t config held s =
    ((not (is_done s.mark) || config.retain_acked) && nat_lt (t - s.item.publish) config.retention)
    || (is_within t s.item.publish held.topic_window || list_any (is_held_by s.item.number) held.snapshots)

-- Whether something still holds a message. Until retention can be set, everything is held; then this line becomes `holds = is_held`.
abbrev pub holds : ℕ → SubConfig → Holds → Slot → Bool
holds t config held s = true

abbrev pub gone_cause : DoneCause → GoneCause
gone_cause Acknowledged = gone.Acknowledged
gone_cause Dead = gone.Dead

-- the mark of a message that nothing holds any more
abbrev pub lapsed : Mark → Mark
lapsed (Backlog failures until last) = Gone gone.Expired
lapsed (Leased failures lease deadline) = Gone gone.Expired
lapsed (Ahead failures) = Gone gone.Acknowledged
lapsed (Done cause) = Gone (gone_cause cause)
lapsed (Gone cause) = Gone cause

-- first: what is in the backlog, leased or ahead, and isn't held, lapses
abbrev pub expired_mark : ℕ → SubConfig → Holds → Slot → Mark
expired_mark t config held s = if is_done s.mark || holds t config held s then s.mark else lapsed s.mark

abbrev pub caught_up_as : Mark → Mark
caught_up_as (Ahead failures) = Done Acknowledged
caught_up_as (Backlog failures until last) = Backlog failures until last
caught_up_as (Leased failures lease deadline) = Leased failures lease deadline
caught_up_as (Done cause) = Done cause
caught_up_as (Gone cause) = Gone cause

-- second: what was ahead and has no earlier unacknowledged message of its key any more is done
abbrev pub caught_up_mark : Bool → List Slot → Slot → Mark
caught_up_mark ordering slots s = if any_earlier ordering (λ e. is_unacked e.mark) slots s then s.mark else caught_up_as s.mark

-- third: what is done and isn't held lapses
abbrev pub released_mark : ℕ → SubConfig → Holds → Slot → Mark
released_mark t config held s = if is_done s.mark && not (holds t config held s) then lapsed s.mark else s.mark

-- the three parts on the slots of one subscription
abbrev pub expunge : ℕ → SubConfig → Holds → List Slot → List Slot
expunge t config held slots =
    let live = remarked (expired_mark t config held) slots in
    let settled = remarked (caught_up_mark config.ordering live) live in
    remarked (released_mark t config held) settled
