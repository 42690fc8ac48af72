-- Replay to a time (Pub/Sub documentation, "Replay and purge messages with Seek"; that a seek ends all leases and restarts the counts is this project's own).
use Rattle.std.specs.Prelude.{ℕ, nat_lt, List, None, if◌then◌else◌}
use Rattle.ps_model.specs.declared.mark.Mark.{Mark}
use Rattle.ps_model.specs.declared.mark.Mark.TheVariants.{Backlog, Done}
use Rattle.ps_model.specs.declared.mark.DoneCause.TheVariants.{Acknowledged}
use Rattle.ps_model.specs.declared.mark.Slot.{Slot}
use Rattle.ps_model.specs.Slots.{remarked, is_gone}

-- not yet delivered
abbrev pub fresh : Mark
fresh = Backlog 0 0 None

-- a seek to a time: of what isn't gone, what was published before it is acknowledged, all else is in the backlog again
abbrev pub sought_mark : ℕ → Slot → Mark
sought_mark time s = if is_gone s.mark then s.mark else if nat_lt s.item.publish time then Done Acknowledged else fresh

abbrev pub seek_time : ℕ → List Slot → List Slot
seek_time time slots = remarked (sought_mark time) slots
