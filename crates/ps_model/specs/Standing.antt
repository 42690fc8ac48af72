-- The standing of a message on a subscription, in the words of the documentation (Pub/Sub documentation, "Subscription overview", "Replay and purge messages with Seek", "Dead-letter topics": outstanding, acknowledged, dead-lettered and expired messages).
use Rattle.std.specs.Prelude.{ℕ, ◌&&◌, not, nat_eq, Option, Some, None, find, if◌then◌else◌}
use Rattle.ps_model.specs.declared.mark.Mark.{Mark}
use Rattle.ps_model.specs.declared.mark.Mark.TheVariants.{Backlog, Leased, Ahead, Done, Gone}
use Rattle.ps_model.specs.declared.mark.DoneCause.{DoneCause}
use Rattle.ps_model.specs.declared.mark.DoneCause.TheVariants as done
use Rattle.ps_model.specs.declared.mark.GoneCause.{GoneCause}
use Rattle.ps_model.specs.declared.mark.GoneCause.TheVariants as gone
use Rattle.ps_model.specs.declared.world.World.{World}
use Rattle.ps_model.specs.declared.world.SubRow.{SubRow}
use Rattle.ps_model.specs.declared.world.MessageRow.{MessageRow}
use Rattle.ps_model.specs.declared.world.MarkRow.{MarkRow}
use Rattle.ps_filter.specs.Filters.{meets}

pub data Standing : Type 0 where
  InBacklog : Standing
  IsOut : Standing
  IsAcknowledged : Standing
  IsDeadLettered : Standing
  HasExpired : Standing

abbrev pub standing_when_done : DoneCause → Standing
standing_when_done done.Acknowledged = IsAcknowledged
standing_when_done done.Dead = IsDeadLettered

abbrev pub standing_when_gone : GoneCause → Standing
standing_when_gone gone.Acknowledged = IsAcknowledged
standing_when_gone gone.Dead = IsDeadLettered
standing_when_gone gone.Expired = HasExpired

abbrev pub standing_with : Mark → Standing
standing_with (Backlog failures until last) = InBacklog
standing_with (Leased failures lease deadline) = IsOut
standing_with (Ahead failures) = IsAcknowledged
standing_with (Done cause) = standing_when_done cause
standing_with (Gone cause) = standing_when_gone cause

abbrev pub mark_row : World → ℕ → ℕ → Option MarkRow
mark_row w sub message = find (λ (r : MarkRow). nat_eq r.sub sub && nat_eq r.message message) w.marks

-- a message that never entered is acknowledged if the filter kept it out, and otherwise has no standing
abbrev pub standing_by : SubRow → MessageRow → Option MarkRow → Option Standing
standing_by sub r (Some mark) = Some (standing_with mark.mark)
standing_by sub r None = if nat_eq r.topic sub.topic && not (meets sub.config.filter r.message) then Some IsAcknowledged else None

abbrev pub standing : World → SubRow → MessageRow → Option Standing
standing w sub r = standing_by sub r (mark_row w sub.number r.number)
