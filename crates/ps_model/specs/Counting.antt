-- The ten numbers that describe a world (this project's own).
use Rattle.std.specs.Prelude.{Bool, true, false, length}
use Rattle.ps_model.specs.declared.mark.Mark.{Mark}
use Rattle.ps_model.specs.declared.mark.Mark.TheVariants.{Backlog, Leased, Ahead, Done, Gone}
use Rattle.ps_model.specs.declared.mark.DoneCause.{DoneCause}
use Rattle.ps_model.specs.declared.mark.DoneCause.TheVariants.{Acknowledged, Dead}
use Rattle.ps_model.specs.declared.stat.Stat.{Stat}
use Rattle.ps_model.specs.declared.world.World.{World}
use Rattle.ps_model.specs.declared.world.MessageRow.{MessageRow}
use Rattle.ps_model.specs.declared.world.MarkRow.{MarkRow}
use Rattle.ps_model.specs.Slots.{is_backlog, is_leased}
use Rattle.ps_model.specs.Lists.{tally}

abbrev pub is_dead_cause : DoneCause → Bool
is_dead_cause Acknowledged = false
is_dead_cause Dead = true

-- acknowledged, in its turn or ahead of it, and not gone
abbrev pub is_acknowledged : Mark → Bool
is_acknowledged (Ahead failures) = true
is_acknowledged (Done Acknowledged) = true
is_acknowledged (Done Dead) = false
is_acknowledged (Backlog failures until last) = false
is_acknowledged (Leased failures lease deadline) = false
is_acknowledged (Gone cause) = false

-- dead-lettered and not gone
abbrev pub is_dead_lettered : Mark → Bool
is_dead_lettered (Done cause) = is_dead_cause cause
is_dead_lettered (Ahead failures) = false
is_dead_lettered (Backlog failures until last) = false
is_dead_lettered (Leased failures lease deadline) = false
is_dead_lettered (Gone cause) = false

abbrev pub stat : World → Stat
stat w = record {
  entries = w.count;
  now = w.now;
  topics = length w.topics;
  subscriptions = length w.subs;
  snapshots = length w.snaps;
  messages = tally (λ (r : MessageRow). r.kept) w.messages;
  backlog = tally (λ (r : MarkRow). is_backlog r.mark) w.marks;
  leased = tally (λ (r : MarkRow). is_leased r.mark) w.marks;
  acknowledged = tally (λ (r : MarkRow). is_acknowledged r.mark) w.marks;
  dead_lettered = tally (λ (r : MarkRow). is_dead_lettered r.mark) w.marks;
}
