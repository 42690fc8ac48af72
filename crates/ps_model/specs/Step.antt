-- One call: the moment, the settled world, the command, and what is recorded (this project's own).
use Rattle.std.specs.Prelude.{ℕ, ◌+◌, min, max, [], Option, Some, None, if◌then◌else◌}
use Rattle.ps_model.specs.declared.command.Command.{Command}
use Rattle.ps_model.specs.declared.command.Command.TheVariants.{Tick}
use Rattle.ps_model.specs.declared.command.Entry.{Entry}
use Rattle.ps_model.specs.declared.reply.Reply.{Reply}
use Rattle.ps_model.specs.declared.world.World.{World}
use Rattle.ps_model.specs.Same.{same_world}
use Rattle.ps_base.specs.Moments.{last_moment}
use Rattle.ps_model.specs.Forwarding.{forward}
use Rattle.ps_model.specs.Settling.{settle, expunge_world}
use Rattle.ps_model.specs.Outcomes.{Outcome, Shows, Leaves, reply_in}
use Rattle.ps_model.specs.Checks.{as_read}
use Rattle.ps_model.specs.Commands.{outcome, is_full}

-- the empty world
abbrev pub empty_world : World
empty_world = record {
  now = 0;
  count = 0;
  next_topic = 1;
  next_sub = 1;
  next_snap = 1;
  next_message = 1;
  topics = [];
  subs = [];
  snaps = [];
  messages = [];
  marks = [];
}

-- the moment of a call: never before the last entry, and at most the last one of the year 9999
abbrev pub moment : World → ℕ → ℕ
moment w at = min (max at w.now) last_moment

-- the world in which a call at t is carried out; a full record is closed, and nothing settles
abbrev pub settled : ℕ → World → World
settled t w = if is_full w then w else settle t w

-- the world after the command, its dead letters and the expunging that follows
abbrev pub finished : ℕ → World → Outcome → World
finished t w (Shows reply) = w
finished t w (Leaves made letters reply) = expunge_world t (forward t letters made)

abbrev pub carried_out : World → ℕ → Command → World
carried_out w t c = finished t (settled t w) (outcome (settled t w) t (as_read c))

-- the world after one recorded entry
abbrev pub step : World → Entry → World
step w e =
    let t = moment w e.now in
    record (carried_out w t e.command) { now = t; count = w.count + 1 }

-- what a call at this moment is told
abbrev pub reply : World → ℕ → Command → Reply
reply w at c = let t = moment w at in reply_in (outcome (settled t w) t (as_read c))

-- the command if it changes the settled world, else a Tick if settling changed something, else nothing
abbrev pub entry_at : World → ℕ → Command → Option Entry
entry_at w t c =
    if same_world (settled t w) (carried_out w t c) then
    if same_world w (settled t w) then None else Some (record { now = t; command = Tick })
    else Some (record { now = t; command = as_read c })

-- what is recorded for a call at this moment
abbrev pub entry_of : World → ℕ → Command → Option Entry
entry_of w at c = if is_full w then None else entry_at w (moment w at) c
