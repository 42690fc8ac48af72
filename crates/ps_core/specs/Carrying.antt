-- What carrying out a command asks, and what it comes to: the rule's answer, and the live part of the rule's world with one entry more, if it changes the world at all.
use Rattle.std.specs.Prelude.{◌≡◌, ◌+◌, ◌<◌, ◌≤◌, ◌^◌, ℕ, Bool, true, false, not, Option, Some, None, if◌then◌else◌}
use Rattle.ps_model.specs.declared.command.Command.{Command}
use Rattle.ps_model.specs.declared.command.Command.TheVariants.{Tick}
use Rattle.ps_model.specs.declared.command.Entry.{Entry}
use Rattle.ps_model.specs.declared.reply.Reply.{Reply}
use Rattle.ps_model.specs.declared.world.World.{World}
use Rattle.ps_model.specs.Commands.{outcome}
use Rattle.ps_model.specs.Live.{live}
use Rattle.ps_model.specs.Outcomes.{reply_in}
use Rattle.ps_model.specs.Same.{same_world}
use Rattle.ps_model.specs.Step.{finished}
use Rattle.ps_core.specs.Effects.{recorded_at}
use Rattle.ps_core.specs.State.{State, seen}

-- an entry of this moment has a place in the record: it isn't full, and the last entry isn't later
pub record CanRecord (at : ℕ) (s : State) : Type 0 where
  pub room : s.count < 2 ^ 50
  pub later : s.now ≤ at

-- what a command comes to, and what expunging leaves of it
abbrev pub left_by : ℕ → Command → World → World
left_by at c w = finished at w (outcome w at c)

abbrev pub one_entry_more : ℕ → World → World → World
one_entry_more at was w = record w { now = at; count = was.count + 1 }

pub record IsCarried (at : ℕ) (c : Command) (old new : State) (reply : Reply) (changed : Bool) : Type 0 where
  pub told : reply ≡ reply_in (outcome (seen old) at c)
  pub moved : same_world (seen old) (left_by at c (seen old)) ≡ not changed
  pub after : seen new ≡ (if changed then one_entry_more at (seen old) (live (left_by at c (seen old))) else seen old)

-- the entry of a command that was carried out: itself if it changed the world, a Tick if settling alone did, and else none
pub record IsEntryFor (at : ℕ) (c : Command) (moved changed : Bool) (made new : State) (entry : Option Entry) : Type 0 where
  pub changed_one : changed ≡ true → (entry ≡ Some (record { now = at; command = c })) × (new ≡ made)
  pub moved_one : changed ≡ false → moved ≡ true → (entry ≡ Some (record { now = at; command = Tick })) × (new ≡ recorded_at at made)
  pub still_one : changed ≡ false → moved ≡ false → (entry ≡ None) × (new ≡ made)
