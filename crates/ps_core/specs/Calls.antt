-- One call to the machine: what isn't built is refused, and all else is as the service's rules say. A machine is at a live world, which is all that a call can see.
use Rattle.std.specs.Prelude.{◌≡◌, MatchOption, IfSome, ℕ, Bool, true, false, ◌&&◌, not, nat_eq, Option, Some, None, List, is_none, if◌then◌else◌}
use Rattle.ps_base.specs.declared.reason.Reason.{Reason}
use Rattle.ps_base.specs.declared.refusal.Refusal.{Refusal}
use Rattle.ps_base.specs.declared.refusal.Refusal.TheVariants.{Unimplemented, InvalidArgument, Exhausted}
use Rattle.ps_entry.specs.Commands.{has_spelling}
use Rattle.ps_model.specs.declared.command.Command.{Command}
use Rattle.ps_model.specs.declared.command.Command.TheVariants.{Tick}
use Rattle.ps_model.specs.declared.command.Entry.{Entry}
use Rattle.ps_model.specs.declared.reply.Reply.{Reply}
use Rattle.ps_model.specs.declared.reply.Reply.TheVariants.{Refused}
use Rattle.ps_model.specs.declared.world.World.{World}
use Rattle.ps_model.specs.Checks.{argument_fault, as_read, is_normal}
use Rattle.ps_model.specs.Commands.{is_full}
use Rattle.ps_model.specs.Live.{live}
use Rattle.ps_model.specs.Same.{same_world}
use Rattle.ps_model.specs.Step as rules
use Rattle.ps_core.specs.Built.{unbuilt}

abbrev pub reply_built : World → ℕ → Command → Option (List ℕ) → Reply
reply_built w now c None = rules.reply w now c
reply_built w now c (Some missing) = Refused (Unimplemented missing)

-- what a call is told
abbrev pub reply : World → ℕ → Command → Reply
reply w now c = reply_built w now c (unbuilt c)

-- what isn't built leaves what the moment brings
abbrev pub as_built : Command → Option (List ℕ) → Command
as_built c None = c
as_built c (Some missing) = Tick

-- what is recorded of a call
abbrev pub entry_of : World → ℕ → Command → Option Entry
entry_of w now c = rules.entry_of w now (as_built c (unbuilt c))

abbrev pub is_tick : Command → Bool
is_tick Tick = true
is_tick _ = false

-- the command changes the settled world and stands in its form, or it is a Tick and settling changes something
abbrev pub is_step : World → ℕ → Command → Bool
is_step w at c = if same_world (rules.settled at w) (rules.carried_out w at c) then is_tick c && not (same_world w (rules.settled at w)) else is_normal c

-- an entry is accepted where it is what would be recorded of its own command at its own moment
abbrev pub is_accepted : World → Entry → Bool
is_accepted w e = not (is_full w) && (nat_eq (rules.moment w e.now) e.now && (is_none (unbuilt e.command) && is_step w e.now e.command))

-- the live part of the world after an entry, where it is accepted
abbrev pub next : World → Entry → Option World
next w e = if is_accepted w e then Some (live (rules.step w e)) else None

-- why a command is refused before anything is looked at: it isn't built, an argument is bad, or the record is full
abbrev pub refusal_by : Option (List ℕ) → Option Reason → Bool → Option Refusal
refusal_by (Some missing) fault full = Some (Unimplemented missing)
refusal_by None (Some reason) full = Some (InvalidArgument reason)
refusal_by None None full = if full then Some Exhausted else None

abbrev pub refusal_of : World → Command → Option Refusal
refusal_of w c = refusal_by (unbuilt c) (argument_fault (as_read c)) (is_full w)

-- the entries that have a row
abbrev pub CanWrite : Entry → Type 0
CanWrite e = has_spelling e.command ≡ true

-- what settling alone comes to
pub record IsTicked (w : World) (now : ℕ) (entry : Option Entry) (new : World) : Type 0 where
  pub entry_is : entry ≡ rules.entry_of w now Tick
  pub after : MatchOption entry (new ≡ w) (λ e. next w e ≡ Some new)
  pub written : IfSome entry CanWrite

-- what judging a command comes to
pub record IsJudged (w : World) (now : ℕ) (c : Command) (told : Reply) (entry : Option Entry) (new : World) : Type 0 where
  pub told_is : told ≡ reply w now c
  pub entry_is : entry ≡ entry_of w now c
  pub after : MatchOption entry (new ≡ w) (λ e. next w e ≡ Some new)
  pub written : IfSome entry CanWrite
