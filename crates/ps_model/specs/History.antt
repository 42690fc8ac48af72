-- Histories of entries, and runs of calls.
use Rattle.std.specs.Prelude.{ℕ, ◌≡◌, List, [], ◌∷◌, Option, Some, None}
use Rattle.ps_model.specs.declared.command.Command.{Command}
use Rattle.ps_model.specs.declared.command.Entry.{Entry}
use Rattle.ps_model.specs.declared.reply.Reply.{Reply}
use Rattle.ps_model.specs.declared.world.World.{World}
use Rattle.ps_model.specs.Step.{step, entry_of, reply}

-- the entry is what would be recorded for its own command at its own moment
abbrev pub IsAccepted : World → Entry → Type 0
IsAccepted w e = entry_of w e.now e.command ≡ Some e

-- each entry is accepted in the world after the entries before it
abbrev pub IsHistory : World → List Entry → Type 0
IsHistory w [] = Unit {0}
IsHistory w (e ∷ es) = IsAccepted w e × IsHistory (step w e) es

abbrev pub after : World → List Entry → World
after w [] = w
after w (e ∷ es) = after (step w e) es

abbrev pub recorded : World → Option Entry → World
recorded w None = w
recorded w (Some e) = step w e

-- the world after one call, which is a moment and a command
abbrev pub called : World → ℕ × Command → World
called w c = recorded w (entry_of w c.0 c.1)

abbrev pub after_calls : World → List (ℕ × Command) → World
after_calls w [] = w
after_calls w (c ∷ cs) = after_calls (called w c) cs

-- the reply to each call of a run
abbrev pub replies : World → List (ℕ × Command) → List Reply
replies w [] = []
replies w (c ∷ cs) = reply w c.0 c.1 ∷ replies (called w c) cs
