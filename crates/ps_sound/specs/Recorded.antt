-- What a call records, and what the record tells again.
use Rattle.std.specs.Prelude.{ℕ, ◌≡◌, ◌⊎◌, false, Option, Some, None}
use Rattle.ps_base.specs.declared.refusal.Refusal.{Refusal}
use Rattle.ps_model.specs.declared.command.Command.{Command}
use Rattle.ps_model.specs.declared.command.Command.TheVariants.{Tick}
use Rattle.ps_model.specs.declared.command.Entry.{Entry}
use Rattle.ps_model.specs.declared.reply.Reply.TheVariants.{Refused}
use Rattle.ps_model.specs.declared.world.World.{World}
use Rattle.ps_model.specs.Checks.{as_read}
use Rattle.ps_model.specs.Outcomes.{reply_in}
use Rattle.ps_model.specs.Commands.{is_full, outcome}
use Rattle.ps_model.specs.Step.{moment, settled, carried_out, step, reply, entry_of}
use Rattle.ps_model.specs.History.{IsAccepted, called}
use Rattle.ps_model.specs.Sound.{IsSound}

-- The command was recorded, in the form in which it was read. Carried out again at its place it tells the same.
pub record IsRecorded (w : World) (at : ℕ) (c : Command) (e : Entry) : Type 0 where
  pub moment : e.now ≡ moment w at
  pub command : e.command ≡ as_read c
  pub told : reply w e.now e.command ≡ reply w at c

-- The moment was recorded in its stead, as a Tick. The same call right after it records nothing, and tells the same unless this Tick filled the record.
pub record IsForestalled (w : World) (at : ℕ) (c : Command) (e : Entry) : Type 0 where
  pub moment : e.now ≡ moment w at
  pub command : e.command ≡ Tick
  pub told : is_full (step w e) ≡ false → reply (step w e) e.now c ≡ reply w at c
  pub records : entry_of (step w e) e.now c ≡ None

-- Nothing was recorded. The world stayed, nothing was due, and the caller was told what this world tells.
pub record StandsStill (w : World) (at : ℕ) (c : Command) : Type 0 where
  pub stays : called w (at, c) ≡ w
  pub rests : settled (moment w at) w ≡ w
  pub told : reply w at c ≡ reply_in (outcome w (moment w at) (as_read c))

abbrev pub TellsAgain : World → ℕ → Command → Option Entry → Type 0
TellsAgain w at c None = StandsStill w at c
TellsAgain w at c (Some e) = IsRecorded w at c e ⊎ IsForestalled w at c e

-- What a caller is told can be told again from what was recorded.
abbrev pub ReplyIsRecorded : Type 0
ReplyIsRecorded = (w : World) (at : ℕ) (c : Command) → IsSound w → TellsAgain w at c (entry_of w at c)

-- What a call records is an entry that its world accepts.
abbrev pub RecordedIsAccepted : Type 0
RecordedIsAccepted = (w : World) (at : ℕ) (c : Command) (e : Entry) → entry_of w at c ≡ Some e → IsAccepted w e

-- A refused command leaves the settled world, and records what the moment alone does.
abbrev pub RefusedOnlySettles : Type 0
RefusedOnlySettles = (w : World) (at : ℕ) (c : Command) (refusal : Refusal) → reply w at c ≡ Refused refusal → record {
  leaves : carried_out w (moment w at) c ≡ settled (moment w at) w;
  records : entry_of w at c ≡ entry_of w at Tick;
}

-- A call settles for good: settling again at its moment changes nothing, and a Tick then records nothing.
abbrev pub SettlesForGood : Type 0
SettlesForGood = (w : World) (at : ℕ) (c : Command) → IsSound w → record {
  rests : settled (moment w at) (called w (at, c)) ≡ called w (at, c);
  records : entry_of (called w (at, c)) at Tick ≡ None;
}
