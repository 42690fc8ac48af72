-- The service that the program runs: what a log means, what is printed for a line, what state it leaves, and what a report prints.
use Rattle.std.specs.Prelude.{◌≡◌, ℕ, List, Option}
use Rattle.ps_keeper.specs.Log.{Log}
use Rattle.ps_model.specs.declared.world.World.{World}
use Rattle.ps_entry.specs.Entries.{entry_in as spelled}
use Rattle.ps_model.specs.Step.{empty_world}
use Rattle.ps_core.specs.Calls.{next, reply, entry_of}
use Rattle.ps_core.specs.Stats.{stat_of}
use Rattle.ps_book.specs.Meaning.{meaning, IsFirstBad}
use Rattle.ps_run.specs.Fates.{Fate, text_of_line, line_state}
use Rattle.ps_run.specs.Rules.{Rules}
use Rattle.ps_run.specs.declared.protocol.Report.{Report}
use Rattle.ps_run.specs.declared.protocol.Report.TheVariants.{Check, Stat}
use Rattle.pubsub.specs.Reading.{reading_of}
use Rattle.pubsub.specs.Numbers.{check_text, stat_text}
use Rattle.ps_json.specs.Replies.{reply_text}

-- the world after the entries that a log's rows spell, each accepted where it stands
abbrev pub world_of : Log → Option World
world_of log = meaning next spelled empty_world log

-- what is printed for a line with this fate
abbrev pub text_of : World × Option World → Fate → List ℕ → List ℕ
text_of s fate line = text_of_line reply reading_of reply_text s fate line

-- the world that the log means after it, and maybe the one with an entry in doubt
abbrev pub state : World × Option World → Fate → List ℕ → World × Option World
state s fate line = line_state next entry_of reading_of s fate line

-- what a report prints of a world
abbrev pub text_of_report : Report → World → List ℕ
text_of_report Check w = check_text w.count
text_of_report Stat w = stat_text (stat_of w)

-- all that the program goes by
abbrev pub service : Rules World
service = record {
  mean = world_of;
  IsBad = IsFirstBad next spelled empty_world;
  text = text_of;
  step = state;
  IsReport = λ report w text. text ≡ text_of_report report w;
}
