-- What a command goes by.
use Rattle.std.specs.Prelude.{◌≡◌, ℕ, List, Option}
use Rattle.ps_keeper.specs.Log.{Log}
use Rattle.ps_book.specs.declared.machine.Machine as machine
use Rattle.ps_book.specs.Meaning.{meaning, IsFirstBad}
use Rattle.ps_run.specs.declared.protocol.Protocol as protocol
use Rattle.ps_run.specs.declared.protocol.Report.{Report}
use Rattle.ps_run.specs.Fates.{Fate, text_of_line, line_state}

pub record Rules (W : Type 0) : Type 1 where
  -- the world that a log means
  pub mean : Log → Option W
  -- the number of a log's first bad row
  pub IsBad : Log → ℕ → Type 0
  -- what is printed for a line with this fate. A state: the world that the log means, and maybe the one with an entry in doubt.
  pub text : W × Option W → Fate → List ℕ → List ℕ
  -- the state after it
  pub step : W × Option W → Fate → List ℕ → W × Option W
  -- what a report prints of a world
  pub IsReport : Report → W → List ℕ → Type 0

-- the rules of a machine and its protocol
abbrev pub rules_of : {M C E R : Type 0} → (m : machine.Ghosts M C E R) → protocol.Ghosts M C E R → Rules m.World
rules_of {M} m p = record {
  mean = meaning m.next m.spelled m.first;
  IsBad = IsFirstBad m.next m.spelled m.first;
  text = text_of_line m.reply p.reading_of p.reply_text;
  step = line_state m.next m.entry_of p.reading_of;
  IsReport = λ report w text. (it : M) × (m.world it ≡ w) × (text ≡ p.report_text report it);
}
