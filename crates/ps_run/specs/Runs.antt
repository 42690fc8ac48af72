-- What a run over lines does to a book, by what its machine, its keeper and its streams tell.
use Rattle.std.specs.Prelude.{◌++◌, ℕ, List, length, Option, Bool, IsTrue}
use Rattle.ps_keeper.specs.Cause.{Rose}
use Rattle.ps_keeper.specs.declared.keeper.Keeper as keeper
use Rattle.ps_book.specs.declared.machine.Machine as machine
use Rattle.ps_book.specs.Books.{BookMeans, FromWhereItStood}
use Rattle.ps_book.specs.Journaled.{Journaled}
use Rattle.ps_edge.specs.declared.edge.Source as source
use Rattle.ps_edge.specs.declared.edge.Sink as sink
use Rattle.ps_run.specs.declared.protocol.Protocol as protocol
use Rattle.ps_run.specs.declared.protocol.Reading.{Reading}
use Rattle.ps_run.specs.declared.pending.Pending.{Pending}
use Rattle.ps_run.specs.declared.status.Status.{Status}
use Rattle.ps_run.specs.declared.status.Status.TheVariants.{Done, Usage, ReadFault, WriteFault, StoreFault, BadRow, OutOfMemory, TooLong, AcceptFault}
use Rattle.ps_run.specs.Answering.{AnswersAll, AnswersWhatEnded, AnswersToLimit, AnswersCut}
use Rattle.ps_run.specs.Fates.{line_reading, text_of_line, line_state}
use Rattle.ps_run.specs.Leading.{HasReadingFate, AnswersLine, IsUnended, LeadsOnWith}
use Rattle.ps_run.specs.Lines.{lines_of}
use Rattle.ps_run.specs.Opening.{HadTooMuch}
use Rattle.ps_run.specs.Outside.{Outside, around}
use Rattle.ps_run.specs.Pending.{IsPending}
use Rattle.ps_run.specs.Rules.{Rules, rules_of}
use Rattle.ps_run.specs.Serving.{AnswersSome, AnswersAllOf}

-- `From`: from each state at which the run began. `Means`: what the log means afterwards.
module _ {W I O : Type 0} (r : Rules W) (From : (W × Option W → Type 0) → Type 0) (Means : W → Option W → Type 0) (was now : Outside I O) where
  -- from there these lines were answered
  abbrev pub FromStart : (Rules W → (W → Option W → Type 0) → Outside I O → Outside I O → W × Option W → Type 0) → Type 0
  FromStart Answers = From (Answers r Means was now)

  -- by the status: why a run over lines ended so, and what was answered
  abbrev pub Ran : Status → Type 0
  Ran Done = FromStart AnswersAll
  Ran ReadFault = Rose was.read_faults now.read_faults × FromStart AnswersWhatEnded
  Ran WriteFault = Rose was.write_faults now.write_faults × FromStart AnswersCut
  Ran OutOfMemory = FromStart AnswersCut
  Ran TooLong = HadTooMuch was × FromStart AnswersToLimit
  Ran Usage = ⊥
  Ran StoreFault = ⊥
  Ran (BadRow seq) = ⊥
  Ran AcceptFault = ⊥

module _ {M C E R K : Type 0} (m : machine.Ghosts M C E R) (p : protocol.Ghosts M C E R) (k : keeper.Ghosts K) where
  -- as long as the keeper's log is known: from each state that the book was in
  abbrev pub From : Journaled M K → Journaled M K → (m.World × Option m.World → Type 0) → Type 0
  From old new P = IsTrue (k.known new.keeper) → FromWhereItStood m k old (λ w more. P (w, more))

  -- what is asked was given this text
  abbrev pub GivesText : Journaled M K → Journaled M K → Reading C → List ℕ → Type 0
  GivesText old new reading printed =
      From old new (λ s. HasReadingFate m.next m.reply m.entry_of p.reply_text (BookMeans m k new) s reading (k.faults old.keeper) (k.faults new.keeper) printed)

  -- the pending line was given this text
  abbrev pub GivesTextFor : Journaled M K → Journaled M K → Pending → List ℕ → Type 0
  GivesTextFor old new pending printed = From old new (λ s. (over : List ℕ) → IsPending over pending
      → HasReadingFate m.next m.reply m.entry_of p.reply_text (BookMeans m k new) s (line_reading p.reading_of over) (k.faults old.keeper) (k.faults new.keeper) printed)

  module _ {O : Type 0} (o : sink.Ghosts O) where
    -- the pending line was answered, and its text was written, or a front of it
    abbrev pub ServesLine : Journaled M K → Journaled M K → Pending → O → O → Bool → Type 0
    ServesLine old new pending was now all = From old new (λ s. (over : List ℕ) → IsPending over pending
        → AnswersLine (text_of_line m.reply p.reading_of p.reply_text) (line_state m.next m.entry_of p.reading_of) (BookMeans m k new) s over (o.holds was) (o.holds now) (k.faults old.keeper) (k.faults new.keeper) all)

    -- with these bytes more, each line that ended was answered
    abbrev pub GoesOver : Journaled M K → Journaled M K → Pending → Pending → List ℕ → O → O → Type 0
    GoesOver old new pending pending_now piece was now = From old new (λ s. (over : List ℕ) → IsUnended over pending
        → LeadsOnWith (text_of_line m.reply p.reading_of p.reply_text) (line_state m.next m.entry_of p.reading_of) (BookMeans m k new) s (over ++ piece) pending_now (o.holds was) (o.holds now) (k.faults old.keeper) (k.faults new.keeper))

    -- within these bytes the run stopped: its first lines were answered, and a front of their texts was written
    abbrev pub StopsWithin : Journaled M K → Journaled M K → Pending → (List ℕ → List ℕ) → O → O → Type 0
    StopsWithin old new pending with_rest was now = From old new (λ s. (over : List ℕ) → IsUnended over pending → (rest : List ℕ)
        → AnswersSome (text_of_line m.reply p.reading_of p.reply_text) (line_state m.next m.entry_of p.reading_of) (BookMeans m k new) s (over ++ with_rest rest) (o.holds was) (o.holds now) (k.faults old.keeper) (k.faults new.keeper))

    -- the last line was answered, if there was one
    abbrev pub FinishesWhole : Journaled M K → Journaled M K → Pending → O → O → Type 0
    FinishesWhole old new pending was now = From old new (λ s. (over : List ℕ) → IsUnended over pending
        → AnswersAllOf (text_of_line m.reply p.reading_of p.reply_text) (line_state m.next m.entry_of p.reading_of) (BookMeans m k new) s over (o.holds was) (o.holds now) (k.faults old.keeper) (k.faults new.keeper) (length (lines_of over)))

    -- or a front of its text was written
    abbrev pub FinishesCut : Journaled M K → Journaled M K → Pending → O → O → Type 0
    FinishesCut old new pending was now = From old new (λ s. (over : List ℕ) → IsUnended over pending
        → AnswersSome (text_of_line m.reply p.reading_of p.reply_text) (line_state m.next m.entry_of p.reading_of) (BookMeans m k new) s over (o.holds was) (o.holds now) (k.faults old.keeper) (k.faults new.keeper))

  -- a run over the lines of an input
  abbrev pub RunsLines : {I O : Type 0} → source.Ghosts I → sink.Ghosts O → Journaled M K → Journaled M K → I → I → O → O → Status → Type 0
  RunsLines i o old new input input_now output output_now status =
      Ran (rules_of m p) (From old new) (BookMeans m k new) (around i o k input output old.keeper) (around i o k input_now output_now new.keeper) status
