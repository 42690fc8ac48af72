-- What a report over a file does to the outside, by how it ends.
use Rattle.std.specs.Prelude.{◌≡◌, ◌++◌, take, List, ℕ, Option, option_map, IsTrue}
use Rattle.ps_keeper.specs.Cause.{Rose}
use Rattle.ps_keeper.specs.declared.keeper.Keeper as keeper
use Rattle.ps_book.specs.declared.machine.Machine as machine
use Rattle.ps_edge.specs.declared.edge.Sink as sink
use Rattle.ps_edge.specs.declared.cabinet.Cabinet as cabinet
use Rattle.ps_run.specs.declared.protocol.Protocol as protocol
use Rattle.ps_run.specs.declared.protocol.Report.{Report}
use Rattle.ps_run.specs.declared.status.Ended.{Ended}
use Rattle.ps_run.specs.declared.status.Status.{Status}
use Rattle.ps_run.specs.declared.status.Status.TheVariants.{Done, Usage, ReadFault, WriteFault, StoreFault, BadRow, OutOfMemory, TooLong, AcceptFault}
use Rattle.ps_run.specs.Opening.{LeavesOpened, LeavesAll, Opens, ShowsBadRow}
use Rattle.ps_run.specs.Outside.{Outside, around, outside, no_input}
use Rattle.ps_run.specs.Rules.{Rules, rules_of}

-- a text was written whole, or a front of it
abbrev pub AddsAll : Option (List ℕ) → Option (List ℕ) → List ℕ → Type 0
AddsAll was now text = now ≡ option_map (λ held. held ++ text) was

abbrev pub AddsFront : Option (List ℕ) → Option (List ℕ) → List ℕ → Type 0
AddsFront was now text = (cut : ℕ) × AddsAll was now (take cut text)

module _ {W I O : Type 0} (r : Rules W) (report : Report) (was now : Outside I O) where
  -- this was done with the report's text on the world that the log meant, and nothing else was changed
  pub record Prints (P : List ℕ → Type 0) : Type 0 where
    -- a world, which is the one that the log meant when it was opened, as long as the log is known
    pub opening : W
    pub opens : IsTrue now.known → Opens r.mean was now opening
    -- the text of the report on it
    pub text : List ℕ
    pub is_report : r.IsReport report opening text
    pub prints : P text
    -- no input was taken, and the log was only read
    pub input : now.input ≡ was.input
    pub log : LeavesOpened was now

  -- by the status: why it ended so, and what was printed
  abbrev pub Reported : Status → Type 0
  Reported Done = Prints (AddsAll was.written now.written)
  Reported WriteFault = Rose was.write_faults now.write_faults × Prints (AddsFront was.written now.written)
  Reported StoreFault = Rose was.store_faults now.store_faults × LeavesAll was now
  Reported (BadRow seq) = ShowsBadRow r.mean r.IsBad was now seq × LeavesAll was now
  Reported OutOfMemory = LeavesAll was now
  Reported Usage = ⊥
  Reported ReadFault = ⊥
  Reported TooLong = ⊥
  Reported AcceptFault = ⊥

module _ {O : Type 0} (o : sink.Ghosts O) where
  -- by the status: what was written of a text
  abbrev pub WritesReport : List ℕ → O → O → Status → Type 0
  WritesReport text was now Done = AddsAll (o.holds was) (o.holds now) text
  WritesReport text was now WriteFault = Rose (o.faults was) (o.faults now) × AddsFront (o.holds was) (o.holds now) text
  WritesReport text was now OutOfMemory = now ≡ was
  WritesReport text was now StoreFault = ⊥
  WritesReport text was now (BadRow seq) = ⊥
  WritesReport text was now Usage = ⊥
  WritesReport text was now ReadFault = ⊥
  WritesReport text was now TooLong = ⊥
  WritesReport text was now AcceptFault = ⊥

module _ {M C E R O : Type 0} (m : machine.Ghosts M C E R) (p : protocol.Ghosts M C E R) (o : sink.Ghosts O) where
  -- a report on a keeper's log, and on the log under a path
  abbrev pub ReportsKeeper : {K : Type 0} → keeper.Ghosts K → Report → K → Ended K → O → O → Type 0
  ReportsKeeper k report it ended output output_now =
      Reported (rules_of m p) report (around no_input o k tt output it) (around no_input o k tt output_now ended.keeper) ended.status

  abbrev pub ReportsFile : {S K : Type 0} → cabinet.Ghosts S K → Report → List ℕ → O → O → S → S → Status → Type 0
  ReportsFile s report file output output_now it it_now status =
      Reported (rules_of m p) report (outside no_input o s file tt output it) (outside no_input o s file tt output_now it_now) status
