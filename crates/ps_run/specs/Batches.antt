-- What `batch FILE` does to the outside, by how it ends.
use Rattle.std.specs.Prelude.{◌⊎◌, List, ℕ, Option, IsTrue}
use Rattle.ps_keeper.specs.Cause.{Rose}
use Rattle.ps_keeper.specs.declared.keeper.Keeper as keeper
use Rattle.ps_book.specs.declared.machine.Machine as machine
use Rattle.ps_book.specs.Holding.{LogMeans}
use Rattle.ps_edge.specs.declared.edge.Source as source
use Rattle.ps_edge.specs.declared.edge.Sink as sink
use Rattle.ps_edge.specs.declared.cabinet.Cabinet as cabinet
use Rattle.ps_run.specs.declared.protocol.Protocol as protocol
use Rattle.ps_run.specs.declared.status.Ended.{Ended}
use Rattle.ps_run.specs.declared.status.Status.{Status}
use Rattle.ps_run.specs.declared.status.Status.TheVariants.{Done, Usage, ReadFault, WriteFault, StoreFault, BadRow, OutOfMemory, TooLong, AcceptFault}
use Rattle.ps_run.specs.Answering.{AnswersAll, AnswersWhatEnded, AnswersToLimit, AnswersCut}
use Rattle.ps_run.specs.Opening.{LeavesAll, FromOpening, Opens, ShowsBadRow, HadTooMuch}
use Rattle.ps_run.specs.Outside.{Outside, around, outside}
use Rattle.ps_run.specs.Rules.{Rules, rules_of}

module _ {W I O : Type 0} (r : Rules W) (was now : Outside I O) where
  -- the log, and each log that a crash may leave, means this world, or maybe the one with one more entry
  abbrev pub Means : W → Option W → Type 0
  Means w more = LogMeans r.mean w more now.log now.may_leave

  -- as long as the log is known: from the world that it meant when it was opened, these lines were answered
  abbrev pub Over : (Rules W → (W → Option W → Type 0) → Outside I O → Outside I O → W × Option W → Type 0) → Type 0
  Over Answers = IsTrue now.known → FromOpening (Opens r.mean was now) (Answers r Means was now)

  -- by the status: why it ended so, and what was done
  abbrev pub Batched : Status → Type 0
  Batched Done = Over AnswersAll
  Batched ReadFault = Rose was.read_faults now.read_faults × Over AnswersWhatEnded
  Batched WriteFault = Rose was.write_faults now.write_faults × Over AnswersCut
  Batched StoreFault = Rose was.store_faults now.store_faults × LeavesAll was now
  Batched (BadRow seq) = ShowsBadRow r.mean r.IsBad was now seq × LeavesAll was now
  Batched OutOfMemory = LeavesAll was now ⊎ Over AnswersCut
  Batched TooLong = HadTooMuch was × Over AnswersToLimit
  Batched Usage = ⊥
  Batched AcceptFault = ⊥

module _ {M C E R I O : Type 0} (m : machine.Ghosts M C E R) (p : protocol.Ghosts M C E R) (i : source.Ghosts I) (o : sink.Ghosts O) where
  -- the same over a keeper's log, and over the log under a path
  abbrev pub BatchesKeeper : {K : Type 0} → keeper.Ghosts K → K → Ended K → I → I → O → O → Type 0
  BatchesKeeper k it ended input input_now output output_now =
      Batched (rules_of m p) (around i o k input output it) (around i o k input_now output_now ended.keeper) ended.status

  abbrev pub BatchesFile : {S K : Type 0} → cabinet.Ghosts S K → List ℕ → I → I → O → O → S → S → Status → Type 0
  BatchesFile s file input input_now output output_now it it_now status =
      Batched (rules_of m p) (outside i o s file input output it) (outside i o s file input_now output_now it_now) status
