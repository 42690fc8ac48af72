-- From a report on a book to its keeper's log, and from there to the log under a path, by how it ended.
use Rattle.std.proofs.Common.{◌≡◌, ℕ, ◌+◌, ◌-◌, ◌^◌, ◌≤◌, min, List, Option, Some, None, refl}
use Rattle.std.specs.Prelude.{IfSome, IsSome, IsTrue, Bool}
use Rattle.ps_keeper.specs.Log.{Log}
use Rattle.ps_keeper.specs.Cause.{Rose}
use Rattle.ps_keeper.specs.declared.keeper.Keeper as keeper
use Rattle.ps_book.specs.declared.error.CallError.{CallError}
use Rattle.ps_book.specs.declared.error.CallError.TheVariants as call
use Rattle.ps_book.specs.declared.machine.Machine as machine
use Rattle.ps_edge.specs.declared.edge.Sink as sink
use Rattle.ps_run.specs.declared.protocol.Protocol as protocol
use Rattle.ps_run.specs.declared.protocol.Report.{Report}
use Rattle.ps_run.specs.declared.status.Status.{Status}
use Rattle.ps_run.specs.declared.status.Status.TheVariants.{Done, Usage, ReadFault, WriteFault, StoreFault, BadRow, OutOfMemory, TooLong, AcceptFault}
use Rattle.ps_run.specs.Opening.{BeganWith, LeavesOpened, LeavesLog, LeavesAll, Opens, ShowsBadRow}
use Rattle.ps_run.specs.Outside.{Outside, around, no_input}
use Rattle.ps_run.specs.Reports.{Prints, Reported, WritesReport}
use Rattle.ps_run.specs.Rules.{Rules, rules_of}
use Rattle.ps_run.specs.Statuses.{begin_status}
use Rattle.ps_run.proofs.Batching.{beside}

-- what was written of a machine's report, over the log that the machine was read from
module _ {M C E R O K : Type 0} (m : machine.Ghosts M C E R) (p : protocol.Ghosts M C E R) (o : sink.Ghosts O) (k : keeper.Ghosts K) (report : Report) (it it_now : K) (output output_now : O) where
  abbrev Was : Outside (Unit {0}) O
  Was = around no_input o k tt output it

  abbrev Now : Outside (Unit {0}) O
  Now = around no_input o k tt output_now it_now

  module _ (w : m.World) (opens : IsTrue (k.known it_now) → Opens (rules_of m p).mean Was Now w) (log : LeavesOpened Was Now) where
    written-reported : (one : M) → m.world one ≡ w → (s : Status) → WritesReport o (p.report_text report one) output output_now s → Reported (rules_of m p) report Was Now s
    written-reported one is Done written = record { opening = w; opens = opens; text = p.report_text report one; is_report = (one, is, refl); prints = written; input = refl; log = log }
    written-reported one is WriteFault written = (written.0, record { opening = w; opens = opens; text = p.report_text report one; is_report = (one, is, refl); prints = written.1; input = refl; log = log })
    written-reported one is OutOfMemory written = record { input = refl; output = written; log = log }
    written-reported one is StoreFault written = absurd written
    written-reported one is (BadRow seq) written = absurd written
    written-reported one is Usage written = written
    written-reported one is ReadFault written = written
    written-reported one is TooLong written = written
    written-reported one is AcceptFault written = written

    pub book-reported : (Q : Type 0) (held : Option M) → IsSome held → IfSome held (λ one. (m.world one ≡ w) × Q) → (s : Status) → IfSome held (λ one. WritesReport o (p.report_text report one) output output_now s) → Reported (rules_of m p) report Was Now s
    unfolding written-reported
    book-reported Q None some shown s written = absurd (cc)
    book-reported Q (Some one) some shown s written = written-reported one shown.0 s written

module _ {W I O : Type 0} (r : Rules W) (report : Report) (was now : Outside I O) where
  -- a book that couldn't be opened
  pub begin-reported : (e : CallError) → LeavesAll was now → (e ≡ call.StoreFault → Rose was.store_faults now.store_faults) → ((seq : ℕ) → e ≡ call.BadRow seq → ShowsBadRow r.mean r.IsBad was now seq) → Reported r report was now (begin_status e)
  begin-reported call.StoreFault same rose bad = (rose refl, same)
  begin-reported (call.BadRow seq) same rose bad = (bad seq refl, same)
  begin-reported call.OutOfMemory same rose bad = same

  -- a report on one log is one on another, which is known, began and stays as it did, and counts its faults
  module _ (e k k' : Bool) (log log' : Option Log) (leaves leaves' : Log → Type 0) (before after : ℕ)
      (count : (n : ℕ) → min (was.store_faults + n) (2 ^ 64 - 1) ≤ now.store_faults → min (before + n) (2 ^ 64 - 1) ≤ after)
      (known : IsTrue k' → IsTrue now.known)
      (began : IsTrue k' → (A : Log → Type 0) → BeganWith was now A → BeganWith (beside was e k log leaves before) (beside now e k' log' leaves' after) A)
      (leaves_opened : LeavesOpened was now → LeavesOpened (beside was e k log leaves before) (beside now e k' log' leaves' after))
      (leaves_log : LeavesLog was now → LeavesLog (beside was e k log leaves before) (beside now e k' log' leaves' after)) where
    leaves-moved : LeavesAll was now → LeavesAll (beside was e k log leaves before) (beside now e k' log' leaves' after)
    leaves-moved it = record { input = it.input; output = it.output; log = leaves_log it.log }

    prints-moved : (P : List ℕ → Type 0) → Prints r report was now P → Prints r report (beside was e k log leaves before) (beside now e k' log' leaves' after) P
    prints-moved P it = record {
      opening = it.opening;
      opens = λ t. began t (λ rows. r.mean rows ≡ Some it.opening) (it.opens (known t));
      text = it.text;
      is_report = it.is_report;
      prints = it.prints;
      input = it.input;
      log = leaves_opened it.log;
    }

    pub reported-moved : (s : Status) → Reported r report was now s → Reported r report (beside was e k log leaves before) (beside now e k' log' leaves' after) s
    unfolding leaves-moved prints-moved
    reported-moved Done it = prints-moved _ it
    reported-moved WriteFault it = (it.0, prints-moved _ it.1)
    reported-moved StoreFault it = (count 1 it.0, leaves-moved it.1)
    reported-moved (BadRow seq) it = (λ t. began t (λ rows. r.IsBad rows seq × (r.mean rows ≡ None)) (it.0 (known t)), leaves-moved it.1)
    reported-moved OutOfMemory it = leaves-moved it
    reported-moved Usage it = it
    reported-moved ReadFault it = it
    reported-moved TooLong it = it
    reported-moved AcceptFault it = it

-- a report is the same beside an input, of which it reads nothing, and by rules that print what these print
module _ {W I O : Type 0} (r : Rules W) (report : Report) (was now : Outside (Unit {0}) O) (IsReport : Report → W → List ℕ → Type 0) (same : (w : W) (text : List ℕ) → r.IsReport report w text → IsReport report w text)
    (input : I) (left : Option (List ℕ)) (faults : ℕ) where
  abbrev With : Outside (Unit {0}) O → Outside I O
  With it = record {
    input = input;
    output = it.output;
    left = left;
    read_faults = faults;
    written = it.written;
    write_faults = it.write_faults;
    begins_empty = it.begins_empty;
    known = it.known;
    log = it.log;
    may_leave = it.may_leave;
    store_faults = it.store_faults;
  }

  abbrev By : Rules W
  By = record r { IsReport = IsReport }

  leaves-with : LeavesAll was now → LeavesAll (With was) (With now)
  leaves-with it = record { input = refl; output = it.output; log = it.log }

  prints-with : (P : List ℕ → Type 0) → Prints r report was now P → Prints By report (With was) (With now) P
  prints-with P it = record {
    opening = it.opening;
    opens = it.opens;
    text = it.text;
    is_report = same it.opening it.text it.is_report;
    prints = it.prints;
    input = refl;
    log = it.log;
  }

  pub reported-with : (s : Status) → Reported r report was now s → Reported By report (With was) (With now) s
  unfolding leaves-with prints-with
  reported-with Done it = prints-with _ it
  reported-with WriteFault it = (it.0, prints-with _ it.1)
  reported-with StoreFault it = (it.0, leaves-with it.1)
  reported-with (BadRow seq) it = (it.0, leaves-with it.1)
  reported-with OutOfMemory it = leaves-with it
  reported-with Usage it = it
  reported-with ReadFault it = it
  reported-with TooLong it = it
  reported-with AcceptFault it = it
