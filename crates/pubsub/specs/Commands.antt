-- What the commands of the command line do to the outside.
use Rattle.std.specs.Prelude.{ℕ, List, String}
use Rattle.std.specs.declared.alloc.Global.{Global}
use Rattle.ps_edge.specs.declared.edge.Source as source
use Rattle.ps_edge.specs.declared.edge.Sink as sink
use Rattle.ps_edge.specs.declared.cabinet.Cabinet as cabinet
use Rattle.ps_run.specs.Batches.{Batched}
use Rattle.ps_run.specs.Completing.{NothingFailed, NoReportFailed}
use Rattle.ps_run.specs.Outside.{outside}
use Rattle.ps_run.specs.Reports.{Reported}
use Rattle.ps_run.specs.Statuses.{status_text, EndsWith, EndsWell, Writes}
use Rattle.ps_run.specs.declared.status.Status.{Status}
use Rattle.pubsub.specs.Service.{service}
use Rattle.pubsub.specs.Words.{OnBatch, OnReport}

-- the status was told, and the table holds of it
abbrev pub Tells : {E : Type 0} → sink.Ghosts E → E → E → ℕ → (Status → Type 0) → Type 0
Tells e faults faults_now code Table = EndsWith code (λ status. Writes e faults faults_now (status_text status) × Table status)

module _ {I O E S K : Type 0} (i : source.Ghosts I) (o : sink.Ghosts O) (e : sink.Ghosts E) (s : cabinet.Ghosts S K) (words : List (String Global))
    (input input_now : I) (output output_now : O) (faults faults_now : E) (it it_now : S) (code : ℕ) where
  -- with the words `batch FILE`
  abbrev pub Batches : Type 0
  Batches = OnBatch words (λ file. Tells e faults faults_now code
      (Batched service (outside i o s file input output it) (outside i o s file input_now output_now it_now)))

  -- with the words `check FILE` or `stat FILE`
  abbrev pub Reports : Type 0
  Reports = OnReport words (λ report file. Tells e faults faults_now code
      (Reported service report (outside i o s file input output it) (outside i o s file input_now output_now it_now)))

module _ {I O S K : Type 0} (i : source.Ghosts I) (o : sink.Ghosts O) (s : cabinet.Ghosts S K) (words : List (String Global))
    (input input_now : I) (output output_now : O) (it it_now : S) (code : ℕ) where
  -- a batch of which nothing failed ends well, and so does a report
  abbrev pub CompletesBatch : Type 0
  CompletesBatch = OnBatch words (λ file.
      NothingFailed service (outside i o s file input output it) (outside i o s file input_now output_now it_now) → EndsWell code)

  abbrev pub CompletesReport : Type 0
  CompletesReport = OnReport words (λ report file.
      NoReportFailed service (outside i o s file input output it) (outside i o s file input_now output_now it_now) → EndsWell code)
