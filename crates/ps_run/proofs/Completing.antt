-- What follows from the tables, by the status.
use Rattle.std.proofs.Common.{◌≡◌, ◌⊎◌, ◌<◌, ◌≤◌, ◌^◌, inl, inr, ℕ, List, [], length, Option, Some, None, Bool, true, false, refl, arith}
use Rattle.std.specs.Prelude.{IfSome, IsSomeAnd, IsTrue, MatchBool, is_some}
use Rattle.ps_keeper.specs.Log.{Log}
use Rattle.ps_run.specs.declared.protocol.Report.{Report}
use Rattle.ps_run.specs.declared.status.Status.{Status}
use Rattle.ps_run.specs.declared.status.Status.TheVariants.{Done, Usage, ReadFault, WriteFault, StoreFault, BadRow, OutOfMemory, TooLong, AcceptFault}
use Rattle.ps_run.specs.Batches.{Batched}
use Rattle.ps_run.specs.Completing.{NothingFailed, NoReportFailed}
use Rattle.ps_run.specs.Outside.{Outside}
use Rattle.ps_run.specs.Reports.{Reported}
use Rattle.ps_run.specs.Rules.{Rules}
use Rattle.ps_run.specs.Statuses.{code_of, EndsWell, IsUnopened}

-- no log was opened: the streams are as they were
opened : (code : ℕ) → code ≡ 0 ⊎ (3 ≤ code × code ≤ 4) ⊎ 7 ≤ code → IsUnopened code → ⊥
opened code (inl a) (inl x) = omega (arith, a, x)
opened code (inl a) (inr (inl x)) = omega (arith, a, x)
opened code (inl a) (inr (inr x)) = omega (arith, a, x)
opened code (inr (inl a)) (inl x) = omega (arith, a.0, x)
opened code (inr (inl a)) (inr (inl x)) = omega (arith, a.1, x)
opened code (inr (inl a)) (inr (inr x)) = omega (arith, a.1, x)
opened code (inr (inr a)) (inl x) = omega (arith, a, x)
opened code (inr (inr a)) (inr (inl x)) = omega (arith, a, x)
opened code (inr (inr a)) (inr (inr x)) = omega (arith, a, x)

module _ {W I O : Type 0} (r : Rules W) (was now : Outside I O) where
  abbrev SameStreams : Type 0
  SameStreams = (now.input ≡ was.input) × (now.output ≡ was.output)

  pub batch-unopened : (s : Status) → IsUnopened (code_of s) → Batched r was now s → SameStreams
  batch-unopened Done is it = absurd (opened 0 (inl refl) is)
  batch-unopened ReadFault is it = absurd (opened 3 (inr (inl (omega arith, omega arith))) is)
  batch-unopened WriteFault is it = absurd (opened 4 (inr (inl (omega arith, omega arith))) is)
  batch-unopened StoreFault is it = (it.1.input, it.1.output)
  batch-unopened (BadRow seq) is it = (it.1.input, it.1.output)
  batch-unopened OutOfMemory is it = absurd (opened 7 (inr (inr (omega arith))) is)
  batch-unopened TooLong is it = absurd (opened 8 (inr (inr (omega arith))) is)
  batch-unopened Usage is it = absurd it
  batch-unopened AcceptFault is it = absurd it

  pub report-unopened : (report : Report) (s : Status) → IsUnopened (code_of s) → Reported r report was now s → SameStreams
  report-unopened report Done is it = absurd (opened 0 (inl refl) is)
  report-unopened report WriteFault is it = absurd (opened 4 (inr (inl (omega arith, omega arith))) is)
  report-unopened report StoreFault is it = (it.1.input, it.1.output)
  report-unopened report (BadRow seq) is it = (it.1.input, it.1.output)
  report-unopened report OutOfMemory is it = absurd (opened 7 (inr (inr (omega arith))) is)
  report-unopened report ReadFault is it = absurd it
  report-unopened report TooLong is it = absurd it
  report-unopened report Usage is it = absurd it
  report-unopened report AcceptFault is it = absurd it

  -- a log that means something has no bad row
  apart : (o : Option W) → IsTrue (is_some o) → o ≡ None → ⊥
  apart None means none = cc
  apart (Some w) means none = cc

  both : (o : Option Log) (seq : ℕ) → IsSomeAnd o (λ rows. IsTrue (is_some (r.mean rows))) → IsSomeAnd o (λ rows. r.IsBad rows seq × (r.mean rows ≡ None)) → ⊥
  both None seq means is = means
  both (Some rows) seq means is = apart (r.mean rows) means is.1

  no-bad-row : (empty known : Bool) (log : Option Log) (seq : ℕ) → MatchBool empty (IsTrue (is_some (r.mean []))) (IsTrue known × IsSomeAnd log (λ rows. IsTrue (is_some (r.mean rows))))
      → MatchBool empty (r.IsBad [] seq × (r.mean [] ≡ None)) (IsTrue known → IsSomeAnd log (λ rows. r.IsBad rows seq × (r.mean rows ≡ None))) → ⊥
  no-bad-row true known log seq means is = apart (r.mean []) means is.1
  no-bad-row false known log seq means is = both log seq means.1 (is means.0)

  too_much : (left : Option (List ℕ)) → IsSomeAnd left (λ bytes. length bytes < 2 ^ 60) → IfSome left (λ bytes. 2 ^ 60 ≤ length bytes) → ⊥
  too_much None short long = short
  too_much (Some bytes) short long = omega (arith, short, long)

  pub batch-completes : (s : Status) → Batched r was now s → NothingFailed r was now → EndsWell (code_of s)
  batch-completes Done it none = inl refl
  batch-completes ReadFault it none = absurd (none.reads it.0)
  batch-completes WriteFault it none = absurd (none.others.writes it.0)
  batch-completes StoreFault it none = absurd (none.others.stores it.0)
  batch-completes (BadRow seq) it none = absurd (no-bad-row was.begins_empty was.known was.log seq none.others.means (it.0 none.others.known))
  batch-completes OutOfMemory it none = inr refl
  batch-completes TooLong it none = absurd (too_much was.left none.short it.0)
  batch-completes Usage it none = absurd it
  batch-completes AcceptFault it none = absurd it

  pub report-completes : (report : Report) (s : Status) → Reported r report was now s → NoReportFailed r was now → EndsWell (code_of s)
  report-completes report Done it none = inl refl
  report-completes report WriteFault it none = absurd (none.writes it.0)
  report-completes report StoreFault it none = absurd (none.stores it.0)
  report-completes report (BadRow seq) it none = absurd (no-bad-row was.begins_empty was.known was.log seq none.means (it.0 none.known))
  report-completes report OutOfMemory it none = inr refl
  report-completes report ReadFault it none = absurd it
  report-completes report TooLong it none = absurd it
  report-completes report Usage it none = absurd it
  report-completes report AcceptFault it none = absurd it
