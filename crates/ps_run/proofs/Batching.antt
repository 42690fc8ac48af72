-- From a run over a book to its keeper's log, and from there to the log under a path, by how it ended.
use Rattle.std.proofs.Common.{◌≡◌, inl, inr, ℕ, ◌+◌, ◌-◌, ◌^◌, ◌≤◌, min, List, [], length, Option, Some, None, refl}
use Rattle.std.specs.Prelude.{IfSome, IsTrue, Bool}
use Rattle.ps_keeper.specs.Log.{Log}
use Rattle.ps_keeper.specs.Cause.{Rose}
use Rattle.ps_book.specs.declared.error.CallError.{CallError}
use Rattle.ps_book.specs.declared.error.CallError.TheVariants as call
use Rattle.ps_run.specs.declared.status.Status.{Status}
use Rattle.ps_run.specs.declared.status.Status.TheVariants.{Done, Usage, ReadFault, WriteFault, StoreFault, BadRow, OutOfMemory, TooLong, AcceptFault}
use Rattle.ps_run.specs.Batches.{Means, Batched}
use Rattle.ps_run.specs.Fates.{Fate}
use Rattle.ps_run.specs.Lines.{lines_of, feeds}
use Rattle.ps_run.specs.Opening.{BeganWith, LeavesLog, LeavesAll, FromOpening, Opens, ShowsBadRow}
use Rattle.ps_run.specs.Outside.{Outside}
use Rattle.ps_run.specs.Rules.{Rules}
use Rattle.ps_run.specs.Runs.{Ran}
use Rattle.ps_run.specs.Serving.{AnswersSome, AnswersAllOf, ReadsFront, ReadsFrontOf}
use Rattle.ps_run.specs.Statuses.{begin_status}

-- the same lines were answered, where what holds afterwards is weaker, and the count of faults is another
module _ {W : Type 0} (text : W × Option W → Fate → List ℕ → List ℕ) (step : W × Option W → Fate → List ℕ → W × Option W) (P Q : W → Option W → Type 0) (weaker : (w : W) (more : Option W) → P w more → Q w more) (a b a' b' : ℕ) (count : (n : ℕ) → min (a + n) (2 ^ 64 - 1) ≤ b → min (a' + n) (2 ^ 64 - 1) ≤ b') where
  some-moved : (s : W × Option W) (bytes : List ℕ) (was now : Option (List ℕ)) → AnswersSome text step P s bytes was now a b → AnswersSome text step Q s bytes was now a' b'
  some-moved s bytes was now it = record {
    fates = it.fates;
    within = it.within;
    state = it.state;
    reached = it.reached;
    holds = weaker it.state.0 it.state.1 it.holds;
    cut = it.cut;
    output = it.output;
    causes = count _ it.causes;
    no_bad_row = it.no_bad_row;
  }

  lines-moved : (s : W × Option W) (bytes : List ℕ) (was now : Option (List ℕ)) (lines : ℕ) → AnswersAllOf text step P s bytes was now a b lines → AnswersAllOf text step Q s bytes was now a' b' lines
  unfolding some-moved
  lines-moved s bytes was now lines it = record { serves = some-moved s bytes was now it.serves; each = it.each; whole = it.whole }

  pub all-moved : (s : W × Option W) (left left_now was now : Option (List ℕ)) → IfSome left (λ bytes. (left_now ≡ Some []) × AnswersAllOf text step P s bytes was now a b (length (lines_of bytes))) → IfSome left (λ bytes. (left_now ≡ Some []) × AnswersAllOf text step Q s bytes was now a' b' (length (lines_of bytes)))
  all-moved s None left_now was now it = tt
  all-moved s (Some bytes) left_now was now it = (it.0, lines-moved s bytes was now _ it.1)

  pub ended-moved : (s : W × Option W) (left left_now was now : Option (List ℕ)) → IfSome left (λ bytes. ReadsFront bytes left_now (λ part. AnswersAllOf text step P s part was now a b (feeds part))) → IfSome left (λ bytes. ReadsFront bytes left_now (λ part. AnswersAllOf text step Q s part was now a' b' (feeds part)))
  ended-moved s None left_now was now it = tt
  ended-moved s (Some bytes) left_now was now it = (it.0, record { within = it.1.within; left_is = it.1.left_is; part = lines-moved s _ was now _ it.1.part })

  pub limit-moved : (n : ℕ) (s : W × Option W) (left left_now was now : Option (List ℕ)) → IfSome left (λ bytes. ReadsFrontOf n bytes left_now (λ part. AnswersAllOf text step P s part was now a b (feeds part))) → IfSome left (λ bytes. ReadsFrontOf n bytes left_now (λ part. AnswersAllOf text step Q s part was now a' b' (feeds part)))
  limit-moved n s None left_now was now it = tt
  limit-moved n s (Some bytes) left_now was now it = record { within = it.within; left_is = it.left_is; part = lines-moved s _ was now _ it.part }

  pub cut-moved : (s : W × Option W) (left left_now was now : Option (List ℕ)) → IfSome left (λ bytes. ReadsFront bytes left_now (λ part. AnswersSome text step P s part was now a b)) → IfSome left (λ bytes. ReadsFront bytes left_now (λ part. AnswersSome text step Q s part was now a' b'))
  cut-moved s None left_now was now it = tt
  cut-moved s (Some bytes) left_now was now it = (it.0, record { within = it.1.within; left_is = it.1.left_is; part = some-moved s _ was now it.1.part })

-- another log beside the same streams
abbrev pub beside : {I O : Type 0} → Outside I O → Bool → Bool → Option Log → (Log → Type 0) → ℕ → Outside I O
beside it begins_empty known log may_leave faults = record it { begins_empty = begins_empty; known = known; log = log; may_leave = may_leave; store_faults = faults }

module _ {W I O : Type 0} (r : Rules W) (was now : Outside I O)
    (e k k' : Bool) (log log' : Option Log) (leaves leaves' : Log → Type 0) (before after : ℕ)
    (count : (n : ℕ) → min (was.store_faults + n) (2 ^ 64 - 1) ≤ now.store_faults → min (before + n) (2 ^ 64 - 1) ≤ after) where
  abbrev Was : Outside I O
  Was = beside was e k log leaves before

  abbrev Now : Outside I O
  Now = beside now e k' log' leaves' after

  -- a run over a book is one over the log that the book was opened on
  module _ (From : (W × Option W → Type 0) → Type 0) (P : W → Option W → Type 0)
      (opening : IsTrue k' → (A : W × Option W → Type 0) → From A → FromOpening (Opens r.mean Was Now) A)
      (means : IsTrue k' → (w : W) (more : Option W) → P w more → Means r Was Now w more) where
    pub run-batched : (s : Status) → Ran r From P was now s → Batched r Was Now s
    run-batched Done it = λ t. let run = opening t _ it in
        record { opening = run.opening; opens = run.opens; runs = all-moved r.text r.step P _ (means t) _ _ _ _ count _ _ _ _ _ run.runs }
    run-batched ReadFault it = (
      it.0,
      λ t. let run = opening t _ it.1 in
          record { opening = run.opening; opens = run.opens; runs = ended-moved r.text r.step P _ (means t) _ _ _ _ count _ _ _ _ _ run.runs },
    )
    run-batched WriteFault it = (
      it.0,
      λ t. let run = opening t _ it.1 in
          record { opening = run.opening; opens = run.opens; runs = cut-moved r.text r.step P _ (means t) _ _ _ _ count _ _ _ _ _ run.runs },
    )
    run-batched OutOfMemory it = inr (λ t. let run = opening t _ it in
        record { opening = run.opening; opens = run.opens; runs = cut-moved r.text r.step P _ (means t) _ _ _ _ count _ _ _ _ _ run.runs })
    run-batched TooLong it = (
      it.0,
      λ t. let run = opening t _ it.1 in
          record { opening = run.opening; opens = run.opens; runs = limit-moved r.text r.step P _ (means t) _ _ _ _ count (2 ^ 60) _ _ _ _ _ run.runs },
    )
    run-batched Usage it = it
    run-batched AcceptFault it = it
    run-batched StoreFault it = absurd it
    run-batched (BadRow seq) it = absurd it

  -- a run over one log is one over another, which is known, began and means as it did, and counts its faults
  module _ (known : IsTrue k' → IsTrue now.known)
      (began : IsTrue k' → (A : Log → Type 0) → BeganWith was now A → BeganWith Was Now A)
      (means : IsTrue k' → (w : W) (more : Option W) → Means r was now w more → Means r Was Now w more)
      (leaves_log : LeavesLog was now → LeavesLog Was Now) where
    pub leaves-moved : LeavesAll was now → LeavesAll Was Now
    leaves-moved it = record { input = it.input; output = it.output; log = leaves_log it.log }

    pub batched-moved : (s : Status) → Batched r was now s → Batched r Was Now s
    unfolding leaves-moved
    batched-moved Done it = λ t. let run = it (known t) in
        record { opening = run.opening; opens = began t (λ rows. r.mean rows ≡ Some run.opening) run.opens; runs = all-moved r.text r.step _ _ (means t) _ _ _ _ count _ _ _ _ _ run.runs }
    batched-moved ReadFault it = (
      it.0,
      λ t. let run = it.1 (known t) in
          record { opening = run.opening; opens = began t (λ rows. r.mean rows ≡ Some run.opening) run.opens; runs = ended-moved r.text r.step _ _ (means t) _ _ _ _ count _ _ _ _ _ run.runs },
    )
    batched-moved WriteFault it = (
      it.0,
      λ t. let run = it.1 (known t) in
          record { opening = run.opening; opens = began t (λ rows. r.mean rows ≡ Some run.opening) run.opens; runs = cut-moved r.text r.step _ _ (means t) _ _ _ _ count _ _ _ _ _ run.runs },
    )
    batched-moved StoreFault it = (count 1 it.0, leaves-moved it.1)
    batched-moved (BadRow seq) it = (λ t. began t (λ rows. r.IsBad rows seq × (r.mean rows ≡ None)) (it.0 (known t)), leaves-moved it.1)
    batched-moved OutOfMemory it = elim it [
      | inl same ↦ inl (leaves-moved same)
      | inr cut ↦ inr (λ t. let run = cut (known t) in
          record { opening = run.opening; opens = began t (λ rows. r.mean rows ≡ Some run.opening) run.opens; runs = cut-moved r.text r.step _ _ (means t) _ _ _ _ count _ _ _ _ _ run.runs })
    ]
    batched-moved TooLong it = (
      it.0,
      λ t. let run = it.1 (known t) in
          record { opening = run.opening; opens = began t (λ rows. r.mean rows ≡ Some run.opening) run.opens; runs = limit-moved r.text r.step _ _ (means t) _ _ _ _ count (2 ^ 60) _ _ _ _ _ run.runs },
    )
    batched-moved Usage it = it
    batched-moved AcceptFault it = it

-- a book that couldn't be opened
module _ {W I O : Type 0} (r : Rules W) (was now : Outside I O) where
  pub begin-batched : (e : CallError) → LeavesAll was now → (e ≡ call.StoreFault → Rose was.store_faults now.store_faults) → ((seq : ℕ) → e ≡ call.BadRow seq → ShowsBadRow r.mean r.IsBad was now seq) → Batched r was now (begin_status e)
  begin-batched call.StoreFault same rose bad = (rose refl, same)
  begin-batched (call.BadRow seq) same rose bad = (bad seq refl, same)
  begin-batched call.OutOfMemory same rose bad = inl same
