-- A run over what an input has left to read.
use Rattle.std.proofs.Common.{◌≡◌, ◌≤◌, ℕ, ◌+◌, ◌-◌, length, length-drop, take, drop, List, [], ◌++◌, Option, Some, None, refl, sym, ap, ◌∙◌, subst, arith}
use Rattle.std.proofs.lemmas.List.{append-nil, drop-drop, take-append-drop}
use Rattle.std.proofs.Math.Seq.{take-add}
use Rattle.std.specs.Prelude.{IfSome}
use Rattle.ps_edge.specs.declared.edge.Got.TheVariants.{Bytes, End}
use Rattle.ps_run.specs.declared.pending.Pending.{Pending}
use Rattle.ps_edge.specs.Edge.{Takes}
use Rattle.ps_run.specs.Fates.{Fate}
use Rattle.ps_run.specs.Lines.{lines_of, feeds}
use Rattle.ps_run.specs.Pending.{IsPending}
use Rattle.ps_run.specs.Leading.{LeadsOnWith, IsUnended}
use Rattle.ps_run.specs.Serving.{AnswersSome, AnswersAllOf, ReadsFrontOf, ReadsFront}
use Rattle.ps_run.proofs.Runs.{reaches_none, reaches_on, reaches_whole, serves_none, serves_on, whole_on}

-- so many bytes were taken from what was left to read
abbrev pub Moved : Option (List ℕ) → Option (List ℕ) → ℕ → Type 0
Moved left now k = IfSome left (λ bytes. (k ≤ length bytes) × (now ≡ Some (drop k bytes)))

pub moved_none : (left : Option (List ℕ)) → Moved left left 0
moved_none None = tt
moved_none (Some bytes) = (omega arith, refl)

-- all bytes up to a limit were taken
pub had_all : (left now : Option (List ℕ)) (k most : ℕ) → k ≡ most → Moved left now k → IfSome left (λ bytes. most ≤ length bytes)
had_all None now k most full moved = tt
had_all (Some bytes) now k most full moved = omega (arith, full, moved.0)

-- what one read takes, of bytes that are known
taken_at : (mid now : Option (List ℕ)) (room rest : List ℕ) (n : ℕ) → mid ≡ Some rest → Takes mid now room (Bytes n) → (n ≤ length rest) × (now ≡ Some (drop n rest)) × (take n room ≡ take n rest)
taken_at mid now room rest n is takes = subst (λ (o : Option (List ℕ)). IfSome o (λ bytes. (n ≤ length bytes) × (now ≡ Some (drop n bytes)) × (take n room ≡ take n bytes))) is takes.2

pub moved_on : (left mid now : Option (List ℕ)) (room : List ℕ) (k n : ℕ) → Moved left mid k → Takes mid now room (Bytes n) → Moved left now (k + n)
moved_on None mid now room k n moved takes = tt
moved_on (Some bytes) mid now room k n moved takes =
    let there = taken_at mid now room (drop k bytes) n moved.1 takes in
    let first : k ≤ length bytes = moved.0 in
    let second : n ≤ length (drop k bytes) = there.0 in
    let rest : length (drop k bytes) ≡ length bytes - k = length-drop k bytes in
    (omega arith, there.1 ∙ ap (λ (l : List ℕ). Some l) (drop-drop n k bytes))

-- the piece of one read is the next part of the input
piece_is : (bytes room : List ℕ) (k n : ℕ) → take n room ≡ take n (drop k bytes) → take k bytes ++ take n room ≡ take (k + n) bytes
piece_is bytes room k n same = ap (λ (l : List ℕ). take k bytes ++ l) same ∙ sym (take-add k n bytes)

module _ {W : Type 0} (text : W × Option W → Fate → List ℕ → List ℕ) (step : W × Option W → Fate → List ℕ → W × Option W) (stands : W → Option W → Type 0) where
  pub begins_none : (s : W × Option W) (left : Option (List ℕ)) (pending : Pending) (held : Option (List ℕ)) (before now : ℕ) → IsPending [] pending → before ≤ now → stands s.0 s.1 → IfSome left (λ bytes. LeadsOnWith text step stands s (take 0 bytes) pending held held before now)
  begins_none s None pending held before now pends later holds = tt
  begins_none s (Some bytes) pending held before now pends later holds = reaches_none text step stands s [] [] pending held before now refl (record { pends = pends; unended = tt }) later holds

  -- one read after another
  pub goes_over : (middle : W → Option W → Type 0) (s : W × Option W) (left mid_left now_left : Option (List ℕ)) (room piece : List ℕ) (k n : ℕ) (mid_pending pending : Pending) (was mid out : Option (List ℕ)) (before during now : ℕ)
      → piece ≡ take n room → Moved left mid_left k → Takes mid_left now_left room (Bytes n)
      → IfSome left (λ bytes. LeadsOnWith text step middle s (take k bytes) mid_pending was mid before during)
      → ((v : W) (m : Option W) → middle v m → (over : List ℕ) → IsUnended over mid_pending → LeadsOnWith text step stands (v, m) (over ++ piece) pending mid out during now)
      → IfSome left (λ bytes. LeadsOnWith text step stands s (take (k + n) bytes) pending was out before now)
  goes_over middle s None mid_left now_left room piece k n mid_pending pending was mid out before during now read moved takes one two = tt
  goes_over middle s (Some bytes) mid_left now_left room piece k n mid_pending pending was mid out before during now read moved takes one two =
      let there = taken_at mid_left now_left room (drop k bytes) n moved.1 takes in
      subst (λ (l : List ℕ). LeadsOnWith text step stands s l pending was out before now) (ap (λ (l : List ℕ). take k bytes ++ l) read ∙ piece_is bytes room k n there.2)
      (reaches_on text step stands middle s (take k bytes) piece mid_pending pending was mid out before during now one two)

  -- a run that stops in the middle of a piece
  pub goes_stopped : (middle : W → Option W → Type 0) (s : W × Option W) (left mid_left now_left : Option (List ℕ)) (room piece : List ℕ) (k n : ℕ) (pending : Pending) (was mid out : Option (List ℕ)) (before during now : ℕ)
      → piece ≡ take n room → Moved left mid_left k → Takes mid_left now_left room (Bytes n)
      → IfSome left (λ bytes. LeadsOnWith text step middle s (take k bytes) pending was mid before during)
      → ((v : W) (m : Option W) → middle v m → (over : List ℕ) → IsUnended over pending → (rest : List ℕ) → AnswersSome text step stands (v, m) (over ++ (piece ++ rest)) mid out during now)
      → IfSome left (λ bytes. ReadsFront bytes now_left (λ part. AnswersSome text step stands s part was out before now))
  goes_stopped middle s None mid_left now_left room piece k n pending was mid out before during now read moved takes one two = tt
  goes_stopped middle s (Some bytes) mid_left now_left room piece k n pending was mid out before during now read moved takes one two =
      let there = taken_at mid_left now_left room (drop k bytes) n moved.1 takes in
      let both = moved_on (Some bytes) mid_left now_left room k n moved takes in
      let joint : take k bytes ++ (piece ++ []) ≡ take (k + n) bytes = ap (λ (l : List ℕ). take k bytes ++ l) (append-nil piece ∙ read) ∙ piece_is bytes room k n there.2 in (
        k + n,
        record {
          within = both.0;
          left_is = both.1;
          part = subst (λ (l : List ℕ). AnswersSome text step stands s l was out before now) joint
              (serves_on text step stands middle s (take k bytes) (piece ++ []) pending was mid out before during now one (λ v m holds over unended. two v m holds over unended []));
        },
      )

  -- the end of the input
  rest_is : (mid now : Option (List ℕ)) (room rest : List ℕ) → mid ≡ Some rest → Takes mid now room End → rest ≡ []
  rest_is mid now room rest is takes = subst (λ (o : Option (List ℕ)). IfSome o (λ bytes. bytes ≡ [])) is takes.1

  all_is : (k : ℕ) (bytes : List ℕ) → drop k bytes ≡ [] → take k bytes ≡ bytes
  all_is k bytes none = sym (append-nil (take k bytes)) ∙ sym (ap (λ (l : List ℕ). take k bytes ++ l) none) ∙ take-append-drop k bytes

  pub goes_done : (middle : W → Option W → Type 0) (s : W × Option W) (left mid_left now_left : Option (List ℕ)) (room : List ℕ) (k : ℕ) (pending : Pending) (was mid out : Option (List ℕ)) (before during now : ℕ)
      → Moved left mid_left k → Takes mid_left now_left room End
      → IfSome left (λ bytes. LeadsOnWith text step middle s (take k bytes) pending was mid before during)
      → ((v : W) (m : Option W) → middle v m → (over : List ℕ) → IsUnended over pending → AnswersAllOf text step stands (v, m) over mid out during now (length (lines_of over)))
      → IfSome left (λ bytes. (now_left ≡ Some []) × AnswersAllOf text step stands s bytes was out before now (length (lines_of bytes)))
  goes_done middle s None mid_left now_left room k pending was mid out before during now moved takes one two = tt
  goes_done middle s (Some bytes) mid_left now_left room k pending was mid out before during now moved takes one two =
      let none : drop k bytes ≡ [] = rest_is mid_left now_left room (drop k bytes) moved.1 takes in
      let all : take k bytes ≡ bytes = all_is k bytes none in (
        takes.0 ∙ moved.1 ∙ ap (λ (l : List ℕ). Some l) none,
        whole_on text step stands middle s bytes pending was mid out before during now (subst (λ (l : List ℕ). LeadsOnWith text step middle s l pending was mid before during) all one) two,
      )

  -- the end of the input, where the last line isn't written whole
  pub goes_unended : (middle : W → Option W → Type 0) (s : W × Option W) (left mid_left now_left : Option (List ℕ)) (room : List ℕ) (k : ℕ) (pending : Pending) (was mid out : Option (List ℕ)) (before during now : ℕ)
      → Moved left mid_left k → Takes mid_left now_left room End
      → IfSome left (λ bytes. LeadsOnWith text step middle s (take k bytes) pending was mid before during)
      → ((v : W) (m : Option W) → middle v m → (over : List ℕ) → IsUnended over pending → AnswersSome text step stands (v, m) over mid out during now)
      → IfSome left (λ bytes. ReadsFront bytes now_left (λ part. AnswersSome text step stands s part was out before now))
  goes_unended middle s None mid_left now_left room k pending was mid out before during now moved takes one two = tt
  goes_unended middle s (Some bytes) mid_left now_left room k pending was mid out before during now moved takes one two = (
    k,
    record {
      within = moved.0;
      left_is = takes.0 ∙ moved.1;
      part = subst (λ (l : List ℕ). AnswersSome text step stands s l was out before now) (append-nil (take k bytes))
          (serves_on text step stands middle s (take k bytes) [] pending was mid out before during now one
          (λ v m holds over unended. subst (λ (l : List ℕ). AnswersSome text step stands (v, m) l mid out during now) (sym (append-nil over)) (two v m holds over unended)));
    },
  )

  -- a read that failed
  pub goes_failed : (s : W × Option W) (left mid_left now_left : Option (List ℕ)) (k : ℕ) (pending : Pending) (was out : Option (List ℕ)) (before now : ℕ)
      → Moved left mid_left k → now_left ≡ mid_left
      → IfSome left (λ bytes. LeadsOnWith text step stands s (take k bytes) pending was out before now)
      → IfSome left (λ bytes. ReadsFront bytes now_left (λ part. AnswersAllOf text step stands s part was out before now (feeds part)))
  goes_failed s None mid_left now_left k pending was out before now moved same one = tt
  goes_failed s (Some bytes) mid_left now_left k pending was out before now moved same one =
      (k, record { within = moved.0; left_is = same ∙ moved.1; part = reaches_whole text step stands s (take k bytes) pending was out before now one })

  -- an input that is too long
  pub goes_full : (s : W × Option W) (left now_left : Option (List ℕ)) (k most : ℕ) (pending : Pending) (was out : Option (List ℕ)) (before now : ℕ)
      → k ≡ most → Moved left now_left k
      → IfSome left (λ bytes. LeadsOnWith text step stands s (take k bytes) pending was out before now)
      → IfSome left (λ bytes. ReadsFrontOf most bytes now_left (λ part. AnswersAllOf text step stands s part was out before now (feeds part)))
  goes_full s None now_left k most pending was out before now full moved one = tt
  goes_full s (Some bytes) now_left k most pending was out before now full moved one =
      subst (λ (n : ℕ). ReadsFrontOf n bytes now_left (λ part. AnswersAllOf text step stands s part was out before now (feeds part))) full
      (record { within = moved.0; left_is = moved.1; part = reaches_whole text step stands s (take k bytes) pending was out before now one })

  -- no byte was taken
  pub goes_unbegun : (s : W × Option W) (left : Option (List ℕ)) (held : Option (List ℕ)) (before now : ℕ) → before ≤ now → stands s.0 s.1 → IfSome left (λ bytes. ReadsFront bytes left (λ part. AnswersSome text step stands s part held held before now))
  goes_unbegun s None held before now later holds = tt
  goes_unbegun s (Some bytes) held before now later holds =
      (0, record { within = omega arith; left_is = refl; part = serves_none text step stands s [] held before now later holds })
