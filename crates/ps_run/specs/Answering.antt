-- Which lines were answered from a state, by how far the input was read.
use Rattle.std.specs.Prelude.{◌≡◌, ◌^◌, ℕ, List, [], length, Option, Some, IfSome}
use Rattle.ps_run.specs.Lines.{lines_of, feeds}
use Rattle.ps_run.specs.Outside.{Outside}
use Rattle.ps_run.specs.Rules.{Rules}
use Rattle.ps_run.specs.Serving.{AnswersSome, AnswersAllOf, ReadsFront, ReadsFrontOf}

-- `Means`: what the log means afterwards
module _ {W I O : Type 0} (r : Rules W) (Means : W → Option W → Type 0) (was now : Outside I O) where
  -- the first lines of these bytes were answered, so many, each by its whole text
  abbrev pub AnswersLines : W × Option W → List ℕ → ℕ → Type 0
  AnswersLines s bytes lines = AnswersAllOf r.text r.step Means s bytes was.written now.written was.store_faults now.store_faults lines

  -- the first lines of these bytes were answered, and a front of their texts was written
  abbrev pub AnswersFront : W × Option W → List ℕ → Type 0
  AnswersFront s bytes = AnswersSome r.text r.step Means s bytes was.written now.written was.store_faults now.store_faults

  -- all input was taken, and each line was answered
  abbrev pub AnswersAll : W × Option W → Type 0
  AnswersAll s = IfSome was.left (λ bytes. (now.left ≡ Some []) × AnswersLines s bytes (length (lines_of bytes)))

  -- some input was taken, and each line that ended in it was answered
  abbrev pub AnswersWhatEnded : W × Option W → Type 0
  AnswersWhatEnded s = IfSome was.left (λ bytes. ReadsFront bytes now.left (λ part. AnswersLines s part (feeds part)))

  -- 2 ^ 60 bytes were taken, and each line that ended in them was answered
  abbrev pub AnswersToLimit : W × Option W → Type 0
  AnswersToLimit s = IfSome was.left (λ bytes. ReadsFrontOf (2 ^ 60) bytes now.left (λ part. AnswersLines s part (feeds part)))

  -- some input was taken, its first lines were answered, and a front of their texts was written
  abbrev pub AnswersCut : W × Option W → Type 0
  AnswersCut s = IfSome was.left (λ bytes. ReadsFront bytes now.left (λ part. AnswersFront s part))
