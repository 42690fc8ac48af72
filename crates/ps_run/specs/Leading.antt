-- What a part of a run does, whatever follows it.
use Rattle.std.specs.Prelude.{◌≡◌, ℕ, ◌+◌, length, take, List, [], ◌∷◌, ◌++◌, Option, option_map, Bool, IsTrue}
use Rattle.ps_run.specs.declared.protocol.Reading.{Reading}
use Rattle.ps_run.specs.declared.pending.Pending.{Pending}
use Rattle.ps_run.specs.declared.answer.Printed.{Printed}
use Rattle.ps_run.specs.declared.answer.Printed.TheVariants.{Text, TooLong, StoreFault, OutOfMemory}
use Rattle.ps_book.specs.declared.error.CallError.TheVariants as call
use Rattle.ps_run.specs.FaultTexts.{too_long_text, fault_text}
use Rattle.ps_run.specs.Fates.{Fate, text_of_reading, reading_state, texts_of_lines, state_after, HasFateCauses}
use Rattle.ps_run.specs.Lines.{lines_of, feeds, HasNoFeed}
use Rattle.ps_run.specs.Pending.{IsPending}

-- the bytes of a text
abbrev pub printed_bytes : Printed → List ℕ
printed_bytes (Text text) = text
printed_bytes TooLong = too_long_text
printed_bytes StoreFault = fault_text call.StoreFault
printed_bytes OutOfMemory = fault_text call.OutOfMemory

-- what became of what a line asked
pub record HasReadingFate {W E R C : Type 0} (next : W → E → Option W) (reply : W → ℕ → C → R) (entry_of : W → ℕ → C → Option E) (reply_text : R → List ℕ) (Means : W → Option W → Type 0) (s : W × Option W) (reading : Reading C) (faults_before faults_now : ℕ) (printed : List ℕ) : Type 0 where
  pub fate : Fate
  pub text_is : printed ≡ text_of_reading reply reply_text s fate reading
  pub holds : Means (reading_state next entry_of s fate reading).0 (reading_state next entry_of s fate reading).1
  pub causes : HasFateCauses faults_before faults_now (fate ∷ [])

-- a line was answered, and a front of its text was written, or all of it
pub record AnswersLine {W : Type 0} (text : W × Option W → Fate → List ℕ → List ℕ) (step : W × Option W → Fate → List ℕ → W × Option W) (Means : W → Option W → Type 0) (s : W × Option W) (line : List ℕ) (was now : Option (List ℕ)) (faults_before faults_now : ℕ) (all : Bool) : Type 0 where
  pub fate : Fate
  pub holds : Means (step s fate line).0 (step s fate line).1
  pub causes : HasFateCauses faults_before faults_now (fate ∷ [])
  pub cut : ℕ
  pub output : now ≡ option_map (λ held. held ++ take cut (text s fate line)) was
  pub whole : IsTrue all → now ≡ option_map (λ held. held ++ text s fate line) was

-- a line so far, which has no line feed
pub record IsUnended (over : List ℕ) (pending : Pending) : Type 0 where
  pub pends : IsPending over pending
  pub unended : HasNoFeed over

-- these bytes lead from the first state and output to the second, with these fates and some bytes of a line left over, whatever bytes and fates follow
pub record LeadsOn {S F : Type 0} (text : S → F → List ℕ → List ℕ) (step : S → F → List ℕ → S) (was now : Option (List ℕ)) (s t : S) (fates : List F) (bytes over : List ℕ) : Type 0 where
  pub printed : List ℕ
  pub output : now ≡ option_map (λ held. held ++ printed) was
  pub texts : (rest : List ℕ) (later : List F) → texts_of_lines text step s (lines_of (bytes ++ rest)) (fates ++ later) ≡ printed ++ texts_of_lines text step t (lines_of (over ++ rest)) later
  pub states : (rest : List ℕ) (later : List F) → state_after step s (lines_of (bytes ++ rest)) (fates ++ later) ≡ state_after step t (lines_of (over ++ rest)) later
  pub lines : (rest : List ℕ) → length (lines_of (bytes ++ rest)) ≡ length fates + length (lines_of (over ++ rest))
  pub ended : feeds bytes ≡ length fates + feeds over

-- the same of a book, with the bytes left over as the pending line
pub record LeadsOnWith {W : Type 0} (text : W × Option W → Fate → List ℕ → List ℕ) (step : W × Option W → Fate → List ℕ → W × Option W) (Means : W → Option W → Type 0) (start : W × Option W) (bytes : List ℕ) (pending : Pending) (was now : Option (List ℕ)) (faults_before faults_now : ℕ) : Type 0 where
  pub fates : List Fate
  pub state : W × Option W
  pub over : List ℕ
  pub unended : IsUnended over pending
  pub holds : Means state.0 state.1
  pub led : LeadsOn text step was now start state fates bytes over
  pub causes : HasFateCauses faults_before faults_now fates
