-- Which lines were answered.
use Rattle.std.specs.Prelude.{◌≡◌, ◌≤◌, ℕ, ◌+◌, ◌-◌, ◌^◌, min, length, take, drop, List, ◌++◌, Option, Some, option_map, Bool, IsTrue}
use Rattle.ps_run.specs.Fates.{Fate, texts_of_lines, state_after, store_faults, bad_rows}
use Rattle.ps_run.specs.Lines.{lines_of}

-- The first lines of these bytes, as many as there are fates, were answered from this state, and a front of their texts was written.
pub record AnswersSome {W : Type 0} (text : W × Option W → Fate → List ℕ → List ℕ) (step : W × Option W → Fate → List ℕ → W × Option W) (Means : W → Option W → Type 0) (start : W × Option W) (bytes : List ℕ) (was now : Option (List ℕ)) (faults_before faults_now : ℕ) : Type 0 where
  -- what became of each line
  pub fates : List Fate
  pub within : length fates ≤ length (lines_of bytes)
  -- the state after them, which the log means
  pub state : W × Option W
  pub reached : state ≡ state_after step start (lines_of bytes) fates
  pub holds : Means state.0 state.1
  -- how many bytes of their texts were written
  pub cut : ℕ
  pub output : now ≡ option_map (λ held. held ++ take cut (texts_of_lines text step start (lines_of bytes) fates)) was
  -- the store failed at least as often as these lines met a fault of it, and no line met a bad row
  pub causes : min (faults_before + store_faults fates) (2 ^ 64 - 1) ≤ faults_now
  pub no_bad_row : bad_rows fates ≡ 0

-- the same, with this many lines and all of their texts
pub record AnswersAllOf {W : Type 0} (text : W × Option W → Fate → List ℕ → List ℕ) (step : W × Option W → Fate → List ℕ → W × Option W) (Means : W → Option W → Type 0) (start : W × Option W) (bytes : List ℕ) (was now : Option (List ℕ)) (faults_before faults_now : ℕ) (lines : ℕ) : Type 0 where
  pub serves : AnswersSome text step Means start bytes was now faults_before faults_now
  pub each : length serves.fates ≡ lines
  pub whole : now ≡ option_map (λ held. held ++ texts_of_lines text step start (lines_of bytes) serves.fates) was

-- this many bytes were taken from what was left to read, and this holds of them
pub record ReadsFrontOf (taken : ℕ) (bytes : List ℕ) (left : Option (List ℕ)) (P : List ℕ → Type 0) : Type 0 where
  pub within : taken ≤ length bytes
  pub left_is : left ≡ Some (drop taken bytes)
  pub part : P (take taken bytes)

-- some bytes were taken
abbrev pub ReadsFront : List ℕ → Option (List ℕ) → (List ℕ → Type 0) → Type 0
ReadsFront bytes left P = (taken : ℕ) × ReadsFrontOf taken bytes left P
