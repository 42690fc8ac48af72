-- What becomes of a line. The book may be in doubt: its last entry may be in the log or not.
use Rattle.std.specs.Prelude.{◌≡◌, ◌≤◌, ℕ, ◌+◌, ◌-◌, ◌^◌, min, nat_lt, length, List, [], ◌∷◌, ◌++◌, Option, Some, None, Bool, true, false, unwrap_or, option_and_then, if◌then◌else◌}
use Rattle.ps_book.specs.declared.error.CallError.{CallError}
use Rattle.ps_book.specs.declared.error.CallError.TheVariants.{StoreFault, BadRow, OutOfMemory}
use Rattle.ps_run.specs.declared.protocol.Reading.{Reading}
use Rattle.ps_run.specs.declared.protocol.Reading.TheVariants.{Call, Refused}
use Rattle.ps_run.specs.FaultTexts.{too_long_text, fault_text}

-- `found`: the entry that was in doubt before this line was in the log
pub data Fate : Type 0 where
  Answered : (found : Bool) → Fate
  -- carried out, but there was no memory for its text
  Unprinted : (found : Bool) → Fate
  -- refused before it was judged: nothing changed
  Unjudged : (error : CallError) → Fate
  -- judged, and its entry is in doubt
  InDoubt : (found : Bool) (error : CallError) → Fate

-- the world in which a call is judged
abbrev pub from_world : {W : Type 0} → W → Option W → Bool → W
from_world w more true = unwrap_or more w
from_world w more false = w

-- why a line has no reply
abbrev pub error_of : Fate → Option CallError
error_of (Answered found) = None
error_of (Unprinted found) = Some OutOfMemory
error_of (Unjudged error) = Some error
error_of (InDoubt found error) = Some error

-- the world after a command
abbrev pub after_command : {W C E : Type 0} → (W → E → Option W) → (W → ℕ → C → Option E) → W → ℕ → C → W
after_command next entry_of w at command = unwrap_or (option_and_then (λ e. next w e) (entry_of w at command)) w

-- what is printed for a call
abbrev pub call_text : {W R C : Type 0} → (W → ℕ → C → R) → (R → List ℕ) → W → Option W → Fate → ℕ → C → List ℕ
call_text reply reply_text w more (Answered found) at command = reply_text (reply (from_world w more found) at command)
call_text reply reply_text w more (Unprinted found) at command = fault_text OutOfMemory
call_text reply reply_text w more (Unjudged error) at command = fault_text error
call_text reply reply_text w more (InDoubt found error) at command = fault_text error

-- the world after a call, without an entry in doubt
abbrev pub call_world : {W E C : Type 0} → (W → E → Option W) → (W → ℕ → C → Option E) → W → Option W → Fate → ℕ → C → W
call_world next entry_of w more (Answered found) at command = after_command next entry_of (from_world w more found) at command
call_world next entry_of w more (Unprinted found) at command = after_command next entry_of (from_world w more found) at command
call_world next entry_of w more (Unjudged error) at command = w
call_world next entry_of w more (InDoubt found error) at command = from_world w more found

-- the world with the entry in doubt
abbrev pub call_more : {W E C : Type 0} → (W → E → Option W) → (W → ℕ → C → Option E) → W → Option W → Fate → ℕ → C → Option W
call_more next entry_of w more (Answered found) at command = None
call_more next entry_of w more (Unprinted found) at command = None
call_more next entry_of w more (Unjudged error) at command = more
call_more next entry_of w more (InDoubt found error) at command = option_and_then (λ e. next (from_world w more found) e) (entry_of (from_world w more found) at command)

-- what is printed for a line that asks for no call
abbrev pub refused_text : Fate → List ℕ → List ℕ
refused_text (Answered found) text = text
refused_text (Unprinted found) text = text
refused_text (Unjudged error) text = fault_text error
refused_text (InDoubt found error) text = text

-- what is printed for what a line asks. A state: the world that the log means, and maybe the one with an entry in doubt.
abbrev pub text_of_reading : {W R C : Type 0} → (W → ℕ → C → R) → (R → List ℕ) → W × Option W → Fate → Reading C → List ℕ
text_of_reading reply reply_text s fate (Call at command) = call_text reply reply_text s.0 s.1 fate at command
text_of_reading reply reply_text s fate (Refused text) = refused_text fate text

-- the state after it
abbrev pub reading_state : {W E C : Type 0} → (W → E → Option W) → (W → ℕ → C → Option E) → W × Option W → Fate → Reading C → W × Option W
reading_state next entry_of s fate (Call at command) = (call_world next entry_of s.0 s.1 fate at command, call_more next entry_of s.0 s.1 fate at command)
reading_state next entry_of s fate (Refused text) = s

-- what a line asks, which is nothing if it is too long
abbrev pub line_reading : {C : Type 0} → (List ℕ → Reading C) → List ℕ → Reading C
line_reading reading_of line = if nat_lt (2 ^ 24) (length line) then Refused too_long_text else reading_of line

-- what is printed for a line
abbrev pub text_of_line : {W R C : Type 0} → (W → ℕ → C → R) → (List ℕ → Reading C) → (R → List ℕ) → W × Option W → Fate → List ℕ → List ℕ
text_of_line reply reading_of reply_text s fate line = text_of_reading reply reply_text s fate (line_reading reading_of line)

-- the state after a line
abbrev pub line_state : {W E C : Type 0} → (W → E → Option W) → (W → ℕ → C → Option E) → (List ℕ → Reading C) → W × Option W → Fate → List ℕ → W × Option W
line_state next entry_of reading_of s fate line = reading_state next entry_of s fate (line_reading reading_of line)

-- what is printed for lines, each with its fate, as many as there are fates
abbrev pub texts_of_lines : {S F : Type 0} → (S → F → List ℕ → List ℕ) → (S → F → List ℕ → S) → S → List (List ℕ) → List F → List ℕ
texts_of_lines text step s [] fates = []
texts_of_lines text step s (line ∷ lines) [] = []
texts_of_lines text step s (line ∷ lines) (f ∷ fates) = text s f line ++ texts_of_lines text step (step s f line) lines fates

-- the state after them
abbrev pub state_after : {S F : Type 0} → (S → F → List ℕ → S) → S → List (List ℕ) → List F → S
state_after step s [] fates = s
state_after step s (line ∷ lines) [] = s
state_after step s (line ∷ lines) (f ∷ fates) = state_after step (step s f line) lines fates

-- one for a fault of the store
abbrev pub store_count : Option CallError → ℕ
store_count None = 0
store_count (Some StoreFault) = 1
store_count (Some (BadRow seq)) = 0
store_count (Some OutOfMemory) = 0

-- how many lines met a fault of the store
abbrev pub store_faults : List Fate → ℕ
store_faults [] = 0
store_faults (f ∷ fates) = store_count (error_of f) + store_faults fates

-- one for a bad row
abbrev pub bad_count : Option CallError → ℕ
bad_count None = 0
bad_count (Some StoreFault) = 0
bad_count (Some (BadRow seq)) = 1
bad_count (Some OutOfMemory) = 0

-- how many lines met a bad row
abbrev pub bad_rows : List Fate → ℕ
bad_rows [] = 0
bad_rows (f ∷ fates) = bad_count (error_of f) + bad_rows fates

-- the count of a keeper's faults rose at least as often as these lines met one, or is at its type's end; no line met a bad row
pub record HasFateCauses (faults_before faults_now : ℕ) (fates : List Fate) : Type 0 where
  pub causes : min (faults_before + store_faults fates) (2 ^ 64 - 1) ≤ faults_now
  pub no_bad_row : bad_rows fates ≡ 0
