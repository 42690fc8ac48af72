-- What becomes of the requests of a connection. The book may be in doubt: its last entry may be in the log or not.
use Rattle.std.specs.List.{AllByRecursion}
use Rattle.std.specs.Prelude.{◌≡◌, ℕ, List, [], ◌∷◌, ◌++◌, drop, map, Bool, Option, if◌then◌else◌, Result, Ok, Err}
use Rattle.ps_book.specs.declared.error.CallError.TheVariants.{OutOfMemory}
use Rattle.ps_book.specs.declared.machine.Machine as machine
use Rattle.ps_http.specs.Exchanges.{continue_text}
use Rattle.ps_http.specs.Requests.{Framed, Frames, IsDue}
use Rattle.ps_run.specs.Fates.{Fate, Answered, Unprinted, Unjudged, InDoubt, HasFateCauses, from_world, call_world, call_more}
use Rattle.ps_server.specs.declared.answer.Request.{Request}
use Rattle.ps_server.specs.declared.protocol.HttpProtocol as protocol
use Rattle.ps_server.specs.Asking.{text_with}

-- a request that was served
pub record Turn : Type 0 where
  pub request : Request
  -- the answer 100 was written before its body was read
  pub continued : Bool
  -- the moment of its call
  pub at : ℕ
  -- what became of its call
  pub fate : Fate
  -- there was memory for its answer
  pub printed : Bool

-- by whether the request asks for a call
abbrev pub asks_to : {C T : Type 0} → (C → T) → (ℕ × List ℕ → T) → Result C (ℕ × List ℕ) → T
asks_to call refusal (Ok command) = call command
asks_to call refusal (Err it) = refusal it

module _ {M C E R : Type 0} (m : machine.Ghosts M C E R) (p : protocol.Ghosts M C E R) where
  -- what a request asks
  abbrev pub asked_by : Request → Result C (ℕ × List ℕ)
  asked_by r = p.asked r.method r.target r.body

  -- the code and the body that answer a call. A state: the world that the log means, and maybe the one with an entry in doubt.
  abbrev pub call_answer : m.World × Option m.World → Fate → ℕ → C → ℕ × List ℕ
  call_answer s (Answered found) at command = p.reply_answer (m.reply (from_world s.0 s.1 found) at command)
  call_answer s (Unprinted found) at command = p.fault_answer OutOfMemory
  call_answer s (Unjudged error) at command = p.fault_answer error
  call_answer s (InDoubt found error) at command = p.fault_answer error

  -- the code and the body that answer a request
  abbrev pub answer_to : m.World × Option m.World → Turn → ℕ × List ℕ
  answer_to s t = if t.printed
      then asks_to (λ command. call_answer s t.fate t.at command) (λ refusal. refusal) (asked_by t.request)
      else p.fault_answer OutOfMemory

  -- what is written for a request
  abbrev pub text_of : m.World × Option m.World → Turn → List ℕ
  text_of s t = continue_text t.continued ++ text_with t.request.close (answer_to s t)

  -- the state after it
  abbrev pub step : m.World × Option m.World → Turn → m.World × Option m.World
  step s t = asks_to (λ command. (call_world m.next m.entry_of s.0 s.1 t.fate t.at command, call_more m.next m.entry_of s.0 s.1 t.fate t.at command)) (λ refusal. s) (asked_by t.request)

  -- what is written for requests, one after another
  abbrev pub texts_of : m.World × Option m.World → List Turn → List ℕ
  texts_of s [] = []
  texts_of s (t ∷ turns) = text_of s t ++ texts_of (step s t) turns

  -- the state after them
  abbrev pub state_after : m.World × Option m.World → List Turn → m.World × Option m.World
  state_after s [] = s
  state_after s (t ∷ turns) = state_after (step s t) turns

  -- requests led from this state to one of which `Means` holds; `gives`: the moments that the clock may give
  pub record Led (gives : ℕ → Type 0) (Means : m.World → Option m.World → Type 0) (faults_before faults_now : ℕ) (s : m.World × Option m.World) : Type 0 where
    -- the requests, one after another, of whichever connections
    pub turns : List Turn
    pub moments : AllByRecursion (λ (t : Turn). gives t.at) turns
    pub holds : Means (state_after s turns).0 (state_after s turns).1
    -- the store failed at least as often as these calls met a fault of it, and none met a bad row
    pub causes : HasFateCauses faults_before faults_now (map (λ (t : Turn). t.fate) turns)

-- these bytes begin with a request, which so many of them are, and the answer 100 is due to it or not
pub record IsRequest (bytes : List ℕ) (r : Request) (due : Bool) (len : ℕ) : Type 0 where
  pub frames : Frames bytes (Framed.whole r.method r.target r.body r.close len)
  pub is_due : IsDue bytes due

-- these bytes are those of the requests, one after another, and the rest
abbrev pub Reads : List ℕ → List Turn → List ℕ → Type 0
Reads bytes [] rest = bytes ≡ rest
Reads bytes (t ∷ turns) rest = (len : ℕ) × IsRequest bytes t.request t.continued len × Reads (drop len bytes) turns rest
