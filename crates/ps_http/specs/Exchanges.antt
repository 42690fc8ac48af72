-- One exchange of a connection: what was read and written, and what the answer says of all bytes that came.
use Rattle.std.specs.Prelude.{◌≡◌, ◌⊎◌, ◌<◌, ◌≤◌, ℕ, Bool, true, false, not, ◌&&◌, ◌||◌, List, [], ◌++◌, length, take, drop, Some, option_map, IfSome, if◌then◌else◌, ◌==◌, codes, Result, OnOk, OnErr, ⊤}
use Rattle.ps_keeper.specs.Cause.{Rose}
use Rattle.ps_edge.specs.declared.link.Link as link
use Rattle.ps_http.specs.declared.exchange.Exchange.{Exchange}
use Rattle.ps_http.specs.declared.exchange.Exchange.TheVariants.{Request, Ended, Torn, NotYet, ReadFault, WriteFault, Refused, OutOfMemory}
use Rattle.ps_edge.specs.declared.edge.Failed.{Failed}
use Rattle.ps_http.specs.declared.heads.Head.{Head}
use Rattle.ps_http.specs.declared.heads.Stop.{Stop}
use Rattle.ps_http.specs.declared.heads.Stop.TheVariants as Stops
use Rattle.ps_http.specs.declared.reading.Pause.{Pause}
use Rattle.ps_http.specs.declared.reading.Pause.TheVariants as Pauses
use Rattle.ps_http.specs.Requests.{Framed, Frames, IsDue}
use Rattle.ps_http.specs.Sections.{blank_len}

-- what was read and isn't used yet, and whether the answer 100 to the request that begins there was written
pub record Rest : Type 0 where
  pub bytes : List ℕ
  pub continued : Bool

-- the answer 100, if it is written
abbrev pub continue_text : Bool → List ℕ
continue_text writes = if writes then codes "HTTP/1.1 100 Continue\r\n\r\n" else []

-- the bytes from the first that belongs to a request
abbrev pub begun : List ℕ → List ℕ
begun bytes = drop (blank_len bytes) bytes

module _ {S : Type 0} (l : link.Ghosts S) where
  -- these bytes came from the link, and this text was written to it
  pub record Passes (was now : S) (more text : List ℕ) : Type 0 where
    pub received : l.received now ≡ option_map (λ had. had ++ more) (l.received was)
    pub left : IfSome (l.left was) (λ all. (rest : List ℕ) × (l.left now ≡ Some rest) × (all ≡ more ++ rest))
    pub holds : l.holds now ≡ option_map (λ held. held ++ text) (l.holds was)
    pub faults : l.faults was ≤ l.faults now
    pub waits : l.waits was ≤ l.waits now

  -- nothing is left to read
  abbrev pub HasEnded : S → Type 0
  HasEnded now = IfSome (l.left now) (λ left. left ≡ [])

  -- by the answer: what it says of all bytes that came, and why it came
  abbrev pub Gives : S → S → List ℕ → Rest → Exchange → Type 0
  Gives was now all rest (Request method target body close) =
      (len : ℕ) × Frames all (Framed.whole method target body close len) × (rest ≡ record { bytes = drop len all; continued = false })
  Gives was now all rest Ended = Frames all Framed.waits × (begun all ≡ []) × HasEnded now
  Gives was now all rest (Torn n) = Frames all Framed.waits × (n ≡ length (begun all)) × (0 < n) × HasEnded now
  Gives was now all rest NotYet = Frames all Framed.waits × (rest.bytes ≡ all) × Rose (l.waits was) (l.waits now)
  Gives was now all rest ReadFault = Frames all Framed.waits × (rest.bytes ≡ all) × Rose (l.faults was) (l.faults now)
  Gives was now all rest WriteFault = Rose (l.faults was) (l.faults now)
  Gives was now all rest (Refused code) = Frames all (Framed.refused code)
  Gives was now all rest OutOfMemory = ⊥

-- by the answer: the text was written, or a front of it if a write failed
abbrev pub Wrote : Exchange → List ℕ → List ℕ → Type 0
Wrote (Request method target body close) whole text = text ≡ whole
Wrote Ended whole text = text ≡ whole
Wrote (Torn n) whole text = text ≡ whole
Wrote NotYet whole text = text ≡ whole
Wrote ReadFault whole text = text ≡ whole
Wrote WriteFault whole text = (cut : ℕ) × (text ≡ take cut whole)
Wrote (Refused code) whole text = text ≡ whole
Wrote OutOfMemory whole text = ⊤

-- by the answer: whether the answer 100 was written is kept until the request is whole
abbrev pub Keeps : Exchange → Rest → Bool → Type 0
Keeps (Request method target body close) rest continued = ⊤
Keeps Ended rest continued = ⊤
Keeps (Torn n) rest continued = ⊤
Keeps NotYet rest continued = rest.continued ≡ continued
Keeps ReadFault rest continued = rest.continued ≡ continued
Keeps WriteFault rest continued = ⊤
Keeps (Refused code) rest continued = ⊤
Keeps OutOfMemory rest continued = ⊤

module _ {S : Type 0} (l : link.Ghosts S) where
  -- what an exchange does that has memory enough
  pub record Does (was now : S) (kept rest : Rest) (result : Exchange) : Type 0 where
    -- the bytes that came in it, and the text that was written
    pub more : List ℕ
    pub text : List ℕ
    pub passes : Passes l was now more text
    -- whether the answer 100 is due to the request
    pub due : Bool
    pub is_due : IsDue (kept.bytes ++ more) due
    pub wrote : Wrote result (continue_text (due && not kept.continued)) text
    pub keeps : Keeps result rest (kept.continued || due)
    pub gives : Gives l was now (kept.bytes ++ more) rest result

  -- what an exchange does that runs out of memory
  pub record RunsOut (was now : S) (kept : Rest) : Type 0 where
    -- the bytes that came in it, and the text that was written
    pub more : List ℕ
    pub text : List ℕ
    pub passes : Passes l was now more text
    -- nothing was written, or a front of the answer 100, and that is due to the request
    pub wrote : (text ≡ []) ⊎ (IsDue (kept.bytes ++ more) true × ((cut : ℕ) × (text ≡ take cut (continue_text (not kept.continued)))))

  -- what an exchange does, by the answer
  abbrev pub Exchanges : S → S → Rest → Rest → Exchange → Type 0
  Exchanges was now kept rest (Request method target body close) = Does was now kept rest (Request method target body close)
  Exchanges was now kept rest Ended = Does was now kept rest Ended
  Exchanges was now kept rest (Torn n) = Does was now kept rest (Torn n)
  Exchanges was now kept rest NotYet = Does was now kept rest NotYet
  Exchanges was now kept rest ReadFault = Does was now kept rest ReadFault
  Exchanges was now kept rest WriteFault = Does was now kept rest WriteFault
  Exchanges was now kept rest (Refused code) = Does was now kept rest (Refused code)
  Exchanges was now kept rest OutOfMemory = RunsOut was now kept

module _ {S : Type 0} (l : link.Ghosts S) where
  -- a text was written, or a front of it if a write failed
  pub record Sends (was now : S) (text : List ℕ) (result : Result (Unit {0}) Failed) : Type 0 where
    pub whole : OnOk result (l.holds now ≡ option_map (λ held. held ++ text) (l.holds was))
    pub part : (cut : ℕ) × (l.holds now ≡ option_map (λ held. held ++ take cut text) (l.holds was))
    pub left : l.left now ≡ l.left was
    pub received : l.received now ≡ l.received was
    pub faults : l.faults was ≤ l.faults now
    pub waits : l.waits was ≤ l.waits now
    pub failed : OnErr result (Rose (l.faults was) (l.faults now))

-- the answer to a pause
abbrev pub PausesWith : List ℕ → Pause → Exchange → Type 0
PausesWith bytes Pauses.Ended result = result ≡ (if length (begun bytes) == 0 then Ended else Torn (length (begun bytes)))
PausesWith bytes Pauses.NotYet result = result ≡ NotYet
PausesWith bytes Pauses.ReadFault result = result ≡ ReadFault
PausesWith bytes Pauses.OutOfMemory result = result ≡ OutOfMemory

-- a request from its head and its body
abbrev pub request_of : Head → List ℕ → Exchange
request_of head body = Request head.method head.target body head.close

-- the answer to a refusal
abbrev pub stopped : Stop → Exchange
stopped (Stops.Refused code) = Refused code
stopped Stops.OutOfMemory = OutOfMemory
