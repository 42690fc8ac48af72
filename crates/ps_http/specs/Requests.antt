-- Which bytes are a request, by the stages of reading it. Each relation is on all bytes that came so far, and gives
-- exactly one answer.
use Rattle.std.specs.Prelude.{◌≡◌, ◌≢◌, ◌<◌, ◌≤◌, ℕ, ◌+◌, ⊤, List, [], ◌++◌, length, take, drop, Bool, true, false, nat_lt, if◌then◌else◌, Result, Ok, Err}
use Rattle.ps_http.specs.declared.bodies.Arrived as Read
use Rattle.ps_http.specs.declared.bodies.Arrived.TheVariants as Reads
use Rattle.ps_http.specs.declared.chunks.Step.TheVariants as Steps
use Rattle.ps_http.specs.declared.heads.Head.{Head}
use Rattle.ps_http.specs.declared.heads.Length.{Length}
use Rattle.ps_http.specs.declared.heads.Length.TheVariants.{Fixed, Chunked}
use Rattle.ps_http.specs.declared.heads.Stop.{Stop}
use Rattle.ps_http.specs.declared.heads.Stop.TheVariants as Stops
use Rattle.ps_http.specs.declared.sections.Section.{Section}
use Rattle.ps_http.specs.declared.sections.Section.TheVariants as Sections
use Rattle.ps_http.specs.declared.starts.Start.{Start}
use Rattle.ps_http.specs.declared.starts.Start.TheVariants as Starts
use Rattle.ps_http.specs.Chunks.{StepSays}
use Rattle.ps_http.specs.Heads.{HeadSays, is_too_long}
use Rattle.ps_http.specs.Limits.{head_lines, most_head}
use Rattle.ps_http.specs.Sections.{blank_len, find_section}

-- what a head comes to, with the number of bytes up to its end
abbrev pub started : Result Head Stop → ℕ → Start
started (Ok head) at = Starts.Read head at
started (Err (Stops.Refused code)) at = Starts.Refused code
started (Err Stops.OutOfMemory) at = Starts.Waits

-- by how far the head has come, which begins after so many bytes
abbrev pub StartSaysBy : List ℕ → ℕ → Section → Start → Type 0
StartSaysBy bytes skip Sections.Waits start = start ≡ Starts.Waits
StartSaysBy bytes skip Sections.Over start = start ≡ Starts.Refused 431
StartSaysBy bytes skip (Sections.Ends end) start =
    (r : Result Head Stop) × HeadSays (take end (drop skip bytes)) r × (r ≢ Err Stops.OutOfMemory) × (start ≡ started r (skip + end))

-- by the number of bytes before the head
abbrev pub StartSaysAfter : List ℕ → ℕ → Bool → Start → Type 0
StartSaysAfter bytes skip true start = start ≡ Starts.Refused 431
StartSaysAfter bytes skip false start = StartSaysBy bytes skip (find_section head_lines (drop skip bytes)) start

-- how far the head has come, and what it says
abbrev pub StartSays : List ℕ → Start → Type 0
StartSays bytes start = StartSaysAfter bytes (blank_len bytes) (nat_lt most_head (blank_len bytes)) start

-- how far a body has come: a part of it, a refusal, or all of it with the number of bytes that it takes
pub data Body : Type 0 where
  waits : Body
  refused : ℕ → Body
  whole : List ℕ → ℕ → Body

-- a body that has these bytes before its others, which so many bytes give
abbrev pub behind : List ℕ → ℕ → Body → Body
behind piece len waits = waits
behind piece len (refused code) = refused code
behind piece len (whole body more) = whole (piece ++ body) (len + more)

-- how far a chunked body has come, of which so many bytes were there before
pub data Chunks : ℕ → List ℕ → Body → Type 0 where
  waits_here : (had : ℕ) (bytes : List ℕ) → StepSays had bytes Steps.Waits → Chunks had bytes waits
  refused_here : (had : ℕ) (bytes : List ℕ) (code : ℕ) → StepSays had bytes (Steps.Refused code) → Chunks had bytes (refused code)
  last_here : (had : ℕ) (bytes : List ℕ) (len : ℕ) → StepSays had bytes (Steps.Last len) → Chunks had bytes (whole [] len)
  chunk_here : (had : ℕ) (bytes : List ℕ) (len size : ℕ) (body : Body) → StepSays had bytes (Steps.Chunk len size)
      → Chunks (had + size) (drop (len + size + 2) bytes) body → Chunks had bytes (behind (take size (drop len bytes)) (len + size + 2) body)

-- how far a body of so many bytes has come
abbrev pub fixed_body : ℕ → List ℕ → Body
fixed_body n bytes = if nat_lt (length bytes) n then waits else whole (take n bytes) n

-- how far the body has come, from the bytes after the head
abbrev pub BodySays : Length → List ℕ → Body → Type 0
BodySays (Fixed n) bytes body = body ≡ fixed_body n bytes
BodySays Chunked bytes body = Chunks 0 bytes body

-- how far a request has come: a part of it, a refusal, or all of it with the number of bytes that it takes
pub data Framed : Type 0 where
  waits : Framed
  refused : ℕ → Framed
  whole : (method target body : List ℕ) (close : Bool) (len : ℕ) → Framed

-- by how far the body has come after so many bytes
abbrev pub framed : Head → ℕ → Body → Framed
framed head at Body.waits = Framed.waits
framed head at (Body.refused code) = Framed.refused code
framed head at (Body.whole body len) = Framed.whole head.method head.target body head.close (at + len)

-- by how far the head has come
abbrev pub FramesBy : List ℕ → Start → Framed → Type 0
FramesBy bytes Starts.Waits f = f ≡ Framed.waits
FramesBy bytes (Starts.Refused code) f = f ≡ Framed.refused code
FramesBy bytes (Starts.Read head at) f = (body : Body) × BodySays head.length (drop at bytes) body × (f ≡ framed head at body)

-- how far the request has come with which these bytes begin
abbrev pub Frames : List ℕ → Framed → Type 0
Frames bytes f = (start : Start) × StartSays bytes start × FramesBy bytes start f

-- the client waits for the answer 100
abbrev pub waits_of : Start → Bool
waits_of Starts.Waits = false
waits_of (Starts.Refused code) = false
waits_of (Starts.Read head at) = head.waits

-- the answer 100 is due to the request with which these bytes begin
abbrev pub IsDue : List ℕ → Bool → Type 0
IsDue bytes due = (start : Start) × StartSays bytes start × (due ≡ waits_of start)

-- a head that isn't whole has few bytes; another one lies in the bytes, and its body isn't too long
abbrev pub IsShort : ℕ → Start → Type 0
IsShort count Starts.Waits = count < most_head + most_head
IsShort count (Starts.Refused code) = ⊤
IsShort count (Starts.Read head at) = (at ≤ count) × (is_too_long head.length ≡ false)

-- a body that is whole ends in the bytes
abbrev pub EndsWithin : ℕ → Body → Type 0
EndsWithin count Body.waits = ⊤
EndsWithin count (Body.refused code) = ⊤
EndsWithin count (Body.whole body len) = len ≤ count

-- what was read of a chunked body
abbrev pub body_of : List ℕ → Read.Arrived → Body
body_of bytes (Reads.Refused code) = Body.refused code
body_of bytes (Reads.InPlace n) = Body.whole (take n bytes) n
body_of bytes (Reads.Joined body len) = Body.whole body.items len

-- a body was taken out of the buffer, with all before it
abbrev pub TakesBody : ℕ → List ℕ → List ℕ → Body → List ℕ → Type 0
TakesBody at was now Body.waits taken = ⊥
TakesBody at was now (Body.refused code) taken = ⊥
TakesBody at was now (Body.whole body len) taken = (taken ≡ body) × (now ≡ drop (at + len) was)

-- why no body was taken
abbrev pub IsRefusalOf : Body → Stop → Type 0
IsRefusalOf body (Stops.Refused code) = body ≡ Body.refused code
IsRefusalOf body Stops.OutOfMemory = ⊤
