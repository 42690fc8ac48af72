-- A request lies in the bytes that it is read from, and the answer 100 is due to it whatever follows.
use Rattle.std.proofs.Common.{◌≡◌, ◌≤◌, ℕ, ◌+◌, ◌-◌, ◌==◌, nat_lt, Bool, true, false, cond, List, ◌++◌, bytes_eq, codes, length, take, drop, refl, ap, sym, ◌∙◌, arith}
use Rattle.std.proofs.lemmas.Grind.{common_steps}
use Rattle.std.proofs.lemmas.List.{length-drop}
use Rattle.ps_http.specs.declared.chunks.Line.{Line}
use Rattle.ps_http.specs.declared.chunks.Line.TheVariants as Lines
use Rattle.ps_http.specs.declared.chunks.Step.TheVariants as Steps
use Rattle.ps_http.specs.declared.heads.Head.{Head}
use Rattle.ps_http.specs.declared.heads.Length.{Length}
use Rattle.ps_http.specs.declared.heads.Length.TheVariants as Lengths
use Rattle.ps_http.specs.declared.sections.Section.{Section}
use Rattle.ps_http.specs.declared.sections.Section.TheVariants as Sections
use Rattle.ps_http.specs.declared.starts.Start.{Start}
use Rattle.ps_http.specs.declared.starts.Start.TheVariants as Starts
use Rattle.ps_http.specs.Chunks.{LineSays, StepSays, last_step, step_of}
use Rattle.ps_http.specs.Limits.{most_body, trailer_lines}
use Rattle.ps_http.specs.Requests.{Body, BodySays, Chunks, EndsWithin, Framed, Frames, FramesBy, IsDue, StartSays, behind, fixed_body, framed, waits_of}
use Rattle.ps_http.specs.Requests.Chunks.{waits_here, refused_here, last_here, chunk_here}
use Rattle.ps_http.specs.Sections.{find_section}
use Rattle.ps_http.proofs.ChunkLemmas.{by_tests, chunk_within, line_within}
use Rattle.ps_http.proofs.OneAnswer.{one_start}
use Rattle.ps_http.proofs.SectionStays.{section_within}
use Rattle.ps_http.proofs.StartStays.{start_stays, start_within}
use Rattle.ps_http.proofs.StayLemmas.{not_short}

-- the end of a chunked body
trailer_within : (n : ℕ) (rest : List ℕ) (len : ℕ) (section : Section) → find_section trailer_lines rest ≡ section → Steps.Last len ≡ last_step n section → len ≤ n + length rest
trailer_within n rest len Sections.Waits found e = absurd cc
trailer_within n rest len Sections.Over found e = absurd cc
trailer_within n rest len (Sections.Ends end) found e =
    let fits : end ≤ length rest = section_within trailer_lines rest end found in
    let is : len ≡ n + end = cc in
    omega (arith, fits, is)

last_fits : (n s : ℕ) (rest : List ℕ) (len : ℕ) (big none short : Bool) → Steps.Last len ≡ by_tests n s rest big none short → len ≤ n + length rest
last_fits n s rest len true none short e = absurd cc
last_fits n s rest len false true short e = trailer_within n rest len (find_section trailer_lines rest) refl e
last_fits n s rest len false false true e = absurd cc
last_fits n s rest len false false false e = absurd (by (bytes_eq (take 2 (drop s rest)) (codes "\r\n")) e)
  where
    by : (t : Bool) → Steps.Last len ≡ cond t (Steps.Chunk n s) (Steps.Refused 400) → ⊥
    by true e = cc
    by false e = cc

last_by : (had : ℕ) (bytes : List ℕ) (line : Line) (len : ℕ) → LineSays bytes line → Steps.Last len ≡ step_of had bytes line → len ≤ length bytes
last_by had bytes Lines.Waits len says e = absurd cc
last_by had bytes Lines.Malformed len says e = absurd cc
last_by had bytes (Lines.Size n s) len says e =
    let fits = last_fits n s (drop n bytes) len (nat_lt most_body (had + s)) (s == 0) (nat_lt (length (drop n bytes)) (s + 2)) e in
    let line : n ≤ length bytes = line_within bytes n s says in
    grind (arith, common_steps, fits, line)

last_within : (had : ℕ) (bytes : List ℕ) (len : ℕ) → StepSays had bytes (Steps.Last len) → len ≤ length bytes
last_within had bytes len says = last_by had bytes says.0 len says.1 says.2

-- a body that is whole ends in its bytes
behind_within : (count : ℕ) (piece : List ℕ) (len : ℕ) (rest : Body) → len ≤ count → EndsWithin (count - len) rest → EndsWithin count (behind piece len rest)
behind_within count piece len Body.waits fits within = tt
behind_within count piece len (Body.refused code) fits within = tt
behind_within count piece len (Body.whole body more) fits within = omega (arith, fits, within)

chunks_within : (had : ℕ) (bytes : List ℕ) (body : Body) → Chunks had bytes body → EndsWithin (length bytes) body
chunks_within had bytes body (waits_here h t says) = tt
chunks_within had bytes body (refused_here h t code says) = tt
chunks_within had bytes body (last_here h t len says) = last_within had bytes len says
chunks_within had bytes body (chunk_here h t len size rest says chunks) =
    behind_within (length bytes) (take size (drop len bytes)) (len + size + 2) rest (chunk_within had bytes len size says)
    (rw (← length-drop (len + size + 2) bytes) (chunks_within (had + size) (drop (len + size + 2) bytes) rest chunks))

fixed_within : (n : ℕ) (bytes : List ℕ) → EndsWithin (length bytes) (fixed_body n bytes)
fixed_within n bytes = by (nat_lt (length bytes) n) refl
  where
    by : (t : Bool) → nat_lt (length bytes) n ≡ t → EndsWithin (length bytes) (cond t Body.waits (Body.whole (take n bytes) n))
    by true short = tt
    by false long = not_short (length bytes) n long

body_within : (framing : Length) (bytes : List ℕ) (body : Body) → BodySays framing bytes body → EndsWithin (length bytes) body
body_within (Lengths.Fixed n) bytes body says = rw (says) (fixed_within n bytes)
body_within Lengths.Chunked bytes body says = chunks_within 0 bytes body says

framed_within : (at count : ℕ) (head : Head) (body : Body) (m t b : List ℕ) (c : Bool) (len : ℕ) → EndsWithin count body → Framed.whole m t b c len ≡ framed head at body → len ≤ at + count
framed_within at count head Body.waits m t b c len within e = absurd cc
framed_within at count head (Body.refused code) m t b c len within e = absurd cc
framed_within at count head (Body.whole body n) m t b c len within e =
    let is : len ≡ at + n = cc in
    omega (arith, within, is)

whole_by : (bytes : List ℕ) (start : Start) (m t b : List ℕ) (c : Bool) (len : ℕ) → StartSays bytes start → FramesBy bytes start (Framed.whole m t b c len) → len ≤ length bytes
whole_by bytes Starts.Waits m t b c len says frames = absurd cc
whole_by bytes (Starts.Refused code) m t b c len says frames = absurd cc
whole_by bytes (Starts.Read head at) m t b c len says frames =
    let fits : at ≤ length bytes = start_within bytes at head says in
    let rest = framed_within at (length (drop at bytes)) head frames.0 m t b c len (body_within head.length (drop at bytes) frames.0 frames.1) frames.2 in
    grind (arith, common_steps, fits, rest)

-- a request lies in the bytes
pub whole_within : (bytes m t b : List ℕ) (c : Bool) (len : ℕ) → Frames bytes (Framed.whole m t b c len) → len ≤ length bytes
whole_within bytes m t b c len frames = whole_by bytes frames.0 m t b c len frames.1 frames.2

still_due : (bytes more : List ℕ) (start : Start) (m t b : List ℕ) (c : Bool) (len : ℕ) (due : Bool) → StartSays bytes start → FramesBy bytes start (Framed.whole m t b c len) → due ≡ waits_of start → IsDue (bytes ++ more) due
still_due bytes more Starts.Waits m t b c len due says frames is = absurd cc
still_due bytes more (Starts.Refused code) m t b c len due says frames is = absurd cc
still_due bytes more (Starts.Read head at) m t b c len due says frames is = (Starts.Read head at, start_stays bytes more (Starts.Read head at) (λ e. cc) says, is)

-- whether the answer 100 is due to a request stays when bytes are added
pub whole_due : (bytes more m t b : List ℕ) (c : Bool) (len : ℕ) (due : Bool) → Frames bytes (Framed.whole m t b c len) → IsDue bytes due → IsDue (bytes ++ more) due
whole_due bytes more m t b c len due frames is = still_due bytes more frames.0 m t b c len due frames.1 frames.2 (is.2 ∙ ap waits_of (one_start bytes is.0 frames.0 is.1 frames.1))
