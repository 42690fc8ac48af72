-- The parts of a chunked body (RFC 9112, section 7.1). Chunk lines are read as `httparse` has them.
use Rattle.std.specs.Prelude.{◌≡◌, ◌⊎◌, ◌<◌, ◌≤◌, ℕ, suc, ◌+◌, List, [], ◌∷◌, length, take, drop, option_map, ◌==◌, nat_lt, if◌then◌else◌, Option, Some, None, bytes_eq, codes, ⊤}
use Rattle.httparse.specs.Grammar.{ChunkLine, ReadsChunkLine, chunk_size}
use Rattle.ps_http.specs.declared.chunks.Line.{Line}
use Rattle.ps_http.specs.declared.chunks.Line.TheVariants as Lines
use Rattle.ps_http.specs.declared.chunks.Step.{Step}
use Rattle.ps_http.specs.declared.chunks.Step.TheVariants.{Waits, Refused, Chunk, Last}
use Rattle.ps_http.specs.declared.sections.Section.{Section}
use Rattle.ps_http.specs.declared.sections.Section.TheVariants as Sections
use Rattle.ps_http.specs.Limits.{most_body, most_line, trailer_lines}
use Rattle.ps_http.specs.Sections.{find_section}

-- what a line comes to that should be a chunk line
abbrev pub WholeLineSays : List ℕ → ℕ → Line → Type 0
WholeLineSays text len line =
    ((l : ChunkLine) × ReadsChunkLine text l [] × (line ≡ Lines.Size len (chunk_size l)))
    ⊎ (((l : ChunkLine) → ReadsChunkLine text l [] → ⊥) × (line ≡ Lines.Malformed))

-- the number of bytes up to the first line feed, and with it
abbrev pub line_end : List ℕ → Option ℕ
line_end [] = None
line_end (b ∷ bytes) = if b == 10 then Some 1 else option_map (λ k. suc k) (line_end bytes)

-- by the line feed that was found among the first bytes
abbrev pub LineSaysBy : List ℕ → Option ℕ → Line → Type 0
LineSaysBy bytes None line = line ≡ (if nat_lt (length bytes) most_line then Lines.Waits else Lines.Malformed)
LineSaysBy bytes (Some end) line = WholeLineSays (take end bytes) (length (take end bytes)) line

-- how far a chunk line has come
abbrev pub LineSays : List ℕ → Line → Type 0
LineSays bytes line = LineSaysBy bytes (line_end (take most_line bytes)) line

-- a fact on the length of a chunk line
abbrev pub IfSized : Line → (ℕ → Type 0) → Type 0
IfSized Lines.Waits P = ⊤
IfSized Lines.Malformed P = ⊤
IfSized (Lines.Size len size) P = P len

-- the end of the body, by how far its trailer has come
abbrev pub last_step : ℕ → Section → Step
last_step len Sections.Waits = Waits
last_step len Sections.Over = Refused 431
last_step len (Sections.Ends end) = Last (len + end)

-- after a chunk line that gives a size: the body is too long, or the trailer follows, or the chunk and its end
abbrev pub sized_step : ℕ → ℕ → ℕ → List ℕ → Step
sized_step had len size rest =
    if nat_lt most_body (had + size) then Refused 413
    else (if size == 0 then last_step len (find_section trailer_lines rest)
    else (if nat_lt (length rest) (size + 2) then Waits
    else (if bytes_eq (take 2 (drop size rest)) (codes "\r\n") then Chunk len size
    else Refused 400)))

-- by how far the chunk line has come
abbrev pub step_of : ℕ → List ℕ → Line → Step
step_of had bytes Lines.Waits = Waits
step_of had bytes Lines.Malformed = Refused 400
step_of had bytes (Lines.Size len size) = sized_step had len size (drop len bytes)

-- how far the next part has come, of a body of which so many bytes were there before
abbrev pub StepSays : ℕ → List ℕ → Step → Type 0
StepSays had bytes step = (line : Line) × LineSays bytes line × (step ≡ step_of had bytes line)

-- a part that waits has few bytes; the others lie in the bytes, and a chunk isn't empty and fits the body
abbrev pub IsStepWithin : ℕ → ℕ → Step → Type 0
IsStepWithin had count Waits = count < most_line + (most_body + 2)
IsStepWithin had count (Refused code) = ⊤
IsStepWithin had count (Chunk len size) = (len + size + 2 ≤ count) × (0 < size) × (had + size ≤ most_body)
IsStepWithin had count (Last len) = len ≤ count
