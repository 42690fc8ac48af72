-- Each code by which bytes are refused has a phrase.
use Rattle.std.proofs.Common.{◌≡◌, ℕ, List, Bool, true, false, cond, codes, bytes_eq, drop, take, length, map, ◌+◌, ◌==◌, nat_lt, ◌&&◌, ◌||◌, not, Option, Some, None, Result, Ok, Err, refl, sym, ap, subst, ◌∙◌, inl, inr}
use Rattle.std.specs.List.{list_any}
use Rattle.httparse.specs.Grammar.{RequestHead}
use Rattle.httparse.specs.Spans.{name_and_value}
use Rattle.http1.specs.Fields.{known_fields}
use Rattle.http1.specs.declared.fields.KnownFields.{KnownFields}
use Rattle.ps_http.specs.declared.chunks.Line.{Line}
use Rattle.ps_http.specs.declared.chunks.Line.TheVariants as Lines
use Rattle.ps_http.specs.declared.chunks.Step.TheVariants as Steps
use Rattle.ps_http.specs.declared.heads.Head.{Head}
use Rattle.ps_http.specs.declared.heads.Length.{Length}
use Rattle.ps_http.specs.declared.heads.Length.TheVariants as Lengths
use Rattle.ps_http.specs.declared.heads.Stop.{Stop}
use Rattle.ps_http.specs.declared.heads.Stop.TheVariants as Stops
use Rattle.ps_http.specs.declared.sections.Section.{Section}
use Rattle.ps_http.specs.declared.sections.Section.TheVariants as Sections
use Rattle.ps_http.specs.declared.starts.Start.{Start}
use Rattle.ps_http.specs.declared.starts.Start.TheVariants as Starts
use Rattle.ps_http.specs.Answers.{has_phrase}
use Rattle.ps_http.specs.Chunks.{StepSays, last_step, step_of}
use Rattle.ps_http.specs.Heads.{HeadSays, ends_chunked, has_coding, has_length, is_encoding, is_length, is_method, is_too_long, judged, judged_by, length_of, refusal_of, taken}
use Rattle.ps_http.specs.Limits.{head_lines, most_body, most_head, trailer_lines}
use Rattle.ps_http.specs.Requests.{Body, BodySays, Chunks, Framed, Frames, FramesBy, StartSays, StartSaysAfter, StartSaysBy, behind, fixed_body, framed, started}
use Rattle.ps_http.specs.Requests.Chunks.{waits_here, refused_here, last_here, chunk_here}
use Rattle.ps_http.specs.Sections.{blank_len, find_section}
use Rattle.ps_http.proofs.ChunkLemmas.{by_tests}

same_code : (a b : ℕ) → has_phrase a ≡ true → b ≡ a → has_phrase b ≡ true
same_code a b is same = ap has_phrase same ∙ is

-- the table of refusals
abbrev chain : (a b c d e f g : Bool) → Option ℕ
chain a b c d e f g = cond a (Some 400) (cond b (Some 400) (cond c (Some 400) (cond d (Some 501) (cond e (Some 501) (cond f (Some 415) (cond g (Some 413) None))))))

in_chain : (code : ℕ) (a b c d e f g : Bool) → chain a b c d e f g ≡ Some code → has_phrase code ≡ true
in_chain code true b c d e f g is = same_code 400 code refl cc
in_chain code false true c d e f g is = same_code 400 code refl cc
in_chain code false false true d e f g is = same_code 400 code refl cc
in_chain code false false false true e f g is = same_code 501 code refl cc
in_chain code false false false false true f g is = same_code 501 code refl cc
in_chain code false false false false false true g is = same_code 415 code refl cc
in_chain code false false false false false false true is = same_code 413 code refl cc
in_chain code false false false false false false false is = absurd cc

judged_code : (code : ℕ) (o : Option ℕ) (head : Head) → ((c : ℕ) → o ≡ Some c → has_phrase c ≡ true) → Err (Stops.Refused code) ≡ judged_by o head → has_phrase code ≡ true
judged_code code None head known is = absurd cc
judged_code code (Some c) head known is = let same : code ≡ c = cc in same_code c code (known c refl) same

table_code : (code : ℕ) (h : RequestHead) (k : KnownFields) (encoded : Bool) → (c : ℕ) → refusal_of h.minor (is_method h.method) k encoded ≡ Some c → has_phrase c ≡ true
table_code code h k encoded c is =
    in_chain c ((h.minor == 1) && not (k.hosts == 1)) (not (is_length k.content_length)) (has_length k.content_length && has_coding k.transfer_encoding) (not (is_method h.method))
    (has_coding k.transfer_encoding && (not (ends_chunked k.transfer_encoding) || k.other_coding)) encoded (is_too_long (length_of k)) is

one_stop : (a b : ℕ) (one other : Result Head Stop) → one ≡ other → one ≡ Err (Stops.Refused a) → other ≡ Err (Stops.Refused b) → a ≡ b
one_stop a b one other same is that = cc

head_code : (bytes : List ℕ) (code : ℕ) (r : Result Head Stop) → r ≡ Err (Stops.Refused code) → HeadSays bytes r → has_phrase code ≡ true
head_code bytes code r is (inl whole) =
    let h = whole.0 in
    let fields = map name_and_value h.fields in
    let k = known_fields fields in
    judged_code code (refusal_of h.minor (is_method h.method) k (list_any is_encoding fields)) (taken h k) (table_code code h k (list_any is_encoding fields)) (sym is ∙ whole.2)
head_code bytes code r is (inr none) = same_code 400 code refl (one_stop code 400 r r refl is none.1)

start_code : (code at : ℕ) (r : Result Head Stop) → Starts.Refused code ≡ started r at → r ≡ Err (Stops.Refused code)
start_code code at (Ok head) is = absurd cc
start_code code at (Err (Stops.Refused c)) is = let same : code ≡ c = cc in ap (λ (n : ℕ). Err (Stops.Refused n)) (sym same)
start_code code at (Err Stops.OutOfMemory) is = absurd cc

start_by : (bytes : List ℕ) (skip code : ℕ) (section : Section) → StartSaysBy bytes skip section (Starts.Refused code) → has_phrase code ≡ true
start_by bytes skip code Sections.Waits says = absurd cc
start_by bytes skip code Sections.Over says = same_code 431 code refl cc
start_by bytes skip code (Sections.Ends end) says = head_code (take end (drop skip bytes)) code says.0 (start_code code (skip + end) says.0 says.3) says.1

start_after : (bytes : List ℕ) (skip code : ℕ) (b : Bool) → StartSaysAfter bytes skip b (Starts.Refused code) → has_phrase code ≡ true
start_after bytes skip code true says = same_code 431 code refl cc
start_after bytes skip code false says = start_by bytes skip code (find_section head_lines (drop skip bytes)) says

-- the parts of a chunked body
last_code : (n code : ℕ) (section : Section) → Steps.Refused code ≡ last_step n section → has_phrase code ≡ true
last_code n code Sections.Waits is = absurd cc
last_code n code Sections.Over is = same_code 431 code refl cc
last_code n code (Sections.Ends end) is = absurd cc

tests_code : (n s code : ℕ) (rest : List ℕ) (big none short : Bool) → Steps.Refused code ≡ by_tests n s rest big none short → has_phrase code ≡ true
tests_code n s code rest true none short is = same_code 413 code refl cc
tests_code n s code rest false true short is = last_code n code (find_section trailer_lines rest) is
tests_code n s code rest false false true is = absurd cc
tests_code n s code rest false false false is = by (bytes_eq (take 2 (drop s rest)) (codes "\r\n")) is
  where
    by : (t : Bool) → Steps.Refused code ≡ cond t (Steps.Chunk n s) (Steps.Refused 400) → has_phrase code ≡ true
    by true e = absurd cc
    by false e = same_code 400 code refl cc

step_code : (had : ℕ) (bytes : List ℕ) (code : ℕ) (line : Line) → Steps.Refused code ≡ step_of had bytes line → has_phrase code ≡ true
step_code had bytes code Lines.Waits is = absurd cc
step_code had bytes code Lines.Malformed is = same_code 400 code refl cc
step_code had bytes code (Lines.Size n s) is = tests_code n s code (drop n bytes) (nat_lt most_body (had + s)) (s == 0) (nat_lt (length (drop n bytes)) (s + 2)) is

behind_code : (piece : List ℕ) (len code : ℕ) (rest : Body) → behind piece len rest ≡ Body.refused code → rest ≡ Body.refused code
behind_code piece len code Body.waits is = absurd cc
behind_code piece len code (Body.refused c) is = is
behind_code piece len code (Body.whole body more) is = absurd cc

chunks_code : (had : ℕ) (bytes : List ℕ) (code : ℕ) (body : Body) → body ≡ Body.refused code → Chunks had bytes body → has_phrase code ≡ true
chunks_code had bytes code body is (waits_here h t says) = absurd cc
chunks_code had bytes code body is (refused_here h t c says) = let same : code ≡ c = cc in same_code c code (step_code had bytes c says.0 says.2) same
chunks_code had bytes code body is (last_here h t len says) = absurd cc
chunks_code had bytes code body is (chunk_here h t len size rest says chunks) = chunks_code (had + size) (drop (len + size + 2) bytes) code rest (behind_code (take size (drop len bytes)) (len + size + 2) code rest is) chunks

body_code : (framing : Length) (bytes : List ℕ) (code : ℕ) (body : Body) → body ≡ Body.refused code → BodySays framing bytes body → has_phrase code ≡ true
body_code (Lengths.Fixed n) bytes code body is says = absurd (by (nat_lt (length bytes) n) (sym says ∙ is))
  where
    by : (t : Bool) → cond t Body.waits (Body.whole (take n bytes) n) ≡ Body.refused code → ⊥
    by true e = cc
    by false e = cc
body_code Lengths.Chunked bytes code body is says = chunks_code 0 bytes code body is says

framed_code : (at code : ℕ) (head : Head) (body : Body) → Framed.refused code ≡ framed head at body → body ≡ Body.refused code
framed_code at code head Body.waits is = absurd cc
framed_code at code head (Body.refused c) is = let same : code ≡ c = cc in ap (λ (n : ℕ). Body.refused n) (sym same)
framed_code at code head (Body.whole body len) is = absurd cc

code_by : (bytes : List ℕ) (code : ℕ) (start : Start) → StartSays bytes start → FramesBy bytes start (Framed.refused code) → has_phrase code ≡ true
code_by bytes code Starts.Waits says frames = absurd cc
code_by bytes code (Starts.Refused c) says frames = let same : code ≡ c = cc in same_code c code (start_after bytes (blank_len bytes) c (nat_lt most_head (blank_len bytes)) says) same
code_by bytes code (Starts.Read head at) says frames = body_code head.length (drop at bytes) code frames.0 (framed_code at code head frames.0 frames.2) frames.1

-- the code by which bytes are refused has a phrase
pub refused_code : (bytes : List ℕ) (code : ℕ) → Frames bytes (Framed.refused code) → has_phrase code ≡ true
refused_code bytes code frames = code_by bytes code frames.0 frames.1 frames.2
