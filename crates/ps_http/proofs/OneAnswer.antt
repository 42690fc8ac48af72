-- The definition gives one answer to any bytes.
use Rattle.std.proofs.Common.{◌≡◌, ℕ, inl, inr, ◌+◌, Bool, true, false, nat_lt, List, [], length, take, drop, Option, Some, None, Result, refl, sym, ap, subst, ◌∙◌}
use Rattle.httparse.specs.Grammar.{ChunkLine, chunk_size}
use Rattle.httparse.proofs.GrammarLemmas.{request_unique}
use Rattle.httparse.proofs.ChunkLemmas.{chunk_line_unique}
use Rattle.ps_http.specs.declared.chunks.Line.{Line}
use Rattle.ps_http.specs.declared.chunks.Line.TheVariants as Lines
use Rattle.ps_http.specs.declared.chunks.Step.{Step}
use Rattle.ps_http.specs.declared.chunks.Step.TheVariants as Steps
use Rattle.ps_http.specs.declared.heads.Head.{Head}
use Rattle.ps_http.specs.declared.heads.Length.{Length}
use Rattle.ps_http.specs.declared.heads.Length.TheVariants as Lengths
use Rattle.ps_http.specs.declared.heads.Stop.{Stop}
use Rattle.ps_http.specs.declared.sections.Section.{Section}
use Rattle.ps_http.specs.declared.sections.Section.TheVariants as Sections
use Rattle.ps_http.specs.declared.starts.Start.{Start}
use Rattle.ps_http.specs.declared.starts.Start.TheVariants as Starts
use Rattle.ps_http.specs.Chunks.{LineSaysBy, StepSays, WholeLineSays, line_end, step_of}
use Rattle.ps_http.specs.Heads.{HeadSays, judged}
use Rattle.ps_http.specs.Laws.{OneAnswer}
use Rattle.ps_http.specs.Limits.{head_lines, most_head, most_line}
use Rattle.ps_http.specs.Requests.{Body, BodySays, Chunks, Framed, FramesBy, StartSays, StartSaysAfter, StartSaysBy, behind, framed, started}
use Rattle.ps_http.specs.Requests.Chunks.{waits_here, refused_here, last_here, chunk_here}
use Rattle.ps_http.specs.Sections.{blank_len, find_section}

one_head : (bytes : List ℕ) (r q : Result Head Stop) → HeadSays bytes r → HeadSays bytes q → r ≡ q
one_head bytes r q (inl x) (inl y) = x.2 ∙ ap judged (request_unique bytes x.0 y.0 [] [] x.1.0 y.1.0).0 ∙ sym y.2
one_head bytes r q (inl x) (inr y) = absurd (y.0 x.0 x.1)
one_head bytes r q (inr x) (inl y) = absurd (x.0 y.0 y.1)
one_head bytes r q (inr x) (inr y) = x.1 ∙ sym y.1

one_start_by : (bytes : List ℕ) (skip : ℕ) (section : Section) (s t : Start) → StartSaysBy bytes skip section s → StartSaysBy bytes skip section t → s ≡ t
one_start_by bytes skip Sections.Waits s t x y = x ∙ sym y
one_start_by bytes skip Sections.Over s t x y = x ∙ sym y
one_start_by bytes skip (Sections.Ends end) s t x y =
    x.3 ∙ ap (λ (r : Result Head Stop). started r (skip + end)) (one_head (take end (drop skip bytes)) x.0 y.0 x.1 y.1) ∙ sym y.3

one_start_after : (bytes : List ℕ) (skip : ℕ) (b : Bool) (s t : Start) → StartSaysAfter bytes skip b s → StartSaysAfter bytes skip b t → s ≡ t
one_start_after bytes skip true s t x y = x ∙ sym y
one_start_after bytes skip false s t x y = one_start_by bytes skip (find_section head_lines (drop skip bytes)) s t x y

pub one_start : (bytes : List ℕ) (s t : Start) → StartSays bytes s → StartSays bytes t → s ≡ t
one_start bytes s t x y = one_start_after bytes (blank_len bytes) (nat_lt most_head (blank_len bytes)) s t x y

one_whole_line : (text : List ℕ) (n : ℕ) (a b : Line) → WholeLineSays text n a → WholeLineSays text n b → a ≡ b
one_whole_line text n a b (inl x) (inl y) = x.2 ∙ ap (λ (l : ChunkLine). Lines.Size n (chunk_size l)) (chunk_line_unique text x.0 y.0 [] [] x.1 y.1).0 ∙ sym y.2
one_whole_line text n a b (inl x) (inr y) = absurd (y.0 x.0 x.1)
one_whole_line text n a b (inr x) (inl y) = absurd (x.0 y.0 y.1)
one_whole_line text n a b (inr x) (inr y) = x.1 ∙ sym y.1

one_line_by : (bytes : List ℕ) (o : Option ℕ) (a b : Line) → LineSaysBy bytes o a → LineSaysBy bytes o b → a ≡ b
one_line_by bytes None a b x y = x ∙ sym y
one_line_by bytes (Some end) a b x y = one_whole_line (take end bytes) (length (take end bytes)) a b x y

one_step : (had : ℕ) (bytes : List ℕ) (s t : Step) → StepSays had bytes s → StepSays had bytes t → s ≡ t
one_step had bytes s t x y = x.2 ∙ ap (step_of had bytes) (one_line_by bytes (line_end (take most_line bytes)) x.0 y.0 x.1 y.1) ∙ sym y.2

-- what a chunked body comes to, from its next part
abbrev pub After : ℕ → List ℕ → Step → Body → Type 0
After had bytes Steps.Waits body = body ≡ Body.waits
After had bytes (Steps.Refused code) body = body ≡ Body.refused code
After had bytes (Steps.Last len) body = body ≡ Body.whole [] len
After had bytes (Steps.Chunk len size) body = (rest : Body) × Chunks (had + size) (drop (len + size + 2) bytes) rest × (body ≡ behind (take size (drop len bytes)) (len + size + 2) rest)

parts : (had : ℕ) (bytes : List ℕ) (body : Body) → Chunks had bytes body → (s : Step) × StepSays had bytes s × After had bytes s body
parts had bytes body (waits_here h b says) = (Steps.Waits, says, refl)
parts had bytes body (refused_here h b code says) = (Steps.Refused code, says, refl)
parts had bytes body (last_here h b len says) = (Steps.Last len, says, refl)
parts had bytes body (chunk_here h b len size rest says chunks) = (Steps.Chunk len size, says, (rest, chunks, refl))

one_body : (had : ℕ) (bytes : List ℕ) (a b : Body) → Chunks had bytes a → Chunks had bytes b → a ≡ b
one_body had bytes a b (waits_here h t says) y =
    let p = parts had bytes b y in
    sym (subst (λ (s : Step). After had bytes s b) (one_step had bytes p.0 Steps.Waits p.1 says) p.2)
one_body had bytes a b (refused_here h t code says) y =
    let p = parts had bytes b y in
    sym (subst (λ (s : Step). After had bytes s b) (one_step had bytes p.0 (Steps.Refused code) p.1 says) p.2)
one_body had bytes a b (last_here h t len says) y =
    let p = parts had bytes b y in
    sym (subst (λ (s : Step). After had bytes s b) (one_step had bytes p.0 (Steps.Last len) p.1 says) p.2)
one_body had bytes a b (chunk_here h t len size rest says chunks) y =
    let p = parts had bytes b y in
    let q = subst (λ (s : Step). After had bytes s b) (one_step had bytes p.0 (Steps.Chunk len size) p.1 says) p.2 in
    ap (behind (take size (drop len bytes)) (len + size + 2)) (one_body (had + size) (drop (len + size + 2) bytes) rest q.0 chunks q.1) ∙ sym q.2

one_length : (length_is : Length) (bytes : List ℕ) (a b : Body) → BodySays length_is bytes a → BodySays length_is bytes b → a ≡ b
one_length (Lengths.Fixed n) bytes a b x y = x ∙ sym y
one_length Lengths.Chunked bytes a b x y = one_body 0 bytes a b x y

one_by : (bytes : List ℕ) (s : Start) (f g : Framed) → FramesBy bytes s f → FramesBy bytes s g → f ≡ g
one_by bytes Starts.Waits f g x y = x ∙ sym y
one_by bytes (Starts.Refused code) f g x y = x ∙ sym y
one_by bytes (Starts.Read head at) f g x y =
    x.2 ∙ ap (framed head at) (one_length head.length (drop at bytes) x.0 y.0 x.1 y.1) ∙ sym y.2

pub one_answer : OneAnswer
one_answer bytes f g x y =
    one_by bytes x.0 f g x.2 (subst (λ (s : Start). FramesBy bytes s g) (one_start bytes y.0 x.0 y.1 x.1) y.2)
