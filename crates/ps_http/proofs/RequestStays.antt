-- What isn't waiting stays when bytes are added, so no request is a proper prefix of another one.
use Rattle.std.proofs.Common.{◌≡◌, ◌≢◌, ◌≤◌, ℕ, ◌+◌, nat_lt, Bool, true, false, cond, List, [], ◌∷◌, ◌++◌, length, take, drop, refl, sym, ap, subst, ◌∙◌, arith, length-append}
use Rattle.std.proofs.lemmas.Bool.{le-ltb}
use Rattle.std.proofs.lemmas.Grind.{common_steps}
use Rattle.std.proofs.lemmas.List.{drop-append-le, take-append-le}
use Rattle.ps_http.specs.declared.chunks.Step.TheVariants as Steps
use Rattle.ps_http.specs.declared.heads.Length.{Length}
use Rattle.ps_http.specs.declared.heads.Length.TheVariants as Lengths
use Rattle.ps_http.specs.declared.starts.Start.{Start}
use Rattle.ps_http.specs.declared.starts.Start.TheVariants as Starts
use Rattle.ps_http.specs.Laws.{PrefixFree, Stays}
use Rattle.ps_http.specs.Requests.{Body, BodySays, Chunks, Framed, Frames, FramesBy, StartSays, behind, fixed_body, framed}
use Rattle.ps_http.specs.Requests.Chunks.{waits_here, refused_here, last_here, chunk_here}
use Rattle.ps_http.proofs.ChunkLemmas.{chunk_within, step_stays}
use Rattle.ps_http.proofs.OneAnswer.{one_answer}
use Rattle.ps_http.proofs.StartStays.{start_stays, start_within}
use Rattle.ps_http.proofs.StayLemmas.{not_short, still_long}

-- a body by its length field
fixed_stays : (n : ℕ) (bytes more : List ℕ) (body : Body) → body ≢ Body.waits → body ≡ fixed_body n bytes → body ≡ fixed_body n (bytes ++ more)
fixed_stays n bytes more body ready says = by (nat_lt (length bytes) n) refl says
  where
    by : (t : Bool) → nat_lt (length bytes) n ≡ t → body ≡ cond t Body.waits (Body.whole (take n bytes) n) → body ≡ fixed_body n (bytes ++ more)
    by true short e = absurd (ready e)
    by false long e =
        let enough : n ≤ length bytes = not_short (length bytes) n long in
        let still : nat_lt (length (bytes ++ more)) n ≡ false = le-ltb (length (bytes ++ more)) n (still_long bytes more n enough) in
        e
        ∙ ap (λ (l : List ℕ). Body.whole l n) (sym (take-append-le n bytes more enough))
        ∙ ap (λ (b : Bool). cond b Body.waits (Body.whole (take n (bytes ++ more)) n)) (sym still)

same_piece : (bytes more : List ℕ) (len size : ℕ) → len + size + 2 ≤ length bytes → take size (drop len (bytes ++ more)) ≡ take size (drop len bytes)
same_piece bytes more len size fits =
    let room : size ≤ length (drop len bytes) = grind (arith, common_steps, fits) in
    ap (take size) (drop-append-le len bytes more (omega (arith, fits))) ∙ take-append-le size (drop len bytes) more room

-- a body in chunks
chunks_stay : (had : ℕ) (bytes more : List ℕ) (body : Body) → body ≢ Body.waits → Chunks had bytes body → Chunks had (bytes ++ more) body
chunks_stay had bytes more body ready (waits_here h t says) = absurd (ready refl)
chunks_stay had bytes more body ready (refused_here h t code says) = refused_here had (bytes ++ more) code (step_stays had bytes more (Steps.Refused code) (λ e. cc) says)
chunks_stay had bytes more body ready (last_here h t len says) = last_here had (bytes ++ more) len (step_stays had bytes more (Steps.Last len) (λ e. cc) says)
chunks_stay had bytes more body ready (chunk_here h t len size rest says chunks) =
    let fits = chunk_within had bytes len size says in
    let past : drop (len + size + 2) (bytes ++ more) ≡ drop (len + size + 2) bytes ++ more = drop-append-le (len + size + 2) bytes more fits in
    let later = chunks_stay (had + size) (drop (len + size + 2) bytes) more rest (λ e. ready (ap (behind (take size (drop len bytes)) (len + size + 2)) e)) chunks in
    let here = chunk_here had (bytes ++ more) len size rest (step_stays had bytes more (Steps.Chunk len size) (λ e. cc) says) (subst (λ (l : List ℕ). Chunks (had + size) l rest) (sym past) later) in
    subst (λ (l : List ℕ). Chunks had (bytes ++ more) (behind l (len + size + 2) rest)) (same_piece bytes more len size fits) here

body_stays : (framing : Length) (bytes more : List ℕ) (body : Body) → body ≢ Body.waits → BodySays framing bytes body → BodySays framing (bytes ++ more) body
body_stays (Lengths.Fixed n) bytes more body ready says = fixed_stays n bytes more body ready says
body_stays Lengths.Chunked bytes more body ready says = chunks_stay 0 bytes more body ready says

stays_by : (bytes more : List ℕ) (start : Start) (f : Framed) → f ≢ Framed.waits → StartSays bytes start → FramesBy bytes start f → Frames (bytes ++ more) f
stays_by bytes more Starts.Waits f ready says frames = absurd (ready frames)
stays_by bytes more (Starts.Refused code) f ready says frames = (Starts.Refused code, start_stays bytes more (Starts.Refused code) (λ e. cc) says, frames)
stays_by bytes more (Starts.Read head at) f ready says frames =
    let past : drop at (bytes ++ more) ≡ drop at bytes ++ more = drop-append-le at bytes more (start_within bytes at head says) in
    let body = body_stays head.length (drop at bytes) more frames.0 (λ e. ready (frames.2 ∙ ap (framed head at) e)) frames.1 in
    let there = subst (λ (l : List ℕ). BodySays head.length l frames.0) (sym past) body in
    (Starts.Read head at, start_stays bytes more (Starts.Read head at) (λ e. cc) says, (frames.0, there, frames.2))

pub stays : Stays
stays bytes more f frames ready = stays_by bytes more frames.0 f ready frames.1 frames.2

no_more : (bytes more : List ℕ) → length bytes ≡ length (bytes ++ more) → more ≡ []
no_more bytes [] same = refl
no_more bytes (b ∷ more) same = absurd (grind (arith, common_steps, same, length-append bytes (b ∷ more)))

same_len : (m1 t1 b1 m2 t2 b2 : List ℕ) (c1 c2 : Bool) (n1 n2 : ℕ) → Framed.whole m1 t1 b1 c1 n1 ≡ Framed.whole m2 t2 b2 c2 n2 → n1 ≡ n2
same_len m1 t1 b1 m2 t2 b2 c1 c2 n1 n2 e = cc

pub prefix_free : PrefixFree
prefix_free bytes more one two =
    let first = Framed.whole one.0 one.1 one.2 one.3 (length bytes) in
    let there = stays bytes more first one.4 (λ e. cc) in
    let same = one_answer (bytes ++ more) first (Framed.whole two.0 two.1 two.2 two.3 (length (bytes ++ more))) there two.4 in
    no_more bytes more (same_len one.0 one.1 one.2 two.0 two.1 two.2 one.3 two.3 (length bytes) (length (bytes ++ more)) same)
