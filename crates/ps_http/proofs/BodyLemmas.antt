-- A chunked body that is read chunk by chunk.
use Rattle.std.proofs.Common.{◌≡◌, ◌≤◌, ℕ, ◌+◌, ◌-◌, List, [], ◌++◌, length, take, drop, refl, sym, ap, ap₂, subst, ◌∙◌, arith, append_assoc}
use Rattle.std.proofs.lemmas.Grind.{common_steps}
use Rattle.std.proofs.lemmas.List.{append-nil, drop-append-le}
use Rattle.ps_http.specs.declared.chunks.Step.TheVariants as Steps
use Rattle.ps_http.specs.Chunks.{StepSays}
use Rattle.ps_http.specs.Requests.{Body, Chunks, behind}
use Rattle.ps_http.specs.Requests.Body.{waits, refused, whole}
use Rattle.ps_http.specs.Requests.Chunks.{chunk_here, last_here, refused_here, waits_here}
use Rattle.ps_http.proofs.ChunkLemmas.{step_stays}

-- no bytes before a body
pub behind-none : (body : Body) → behind [] 0 body ≡ body
behind-none waits = refl
behind-none (refused code) = refl
behind-none (whole body len) = let same : 0 + len ≡ len = omega arith in ap (λ (n : ℕ). whole body n) same

-- bytes before bytes before a body
pub behind-behind : (a b : List ℕ) (m n : ℕ) (body : Body) → behind a m (behind b n body) ≡ behind (a ++ b) (m + n) body
behind-behind a b m n waits = refl
behind-behind a b m n (refused code) = refl
behind-behind a b m n (whole body len) =
    let same : m + (n + len) ≡ (m + n) + len = omega arith in
    ap₂ (λ (l : List ℕ) (k : ℕ). whole l k) (sym (append_assoc a b body)) same

-- what a body that was read so far leads to, whatever comes
abbrev pub Leads : (at next : ℕ) (bytes body : List ℕ) → Type 0
Leads at next bytes body = (more : List ℕ) (rest : Body) → Chunks (length body) (drop next (bytes ++ more)) rest → Chunks 0 (drop at (bytes ++ more)) (behind body (next - at) rest)

-- nothing was read
pub leads_first : (at : ℕ) (bytes : List ℕ) → Leads at at bytes []
leads_first at bytes = λ more rest chunks.
    let none : at - at ≡ 0 = omega arith in
    subst (λ (b : Body). Chunks 0 (drop at (bytes ++ more)) b) (sym (ap (λ (n : ℕ). behind [] n rest) none ∙ behind-none rest)) chunks

-- more bytes came
pub leads_longer : (at next : ℕ) (was now extra body : List ℕ) → now ≡ was ++ extra → Leads at next was body → Leads at next now body
leads_longer at next was now extra body grew leads = λ more rest chunks.
    let joined : now ++ more ≡ was ++ (extra ++ more) = ap (λ (l : List ℕ). l ++ more) grew ∙ append_assoc was extra more in
    let here = subst (λ (l : List ℕ). Chunks (length body) (drop next l) rest) joined chunks in
    subst (λ (l : List ℕ). Chunks 0 (drop at l) (behind body (next - at) rest)) (sym joined) (leads (extra ++ more) rest here)

-- one more chunk was read
pub leads_on : (at next len size next_now : ℕ) (bytes body body_now : List ℕ) → Leads at next bytes body → at ≤ next → next ≤ length bytes → len + size + 2 ≤ length (drop next bytes) → StepSays (length body) (drop next bytes) (Steps.Chunk len size) → next_now ≡ next + len + size + 2 → body_now ≡ body ++ take size (drop (next + len) bytes) → Leads at next_now bytes body_now
leads_on at next len size next_now bytes body body_now leads begun within enough step is text = λ more rest chunks.
    let had = length body in
    let all = bytes ++ more in
    let tail = drop next all in
    let split : tail ≡ drop next bytes ++ more = drop-append-le next bytes more within in
    let there : StepSays had tail (Steps.Chunk len size) = subst (λ (l : List ℕ). StepSays had l (Steps.Chunk len size)) (sym split) (step_stays had (drop next bytes) more (Steps.Chunk len size) (λ e. cc) step) in
    let grown : length body_now ≡ had + size = grind (arith, common_steps, ap length text) in
    let rests : drop next_now all ≡ drop (len + size + 2) tail = grind (arith, common_steps, is) in
    let inner : Chunks (had + size) (drop (len + size + 2) tail) rest = subst (λ (l : List ℕ). Chunks (had + size) l rest) rests (subst (λ (n : ℕ). Chunks n (drop next_now all) rest) grown chunks) in
    let one = chunk_here had tail len size rest there inner in
    let out = leads more (behind (take size (drop len tail)) (len + size + 2) rest) one in
    let piece : take size (drop len tail) ≡ take size (drop (next + len) bytes) = grind (arith, common_steps, split) in
    let count : (next - at) + (len + size + 2) ≡ next_now - at = omega (arith, is) in
    let same : behind body (next - at) (behind (take size (drop len tail)) (len + size + 2) rest) ≡ behind body_now (next_now - at) rest =
    behind-behind body (take size (drop len tail)) (next - at) (len + size + 2) rest
    ∙ ap₂ (λ (l : List ℕ) (n : ℕ). behind l n rest) (ap (λ (p : List ℕ). body ++ p) piece ∙ sym text) count in
    subst (λ (b : Body). Chunks 0 (drop at all) b) same out

-- what follows decides what the whole comes to
leads_to : (at next : ℕ) (bytes body : List ℕ) (rest : Body) → Leads at next bytes body → Chunks (length body) (drop next bytes) rest → Chunks 0 (drop at bytes) (behind body (next - at) rest)
leads_to at next bytes body rest leads chunks =
    let whole_text : bytes ++ [] ≡ bytes = append-nil bytes in
    let here = subst (λ (l : List ℕ). Chunks (length body) (drop next l) rest) (sym whole_text) chunks in
    subst (λ (l : List ℕ). Chunks 0 (drop at l) (behind body (next - at) rest)) whole_text (leads [] rest here)

pub ends_last : (at next len : ℕ) (bytes body : List ℕ) → Leads at next bytes body → StepSays (length body) (drop next bytes) (Steps.Last len) → Chunks 0 (drop at bytes) (whole body ((next - at) + len))
ends_last at next len bytes body leads step =
    let text : body ++ [] ≡ body = append-nil body in
    subst (λ (l : List ℕ). Chunks 0 (drop at bytes) (whole l ((next - at) + len))) text
    (leads_to at next bytes body (whole [] len) leads (last_here (length body) (drop next bytes) len step))

pub ends_refused : (at next code : ℕ) (bytes body : List ℕ) → Leads at next bytes body → StepSays (length body) (drop next bytes) (Steps.Refused code) → Chunks 0 (drop at bytes) (refused code)
ends_refused at next code bytes body leads step = leads_to at next bytes body (refused code) leads (refused_here (length body) (drop next bytes) code step)

pub ends_waits : (at next : ℕ) (bytes body : List ℕ) → Leads at next bytes body → StepSays (length body) (drop next bytes) Steps.Waits → Chunks 0 (drop at bytes) waits
ends_waits at next bytes body leads step = leads_to at next bytes body waits leads (waits_here (length body) (drop next bytes) step)
