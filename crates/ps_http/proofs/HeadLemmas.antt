-- Whole heads, from what the parser answers.
use Rattle.std.proofs.Common.{◌≡◌, ◌≤◌, ℕ, List, [], length, take, drop, map, Result, Ok, Err, ap, ◌∙◌, subst, arith}
use Rattle.std.proofs.lemmas.Grind.{common_steps}
use Rattle.std.proofs.Math.ListN.{drop_of_length-le}
use Rattle.httparse.specs.declared.spans.HeaderSpan.{HeaderSpan}
use Rattle.httparse.specs.declared.spans.RequestSpans.{RequestSpans}
use Rattle.httparse.specs.Grammar.{RequestHead, ReadsRequest}
use Rattle.httparse.specs.Spans.{IsRequestAt, header_bytes}
use Rattle.ps_http.specs.declared.heads.Stop.{Stop}
use Rattle.ps_http.specs.declared.heads.Stop.TheVariants.{Refused, OutOfMemory}
use Rattle.ps_http.specs.Heads.{IsWholeHead, UnlessMemory}
use Rattle.ps_http.specs.Limits.{most_fields}

-- the headers that were written are enough
pub at_taken : (buf : List ℕ) (headers : List HeaderSpan) (r : RequestSpans) (h : RequestHead) → IsRequestAt buf headers r h → IsRequestAt buf (take r.headers headers) r h
at_taken buf headers r h found =
    let same : take r.headers (take r.headers headers) ≡ take r.headers headers = grind (arith, common_steps) in
    record { reads = found.reads; len = found.len; method = found.method; path = found.path; version = found.version; fields = ap (map (header_bytes buf)) same ∙ found.fields }

-- a head that is as long as the bytes, with few enough fields
pub whole_head : (buf : List ℕ) (headers : List HeaderSpan) (r : RequestSpans) (h : RequestHead) → IsRequestAt buf headers r h → r.len ≡ length buf → length headers ≤ most_fields → IsWholeHead buf h
whole_head buf headers r h found whole few =
    let none : drop r.len buf ≡ [] = drop_of_length-le buf (omega arith) in
    let count : length (take r.headers headers) ≡ length h.fields = grind (arith, common_steps, ap length found.fields) in
    let fits : length h.fields ≤ most_fields = grind (arith, common_steps, count) in
    (subst (λ (rest : List ℕ). ReadsRequest buf h rest) none found.reads, fits)

-- one fact for another, unless there is no memory
pub unless_map : {T : Type 0} {P Q : Type 0} (r : Result T Stop) → (P → Q) → UnlessMemory r P → UnlessMemory r Q
unless_map (Ok value) f p = f p
unless_map (Err (Refused code)) f p = f p
unless_map (Err OutOfMemory) f p = tt
