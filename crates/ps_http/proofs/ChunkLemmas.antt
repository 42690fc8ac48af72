-- A part of a chunked body that is there, or refused, stays so when more bytes come.
use Rattle.std.proofs.Common.{◌≡◌, ◌≢◌, ◌≤◌, ℕ, inl, inr, suc, ◌+◌, ◌==◌, nat_lt, Bool, true, false, cond, List, [], ◌∷◌, ◌++◌, length, take, drop, Option, Some, None, option_map, refl, sym, ap, subst, ◌∙◌, arith}
use Rattle.std.specs.Prelude.{codes, bytes_eq}
use Rattle.std.proofs.lemmas.Grind.{common_steps}
use Rattle.std.proofs.lemmas.List.{drop-append-le, take-append-le}
use Rattle.std.proofs.lemmas.Bool.{le-ltb}
use Rattle.ps_http.specs.declared.chunks.Line.{Line}
use Rattle.ps_http.specs.declared.chunks.Line.TheVariants as Lines
use Rattle.ps_http.specs.declared.chunks.Step.{Step}
use Rattle.ps_http.specs.declared.chunks.Step.TheVariants.{Waits, Refused, Chunk}
use Rattle.ps_http.specs.declared.sections.Section.{Section}
use Rattle.ps_http.specs.declared.sections.Section.TheVariants as Sections
use Rattle.ps_http.specs.Chunks.{LineSays, LineSaysBy, WholeLineSays, StepSays, last_step, line_end, sized_step, step_of}
use Rattle.ps_http.specs.Limits.{most_body, most_line, trailer_lines}
use Rattle.ps_http.specs.Sections.{find_section}
use Rattle.ps_http.proofs.SectionStays.{section_found}
use Rattle.ps_http.proofs.StayLemmas.{EndsIn, Stays, line_stays, not_short, still_long, widen}

ends_suc : (n : ℕ) (o : Option ℕ) → EndsIn n o → EndsIn (suc n) (option_map (λ (k : ℕ). suc k) o)
ends_suc n None within = tt
ends_suc n (Some k) within = omega arith

ends_test : (t : Bool) (n : ℕ) (o : Option ℕ) → EndsIn n o → EndsIn (suc n) (cond t (Some 1) (option_map (λ (k : ℕ). suc k) o))
ends_test true n o within = omega arith
ends_test false n o within = ends_suc n o within

line_ends_in : (bytes : List ℕ) → EndsIn (length bytes) (line_end bytes)
line_ends_in [] = tt
line_ends_in (b ∷ bytes) = ends_test (b == 10) (length bytes) (line_end bytes) (line_ends_in bytes)

-- by the line feed that was found among the first bytes
line_by : (bytes more : List ℕ) (o : Option ℕ) (line : Line) → line_end (take most_line bytes) ≡ o → EndsIn (length bytes) o → Stays o (line_end (take most_line (bytes ++ more))) → line ≢ Lines.Waits → LineSaysBy bytes o line → LineSays (bytes ++ more) line
line_by bytes more None line is within stays ready says = by (nat_lt (length bytes) most_line) refl says
  where
    by : (t : Bool) → nat_lt (length bytes) most_line ≡ t → line ≡ cond t Lines.Waits Lines.Malformed → LineSays (bytes ++ more) line
    by true short e = absurd (ready e)
    by false long e =
        let enough : most_line ≤ length bytes = not_short (length bytes) most_line long in
        let none : line_end (take most_line (bytes ++ more)) ≡ None = ap line_end (take-append-le most_line bytes more enough) ∙ is in
        let still : nat_lt (length (bytes ++ more)) most_line ≡ false = le-ltb (length (bytes ++ more)) most_line (still_long bytes more most_line enough) in
        let here : LineSaysBy (bytes ++ more) None line = e ∙ ap (λ (b : Bool). cond b Lines.Waits Lines.Malformed) (sym still) in
        subst (λ (o : Option ℕ). LineSaysBy (bytes ++ more) o line) (sym none) here
line_by bytes more (Some k) line is within stays ready says =
    let same : take k (bytes ++ more) ≡ take k bytes = take-append-le k bytes more within in
    let here : LineSaysBy (bytes ++ more) (Some k) line = subst (λ (text : List ℕ). WholeLineSays text (length text) line) (sym same) says in
    subst (λ (o : Option ℕ). LineSaysBy (bytes ++ more) o line) (sym stays) here

-- where the first line feed is, if there is one
line_at : (bytes : List ℕ) → EndsIn (length bytes) (line_end (take most_line bytes))
line_at bytes = widen most_line bytes (line_end (take most_line bytes)) (line_ends_in (take most_line bytes))

chunk_line_stays : (bytes more : List ℕ) (line : Line) → line ≢ Lines.Waits → LineSays bytes line → LineSays (bytes ++ more) line
chunk_line_stays bytes more line ready says =
    line_by bytes more (line_end (take most_line bytes)) line refl (line_at bytes) (line_stays most_line bytes more) ready says

-- a chunk line lies in the bytes
within_text : (text : List ℕ) (m n size : ℕ) → WholeLineSays text m (Lines.Size n size) → n ≡ m
within_text text m n size (inl x) = let is = x.2 in cc
within_text text m n size (inr x) = let is = x.1 in absurd cc

within_by : (bytes : List ℕ) (o : Option ℕ) (n size : ℕ) → LineSaysBy bytes o (Lines.Size n size) → n ≤ length bytes
within_by bytes None n size says = absurd (by (nat_lt (length bytes) most_line) says)
  where
    by : (t : Bool) → Lines.Size n size ≡ cond t Lines.Waits Lines.Malformed → ⊥
    by true e = cc
    by false e = cc
within_by bytes (Some k) n size says =
    let is : n ≡ length (take k bytes) = within_text (take k bytes) (length (take k bytes)) n size says in
    grind (arith, common_steps, is)

pub line_within : (bytes : List ℕ) (n size : ℕ) → LineSays bytes (Lines.Size n size) → n ≤ length bytes
line_within bytes n size says = within_by bytes (line_end (take most_line bytes)) n size says

-- a step by its tests
abbrev pub by_tests : (n s : ℕ) (rest : List ℕ) (big none short : Bool) → Step
by_tests n s rest big none short =
    cond big (Refused 413) (cond none (last_step n (find_section trailer_lines rest)) (cond short Waits (cond (bytes_eq (take 2 (drop s rest)) (codes "\r\n")) (Chunk n s) (Refused 400))))

pair_fits : (s : ℕ) (rest : List ℕ) → s + 2 ≤ length rest → 2 ≤ length (drop s rest)
pair_fits s rest long = grind (arith, common_steps)

tests_stay : (n s : ℕ) (rest more : List ℕ) (step : Step) (big none short : Bool) → nat_lt (length rest) (s + 2) ≡ short → step ≢ Waits → step ≡ by_tests n s rest big none short → step ≡ by_tests n s (rest ++ more) big none (nat_lt (length (rest ++ more)) (s + 2))
tests_stay n s rest more step true none short test ready e = e
tests_stay n s rest more step false true short test ready e =
    let found = find_section trailer_lines rest in
    e ∙ ap (last_step n) (sym (section_found trailer_lines rest more found (λ waits. ready (e ∙ ap (last_step n) waits)) refl))
tests_stay n s rest more step false false true test ready e = absurd (ready e)
tests_stay n s rest more step false false false test ready e =
    let crlf = codes "\r\n" in
    let enough : s + 2 ≤ length rest = not_short (length rest) (s + 2) test in
    let long : nat_lt (length (rest ++ more)) (s + 2) ≡ false = le-ltb (length (rest ++ more)) (s + 2) (still_long rest more (s + 2) enough) in
    let same : take 2 (drop s (rest ++ more)) ≡ take 2 (drop s rest) = ap (take 2) (drop-append-le s rest more (omega arith)) ∙ take-append-le 2 (drop s rest) more (pair_fits s rest enough) in
    e
    ∙ ap (λ (l : List ℕ). cond (bytes_eq l crlf) (Chunk n s) (Refused 400)) (sym same)
    ∙ ap (by_tests n s (rest ++ more) false false) (sym long)

-- a chunk that follows its line, or the end, stays
sized_stays : (had n s : ℕ) (rest more : List ℕ) (step : Step) → step ≢ Waits → step ≡ sized_step had n s rest → step ≡ sized_step had n s (rest ++ more)
sized_stays had n s rest more step ready e = tests_stay n s rest more step (nat_lt most_body (had + s)) (s == 0) (nat_lt (length rest) (s + 2)) refl ready e

stays_by : (had : ℕ) (bytes more : List ℕ) (line : Line) (step : Step) → step ≢ Waits → LineSays bytes line → step ≡ step_of had bytes line → StepSays had (bytes ++ more) step
stays_by had bytes more Lines.Waits step ready says e = absurd (ready e)
stays_by had bytes more Lines.Malformed step ready says e = (Lines.Malformed, chunk_line_stays bytes more Lines.Malformed (λ w. cc) says, e)
stays_by had bytes more (Lines.Size n s) step ready says e =
    let cut : drop n (bytes ++ more) ≡ drop n bytes ++ more = drop-append-le n bytes more (line_within bytes n s says) in
    (Lines.Size n s, chunk_line_stays bytes more (Lines.Size n s) (λ w. cc) says, sized_stays had n s (drop n bytes) more step ready e ∙ ap (sized_step had n s) (sym cut))

pub step_stays : (had : ℕ) (bytes more : List ℕ) (step : Step) → step ≢ Waits → StepSays had bytes step → StepSays had (bytes ++ more) step
step_stays had bytes more step ready says = stays_by had bytes more says.0 step ready says.1 says.2

not_last : (m : ℕ) (section : Section) (len size : ℕ) → Chunk len size ≡ last_step m section → ⊥
not_last m Sections.Waits len size e = cc
not_last m Sections.Over len size e = cc
not_last m (Sections.Ends k) len size e = cc

-- a chunk and its end lie in the bytes
chunk_fits : (n s : ℕ) (rest : List ℕ) (len size : ℕ) (big none short : Bool) → nat_lt (length rest) (s + 2) ≡ short → Chunk len size ≡ by_tests n s rest big none short → (len ≡ n) × (size + 2 ≤ length rest)
chunk_fits n s rest len size true none short test e = absurd cc
chunk_fits n s rest len size false true short test e = absurd (not_last n (find_section trailer_lines rest) len size e)
chunk_fits n s rest len size false false true test e = absurd cc
chunk_fits n s rest len size false false false test e = by (bytes_eq (take 2 (drop s rest)) (codes "\r\n")) e
  where
    by : (t : Bool) → Chunk len size ≡ cond t (Chunk n s) (Refused 400) → (len ≡ n) × (size + 2 ≤ length rest)
    by true e =
        let same_size : s ≡ size = cc in
        (cc, subst (λ (k : ℕ). k + 2 ≤ length rest) same_size (not_short (length rest) (s + 2) test))
    by false e = absurd cc

chunk_by : (had : ℕ) (bytes : List ℕ) (line : Line) (len size : ℕ) → LineSays bytes line → Chunk len size ≡ step_of had bytes line → len + size + 2 ≤ length bytes
chunk_by had bytes Lines.Waits len size says e = absurd cc
chunk_by had bytes Lines.Malformed len size says e = absurd cc
chunk_by had bytes (Lines.Size n s) len size says e =
    let fits = chunk_fits n s (drop n bytes) len size (nat_lt most_body (had + s)) (s == 0) (nat_lt (length (drop n bytes)) (s + 2)) refl e in
    let line : n ≤ length bytes = line_within bytes n s says in
    grind (arith, common_steps, fits.0, fits.1, line)

pub chunk_within : (had : ℕ) (bytes : List ℕ) (len size : ℕ) → StepSays had bytes (Chunk len size) → len + size + 2 ≤ length bytes
chunk_within had bytes len size says = chunk_by had bytes says.0 len size says.1 says.2
