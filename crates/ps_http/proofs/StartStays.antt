-- A head that is read or refused stays so when more bytes come.
use Rattle.std.proofs.Common.{◌≡◌, ◌≢◌, ◌<◌, ◌≤◌, ℕ, suc, ◌+◌, nat_lt, Bool, true, false, cond, List, [], ◌∷◌, ◌++◌, length, take, drop, Result, Ok, Err, refl, sym, ap, subst, ◌∙◌, arith}
use Rattle.std.proofs.lemmas.Bool.Decides.{nat_tests}
use Rattle.std.proofs.lemmas.Grind.{common_steps}
use Rattle.std.proofs.lemmas.List.{drop-append-le, take-append-le}
use Rattle.ps_http.specs.declared.heads.Head.{Head}
use Rattle.ps_http.specs.declared.heads.Stop.{Stop}
use Rattle.ps_http.specs.declared.heads.Stop.TheVariants as Stops
use Rattle.ps_http.specs.declared.sections.Section.{Section}
use Rattle.ps_http.specs.declared.sections.Section.TheVariants as Sections
use Rattle.ps_http.specs.declared.starts.Start.{Start}
use Rattle.ps_http.specs.declared.starts.Start.TheVariants as Starts
use Rattle.ps_http.specs.Heads.{HeadSays}
use Rattle.ps_http.specs.Limits.{head_lines, most_head}
use Rattle.ps_http.specs.Requests.{StartSays, StartSaysAfter, StartSaysBy, started}
use Rattle.ps_http.specs.Sections.{blank_len, find_section, is_line_end}
use Rattle.ps_http.proofs.SectionStays.{has_byte, section_found, section_within}

-- the line ends before a head are the same, if another byte follows them
blank_stays : (bytes more : List ℕ) → blank_len bytes < length bytes → blank_len (bytes ++ more) ≡ blank_len bytes
blank_stays [] more below = absurd (omega arith)
blank_stays (b ∷ bytes) more below = by (is_line_end b) below (λ under. blank_stays bytes more under)
  where
    by : (t : Bool) → cond t (suc (blank_len bytes)) 0 < suc (length bytes) → (blank_len bytes < length bytes → blank_len (bytes ++ more) ≡ blank_len bytes) → cond t (suc (blank_len (bytes ++ more))) 0 ≡ cond t (suc (blank_len bytes)) 0
    by true under same = ap (λ (n : ℕ). suc n) (same (omega arith))
    by false under same = refl

-- they don't get fewer
blank_grows : (bytes more : List ℕ) → blank_len bytes ≤ blank_len (bytes ++ more)
blank_grows [] more = omega arith
blank_grows (b ∷ bytes) more = by (is_line_end b) (blank_grows bytes more)
  where
    by : (t : Bool) → blank_len bytes ≤ blank_len (bytes ++ more) → cond t (suc (blank_len bytes)) 0 ≤ cond t (suc (blank_len (bytes ++ more))) 0
    by true grows = omega arith
    by false grows = omega arith

still_many : (k n : ℕ) → nat_lt most_head k ≡ true → k ≤ n → nat_lt most_head n ≡ true
still_many k n many grows = grind (arith, nat_tests)

below_end : (bytes : List ℕ) (k : ℕ) → 0 < length (drop k bytes) → k < length bytes
below_end bytes k some = grind (arith, common_steps)

-- the head begins where it began
module _ (bytes more : List ℕ) (k : ℕ) (is : k ≡ blank_len bytes) where
  moved : k < length bytes → drop k (bytes ++ more) ≡ drop k bytes ++ more
  moved below = drop-append-le k bytes more (omega (arith, below))

  -- by the section that was found
  start_at : (start : Start) (s : Section) → nat_lt most_head k ≡ false → find_section head_lines (drop k bytes) ≡ s → s ≢ Sections.Waits → (k < length bytes → StartSaysBy (bytes ++ more) k s start) → StartSays (bytes ++ more) start
  start_at start s few found ready says =
      let below : k < length bytes = below_end bytes k (has_byte head_lines (drop k bytes) s ready found) in
      let same : blank_len (bytes ++ more) ≡ k = blank_stays bytes more (subst (λ (n : ℕ). n < length bytes) is below) ∙ sym is in
      let there : find_section head_lines (drop k (bytes ++ more)) ≡ s = ap (find_section head_lines) (moved below) ∙ section_found head_lines (drop k bytes) more s ready found in
      let here : StartSaysBy (bytes ++ more) k (find_section head_lines (drop k (bytes ++ more))) start = subst (λ (t : Section). StartSaysBy (bytes ++ more) k t start) (sym there) (says below) in
      let after : StartSaysAfter (bytes ++ more) k (nat_lt most_head k) start = subst (λ (b : Bool). StartSaysAfter (bytes ++ more) k b start) (sym few) here in
      subst (λ (n : ℕ). StartSaysAfter (bytes ++ more) n (nat_lt most_head n) start) (sym same) after

  start_by : (start : Start) (s : Section) → nat_lt most_head k ≡ false → find_section head_lines (drop k bytes) ≡ s → start ≢ Starts.Waits → StartSaysBy bytes k s start → StartSays (bytes ++ more) start
  start_by start Sections.Waits few found ready says = absurd (ready says)
  start_by start Sections.Over few found ready says = start_at start Sections.Over few found (λ e. cc) (λ below. says)
  start_by start (Sections.Ends end) few found ready says = start_at start (Sections.Ends end) few found (λ e. cc) (λ below.
      let text : take end (drop k (bytes ++ more)) ≡ take end (drop k bytes) = ap (take end) (moved below) ∙ take-append-le end (drop k bytes) more (section_within head_lines (drop k bytes) end found) in
      (says.0, subst (λ (l : List ℕ). HeadSays l says.0) (sym text) says.1, says.2, says.3))

  start_after : (start : Start) (b : Bool) → nat_lt most_head k ≡ b → start ≢ Starts.Waits → StartSaysAfter bytes k b start → StartSays (bytes ++ more) start
  start_after start true many ready says =
      let grows : k ≤ blank_len (bytes ++ more) = subst (λ (n : ℕ). n ≤ blank_len (bytes ++ more)) (sym is) (blank_grows bytes more) in
      subst (λ (b : Bool). StartSaysAfter (bytes ++ more) (blank_len (bytes ++ more)) b start) (sym (still_many k (blank_len (bytes ++ more)) many grows)) says
  start_after start false few ready says = start_by start (find_section head_lines (drop k bytes)) few refl ready says

pub start_stays : (bytes more : List ℕ) (start : Start) → start ≢ Starts.Waits → StartSays bytes start → StartSays (bytes ++ more) start
start_stays bytes more start ready says = start_after bytes more (blank_len bytes) refl start (nat_lt most_head (blank_len bytes)) refl ready says

-- a head that is read ends in the bytes
read_there : (r : Result Head Stop) (head : Head) (at n : ℕ) → Starts.Read head at ≡ started r n → at ≡ n
read_there (Ok h) head at n e = cc
read_there (Err (Stops.Refused code)) head at n e = absurd cc
read_there (Err Stops.OutOfMemory) head at n e = absurd cc

within_by : (bytes : List ℕ) (k at : ℕ) (head : Head) (s : Section) → find_section head_lines (drop k bytes) ≡ s → StartSaysBy bytes k s (Starts.Read head at) → at ≤ length bytes
within_by bytes k at head Sections.Waits found says = absurd cc
within_by bytes k at head Sections.Over found says = absurd cc
within_by bytes k at head (Sections.Ends end) found says =
    let below : k < length bytes = below_end bytes k (has_byte head_lines (drop k bytes) (Sections.Ends end) (λ e. cc) found) in
    let fits : end ≤ length (drop k bytes) = section_within head_lines (drop k bytes) end found in
    let is : at ≡ k + end = read_there says.0 head at (k + end) says.3 in
    grind (arith, common_steps, below, fits, is)

within_after : (bytes : List ℕ) (k at : ℕ) (head : Head) (b : Bool) → StartSaysAfter bytes k b (Starts.Read head at) → at ≤ length bytes
within_after bytes k at head true says = absurd cc
within_after bytes k at head false says = within_by bytes k at head (find_section head_lines (drop k bytes)) refl says

pub start_within : (bytes : List ℕ) (at : ℕ) (head : Head) → StartSays bytes (Starts.Read head at) → at ≤ length bytes
start_within bytes at head says = within_after bytes (blank_len bytes) at head (nat_lt most_head (blank_len bytes)) says
