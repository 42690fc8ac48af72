-- A section that ended, or is over its limits, stays so when more bytes come.
use Rattle.std.proofs.Common.{◌≡◌, ◌≢◌, ◌<◌, ◌≤◌, ℕ, suc, ◌+◌, ◌==◌, ◌&&◌, nat_lt, nat_le, Bool, true, false, cond, List, [], ◌∷◌, ◌++◌, length, take, Option, Some, None, option_map, refl, sym, ap, ◌∙◌, arith}
use Rattle.std.proofs.lemmas.Bool.{le-ltb}
use Rattle.std.proofs.lemmas.List.{take-append-le}
use Rattle.ps_http.specs.declared.sections.Section.{Section}
use Rattle.ps_http.specs.declared.sections.Section.TheVariants as Sections
use Rattle.ps_http.specs.Limits.{most_head}
use Rattle.ps_http.specs.Sections.{empty_line, find_section, line_count, section_by, section_end}
use Rattle.ps_http.proofs.StayLemmas.{EndsIn, Stays, not_short, section_stays, still_long, widen}

-- an end of a section lies in the bytes
here_ends : (e n : ℕ) (o : Option ℕ) → e ≤ suc n → EndsIn n o → EndsIn (suc n) (cond (e == 0) (option_map (λ (k : ℕ). suc k) o) (Some e))
here_ends e n o fits within = by (e == 0) o within
  where
    by : (t : Bool) (o : Option ℕ) → EndsIn n o → EndsIn (suc n) (cond t (option_map (λ (k : ℕ). suc k) o) (Some e))
    by true None within = tt
    by true (Some k) within = omega arith
    by false o within = fits

empty_fits : (begins : Bool) (bytes : List ℕ) → empty_line begins bytes ≤ length bytes
empty_fits begins [] = omega arith
empty_fits begins (b ∷ []) = by begins (b == 10) (b == 13)
  where
    by : (g lf cr : Bool) → cond (g && lf) 1 (cond (g && (cr && false)) 2 0) ≤ 1
    by true true cr = omega arith
    by true false true = omega arith
    by true false false = omega arith
    by false lf cr = omega arith
empty_fits begins (b ∷ (d ∷ bytes)) = by (begins && (b == 10)) (begins && ((b == 13) && (d == 10)))
  where
    by : (one two : Bool) → cond one 1 (cond two 2 0) ≤ suc (suc (length bytes))
    by true two = omega arith
    by false true = omega arith
    by false false = omega arith

section_ends_in : (begins : Bool) (bytes : List ℕ) → EndsIn (length bytes) (section_end begins bytes)
section_ends_in begins [] = tt
section_ends_in begins (b ∷ bytes) = here_ends (empty_line begins (b ∷ bytes)) (length bytes) (section_end (b == 10) bytes) (empty_fits begins (b ∷ bytes)) (section_ends_in (b == 10) bytes)

ends_in : (bytes : List ℕ) → EndsIn (length bytes) (section_end true (take most_head bytes))
ends_in bytes = widen most_head bytes (section_end true (take most_head bytes)) (section_ends_in true (take most_head bytes))

-- by the end that was found among the first bytes
found_by : (lines : ℕ) (bytes more : List ℕ) (o : Option ℕ) (s : Section) → section_end true (take most_head bytes) ≡ o → EndsIn (length bytes) o → Stays o (section_end true (take most_head (bytes ++ more))) → s ≢ Sections.Waits → section_by lines bytes o ≡ s → find_section lines (bytes ++ more) ≡ s
found_by lines bytes more None s is within stays ready found = by (nat_lt (length bytes) most_head) refl found
  where
    by : (t : Bool) → nat_lt (length bytes) most_head ≡ t → cond t Sections.Waits Sections.Over ≡ s → find_section lines (bytes ++ more) ≡ s
    by true short e = absurd (ready (sym e))
    by false long e =
        let enough : most_head ≤ length bytes = not_short (length bytes) most_head long in
        let none : section_end true (take most_head (bytes ++ more)) ≡ None = ap (section_end true) (take-append-le most_head bytes more enough) ∙ is in
        let still : nat_lt (length (bytes ++ more)) most_head ≡ false = le-ltb (length (bytes ++ more)) most_head (still_long bytes more most_head enough) in
        ap (section_by lines (bytes ++ more)) none
        ∙ ap (λ (b : Bool). cond b Sections.Waits Sections.Over) still
        ∙ e
found_by lines bytes more (Some k) s is within stays ready found =
    let same : take k (bytes ++ more) ≡ take k bytes = take-append-le k bytes more within in
    ap (section_by lines (bytes ++ more)) stays
    ∙ ap (λ (l : List ℕ). cond (nat_le (line_count l) (lines + 1)) (Sections.Ends k) Sections.Over) same
    ∙ found

pub section_found : (lines : ℕ) (bytes more : List ℕ) (s : Section) → s ≢ Sections.Waits → find_section lines bytes ≡ s → find_section lines (bytes ++ more) ≡ s
section_found lines bytes more s ready found =
    found_by lines bytes more (section_end true (take most_head bytes)) s refl (ends_in bytes) (section_stays most_head true bytes more) ready found

by_end : (lines : ℕ) (bytes : List ℕ) (o : Option ℕ) (end : ℕ) → EndsIn (length bytes) o → section_by lines bytes o ≡ Sections.Ends end → end ≤ length bytes
by_end lines bytes None end within found = absurd (by (nat_lt (length bytes) most_head) found)
  where
    by : (t : Bool) → cond t Sections.Waits Sections.Over ≡ Sections.Ends end → ⊥
    by true e = cc
    by false e = cc
by_end lines bytes (Some k) end within found = by (nat_le (line_count (take k bytes)) (lines + 1)) found
  where
    by : (t : Bool) → cond t (Sections.Ends k) Sections.Over ≡ Sections.Ends end → end ≤ length bytes
    by true e = let same : k ≡ end = cc in omega (arith, same, within)
    by false e = absurd cc

pub section_within : (lines : ℕ) (bytes : List ℕ) (end : ℕ) → find_section lines bytes ≡ Sections.Ends end → end ≤ length bytes
section_within lines bytes end found = by_end lines bytes (section_end true (take most_head bytes)) end (ends_in bytes) found

-- no section is found where there are no bytes
pub has_byte : (lines : ℕ) (bytes : List ℕ) (s : Section) → s ≢ Sections.Waits → find_section lines bytes ≡ s → 0 < length bytes
has_byte lines [] s ready found = absurd (ready (sym found))
has_byte lines (b ∷ bytes) s ready found = omega arith
