-- Steps of the search for the end of a section.
use Rattle.std.proofs.Common.{◌≡◌, ◌<◌, ℕ, suc, ◌+◌, ◌==◌, Bool, List, ◌∷◌, length, drop, get_or, drop-cons, option_map, sym, ap, ◌∙◌, add-one}
use Rattle.ps_http.specs.Sections.{empty_line, here_or, section_end}
use Rattle.ps_http.proofs.StayLemmas.{later_by}

-- no empty line is here, so the search goes on behind this byte
pub end_later : (bytes : List ℕ) (at : ℕ) (begins : Bool) → at < length bytes → empty_line begins (drop at bytes) ≡ 0 → option_map (λ (k : ℕ). (at + 1) + k) (section_end (get_or bytes at 0 == 10) (drop (at + 1) bytes)) ≡ option_map (λ (k : ℕ). at + k) (section_end begins (drop at bytes))
end_later bytes at begins below none =
    let b = get_or bytes at 0 in
    let rest = drop (suc at) bytes in
    let split : drop at bytes ≡ b ∷ rest = drop-cons bytes at 0 below in
    let empty : empty_line begins (b ∷ rest) ≡ 0 = sym (ap (empty_line begins) split) ∙ none in
    let whole : section_end begins (drop at bytes) ≡ option_map (λ (k : ℕ). suc k) (section_end (b == 10) rest) =
    ap (section_end begins) split ∙ ap (λ (n : ℕ). here_or n (section_end (b == 10) rest)) empty in
    ap (λ (i : ℕ). option_map (λ (k : ℕ). i + k) (section_end (b == 10) (drop i bytes))) (add-one at)
    ∙ later_by at (section_end (b == 10) rest)
    ∙ ap (option_map (λ (k : ℕ). at + k)) (sym whole)
