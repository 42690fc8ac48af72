-- What was found among the first bytes stays when more bytes come.
use Rattle.std.proofs.Common.{◌≡◌, ◌<◌, ◌≤◌, ℕ, zero, suc, ◌+◌, ◌==◌, nat_lt, Bool, true, false, ◌&&◌, cond, List, [], ◌∷◌, ◌++◌, length, take, drop, get_or, drop-cons, Option, Some, None, option_map, refl, sym, ap, ◌∙◌, arith, add-one}
use Rattle.std.specs.Prelude.{⊤}
use Rattle.std.proofs.lemmas.Bool.Decides.{nat_tests}
use Rattle.std.proofs.lemmas.Grind.{common_steps}
use Rattle.ps_http.specs.Chunks.{line_end}
use Rattle.ps_http.specs.Sections.{begins_lf, empty_line, here_or, section_end}

-- a count that begins one later
pub later_by : (at : ℕ) (o : Option ℕ) → option_map (λ (k : ℕ). suc at + k) o ≡ option_map (λ (k : ℕ). at + k) (option_map (λ (k : ℕ). suc k) o)
later_by at None = refl
later_by at (Some k) = let same : suc at + k ≡ at + suc k = omega arith in ap Some same

-- no line feed is here, so the search goes on behind this byte
pub line_later : (bytes : List ℕ) (at : ℕ) → at < length bytes → (get_or bytes at 0 == 10) ≡ false → option_map (λ (k : ℕ). (at + 1) + k) (line_end (drop (at + 1) bytes)) ≡ option_map (λ (k : ℕ). at + k) (line_end (drop at bytes))
line_later bytes at below other =
    let rest = drop (suc at) bytes in
    let split : drop at bytes ≡ get_or bytes at 0 ∷ rest = drop-cons bytes at 0 below in
    let whole : line_end (drop at bytes) ≡ option_map (λ (k : ℕ). suc k) (line_end rest) =
    ap line_end split ∙ ap (λ (t : Bool). cond t (Some 1) (option_map (λ (k : ℕ). suc k) (line_end rest))) other in
    ap (λ (i : ℕ). option_map (λ (k : ℕ). i + k) (line_end (drop i bytes))) (add-one at)
    ∙ later_by at (line_end rest)
    ∙ ap (option_map (λ (k : ℕ). at + k)) (sym whole)

-- an end lies in the bytes
abbrev pub EndsIn : ℕ → Option ℕ → Type 0
EndsIn n None = ⊤
EndsIn n (Some k) = k ≤ n

pub widen : (n : ℕ) (bytes : List ℕ) (o : Option ℕ) → EndsIn (length (take n bytes)) o → EndsIn (length bytes) o
widen n bytes None within = tt
widen n bytes (Some k) within = grind (arith, common_steps)

pub not_short : (n k : ℕ) → nat_lt n k ≡ false → k ≤ n
not_short n k test = grind (arith, nat_tests)

pub still_long : (bytes more : List ℕ) (k : ℕ) → k ≤ length bytes → k ≤ length (bytes ++ more)
still_long bytes more k long = grind (arith, common_steps)

-- what was found is found again
abbrev pub Stays : Option ℕ → Option ℕ → Type 0
Stays None now = ⊤
Stays (Some k) now = now ≡ Some k

stays-suc : (was now : Option ℕ) → Stays was now → Stays (option_map (λ (k : ℕ). suc k) was) (option_map (λ (k : ℕ). suc k) now)
stays-suc None now stays = tt
stays-suc (Some k) now stays = ap (option_map (λ (j : ℕ). suc j)) stays

by_test : (t : Bool) (was now : Option ℕ) → Stays was now → Stays (cond t (Some 1) (option_map (λ (k : ℕ). suc k) was)) (cond t (Some 1) (option_map (λ (k : ℕ). suc k) now))
by_test true was now stays = refl
by_test false was now stays = stays-suc was now stays

pub line_stays : (n : ℕ) (bytes more : List ℕ) → Stays (line_end (take n bytes)) (line_end (take n (bytes ++ more)))
line_stays zero bytes more = tt
line_stays (suc n) [] more = tt
line_stays (suc n) (b ∷ bytes) more = by_test (b == 10) (line_end (take n bytes)) (line_end (take n (bytes ++ more))) (line_stays n bytes more)

-- with the length of an empty line that is the same where it was found
here : (e : ℕ) (was now : Option ℕ) → Stays was now → Stays (here_or e was) (here_or e now)
here e was now stays = by_length (e == 0)
  where
    by_length : (t : Bool) → Stays (cond t (option_map (λ (k : ℕ). suc k) was) (Some e)) (cond t (option_map (λ (k : ℕ). suc k) now) (Some e))
    by_length true = stays-suc was now stays
    by_length false = refl

-- a line of one byte is empty if that is LF, and else nothing was found
last : (begins : Bool) (b : ℕ) (more : List ℕ) (now : Option ℕ) → Stays (here_or (empty_line begins (b ∷ [])) None) (here_or (empty_line begins (b ∷ more)) now)
last begins b more now = by begins (b == 10) (b == 13)
  where
    by : (g lf cr : Bool) → Stays (here_or (cond (g && lf) 1 (cond (g && (cr && false)) 2 0)) None) (here_or (cond (g && lf) 1 (cond (g && (cr && begins_lf more)) 2 0)) now)
    by true true cr = refl
    by true false true = tt
    by true false false = tt
    by false lf cr = tt

pub section_stays : (n : ℕ) (begins : Bool) (bytes more : List ℕ) → Stays (section_end begins (take n bytes)) (section_end begins (take n (bytes ++ more)))
section_stays zero begins bytes more = tt
section_stays (suc n) begins [] more = tt
section_stays (suc zero) begins (b ∷ bytes) more = last begins b [] (section_end (b == 10) [])
section_stays (suc (suc n)) begins (b ∷ []) more = last begins b (take (suc n) more) (section_end (b == 10) (take (suc n) more))
section_stays (suc (suc n)) begins (b ∷ (d ∷ bytes)) more =
    here (empty_line begins (b ∷ (d ∷ []))) (section_end (b == 10) (take (suc n) (d ∷ bytes))) (section_end (b == 10) (take (suc n) (d ∷ (bytes ++ more)))) (section_stays (suc n) (b == 10) (d ∷ bytes) more)
