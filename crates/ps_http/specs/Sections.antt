-- Lines end with LF, and a CR before it belongs to the end. A section is the lines up to and with an empty one.
use Rattle.std.specs.Prelude.{ℕ, suc, ◌+◌, List, [], ◌∷◌, length, take, count_by, Bool, true, false, ◌&&◌, ◌||◌, ◌==◌, nat_lt, nat_le, if◌then◌else◌, Option, Some, None, option_map, ⊤}
use Rattle.ps_http.specs.declared.sections.Section.{Section}
use Rattle.ps_http.specs.declared.sections.Section.TheVariants.{Waits, Over, Ends}
use Rattle.ps_http.specs.Limits.{most_head}

-- a byte of a line's end
abbrev pub is_line_end : ℕ → Bool
is_line_end b = (b == 13) || (b == 10)

-- how many bytes of line ends stand before all other bytes
abbrev pub blank_len : List ℕ → ℕ
blank_len [] = 0
blank_len (b ∷ bytes) = if is_line_end b then suc (blank_len bytes) else 0

-- the first byte is LF
abbrev pub begins_lf : List ℕ → Bool
begins_lf [] = false
begins_lf (b ∷ bytes) = b == 10

-- the length of the empty line at the front of the bytes, if they begin a line
abbrev pub empty_line : Bool → List ℕ → ℕ
empty_line begins [] = 0
empty_line begins (b ∷ bytes) =
    if begins && (b == 10) then 1 else (if begins && ((b == 13) && begins_lf bytes) then 2 else 0)

-- an end that was found here, or the one that is found later
abbrev pub here_or : ℕ → Option ℕ → Option ℕ
here_or n later = if n == 0 then option_map (λ k. suc k) later else Some n

-- the number of bytes up to the first empty line, and with it; the bytes may begin a line
abbrev pub section_end : Bool → List ℕ → Option ℕ
section_end begins [] = None
section_end begins (b ∷ bytes) = here_or (empty_line begins (b ∷ bytes)) (section_end (b == 10) bytes)

-- how many lines end in the bytes
abbrev pub line_count : List ℕ → ℕ
line_count bytes = count_by (λ b. b == 10) bytes

-- by the end that was found among the first bytes
abbrev pub section_by : ℕ → List ℕ → Option ℕ → Section
section_by lines bytes None = if nat_lt (length bytes) most_head then Waits else Over
section_by lines bytes (Some n) = if nat_le (line_count (take n bytes)) (lines + 1) then Ends n else Over

-- how far a section of at most so many lines, the empty one aside, has come
abbrev pub find_section : ℕ → List ℕ → Section
find_section lines bytes = section_by lines bytes (section_end true (take most_head bytes))

-- a fact on the end of a section
abbrev pub IfEnds : Section → (ℕ → Type 0) → Type 0
IfEnds Waits P = ⊤
IfEnds Over P = ⊤
IfEnds (Ends n) P = P n
