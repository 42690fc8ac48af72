use Rattle.std.proofs.Common.{◌≡◌, ◌+◌, ℕ, true, drop, option_map}
use Rattle.ps_http.specs.Sections.{section_end}
use Rattle.ps_http.proofs.sections.section_end.Given as goal

abbrev pub invariant-loop-at : goal.invariant-loop-at
invariant-loop-at l = option_map (λ (k : ℕ). l.at + k) (section_end l.begins (drop l.at l.bytes)) ≡ section_end true l.bytes
