use Rattle.std.proofs.Common.{◌≡◌, ◌+◌, ℕ, drop, option_map}
use Rattle.ps_http.specs.Chunks.{line_end}
use Rattle.ps_http.proofs.chunks.line_end.Given as goal

abbrev pub invariant-loop-at : goal.invariant-loop-at
invariant-loop-at l = option_map (λ (k : ℕ). l.at + k) (line_end (drop l.at l.bytes)) ≡ line_end l.bytes
