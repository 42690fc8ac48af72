use Rattle.std.proofs.Common.{◌≡◌, ◌≤◌, take}
use Rattle.ps_http.specs.Sections.{line_count}
use Rattle.ps_http.proofs.sections.line_count.Given as goal

abbrev pub invariant-loop-byte : goal.invariant-loop-byte
invariant-loop-byte l = record { value : l.count ≡ line_count (take l.byte-index l.bytes); within : l.count ≤ l.byte-index }
