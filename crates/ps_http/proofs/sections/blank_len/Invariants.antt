use Rattle.std.proofs.Common.{◌≡◌, ◌+◌, drop}
use Rattle.ps_http.specs.Sections.{blank_len}
use Rattle.ps_http.proofs.sections.blank_len.Given as goal

abbrev pub invariant-loop-at : goal.invariant-loop-at
invariant-loop-at l = l.at + blank_len (drop l.at l.bytes) ≡ blank_len l.bytes
