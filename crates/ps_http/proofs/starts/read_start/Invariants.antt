use Rattle.std.proofs.Common.{length, ◌+◌, ◌-◌}
use Rattle.ps_http.specs.Limits.{most_head}
use Rattle.ps_http.specs.Reading.{Grew}
use Rattle.ps_http.proofs.starts.read_start.Given as goal

abbrev pub invariant-loop-link : goal.invariant-loop-link
invariant-loop-link g l = Grew g.L.Link l.initial.link l.link l.initial.bytes.items l.bytes.items

abbrev pub decreases-loop-link : goal.decreases-loop-link
decreases-loop-link g l = most_head + most_head - length l.bytes.items
