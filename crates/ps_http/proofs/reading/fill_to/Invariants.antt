use Rattle.std.proofs.Common.{length, ◌-◌}
use Rattle.ps_http.specs.Reading.{Grew}
use Rattle.ps_http.proofs.reading.fill_to.Given as goal

abbrev pub invariant-loop-link : goal.invariant-loop-link
invariant-loop-link g l = Grew g.L.Link l.initial.link l.link l.initial.bytes.items l.bytes.items

abbrev pub decreases-loop-link : goal.decreases-loop-link
decreases-loop-link g l = l.need - length l.bytes.items
