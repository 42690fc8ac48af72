use Rattle.std.proofs.Common.{◌≤◌, ℕ, List, ◌+◌, ◌++◌, length, drop, ◌-◌}
use Rattle.ps_http.specs.Limits.{most_body}
use Rattle.ps_http.specs.Reading.{Grew}
use Rattle.ps_http.specs.Requests.{Body, Chunks, behind}
use Rattle.ps_http.proofs.bodies.read_chunks.Given as goal

abbrev pub invariant-loop-len : goal.invariant-loop-len
invariant-loop-len g l = record {
  grew : Grew g.L.Link l.initial.link l.link l.initial.bytes.items l.bytes.items;
  begun : l.at ≤ l.next;
  within : l.next ≤ length l.bytes.items;
  fits : length l.body.items ≤ most_body;
  leads : (more : List ℕ) (rest : Body) → Chunks (length l.body.items) (drop l.next (l.bytes.items ++ more)) rest
      → Chunks 0 (drop l.at (l.bytes.items ++ more)) (behind l.body.items (l.next - l.at) rest);
}

abbrev pub decreases-loop-len : goal.decreases-loop-len
decreases-loop-len g l = most_body + 1 - length l.body.items
