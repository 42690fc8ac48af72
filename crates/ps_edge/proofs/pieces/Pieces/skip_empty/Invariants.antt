use Rattle.std.proofs.Common.{◌≡◌, ◌≤◌, ◌-◌, length, drop}
use Rattle.ps_edge.specs.Pieces.{drop_empty, front, cut, past_of}
use Rattle.ps_edge.proofs.pieces.Pieces.skip_empty.Given as goal

abbrev pub invariant-loop-self : goal.invariant-loop-self
invariant-loop-self l = record {
  past : past_of l.self-inside.at l.self-inside.taken l.self-inside.items ≡ l.fn.self.past;
  pieces : drop_empty (cut l.self-inside.taken (drop l.self-inside.at l.self-inside.items)) ≡ drop_empty l.fn.self.pieces;
  taken : l.self-inside.taken ≤ length (front (drop l.self-inside.at l.self-inside.items));
}

abbrev pub decreases-loop-self : goal.decreases-loop-self
decreases-loop-self l = length l.self-inside.items - l.self-inside.at
