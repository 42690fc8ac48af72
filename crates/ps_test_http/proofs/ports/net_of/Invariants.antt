use Rattle.std.proofs.Common.{◌≡◌, true}
use Rattle.ps_edge.specs.MemoryNets.{all_unused}
use Rattle.ps_test_http.proofs.ports.net_of.Given as goal

abbrev pub invariant-loop-one : goal.invariant-loop-one
invariant-loop-one l = record {
  unused : all_unused l.links ≡ true;
}
