use Rattle.std.proofs.Common.{◌≡◌, ◌-◌, ◌^◌, min, take}
use Rattle.std.specs.Prelude.{sum_by}
use Rattle.ps_sockets.proofs.door.faults_of.Given as goal

abbrev pub invariant-loop-door : goal.invariant-loop-door
invariant-loop-door g l = l.faults ≡ min (sum_by (λ d. d.faults) (take l.door-index l.doors)) (2 ^ 64 - 1)
