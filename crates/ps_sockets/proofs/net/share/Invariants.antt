use Rattle.std.proofs.Common.{◌≡◌, ◌+◌, length, All}
use Rattle.ps_sockets.proofs.net.share.Given as goal

abbrev pub invariant-loop : goal.invariant-loop
invariant-loop g l =
    record {
      counted : length l.doors + 1 ≡ l.counter;
      unfailed : All (λ d. d.faults ≡ 0) l.doors;
    }
