use Rattle.std.proofs.Common.{◌≡◌, ◌≤◌, ◌-◌, ◌++◌, length, take, option_map}
use Rattle.ps_edge.proofs.edge.write_all.Given as goal

abbrev pub invariant-loop-done : goal.invariant-loop-done
invariant-loop-done g l =
    let O = g.O.Sink in
    record {
      written : O.holds l.output ≡ option_map (λ held. held ++ take l.done l.text) (O.holds l.initial.output);
      within : l.done ≤ length l.text;
      faults : O.faults l.initial.output ≤ O.faults l.output;
    }

abbrev pub decreases-loop-done : goal.decreases-loop-done
decreases-loop-done g l = length l.text - l.done
