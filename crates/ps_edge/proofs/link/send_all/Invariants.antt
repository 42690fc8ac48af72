use Rattle.std.proofs.Common.{◌≡◌, ◌≤◌, ◌-◌, ◌++◌, length, take, option_map}
use Rattle.ps_edge.proofs.link.send_all.Given as goal

abbrev pub invariant-loop-done : goal.invariant-loop-done
invariant-loop-done g l =
    let L = g.L.Link in
    record {
      written : L.holds l.link ≡ option_map (λ held. held ++ take l.done l.text) (L.holds l.initial.link);
      within : l.done ≤ length l.text;
      left : L.left l.link ≡ L.left l.initial.link;
      received : L.received l.link ≡ L.received l.initial.link;
      faults : L.faults l.initial.link ≤ L.faults l.link;
      waits : L.waits l.initial.link ≤ L.waits l.link;
    }

abbrev pub decreases-loop-done : goal.decreases-loop-done
decreases-loop-done g l = length l.text - l.done
