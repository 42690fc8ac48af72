use Rattle.std.proofs.Common.{◌≡◌, ◌&&◌, not, map, take}
use Rattle.ps_model.specs.Acknowledging.{is_named, mark_after_ack}
use Rattle.ps_model.specs.Slots.{is_unacked}
use Rattle.ps_sub.specs.Keys.{HasKeysOf}
use Rattle.ps_sub.proofs.acknowledge.marks_after.Given as goal

-- the keys of the messages so far that stay unacknowledged, and the marks so far
abbrev pub invariant-loop-slot : goal.invariant-loop-slot
invariant-loop-slot l = record {
  keys : HasKeysOf l.config.ordering (λ e. is_unacked e.mark && not (is_named l.config.exactly_once l.tickets e)) (take l.slot-index l.slots) l.keys.keys;
  marks : l.marks.items ≡ map (mark_after_ack l.config l.tickets l.slots) (take l.slot-index l.slots);
}
