use Rattle.std.proofs.Common.{◌≡◌, map, take}
use Rattle.ps_model.specs.Retention.{expired_mark}
use Rattle.ps_model.specs.Slots.{is_unacked}
use Rattle.ps_sub.specs.Expunging.{expunged_mark}
use Rattle.ps_sub.specs.Keys.{HasKeysOf}
use Rattle.ps_sub.proofs.retention.marks_after.Given as goal

-- the keys of the messages so far that stay unacknowledged, and the marks so far
abbrev pub invariant-loop-slot : goal.invariant-loop-slot
invariant-loop-slot l = record {
  keys : HasKeysOf l.config.ordering (λ e. is_unacked (expired_mark l.now l.config l.held e)) (take l.slot-index l.slots) l.keys.keys;
  marks : l.marks.items ≡ map (expunged_mark l.now l.config l.held l.slots) (take l.slot-index l.slots);
}
