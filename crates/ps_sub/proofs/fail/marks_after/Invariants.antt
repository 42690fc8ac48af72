use Rattle.std.proofs.Common.{◌≡◌, map, take}
use Rattle.ps_model.specs.Failing.{is_due, mark_after_failing}
use Rattle.ps_sub.specs.Keys.{HasKeysOf}
use Rattle.ps_sub.proofs.fail.marks_after.Given as goal

-- the keys of the messages so far that fail, and the marks so far
abbrev pub invariant-loop-slot : goal.invariant-loop-slot
invariant-loop-slot l = record {
  keys : HasKeysOf l.config.ordering (is_due l.now) (take l.slot-index l.slots) l.keys.keys;
  marks : l.marks.items ≡ map (mark_after_failing (is_due l.now) l.now l.forward l.config l.slots) (take l.slot-index l.slots);
}
