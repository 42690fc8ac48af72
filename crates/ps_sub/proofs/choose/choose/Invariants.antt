use Rattle.std.proofs.Common.{◌≡◌, ◌+◌, ◌++◌, drop, filter, length, take}
use Rattle.ps_model.specs.Choice.{choice, handed, first_of_them, is_deliverable, is_waiting}
use Rattle.ps_sub.specs.Keys.{HasKeysOf}
use Rattle.ps_sub.proofs.choose.choose.Given as goal

-- the keys of the messages so far that wait; and what was handed out so far, and then the choice among what is left
abbrev pub invariant-loop-slot : goal.invariant-loop-slot
invariant-loop-slot l = record {
  keys : HasKeysOf l.ordering (λ e. is_waiting l.now e.mark) (take l.slot-index l.slots) l.keys.keys;
  room : l.next + l.left ≡ l.lease + l.max;
  few : length l.given + l.left ≡ l.max;
  so_far : l.given ++ handed l.next (first_of_them l.left l.bytes (filter (is_deliverable l.now l.ordering l.slots) (drop l.slot-index l.slots)))
      ≡ handed l.lease (choice l.now l.ordering l.max l.budget l.slots);
}
