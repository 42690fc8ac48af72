use Rattle.std.proofs.Common.{◌≡◌, ℕ, List, map, take}
use Rattle.ps_model.specs.declared.mark.Ticket.{Ticket}
use Rattle.ps_model.specs.Modifying.{is_given_up}
use Rattle.ps_sub.specs.Keys.{HasKeysOf}
use Rattle.ps_sub.specs.Modifying.{HasItems, modified_mark}
use Rattle.ps_sub.proofs.modify.marks_after.Given as goal

-- the keys of the messages so far that are given up, and the marks so far
abbrev pub invariant-loop-slot : goal.invariant-loop-slot
invariant-loop-slot l = record {
  keys : (items : List (Ticket × ℕ)) → HasItems items l.asked.seconds → HasKeysOf l.config.ordering (is_given_up items) (take l.slot-index l.slots) l.keys.keys;
  marks : (items : List (Ticket × ℕ)) → HasItems items l.asked.seconds → l.marks.items ≡ map (modified_mark l.now l.forward l.config items l.slots) (take l.slot-index l.slots);
}
