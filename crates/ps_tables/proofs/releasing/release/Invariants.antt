use Rattle.std.proofs.Common.{◌≡◌, take}
use Rattle.std.specs.BTreeMap.{values}
use Rattle.ps_tables.specs.Releasing.{message_number, released, times}
use Rattle.ps_tables.specs.Numbers.{IsNumbered}
use Rattle.ps_tables.proofs.releasing.release.Given as goal

-- the marks so far are released
abbrev pub invariant-loop-mark : goal.invariant-loop-mark
invariant-loop-mark l = record {
  numbered : IsNumbered message_number l.messages.entries;
  values : values l.messages ≡ released (times (take l.mark-index l.marks)) (values l.initial.messages);
}
