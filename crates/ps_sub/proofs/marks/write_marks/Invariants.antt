use Rattle.std.proofs.Common.{◌≡◌, take}
use Rattle.ps_sub.specs.Marks.{with_marks, any_differs}
use Rattle.ps_sub.proofs.marks.write_marks.Given as goal

-- the marks so far are written and compared
abbrev pub invariant-loop-i : goal.invariant-loop-i
invariant-loop-i l = record {
  after : l.slots ≡ with_marks (take l.i l.marks) l.initial.slots;
  changed : l.changed ≡ any_differs (take l.i l.marks) l.initial.slots;
}
