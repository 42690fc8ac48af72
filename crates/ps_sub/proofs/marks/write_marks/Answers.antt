use Rattle.std.proofs.Common.{arith}
use Rattle.ps_sub.proofs.MarkLemmas.{written_more, differs_more}
use Rattle.ps_sub.proofs.marks.write_marks.Goals as goal

pub loop-i-preserved : goal.loop-i-preserved
loop-i-preserved c = record {
  after = rw c.loop-i.invariant.after (written_more c.args.marks.now c.args.slots.now c.loop-i.i _ _ (omega arith) (omega arith));
  changed = rw (c.is_same.ensures, c.loop-i.invariant.changed, c.loop-i.invariant.after) (differs_more c.args.marks.now c.args.slots.now c.loop-i.i _ _ (omega arith) (omega arith));
}
