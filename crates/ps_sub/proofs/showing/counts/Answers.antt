use Rattle.std.proofs.Common.{arith}
use Rattle.ps_model.specs.Counting.{is_acknowledged, is_dead_lettered}
use Rattle.ps_model.specs.Slots.{is_backlog, is_leased}
use Rattle.ps_sub.proofs.CountLemmas.{counted_more, one_of_four}
use Rattle.ps_sub.proofs.showing.counts.Goals as goal

pub loop-slot-preserved : goal.loop-slot-preserved
loop-slot-preserved c =
    let slots = c.args.slots.now in
    let i = c.loop-slot.slot-index in
    let s = c.slot-item.result in
    record {
      backlog = omega (arith, counted_more is_backlog slots i s (omega arith) c.slot-item.is, c.add-counts.ensures.backlog);
      leased = omega (arith, counted_more is_leased slots i s (omega arith) c.slot-item.is, c.add-counts.ensures.leased);
      acknowledged = omega (arith, counted_more is_acknowledged slots i s (omega arith) c.slot-item.is, c.add-counts.ensures.acknowledged);
      dead = omega (arith, counted_more is_dead_lettered slots i s (omega arith) c.slot-item.is, c.add-counts.ensures.dead);
      all = omega (arith, one_of_four slots i s (omega arith) c.slot-item.is c.requires, c.loop-slot.invariant.all, c.add-counts.ensures.backlog, c.add-counts.ensures.leased, c.add-counts.ensures.acknowledged, c.add-counts.ensures.dead);
    }
