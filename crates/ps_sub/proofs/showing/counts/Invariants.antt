use Rattle.std.proofs.Common.{◌≡◌, take}
use Rattle.ps_model.specs.Counting.{is_acknowledged, is_dead_lettered}
use Rattle.ps_model.specs.Lists.{tally}
use Rattle.ps_model.specs.Slots.{is_backlog, is_leased}
use Rattle.ps_sub.specs.Showing.{total_of}
use Rattle.ps_sub.proofs.showing.counts.Given as goal

-- the slots so far are counted
abbrev pub invariant-loop-slot : goal.invariant-loop-slot
invariant-loop-slot l = record {
  backlog : l.counts.backlog ≡ tally (λ s. is_backlog s.mark) (take l.slot-index l.slots);
  leased : l.counts.leased ≡ tally (λ s. is_leased s.mark) (take l.slot-index l.slots);
  acknowledged : l.counts.acknowledged ≡ tally (λ s. is_acknowledged s.mark) (take l.slot-index l.slots);
  dead : l.counts.dead ≡ tally (λ s. is_dead_lettered s.mark) (take l.slot-index l.slots);
  all : total_of l.counts ≡ l.slot-index;
}
