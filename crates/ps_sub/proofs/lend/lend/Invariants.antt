use Rattle.ps_sub.proofs.LendLemmas.{IsLending}
use Rattle.ps_sub.proofs.lend.lend.Given as goal

-- the slots so far are leased, and what is left was handed out of the others
abbrev pub invariant-loop-slot : goal.invariant-loop-slot
invariant-loop-slot l = IsLending l.deadline l.given l.left l.initial.slots l.slots l.slot-index
