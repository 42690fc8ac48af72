use Rattle.std.proofs.Common.{sym, ◌∙◌, arith}
use Rattle.std.proofs.lemmas.List.{set-get_or}
use Rattle.ps_sub.proofs.LendLemmas.{lending-start, lending-more, lending-none, none_left}
use Rattle.ps_sub.proofs.lend.lend.Goals as goal

pub loop-slot-init : goal.loop-slot-init
loop-slot-init c = lending-start _ _ _ c.requires.drawn

pub loop-slot-preserved : goal.loop-slot-preserved
loop-slot-preserved c =
    let more = lending-more c.args.deadline c.args.given.now c.loop-slot.left.now c.args.slots.now c.loop-slot.slots c.loop-slot.slot-index c.slot-item.result c.requires.ascending (omega arith) c.loop-slot.invariant c.slot-item.is in
    rw (c.lend_first-left.ensures.after, c.lend_first-left.ensures.left, ← c.slot-item.is) more

pub returns-then-is_empty : goal.returns-then-is_empty
returns-then-is_empty c = set-get_or _ _ _ ∙ lending-none c.args.deadline c.args.given.now c.loop-slot.left.now c.args.slots.now c.loop-slot.slots c.loop-slot.slot-index (none_left _ (sym c.is_empty.ensures ∙ c.if-is_empty.true)) c.loop-slot.invariant
