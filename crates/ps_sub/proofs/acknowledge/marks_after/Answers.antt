use Rattle.std.proofs.Common.{◌≡◌, Bool, ◌&&◌, not, if◌then◌else◌, ◌∙◌, ap, sym}
use Rattle.ps_model.specs.declared.mark.DoneCause.TheVariants.{Acknowledged}
use Rattle.ps_model.specs.declared.mark.Mark.TheVariants.{Ahead, Done}
use Rattle.ps_model.specs.declared.mark.Slot.{Slot}
use Rattle.ps_model.specs.Acknowledging.{is_early, is_named, mark_after_ack}
use Rattle.ps_model.specs.Slots.{failures_of, is_unacked}
use Rattle.ps_sub.proofs.KeysLemmas.{before-at, keys-more, marks-more}
use Rattle.ps_sub.proofs.acknowledge.marks_after.Goals as goal
use Rattle.ps_sub.proofs.acknowledge.marks_after.Goals.{then-is_unacked, else-is_unacked}

pub loop-slot-preserved : goal.loop-slot-preserved
loop-slot-preserved c =
    let config = c.args.config.now in
    let tickets = c.args.tickets.now in
    let slots = c.args.slots.now in
    let stays : Slot → Bool = λ e. is_unacked e.mark && not (is_named config.exactly_once tickets e) in
    let i = c.loop-slot.slot-index in
    let s = c.slot-item.result in
    let named : c.names-named.result ≡ is_named config.exactly_once tickets s = c.names-named.ensures tickets c.in_ok-set.ensures in
    let stays-here : c.if-is_unacked.stays ≡ stays s = elim c.if-is_unacked.branch [
      | then-is_unacked w ↦ w.stays-is ∙ (λ j. (sym w.if-is_unacked.true ∙ c.is_unacked.ensures) j && not (named j))
      | else-is_unacked w ↦ w.stays-is ∙ w.if-is_unacked.false ∙ (λ j. (sym w.if-is_unacked.false ∙ c.is_unacked.ensures) j && not (named j))
    ] in
    let early : c.in_ok-early.early ≡ is_early config tickets slots s =
    c.in_ok-early.ensures.before ∙ before-at config.ordering stays slots c.loop-slot.keys.keys i s c.requires c.loop-slot-test.true c.slot-item.is c.loop-slot.invariant.keys in
    let mark : c.mark_after.result ≡ mark_after_ack config tickets slots s =
    c.mark_after.ensures ∙ (λ j. if named j then (if early j then (if config.exactly_once then s.mark else Ahead (failures_of s.mark)) else Done Acknowledged) else s.mark) in
    record {
      keys = keys-more config.ordering stays slots c.loop-slot.keys.keys c.pass.new.self.keys i s c.if-is_unacked.stays c.loop-slot-test.true c.slot-item.is stays-here c.in_ok-early.ensures.noted c.loop-slot.invariant.keys;
      marks = marks-more (mark_after_ack config tickets slots) slots c.loop-slot.marks.items _ i s c.mark_after.result c.loop-slot-test.true c.slot-item.is mark c.in_ok-push.ensures.items c.loop-slot.invariant.marks;
    }
