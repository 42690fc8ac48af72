use Rattle.std.proofs.Common.{◌≡◌, Bool, ◌∙◌, ap}
use Rattle.ps_model.specs.declared.mark.Slot.{Slot}
use Rattle.ps_model.specs.Retention.{expired_mark}
use Rattle.ps_model.specs.Slots.{is_unacked}
use Rattle.ps_sub.specs.Expunging.{expunged_mark, is_behind, mark_by}
use Rattle.ps_sub.proofs.KeysLemmas.{before-at, keys-more, marks-more}
use Rattle.ps_sub.proofs.retention.marks_after.Goals as goal

pub loop-slot-preserved : goal.loop-slot-preserved
loop-slot-preserved c =
    let config = c.args.config.now in
    let held = c.args.held.now in
    let slots = c.args.slots.now in
    let stays : Slot → Bool = λ e. is_unacked (expired_mark c.args.now config held e) in
    let i = c.loop-slot.slot-index in
    let s = c.slot-item.result in
    let stays-here : c.is_unacked-stays.result ≡ stays s = c.is_unacked-stays.ensures ∙ ap is_unacked c.expired_mark.ensures in
    let behind : c.in_ok-behind.behind ≡ is_behind c.args.now config held slots s =
    c.in_ok-behind.ensures.before ∙ before-at config.ordering stays slots c.loop-slot.keys.keys i s c.requires c.loop-slot-test.true c.slot-item.is c.loop-slot.invariant.keys in
    record {
      keys = keys-more config.ordering stays slots c.loop-slot.keys.keys c.pass.new.self.keys i s c.is_unacked-stays.result c.loop-slot-test.true c.slot-item.is stays-here c.in_ok-behind.ensures.noted c.loop-slot.invariant.keys;
      marks = marks-more (expunged_mark c.args.now config held slots) slots c.loop-slot.marks.items _ i s c.mark_after.result c.loop-slot-test.true c.slot-item.is
          (c.mark_after.ensures ∙ ap (λ (b : Bool). mark_by c.args.now config held b s) behind) c.in_ok-push.ensures.items c.loop-slot.invariant.marks;
    }
