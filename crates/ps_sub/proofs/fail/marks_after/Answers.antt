use Rattle.std.proofs.Common.{◌≡◌, Bool, if◌then◌else◌, ◌∙◌}
use Rattle.ps_model.specs.declared.mark.Slot.{Slot}
use Rattle.ps_model.specs.Failing.{failed, fallen, is_due, mark_after_failing}
use Rattle.ps_model.specs.Slots.{any_earlier}
use Rattle.ps_sub.proofs.KeysLemmas.{before-at, keys-more, marks-more}
use Rattle.ps_sub.proofs.fail.marks_after.Goals as goal

pub loop-slot-preserved : goal.loop-slot-preserved
loop-slot-preserved c =
    let config = c.args.config.now in
    let slots = c.args.slots.now in
    let fails : Slot → Bool = is_due c.args.now in
    let i = c.loop-slot.slot-index in
    let s = c.slot-item.result in
    let behind : c.in_ok-behind.behind ≡ any_earlier config.ordering fails slots s =
    c.in_ok-behind.ensures.before ∙ before-at config.ordering fails slots c.loop-slot.keys.keys i s c.requires.ascending c.loop-slot-test.true c.slot-item.is c.loop-slot.invariant.keys in
    let mark : c.mark_after.result ≡ mark_after_failing fails c.args.now c.args.forward config slots s =
    c.mark_after.ensures ∙ (λ j. if c.is_due-fails.ensures j then failed c.args.now c.args.forward config s.mark else (if behind j then fallen s.mark else s.mark)) in
    record {
      keys = keys-more config.ordering fails slots c.loop-slot.keys.keys c.pass.new.self.keys i s c.is_due-fails.result c.loop-slot-test.true c.slot-item.is c.is_due-fails.ensures c.in_ok-behind.ensures.noted c.loop-slot.invariant.keys;
      marks = marks-more (mark_after_failing fails c.args.now c.args.forward config slots) slots c.loop-slot.marks.items _ i s c.mark_after.result c.loop-slot-test.true c.slot-item.is mark c.in_ok-push.ensures.items c.loop-slot.invariant.marks;
    }
