use Rattle.std.proofs.Common.{◌≡◌, ℕ, Bool, List, Option, if◌then◌else◌, ◌∙◌, ap, sym}
use Rattle.ps_model.specs.declared.mark.Mark.{Mark}
use Rattle.ps_model.specs.declared.mark.Slot.{Slot}
use Rattle.ps_model.specs.Failing.{failed, fallen}
use Rattle.ps_model.specs.Modifying.{extended_by, extended_mark, is_given_up}
use Rattle.ps_model.specs.Slots.{any_earlier}
use Rattle.ps_sub.specs.Modifying.{modified_mark}
use Rattle.ps_sub.proofs.KeysLemmas.{before-at, keys-more, marks-more}
use Rattle.ps_sub.proofs.ModifyLemmas.{asked-is, gives-up-is}
use Rattle.ps_sub.proofs.modify.marks_after.Goals as goal

pub loop-slot-preserved : goal.loop-slot-preserved
loop-slot-preserved c =
    let config = c.args.config.now in
    let slots = c.args.slots.now in
    let i = c.loop-slot.slot-index in
    let s = c.slot-item.result in
    record {
      keys = λ items has. keys-more config.ordering (is_given_up items) slots c.loop-slot.keys.keys c.pass.new.self.keys i s c.gives_up-fails.result c.loop-slot-test.true c.slot-item.is (c.gives_up-fails.ensures ∙ gives-up-is items c.args.asked.now.seconds has s) c.in_ok-behind.ensures.noted (c.loop-slot.invariant.keys items has);
      marks = λ items has.
          let fails : c.gives_up-fails.result ≡ is_given_up items s = c.gives_up-fails.ensures ∙ gives-up-is items c.args.asked.now.seconds has s in
          let behind : c.in_ok-behind.behind ≡ any_earlier config.ordering (is_given_up items) slots s =
          c.in_ok-behind.ensures.before ∙ before-at config.ordering (is_given_up items) slots c.loop-slot.keys.keys i s c.requires.ascending c.loop-slot-test.true c.slot-item.is (c.loop-slot.invariant.keys items has) in
          let set : c.extended-mark.result ≡ extended_mark c.args.now items s = c.extended-mark.ensures ∙ ap (extended_by c.args.now s.mark) (c.seconds_for.ensures ∙ asked-is items c.args.asked.now.seconds has s) in
          let mark : c.mark_after.result ≡ modified_mark c.args.now c.args.forward config items slots s =
          c.mark_after.ensures ∙ (λ j. if fails j then failed c.args.now c.args.forward config (set j) else (if behind j then fallen (set j) else set j)) in
          marks-more (modified_mark c.args.now c.args.forward config items slots) slots c.loop-slot.marks.items _ i s c.mark_after.result c.loop-slot-test.true c.slot-item.is mark c.in_ok-push.ensures.items (c.loop-slot.invariant.marks items has);
    }
