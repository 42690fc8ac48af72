use Rattle.std.proofs.Common.{◌≡◌, ◌+◌, ◌∷◌, Bool, ◌&&◌, not, drop, sym, ◌∙◌, ap, arith, inl, inr}
use Rattle.std.proofs.lemmas.List.{drop_more, drop_all, length_push}
use Rattle.ps_model.specs.declared.mark.Slot.{Slot}
use Rattle.ps_model.specs.Choice.{is_deliverable, is_ready, is_waiting, first_of_them}
use Rattle.ps_model.specs.Slots.{any_earlier}
use Rattle.std.specs.List.{filter}
use Rattle.ps_sub.proofs.KeysLemmas.{before-at, keys-more}
use Rattle.ps_sub.proofs.ChoiceLemmas.{more_taken, more_skipped, ended, first_none}
use Rattle.ps_sub.proofs.choose.choose.Goals as goal
use Rattle.ps_sub.proofs.choose.choose.Goals.{then-is_deliverable+in_ok-push, else-is_deliverable, else-loop-slot-test, then-loop-slot-test+then-left-eq0, then-left-eq0-via-then-left-eq0, then-left-eq0-via-else-left-eq0+then-bytes-eq0}

pub returns-clause-value : goal.returns-clause-value
returns-clause-value c =
    let xs = c.args.slots.now in
    let p : Slot → Bool = is_deliverable c.args.now c.args.ordering xs in
    elim c.loop-slot-test.branch [
      | else-loop-slot-test w ↦ ended _ _ _ _ (ap (λ l. first_of_them c.loop-slot.left c.loop-slot.bytes (filter p l)) (drop_all c.loop-slot.slot-index xs (omega arith))) c.loop-slot.invariant.so_far
      | then-loop-slot-test+then-left-eq0 w ↦ elim w.then-left-eq0.branch [
        | then-left-eq0-via-then-left-eq0 w' ↦ ended _ _ _ _ (first_none c.loop-slot.left c.loop-slot.bytes (filter p (drop c.loop-slot.slot-index xs)) (inl w'.if-left-eq0.true)) c.loop-slot.invariant.so_far
        | then-left-eq0-via-else-left-eq0+then-bytes-eq0 w' ↦ ended _ _ _ _ (first_none c.loop-slot.left c.loop-slot.bytes (filter p (drop c.loop-slot.slot-index xs)) (inr w'.if-bytes-eq0.true)) c.loop-slot.invariant.so_far
      ]
    ]

pub loop-slot-preserved : goal.loop-slot-preserved
loop-slot-preserved c =
    let xs = c.args.slots.now in
    let i = c.loop-slot.slot-index in
    let s = c.slot-item.result in
    let p : Slot → Bool = is_deliverable c.args.now c.args.ordering xs in
    let waits : Slot → Bool = λ e. is_waiting c.args.now e.mark in
    let held_back : c.in_ok-held_back.held_back ≡ any_earlier c.args.ordering waits xs s =
    c.in_ok-held_back.ensures.before ∙ before-at c.args.ordering waits xs c.loop-slot.keys.keys i s c.requires.ascending c.loop-slot-test.true c.slot-item.is c.loop-slot.invariant.keys in
    let keys = keys-more c.args.ordering waits xs c.loop-slot.keys.keys c.pass.new.self.keys i s c.is_waiting.result c.loop-slot-test.true c.slot-item.is c.is_waiting.ensures c.in_ok-held_back.ensures.noted c.loop-slot.invariant.keys in
    let deliverable : c.is_deliverable.result ≡ p s = c.is_deliverable.ensures ∙ ap (λ (b : Bool). is_ready c.args.now s.mark && not b) held_back in
    let cut : drop i xs ≡ s ∷ drop (i + 1) xs = drop_more xs i s c.loop-slot-test.true ∙ ap (λ x. x ∷ drop (i + 1) xs) (sym c.slot-item.is) in
    elim c.if-is_deliverable.branch [
      | then-is_deliverable+in_ok-push w ↦ record {
        keys = keys;
        room = omega arith;
        few = rw (w.given-is, w.left-is, w.in_ok-push.ensures.ok, length_push) (omega arith);
        so_far = more_taken p _ _ _ s _ _ _ _ _ _ _ _ cut (sym deliverable ∙ w.if-is_deliverable.true) c.if-left-eq0.false c.if-bytes-eq0.false
            (cc (w.given-is, w.in_ok-push.ensures.ok, w.failures_of.ensures)) w.next-is w.left-is (w.bytes-is ∙ w.saturating_sub-bytes.ensures) c.loop-slot.invariant.so_far;
      }
      | else-is_deliverable w ↦ record {
        keys = keys;
        room = omega arith;
        few = rw (w.given-is, w.left-is) c.loop-slot.invariant.few;
        so_far = rw (w.given-is, w.next-is, w.left-is, w.bytes-is) (more_skipped p _ _ s _ _ _ _ _ cut (sym deliverable ∙ w.if-is_deliverable.false) c.loop-slot.invariant.so_far);
      }
    ]
