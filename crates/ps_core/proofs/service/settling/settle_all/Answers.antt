use Rattle.std.proofs.Common.{◌≡◌, ◌<◌, ℕ, List, arith, length, map, nat_eq, not, subst, sym, ap, ◌∙◌}
use Rattle.std.specs.BTreeMap.{values}
use Rattle.ps_model.specs.Sound.{Ordered}
use Rattle.ps_tables.specs.declared.kept_subscription.KeptSubscription.{KeptSubscription}
use Rattle.ps_core.proofs.settling.Loop.{any-listed, listed-due, listed-end, listed-next, settle_listed, settled-order}
use Rattle.ps_core.proofs.service.settling.settle_all.Goals as goal

pub loop-number-init : goal.loop-number-init
loop-number-init c = record {
  numbered = c.requires.numbered;
  order = c.requires.order;
  left = ap (λ (ns : List ℕ). map (settle_listed c.args.at ns) (values c.args.subscriptions.now)) (c.as_slice-number-items.ensures.value ∙ c.in_ok-due.ensures) ∙ listed-due c.args.at (values c.args.subscriptions.now);
}

pub loop-number-preserved : goal.loop-number-preserved
loop-number-preserved c =
    let before = c.loop-number.invariant in
    let after = c.in_ok-settle_numbered.ensures.after in
    record {
      numbered = c.in_ok-settle_numbered.ensures.numbered;
      order = subst (Ordered (λ (a b : KeptSubscription). a.number < b.number)) (sym after) (settled-order c.args.at _ (values c.loop-number.subscriptions) before.order);
      left = listed-next c.args.at c.loop-number.number-index c.as_slice-number-items.result.now (values c.loop-number.subscriptions) _ c.loop-number-test.true after ∙ before.left;
    }

pub returns : goal.returns
returns c =
    let done = c.loop-number.invariant in
    let none : c.is_empty.result ≡ nat_eq (length c.in_ok-due.due.items) 0 = c.is_empty.ensures ∙ grind arith in
    record {
      numbered = done.numbered;
      after = sym (listed-end c.args.at c.loop-number.number-index c.as_slice-number-items.result.now (values c.loop-number.subscriptions) c.loop-number-test.false) ∙ done.left;
      moved = ap not none ∙ ap (λ (ns : List ℕ). not (nat_eq (length ns) 0)) c.in_ok-due.ensures ∙ any-listed c.args.at (values c.args.subscriptions.now);
      next_end = c.first_end_of_all.ensures;
    }
