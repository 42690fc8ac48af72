use Rattle.std.proofs.Common.{◌≡◌, ◌<◌, ◌≤◌, ◌+◌, ◌^◌, ℕ, true, List, [], ◌∷◌, drop, map, slice_index_or, refl, sym, ap, subst, ◌∙◌, arith}
use Rattle.std.specs.BTreeMap.{values}
use Rattle.std.specs.List.{AllByRecursion}
use Rattle.std.proofs.lemmas.List.{drop_more}
use Rattle.ps_base.proofs.Lists.{each-then}
use Rattle.ps_tables.specs.Entering.{IsDistinct, IsReady, count_each, count_found, enter_among, enter_numbered, is_among, subscription_with}
use Rattle.ps_tables.proofs.publishing.Numbers.{Ascends, all-next, ascends-next, counts-same, drop-end, enter-none, found-few, ready-next, ready-now}
use Rattle.ps_tables.proofs.entering.enter_each.Goals as goal

pub loop-number-init : goal.loop-number-init
loop-number-init c = record {
  distinct = c.requires.distinct;
  keys = c.requires.keys;
  ordered = c.requires.ordered;
  ready = each-then (IsReady c.args.first c.args.at) (λ x. is_among c.args.numbers.now x.number ≡ true → IsReady c.args.first c.args.at x) (values c.args.subscriptions.now) (λ x h e. h) c.requires.ready;
  few = each-then (λ n. n ≡ 0) (λ n. n ≤ 0) c.args.holders.now (λ n h. omega (arith, h)) c.requires.nobody;
  entered = refl;
  counts = refl;
}

pub enter_numbered-requires-clause-ready : goal.enter_numbered-requires-clause-ready
enter_numbered-requires-clause-ready c =
    let i = c.loop-number.number-index in
    let n = slice_index_or c.args.numbers.now i 0 in
    let left : drop i c.args.numbers.now ≡ n ∷ drop (i + 1) c.args.numbers.now = drop_more c.args.numbers.now i 0 (omega arith) in
    ready-now c.args.first c.args.at n (drop (i + 1) c.args.numbers.now) (values c.loop-number.subscriptions)
    (subst (λ (ns : List ℕ). AllByRecursion (λ x. is_among ns x.number ≡ true → IsReady c.args.first c.args.at x) (values c.loop-number.subscriptions)) left c.loop-number.invariant.ready)

pub enter_numbered-requires-clause-few : goal.enter_numbered-requires-clause-few
enter_numbered-requires-clause-few c =
    each-then (λ n. n ≤ c.loop-number.number-index) (λ n. n + 1 < 2 ^ 64) c.loop-number.holders (λ n h. omega (arith, h)) c.loop-number.invariant.few

pub loop-number-preserved : goal.loop-number-preserved
loop-number-preserved c =
    let i = c.loop-number.number-index in
    let first = c.args.first in
    let at = c.args.at in
    let messages = c.args.messages.now in
    let n = slice_index_or c.args.numbers.now i 0 in
    let ns = drop (i + 1) c.args.numbers.now in
    let xs = values c.loop-number.subscriptions in
    let counts = c.loop-number.holders in
    let left : drop i c.args.numbers.now ≡ n ∷ ns = drop_more c.args.numbers.now i 0 (omega arith) in
    let made : values c.enter_numbered.new.subscriptions ≡ map (enter_numbered first at messages n) xs = c.in_ok-enter_numbered.ensures.subscriptions in
    let counted : c.enter_numbered.new.holders ≡ count_found messages (subscription_with n xs) counts = c.in_ok-enter_numbered.ensures.holders in
    let distinct : IsDistinct (n ∷ ns) = subst IsDistinct left c.loop-number.invariant.distinct in
    record {
      distinct = distinct.1;
      keys = c.in_ok-enter_numbered.ensures.keys;
      ordered = subst Ascends (sym made) (ascends-next first at messages n xs c.loop-number.invariant.ordered);
      ready = subst (AllByRecursion (λ x. is_among ns x.number ≡ true → IsReady first at x)) (sym made)
          (ready-next first at messages n ns xs distinct (subst (λ (ks : List ℕ). AllByRecursion (λ x. is_among ks x.number ≡ true → IsReady first at x) xs) left c.loop-number.invariant.ready));
      few = subst (AllByRecursion (λ k. k ≤ i + 1)) (sym counted) (found-few i (subscription_with n xs) messages counts c.loop-number.invariant.few);
      entered = ap (map (enter_among first at messages ns)) made ∙ all-next first at messages n ns xs distinct ∙ sym (ap (λ (ks : List ℕ). map (enter_among first at messages ks) xs) left) ∙ c.loop-number.invariant.entered;
      counts = (λ j. count_each messages (made j) ns (counted j)) ∙ counts-same first at messages n ns xs (count_found messages (subscription_with n xs) counts)
          ∙ sym (ap (λ (ks : List ℕ). count_each messages xs ks counts) left) ∙ c.loop-number.invariant.counts;
    }

pub returns-clause-subscriptions : goal.returns-clause-subscriptions
returns-clause-subscriptions c =
    let none : drop c.loop-number.number-index c.args.numbers.now ≡ [] = drop-end c.loop-number.number-index c.args.numbers.now (omega arith) in
    sym (ap (λ (ns : List ℕ). map (enter_among c.args.first c.args.at c.args.messages.now ns) (values c.loop-number.subscriptions)) none ∙ enter-none c.args.first c.args.at c.args.messages.now (values c.loop-number.subscriptions))
    ∙ c.loop-number.invariant.entered

pub returns-clause-holders : goal.returns-clause-holders
returns-clause-holders c =
    let none : drop c.loop-number.number-index c.args.numbers.now ≡ [] = drop-end c.loop-number.number-index c.args.numbers.now (omega arith) in
    sym (ap (λ (ns : List ℕ). count_each c.args.messages.now (values c.loop-number.subscriptions) ns c.loop-number.holders) none) ∙ c.loop-number.invariant.counts
