use Rattle.std.proofs.Common.{◌∙◌}
use Rattle.std.specs.BTreeMap.{values}
use Rattle.ps_model.specs.Counting.{is_acknowledged, is_dead_lettered}
use Rattle.ps_model.specs.Slots.{is_backlog, is_leased}
use Rattle.ps_core.proofs.counting.Counted.{all_counted, none_counted, one_counted}
use Rattle.ps_core.proofs.service.counting.marks_of_all.Goals as goal

pub loop-subscription-init : goal.loop-subscription-init
loop-subscription-init c =
    let subscriptions = values c.args.subscriptions.now in
    rw (c.into_iter-subscription-iterator.ensures.into_iter_gives ∙ c.values-subscription-items.ensures.rest) (record {
      backlog = none_counted is_backlog subscriptions;
      leased = none_counted is_leased subscriptions;
      acknowledged = none_counted is_acknowledged subscriptions;
      dead = none_counted is_dead_lettered subscriptions;
    })

pub loop-subscription-preserved : goal.loop-subscription-preserved
loop-subscription-preserved c =
    let x = c.in-Some.subscription.now in
    let before = c.loop-subscription.invariant in
    let first = c.in-Some.ensures.steps in
    let one = c.counts.ensures in
    let next = c.both-all.ensures in
    record {
      backlog = one_counted is_backlog x _ _ _ _ _ _ first before.backlog one.backlog next.backlog;
      leased = one_counted is_leased x _ _ _ _ _ _ first before.leased one.leased next.leased;
      acknowledged = one_counted is_acknowledged x _ _ _ _ _ _ first before.acknowledged one.acknowledged next.acknowledged;
      dead = one_counted is_dead_lettered x _ _ _ _ _ _ first before.dead one.dead next.dead;
    }

pub returns : goal.returns
returns c =
    let counted = c.loop-subscription.invariant in
    let last = c.in-None.ensures.steps.0 in
    record {
      backlog = all_counted is_backlog _ _ _ last counted.backlog;
      leased = all_counted is_leased _ _ _ last counted.leased;
      acknowledged = all_counted is_acknowledged _ _ _ last counted.acknowledged;
      dead = all_counted is_dead_lettered _ _ _ last counted.dead;
    }
