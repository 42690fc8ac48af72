use Rattle.std.specs.BTreeMap.{values}
use Rattle.ps_model.specs.Counting.{is_acknowledged, is_dead_lettered}
use Rattle.ps_model.specs.Slots.{is_backlog, is_leased}
use Rattle.ps_core.proofs.counting.Counted.{IsCountedSoFar}
use Rattle.ps_core.proofs.service.counting.marks_of_all.Given as goal

abbrev pub invariant-loop-subscription : goal.invariant-loop-subscription
invariant-loop-subscription l = record {
  backlog : IsCountedSoFar is_backlog l.all.backlog l.subscription-iterator (values l.subscriptions);
  leased : IsCountedSoFar is_leased l.all.leased l.subscription-iterator (values l.subscriptions);
  acknowledged : IsCountedSoFar is_acknowledged l.all.acknowledged l.subscription-iterator (values l.subscriptions);
  dead : IsCountedSoFar is_dead_lettered l.all.dead l.subscription-iterator (values l.subscriptions);
}
