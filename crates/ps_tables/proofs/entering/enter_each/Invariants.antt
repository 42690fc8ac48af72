use Rattle.std.proofs.Common.{◌≡◌, ◌≤◌, true, drop, map}
use Rattle.std.specs.BTreeMap.{values}
use Rattle.std.specs.List.{AllByRecursion}
use Rattle.ps_tables.specs.Entering.{IsDistinct, IsReady, count_each, enter_among, is_among}
use Rattle.ps_tables.specs.Numbers.{IsNumbered}
use Rattle.ps_tables.specs.Subscriptions.{number_of}
use Rattle.ps_tables.proofs.publishing.Numbers.{Ascends}
use Rattle.ps_tables.proofs.entering.enter_each.Given as goal

-- the numbers that are left, in what the others made
abbrev pub invariant-loop-number : goal.invariant-loop-number
invariant-loop-number l = record {
  distinct : IsDistinct (drop l.number-index l.numbers);
  keys : IsNumbered number_of l.subscriptions.entries;
  ordered : Ascends (values l.subscriptions);
  ready : AllByRecursion (λ x. is_among (drop l.number-index l.numbers) x.number ≡ true → IsReady l.first l.at x) (values l.subscriptions);
  few : AllByRecursion (λ n. n ≤ l.number-index) l.holders;
  entered : map (enter_among l.first l.at l.messages (drop l.number-index l.numbers)) (values l.subscriptions) ≡ map (enter_among l.first l.at l.messages l.numbers) (values l.initial.subscriptions);
  counts : count_each l.messages (values l.subscriptions) (drop l.number-index l.numbers) l.holders ≡ count_each l.messages (values l.initial.subscriptions) l.numbers l.initial.holders;
}
