use Rattle.std.proofs.Common.{◌≡◌, ◌<◌, ◌+◌, ◌++◌, drop}
use Rattle.std.specs.BTreeMap.{values}
use Rattle.std.specs.List.{AllByRecursion}
use Rattle.ps_model.specs.Forwarding.{message_rows}
use Rattle.ps_tables.specs.Entering.{kept_rows}
use Rattle.ps_tables.specs.Numbers.{IsNumbered}
use Rattle.ps_tables.proofs.entering.keep_each.Given as goal

-- what is kept so far, and what is kept of those that are left
abbrev pub invariant-loop-place : goal.invariant-loop-place
invariant-loop-place l = record {
  keys : IsNumbered (λ x. x.row.number) l.kept.entries;
  below : AllByRecursion (λ x. x.row.number < l.first + l.place) (values l.kept);
  left : values l.kept ++ kept_rows (message_rows l.topic (l.first + l.place) l.at (drop l.place l.messages)) (drop l.place l.holders) ≡ values l.initial.kept ++ kept_rows (message_rows l.topic l.first l.at l.messages) l.holders;
}
