use Rattle.std.proofs.Common.{◌≡◌, ◌+◌, drop}
use Rattle.ps_model.specs.Forwarding.{message_rows}
use Rattle.ps_tables.specs.Entering.{IsReady, count_from, enter_wanted}
use Rattle.ps_tables.proofs.entering.enter_one.Given as goal

-- those that are left enter what the others made, and are counted
abbrev pub invariant-loop-place : goal.invariant-loop-place
invariant-loop-place l = record {
  ready : IsReady (l.first + l.place) l.at l.subscription;
  settings : l.subscription.sub.config ≡ l.initial.subscription.sub.config;
  entered : enter_wanted (message_rows l.initial.subscription.topic (l.first + l.place) l.at (drop l.place l.messages)) l.subscription ≡ enter_wanted (message_rows l.initial.subscription.topic l.first l.at l.messages) l.initial.subscription;
  counts : count_from l.place l.initial.subscription l.messages l.holders ≡ count_from 0 l.initial.subscription l.messages l.initial.holders;
  left : drop l.place l.holders ≡ drop l.place l.initial.holders;
}
