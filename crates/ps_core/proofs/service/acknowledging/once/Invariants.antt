use Rattle.std.proofs.Common.{◌≡◌, ◌++◌, drop}
use Rattle.ps_model.specs.Answering.{same_id}
use Rattle.ps_model.specs.Lists.{once, once_after}
use Rattle.ps_core.specs.Delivering.{HasIds}
use Rattle.ps_core.proofs.service.acknowledging.once.Given as goal

-- the set has what was kept so far; and that, with what is kept of the rest, is all
abbrev pub invariant-loop-id : goal.invariant-loop-id
invariant-loop-id l = record {
  seen : HasIds l.kept.items l.seen;
  so_far : l.kept.items ++ once_after same_id l.kept.items (drop l.id-index l.ids) ≡ once same_id l.ids;
}
