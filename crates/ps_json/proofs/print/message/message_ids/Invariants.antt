use Rattle.std.proofs.Common.{◌≡◌, map}
use Rattle.serde_json.specs.View.{view}
use Rattle.ps_json.specs.Messages.{message_id, numbers_from}
use Rattle.ps_json.proofs.print.message.message_ids.Given as goal

-- the numbers so far
abbrev pub invariant-loop-place : goal.invariant-loop-place
invariant-loop-place l = map view l.ids.items ≡ map message_id (numbers_from l.first l.place)
