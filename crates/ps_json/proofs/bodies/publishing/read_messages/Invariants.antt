use Rattle.std.proofs.Common.{◌≡◌, ◌++◌, drop, map}
use Rattle.std.specs.List.{enumerate_from, flat_map}
use Rattle.serde_json.specs.View.{view}
use Rattle.ps_message.specs.Lists.{first_of}
use Rattle.ps_json.specs.Publishing.{all_shapes, members_in, message_of, message_shapes}
use Rattle.ps_json.proofs.bodies.publishing.read_messages.Given as goal

-- the items so far are messages, and stand before those that are left
abbrev pub invariant-loop-place : goal.invariant-loop-place
invariant-loop-place l =
    (first_of (all_shapes (map view l.items)) ≡ first_of (flat_map message_shapes (enumerate_from l.place (map view (drop l.place l.items)))))
    × (l.messages ++ map (λ item. message_of (members_in (view item))) (drop l.place l.items) ≡ map (λ item. message_of (members_in (view item))) l.items)
