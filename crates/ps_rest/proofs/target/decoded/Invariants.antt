use Rattle.std.proofs.Common.{◌≡◌, ◌++◌, map, drop}
use Rattle.std.specs.List.{filter_map, list_any}
use Rattle.ps_rest.specs.Targets.{decoded_part, is_no_text}
use Rattle.ps_rest.proofs.target.decoded.Given as goal

-- the parts so far are texts, and stand before those that are left
abbrev pub invariant-loop-part : goal.invariant-loop-part
invariant-loop-part l =
    (list_any is_no_text (map (λ part. part.now) l.parts) ≡ list_any is_no_text (map (λ part. part.now) (drop l.part-index l.parts)))
    × (l.texts ++ filter_map decoded_part (map (λ part. part.now) (drop l.part-index l.parts)) ≡ filter_map decoded_part (map (λ part. part.now) l.parts))
