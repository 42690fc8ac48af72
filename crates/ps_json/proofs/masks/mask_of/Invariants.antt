use Rattle.std.proofs.Common.{◌≡◌, drop, map}
use Rattle.ps_json.specs.Masks.{with_bits}
use Rattle.ps_json.proofs.masks.mask_of.Given as goal

-- the bits so far, and the names that are left
abbrev pub invariant-loop-name : goal.invariant-loop-name
invariant-loop-name l =
    with_bits l.object l.bits (map (λ name. name.now) (drop l.name-index l.names)) ≡ with_bits l.object 0 (map (λ name. name.now) l.names)
