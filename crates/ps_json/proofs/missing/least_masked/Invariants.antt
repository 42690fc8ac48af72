use Rattle.std.proofs.Common.{◌≡◌, drop, fold, map}
use Rattle.ps_fields.specs.Paths.{least, lesser}
use Rattle.ps_json.specs.Missing.{masked_unbuilt}
use Rattle.ps_json.proofs.missing.least_masked.Given as goal

-- the least so far, and the names that are left
abbrev pub invariant-loop-name : goal.invariant-loop-name
invariant-loop-name l =
    fold lesser l.least (masked_unbuilt l.object (map (λ name. name.now) (drop l.name-index l.mask))) ≡ least (masked_unbuilt l.object (map (λ name. name.now) l.mask))
