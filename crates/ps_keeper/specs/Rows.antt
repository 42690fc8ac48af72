-- The rows of a log, numbered from 1.
use Rattle.std.specs.Prelude.{ℕ, ◌+◌, List, [], ◌∷◌, take, drop}
use Rattle.ps_keeper.specs.declared.keeper.Row.{Row}
use Rattle.ps_keeper.specs.Log.{Log}

-- the bodies with their numbers, the first of which is this one
abbrev pub numbered_from : ℕ → Log → List Row
numbered_from n [] = []
numbered_from n (body ∷ bodies) = (record { seq = n; body = body }) ∷ numbered_from (n + 1) bodies

-- at most this many rows after this number, in order
abbrev pub page : ℕ → ℕ → Log → List Row
page after most log = numbered_from (after + 1) (take most (drop after log))
