-- What a command asks of a cabinet.
use Rattle.std.specs.Prelude.{◌≡◌, ◌≢◌, ℕ, List, IsTrue}
use Rattle.ps_edge.specs.declared.cabinet.Cabinet as cabinet
use Rattle.ps_edge.specs.Files.{HasAsked, KeepsLog}

-- the cabinet was asked for one file, once
pub record AsksOnlyFor {S K : Type 0} (s : cabinet.Ghosts S K) (file : List ℕ) (old new : S) : Type 0 where
  -- for this one, and for no other
  pub asked : HasAsked file (s.asked old) (s.asked new)
  -- its keeper is out only if it was before
  pub returned : IsTrue (s.is_out new file) → IsTrue (s.is_out old file)
  -- the logs under other paths stay
  pub others : (other : List ℕ) → other ≢ file → KeepsLog s.known s.log s.may_leave old new other
  -- and so do their keepers
  pub others_out : (other : List ℕ) → other ≢ file → s.is_out new other ≡ s.is_out old other
