-- What the keeper tells of a connection.
use Rattle.std.specs.Prelude.{◌≡◌, ◌⊎◌, if◌then◌else◌, ℕ, ◌+◌, pos, false, ℤ, length, IsTrue, List, [], ◌∷◌, map, Option, Some, None}
use Rattle.sqlite.specs.declared.types.Value.{Value}
use Rattle.sqlite.specs.declared.types.Value.TheVariants.{Null, Int}
use Rattle.sqlite.specs.Order.{Row, column, bytes}
use Rattle.sqlite.specs.Tree.{Trees}
use Rattle.sqlite.specs.State.{State, HasCleanDisk}
use Rattle.ps_keeper.specs.Log.{Log}
use Rattle.ps_sqlkeep.specs.Entries.{entries_schema}

-- a row as the table stores it: its number as the rowid, NULL in the column of the number, and the body
abbrev pub row_of : ℕ → Value → Row
row_of n body = Int (pos n) ∷ Null ∷ body ∷ []

-- rows with these bodies, numbered from here
abbrev pub rows_from : ℕ → List Value → List Row
rows_from n [] = []
rows_from n (body ∷ bodies) = row_of n body ∷ rows_from (n + 1) bodies

-- the bodies of such rows
abbrev pub stored : List Row → List Value
stored rows = map (λ r. column r 2) rows

-- the numbers are 1 to the count of rows
abbrev pub IsNumbered : List Row → Type 0
IsNumbered rows = rows ≡ rows_from 1 (stored rows)

-- the log of such rows. A body that isn't bytes counts as the bytes of its text, or as none; no call reads it.
abbrev pub bodies : List Row → Log
bodies rows = map bytes (stored rows)

-- an open that finds these rows finds this log, or may take any where the numbers are out of order
abbrev pub MayMean : List Row → Log → Type 0
MayMean rows log = (IsNumbered rows × (log ≡ bodies rows)) ⊎ ¬ IsNumbered rows

-- the schema is the one table, its numbers are 1 to their count, and no transaction is open
pub record IsOurs (s : State) : Type 0 where
  pub schema : s.now.schema ≡ entries_schema
  pub autocommit : s.in_transaction ≡ false
  pub settled : s.committed ≡ s.now
  pub numbered : IsNumbered (s.now.trees 0)

-- the logs that an open after a crash may find
abbrev pub leaves : State → Log → Type 0
leaves s log = (db : Trees) × s.may_leave db × MayMean (db 0) log

-- the log of a connection that is ours, while it is open
abbrev pub log_of : State → Option Log
log_of s = if s.is_open then Some (bodies (s.now.trees 0)) else None

-- rows with these bodies as a query shows them, numbered from here
abbrev pub shown_from : ℕ → List Value → List Row
shown_from n [] = []
shown_from n (body ∷ bodies) = (Int (pos n) ∷ body ∷ []) ∷ shown_from (n + 1) bodies

-- a connection that is clean and open is ours
abbrev pub IsReady : State → Type 0
IsReady s = HasCleanDisk s → IsTrue s.is_open → IsOurs s

-- the number is that of the next row
abbrev pub IsNext : State → ℤ → Type 0
IsNext s seq = HasCleanDisk s → IsTrue s.is_open → seq ≡ pos (1 + length (s.now.trees 0))
