-- What the count, the least and the greatest number say of a table.
use Rattle.std.specs.Prelude.{◌≡◌, ◌⊎◌, ℤ, pos, List, [], ◌∷◌, FitsSigned}
use Rattle.std.specs.Int.{w64}
use Rattle.std.specs.List.{AllByRecursion}
use Rattle.sqlite.specs.declared.types.Value.{Value}
use Rattle.sqlite.specs.declared.types.Value.TheVariants.{Int, Null}
use Rattle.sqlite.specs.Order.{Row, column}
use Rattle.sqlite.specs.Tree.{IsTable}
use Rattle.sqlite.specs.State.{State}
use Rattle.ps_sqlkeep.specs.Entries.{entries_schema}
use Rattle.ps_sqlkeep.specs.Kept.{IsNumbered}

-- a row of the table, whose number may be any integer
pub record IsEntry (row : Row) : Type 0 where
  pub number : ℤ
  pub body : Value
  pub is : row ≡ Int number ∷ Null ∷ body ∷ []

-- rows of the table, in the order of their numbers
pub record IsTableOfEntries (rows : List Row) : Type 0 where
  pub rising : IsTable rows
  pub each : AllByRecursion IsEntry rows

-- the database is the table
pub record HoldsEntries (s : State) : Type 0 where
  pub schema : s.now.schema ≡ entries_schema
  pub rows : IsTableOfEntries (s.now.trees 0)

-- there are no rows, or their numbers begin with 1 and end with their count
abbrev pub CountsUp : Row → Type 0
CountsUp row = (column row 0 ≡ Int (pos 0)) ⊎ ((n : ℤ) × (column row 0 ≡ Int n) × (column row 1 ≡ Int (pos 1)) × (column row 2 ≡ Int n))

-- the numbers fit into 64 bits
abbrev pub Fits : Row → Type 0
Fits row = (n : ℤ) → column row 2 ≡ Int n → FitsSigned w64 n

-- the answer is one row, which counts up if the numbers of the table are 1 to their count, and only then
pub record Sums (table answer : List Row) : Type 0 where
  pub row : Row
  pub is : answer ≡ row ∷ []
  pub numbered : CountsUp row → IsNumbered table
  pub counts : IsNumbered table → Fits row → CountsUp row

-- it is so of the database that was asked, if that is the table
abbrev pub SumsUp : State → List Row → Type 0
SumsUp s answer = HoldsEntries s → Sums (s.now.trees 0) answer
