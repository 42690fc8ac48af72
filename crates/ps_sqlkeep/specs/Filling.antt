-- A transaction that writes the table anew.
use Rattle.std.specs.Prelude.{◌≡◌, true, IsTrue, List, Result, OnOk, ◌+◌, ◌++◌, ◌∷◌, [], length, pos, ℤ}
use Rattle.sqlite.specs.declared.types.Value.{Value}
use Rattle.sqlite.specs.Effect.{Database}
use Rattle.sqlite.specs.State.{State, HasCleanDisk}
use Rattle.ps_sqlkeep.specs.Entries.{entries_schema}
use Rattle.ps_sqlkeep.specs.Kept.{rows_from}

-- the table holds these bodies so far, and the last commit stands
pub record IsFilling (s : State) (committed : Database) (values : List Value) : Type 0 where
  pub live : IsTrue s.is_open
  pub inside : s.in_transaction ≡ true
  pub schema : s.now.schema ≡ entries_schema
  pub committed_is : s.committed ≡ committed
  pub rows : s.now.trees 0 ≡ rows_from 1 values

-- at Ok a statement with this number leaves one more body
abbrev pub AddsRow : {T E : Type 0} → ℤ → Value → State → State → Result T E → Type 0
AddsRow seq body old new result = HasCleanDisk new → OnOk result ((committed : Database) (values : List Value) → IsFilling old committed values
    → seq ≡ pos (1 + length values) → IsFilling new committed (values ++ body ∷ []))

-- at Ok it leaves these bodies in a table that was empty
abbrev pub Fills : {T E : Type 0} → List Value → State → State → Result T E → Type 0
Fills bodies old new result = HasCleanDisk new → OnOk result ((committed : Database) → IsFilling old committed [] → IsFilling new committed bodies)

-- at Ok it leaves these bodies in place of any others
abbrev pub Refills : {T E : Type 0} → List Value → State → State → Result T E → Type 0
Refills bodies old new result = HasCleanDisk new → OnOk result ((committed : Database) (values : List Value) → IsFilling old committed values → IsFilling new committed bodies)
