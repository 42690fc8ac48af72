-- What becomes of a connection that is adopted.
use Rattle.std.specs.Prelude.{◌≡◌, ◌⊎◌, ℕ, Bool, false, true, IsTrue, [], codes, is_some, Some, Ok, Err}
use Rattle.sqlite.specs.State.{State, Executes, FailsToQuery, IsUnchanged}
use Rattle.sqlite.specs.Store.{Ghosts}
use Rattle.sqlite.specs.Held.{Held, state}
use Rattle.sqlite_schema.specs.declared.schema.Schema.{Schema}
use Rattle.sqlite_schema.specs.Names.{table_named}
use Rattle.ps_sqlkeep.specs.Entries.{entries_schema, no_schema, count_text, create_text}
use Rattle.sqlite.specs.declared.error.Error.{Error}
use Rattle.sqlite.specs.declared.error.Error.TheVariants.{SqliteFailure}
use Rattle.sqlite.specs.declared.error.ErrorCode.TheVariants.{OutOfMemory}
use Rattle.ps_keeper.specs.declared.keeper.KeeperError.{KeeperError}
use Rattle.ps_keeper.specs.declared.keeper.KeeperError.TheVariants as cause
use Rattle.ps_sqlkeep.specs.Kept.{IsNumbered, IsOurs, bodies, leaves, log_of}
use Rattle.ps_keeper.specs.Log.{IsAlone}

-- the store is clean, and the database is the table of a log, outside of any transaction
pub record HoldsLog (s : State) : Type 0 where
  pub clean : IsTrue s.is_clean
  pub schema : s.now.schema ≡ entries_schema
  pub autocommit : s.in_transaction ≡ false
  pub numbered : IsNumbered (s.now.trees 0)

-- there is a table of this name, be it of another make
abbrev pub HasEntries : Schema → Type 0
HasEntries schema = is_some (table_named schema (codes "entries")) ≡ true

-- the schema is empty, or is the keeper's table alone
abbrev pub IsUnclaimed : Schema → Type 0
IsUnclaimed schema = (schema ≡ no_schema) ⊎ (schema ≡ entries_schema)

-- an empty database has the table now, without rows
abbrev pub IsFresh : State → State → Type 0
IsFresh old new = old.now.schema ≡ no_schema → (new.now.schema ≡ entries_schema) × (new.now.trees 0 ≡ [])

-- an empty database has the table now; one that had a table of that name is as it was
pub record IsMade (old new : State) : Type 0 where
  pub is_open : IsTrue new.is_open
  pub same : HasEntries old.now.schema → IsUnchanged old new
  pub fresh : IsFresh old new

-- a database that had a table of that name is the same
abbrev pub IsSame : State → State → Type 0
IsSame old new = HasEntries old.now.schema → new.now ≡ old.now

-- while it can be read, the database is as it was, or as the last commit left it
abbrev pub IsLeft : State → State → Type 0
IsLeft old new = IsTrue new.is_open → (new.now ≡ old.now) ⊎ (new.now ≡ old.committed)

-- this holds if it had a table of that name
abbrev pub LeavesEntries : State → State → Type 0
LeavesEntries old new = HasEntries old.now.schema → IsLeft old new

-- the log is known to stand in the table, and a crash leaves it alone
pub record StandsAlone (s : State) : Type 0 where
  pub log : log_of s ≡ Some (bodies (s.now.trees 0))
  pub alone : IsAlone (bodies (s.now.trees 0)) (leaves s)

-- outside of a transaction all is committed
abbrev pub IsSettled : State → Type 0
IsSettled s = s.in_transaction ≡ false → IsTrue s.is_open → s.now ≡ s.committed

-- the database is the table alone, and no transaction is open
pub record IsEntriesAlone (s : State) : Type 0 where
  pub schema : s.now.schema ≡ entries_schema
  pub autocommit : s.in_transaction ≡ false

-- the database is open, and was found to hold a log if it does, and only then
pub record IsFound (s : State) (found : Bool) : Type 0 where
  pub is_open : IsTrue s.is_open
  pub ours : IsTrue found → IsOurs s
  pub all : HoldsLog s → IsTrue found

-- why a call is refused whose statement was refused with this error
abbrev pub cause_of : Error → KeeperError
cause_of (SqliteFailure OutOfMemory) = cause.OutOfMemory
cause_of _ = cause.Failed

module _ {S : Type 0} (g : Ghosts S) (old new : Held S) where
  -- SQLite refused to make the table, or made it and refused to count its rows
  abbrev pub Refuses : Error → Type 0
  Refuses e = Executes create_text [] (state g old) (state g new) (Err e)
      ⊎ ((mid : Held S) × (count : ℕ) × Executes create_text [] (state g old) (state g mid) (Ok count) × FailsToQuery count_text [] (state g mid) (state g new) e)

  -- the cause of a refusal is an error of SQLite
  abbrev pub IsRefused : KeeperError → Type 0
  IsRefused why = (e : Error) × (why ≡ cause_of e) × Refuses e
