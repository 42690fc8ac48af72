-- The keepers of files, by their kind.
use Rattle.std.specs.Prelude.{◌≡◌, ℕ, Bool, true, Option, Some}
use Rattle.sqlite.specs.Files.{file_state, over_files}
use Rattle.ps_keeper.specs.Log.{Log}
use Rattle.ps_keeper.specs.Memory.{fresh}
use Rattle.ps_sqlkeep.specs.Keeper as sql
use Rattle.ps_sqlkeep.specs.Kept as kept
use Rattle.ps_files.specs.declared.keeper.FileKeeper.{FileKeeper}
use Rattle.ps_files.specs.declared.keeper.FileKeeper.TheVariants.{Sql, Memory}

-- how often the store of a keeper has failed
abbrev pub faults_of : FileKeeper → ℕ
faults_of (Sql k) = k.faults
faults_of (Memory k) = k.faults

-- the same log in a keeper that hasn't failed
abbrev pub unfailed : FileKeeper → FileKeeper
unfailed (Sql k) = Sql (record k { faults = 0 })
unfailed (Memory k) = Memory (fresh k.log)

-- what a keeper over SQLite knows, and one in memory
abbrev pub is_known : FileKeeper → Bool
is_known (Sql k) = sql.is_known over_files k
is_known (Memory k) = true

abbrev pub log_of : FileKeeper → Option Log
log_of (Sql k) = kept.log_of (file_state k.held)
log_of (Memory k) = Some k.log

abbrev pub leaves : FileKeeper → Log → Type 0
leaves (Sql k) left = kept.leaves (file_state k.held) left
leaves (Memory k) left = left ≡ k.log
