-- What is known of the logs under the paths of a cabinet.
use Rattle.std.specs.Prelude.{◌≡◌, ℕ, List, [], Bool, true, false, Option, Some, None, option_and_then}
use Rattle.std.specs.Option.{option_map_or}
use Rattle.sqlite.specs.Files.{over_files}
use Rattle.ps_keeper.specs.Log.{Log}
use Rattle.ps_keeper.specs.Memory.{fresh}
use Rattle.ps_edge.specs.PathLogs.{kept}
use Rattle.ps_edge.specs.declared.path_log.PathLog.{PathLog}
use Rattle.ps_files.specs.declared.keeper.FileKeeper.{FileKeeper}
use Rattle.ps_files.specs.declared.keeper.FileKeeper.TheVariants.{Sql, Memory}
use Rattle.ps_files.specs.Keepers as keeper
use Rattle.ps_files.specs.Keepers.{unfailed}
use Rattle.ps_files.specs.Opened.{IsOpened}

-- a log is known if its keeper came back knowing it
abbrev pub is_known : List (PathLog FileKeeper) → List ℕ → Bool
is_known slots path = option_map_or (keeper.is_known) (kept path slots) false

-- it is that keeper's, and so is what a crash may leave
abbrev pub log_of : List (PathLog FileKeeper) → List ℕ → Option Log
log_of slots path = option_and_then (keeper.log_of) (kept path slots)

abbrev pub leaves_by : Option FileKeeper → Log → Type 0
leaves_by None left = Unit {0}
leaves_by (Some k) left = keeper.leaves k left

abbrev pub leaves : List (PathLog FileKeeper) → List ℕ → Log → Type 0
leaves slots path = leaves_by (kept path slots)

-- a keeper of a file that was just opened
abbrev pub IsNew : FileKeeper → Type 0
IsNew (Sql k) = IsOpened over_files k
IsNew (Memory k) = ⊥

-- a keeper is handed out: an empty one in memory for `-`, else the one that came back, if there is one, with a count of 0
abbrev pub IsHandedOut : Bool → Option FileKeeper → FileKeeper → Type 0
IsHandedOut true was keeper = keeper ≡ Memory (fresh [])
IsHandedOut false None keeper = IsNew keeper
IsHandedOut false (Some was) keeper = keeper ≡ unfailed was
