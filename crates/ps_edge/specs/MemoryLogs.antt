-- The logs of a cabinet in memory.
use Rattle.std.specs.Prelude.{ℕ, List, [], Option, Some, None, Bool, nat_eq, ◌&&◌, not, length, if◌then◌else◌}
use Rattle.ps_keeper.specs.Log.{Log}
use Rattle.ps_keeper.specs.Memory.{Memory, fresh}
use Rattle.ps_edge.specs.declared.path_log.PathLog.{PathLog}
use Rattle.ps_edge.specs.PathLogs.{kept}

-- what a cabinet in memory holds, is asked for, and has counted
pub record Files : Type 0 where
  pub slots : List (PathLog Memory)
  pub asked : Option (List (List ℕ))
  pub faults : ℕ

-- the log of a keeper, or an empty one
abbrev pub log_of : Option Memory → Log
log_of None = []
log_of (Some keeper) = keeper.log

-- the log that the next keeper of a path begins with
abbrev pub log_under : List ℕ → List (PathLog Memory) → Log
log_under path slots = log_of (kept path slots)

-- what is handed out of a slot: for `-` the log is empty, also if an older one came back
abbrev pub handed : Bool → Option Memory → Memory
handed is_dash None = fresh []
handed is_dash (Some keeper) = if is_dash && not (nat_eq (length keeper.log) 0) then fresh [] else keeper
