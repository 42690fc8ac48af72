-- A keeper in memory, and the script of its faults.
use Rattle.std.specs.Prelude.{◌≡◌, ◌≢◌, ℕ, ◌+◌, ◌-◌, ◌^◌, ◌==◌, min, List, [], Option, Some, None, option_map, find, Result, Ok, Err, OnOk}
use Rattle.ps_keeper.specs.declared.memory.When.{When}
use Rattle.ps_keeper.specs.declared.memory.When.TheVariants.{Before, After}
use Rattle.ps_keeper.specs.declared.keeper.KeeperError.{KeeperError}
use Rattle.ps_keeper.specs.declared.keeper.KeeperError.TheVariants.{Failed, OutOfMemory}
use Rattle.ps_keeper.specs.Log.{Log}

-- what contracts see of a keeper in memory
pub record Memory : Type 0 where
  -- the bodies, oldest first
  pub log : Log
  -- the numbers of the calls that fail, each with whether it stores first
  pub script : List (ℕ × When)
  -- the calls so far
  pub calls : ℕ
  -- how many of them failed by the script
  pub faults : ℕ

-- a keeper with this log, as it is made anew
abbrev pub fresh : Log → Memory
fresh log = record { log = log; script = []; calls = 0; faults = 0 }

-- a count with one more, which stays at the end of its type
abbrev pub up : ℕ → ℕ
up n = min (n + 1) (2 ^ 64 - 1)

-- what the script says of the next call
abbrev pub fate : Memory → Option When
fate m = option_map (λ e. e.1) (find (λ e. e.0 == up m.calls) m.script)

-- a call fails if the script names it, and never otherwise
abbrev pub FailsBy : {T : Type 0} → Option When → Result T KeeperError → Type 0
FailsBy None result = result ≢ Err Failed
FailsBy (Some when) result = result ≡ Err Failed

-- a call that stores: if it fails after storing and memory runs out, it says that it ran out of memory
abbrev pub StoresBy : {T : Type 0} → Option When → Result T KeeperError → Type 0
StoresBy None result = result ≢ Err Failed
StoresBy (Some Before) result = result ≡ Err Failed
StoresBy (Some After) result = OnOk result ⊥

-- the count of faults after a call: one more if it failed
abbrev pub faults_after : {T : Type 0} → ℕ → Result T KeeperError → ℕ
faults_after faults (Ok x) = faults
faults_after faults (Err Failed) = up faults
faults_after faults (Err OutOfMemory) = faults

-- a call that leaves the script and counts itself, and its failure
pub record Counts {T : Type 0} (was now : Memory) (result : Result T KeeperError) : Type 0 where
  -- the script stays
  pub script : now.script ≡ was.script
  -- the call is counted
  pub calls : now.calls ≡ up was.calls
  -- so is its failure
  pub faults : now.faults ≡ faults_after was.faults result

-- the log after a call that makes this change: the old one if the call failed before it stored, or ran out of memory
abbrev pub log_after : {T : Type 0} → (Log → Log) → Option When → Result T KeeperError → Log → Log
log_after change when (Ok x) log = change log
log_after change (Some After) (Err Failed) log = change log
log_after change (Some Before) (Err Failed) log = log
log_after change None (Err Failed) log = log
log_after change when (Err OutOfMemory) log = log
