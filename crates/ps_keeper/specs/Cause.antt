-- Why a call of a keeper fails.
use Rattle.std.specs.Prelude.{ℕ, ◌+◌, ◌-◌, ◌^◌, ◌≤◌, min, Result, IsErrOf}
use Rattle.ps_keeper.specs.declared.keeper.KeeperError.{KeeperError}
use Rattle.ps_keeper.specs.declared.keeper.KeeperError.TheVariants.{Failed}

-- the count rose, or it is at the end of its type
abbrev pub Rose : ℕ → ℕ → Type 0
Rose before now = min (before + 1) (2 ^ 64 - 1) ≤ now

-- a call fails only by the store, which counts its failures
pub record HasCause {T : Type 0} (before now : ℕ) (result : Result T KeeperError) : Type 0 where
  -- the count of failures never falls
  pub later : before ≤ now
  -- it rose if the call says that the store failed
  pub failed : IsErrOf result Failed → Rose before now
