-- What the statements of a call owe, over a connection that was ready.
use Rattle.std.specs.Prelude.{◌≡◌, ◌+◌, IsTrue, ℕ, List, take, drop, Result, IfOk}
use Rattle.sqlite.specs.Order.{Row}
use Rattle.sqlite.specs.State.{State, HasCleanDisk}
use Rattle.ps_keeper.specs.Log.{Log, Changes, Keeps}
use Rattle.ps_sqlkeep.specs.Kept.{IsOurs, IsReady, leaves, log_of, shown_from, stored}

-- it made this change or not, by its answer, and the connection is ready again
pub record HasMade {T E : Type 0} (to : Log → Log) (old new : State) (result : Result T E) : Type 0 where
  pub ready : IsTrue new.is_open → IsOurs new
  pub change : Changes to (log_of old) (log_of new) (leaves old) (leaves new) result

abbrev pub Makes : {T E : Type 0} → (Log → Log) → State → State → Result T E → Type 0
Makes to old new result = IsReady old → HasCleanDisk new → HasMade to old new result

-- it showed a page of the table, and the connection is ready again
pub record HasShown {T E : Type 0} (after most : ℕ) (items : T → List Row) (old new : State) (result : Result T E) : Type 0 where
  pub ready : IsTrue new.is_open → IsOurs new
  pub keeps : Keeps (log_of old) (log_of new) (leaves old) (leaves new) result
  pub rows : IfOk result (λ shown. IsTrue new.is_open → items shown ≡ shown_from (after + 1) (take most (drop after (stored (new.now.trees 0)))))

abbrev pub Shows : {T E : Type 0} → ℕ → ℕ → (T → List Row) → State → State → Result T E → Type 0
Shows after most items old new result = IsReady old → HasCleanDisk new → HasShown after most items old new result
