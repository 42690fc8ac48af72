-- What the calls of a keeper do to its log, if that is known, and to the logs that a crash may leave.
use Rattle.std.specs.Prelude.{◌≡◌, ◌⊎◌, ℕ, List, [], ◌∷◌, ◌++◌, Option, Some, None, Result, IfSome, OnOk, OnErr, MatchOption}

-- the bodies, oldest first
abbrev pub Log : Type 0
Log = List (List ℕ)

-- a crash leaves the log and nothing else
abbrev pub IsAlone : Log → (Log → Type 0) → Type 0
IsAlone log may_leave = (left : Log) → may_leave left → left ≡ log

-- the log is the old one or the one that the call would make, if both can be read
abbrev pub IsOldOrNew : (Log → Log) → Option Log → Option Log → Type 0
IsOldOrNew change None None = Unit {0}
IsOldOrNew change None (Some now) = ⊥
IsOldOrNew change (Some was) None = Unit {0}
IsOldOrNew change (Some was) (Some now) = (now ≡ was) ⊎ (now ≡ change was)

-- a crash now leaves what one before the call could leave, or the log that the call would make
abbrev pub MayAdd : (Log → Log) → Option Log → (Log → Type 0) → (Log → Type 0) → Type 0
MayAdd change was before after = (left : Log) → after left → before left ⊎ MatchOption was ⊥ (λ log. left ≡ change log)

-- the call made the change, and a crash leaves the new log alone
pub record IsMade (change : Log → Log) (was now : Option Log) (may_leave : Log → Type 0) : Type 0 where
  -- the log before the call
  pub old : Log
  -- it could be read
  pub from : was ≡ Some old
  -- the log after the call is the changed one
  pub to : now ≡ Some (change old)
  -- and a crash leaves nothing else
  pub alone : IsAlone (change old) may_leave

-- what a call that makes this change does to a log that is still known
pub record Changes {T E : Type 0} (change : Log → Log) (was now : Option Log) (before after : Log → Type 0) (result : Result T E) : Type 0 where
  -- an answer: the change is made
  pub ok : OnOk result (IsMade change was now after)
  -- an error: it is made or not
  pub err : OnErr result (IsOldOrNew change was now)
  -- a crash leaves an old log or the changed one
  pub crash : MayAdd change was before after

-- what a call that only reads does
pub record Keeps {T E : Type 0} (was now : Option Log) (before after : Log → Type 0) (result : Result T E) : Type 0 where
  -- if the log can still be read, it is the old one
  pub same : IfSome now (λ log. was ≡ Some log)
  -- an answer: a crash leaves this log alone
  pub ok : OnOk result (IfSome now (λ log. IsAlone log after))
  -- an answer: the log can be read
  pub readable : OnOk result ((log : Log) × (now ≡ Some log))
  -- a crash leaves nothing that it couldn't leave before
  pub crash : (left : Log) → after left → before left

-- the log with one more body at its end
abbrev pub appended : List ℕ → Log → Log
appended body log = log ++ body ∷ []

-- these bodies in place of the log
abbrev pub replaced : Log → Log → Log
replaced rows log = rows
