-- What is known of the logs under the paths of a cabinet.
use Rattle.std.specs.Prelude.{◌≡◌, ℕ, List, [], ◌∷◌, ◌++◌, Option, IfSome, IsSomeAnd, Bool, IsTrue, MatchBool, codes}
use Rattle.std.specs.Str.{bytes_eq}
use Rattle.ps_keeper.specs.Log.{Log, IsAlone}

-- the path of a log in memory that nobody keeps
abbrev pub dash : List ℕ
dash = codes "-"

-- one more path was asked for, if that is still known
abbrev pub HasAsked : List ℕ → Option (List (List ℕ)) → Option (List (List ℕ)) → Type 0
HasAsked path was now = IfSome now (λ paths. IsSomeAnd was (λ before. paths ≡ before ++ path ∷ []))

-- a keeper begins with this log, which is all that a crash leaves
pub record BeginsWith (log : Log) (known : Bool) (known_log : Option Log) (may_leave : Log → Type 0) : Type 0 where
  pub now : IsTrue known → IfSome known_log (λ l. l ≡ log)
  pub alone : IsTrue known → IsAlone log may_leave

-- what was known of the log under a path is known of the keeper's
pub record HasSameLog (known : Bool) (known_log : Option Log) (may_leave : Log → Type 0) (keeper_known : Bool) (keeper_log : Option Log) (keeper_may_leave : Log → Type 0) : Type 0 where
  pub does : IsTrue known → IsTrue keeper_known
  pub log : IsTrue known → keeper_log ≡ known_log
  pub crash : IsTrue known → (left : Log) → keeper_may_leave left → may_leave left

-- a keeper that was handed out: for `-` its log is empty, else it is the one under the path
abbrev pub HandsOut : List ℕ → Bool → Option Log → (Log → Type 0) → Bool → Option Log → (Log → Type 0) → Type 0
HandsOut path known known_log may_leave keeper_known keeper_log keeper_may_leave =
    MatchBool (bytes_eq path dash) (BeginsWith [] keeper_known keeper_log keeper_may_leave)
    (HasSameLog known known_log may_leave keeper_known keeper_log keeper_may_leave)

-- the log under a path is the one of the keeper that came back
pub record IsKeptAs (keeper_known : Bool) (keeper_log : Option Log) (keeper_may_leave : Log → Type 0) (known_log : Option Log) (may_leave : Log → Type 0) : Type 0 where
  pub does : IsTrue keeper_known
  pub log : known_log ≡ keeper_log
  pub crash : (left : Log) → may_leave left → keeper_may_leave left

-- a log that is known was known before, and is as it was
pub record SameFile (known : Bool) (known_log : Option Log) (may_leave : Log → Type 0) (known_now : Bool) (log_now : Option Log) (may_leave_now : Log → Type 0) : Type 0 where
  pub did : IsTrue known_now → IsTrue known
  pub log : IsTrue known_now → log_now ≡ known_log
  pub crash : IsTrue known_now → (left : Log) → may_leave_now left → may_leave left

-- the members of a cabinet that say what is known of its logs
module _ {S : Type 0} (known : S → List ℕ → Bool) (log : S → List ℕ → Option Log) (may_leave : S → List ℕ → Log → Type 0) where
  -- the log under this path is known only if it was known before, and is as it was
  abbrev pub KeepsLog : S → S → List ℕ → Type 0
  KeepsLog old new path = SameFile (known old path) (log old path) (may_leave old path) (known new path) (log new path) (may_leave new path)

  -- and those of its keepers
  module _ {K : Type 0} (keeper_known : K → Bool) (keeper_log : K → Option Log) (keeper_may_leave : K → Log → Type 0) where
    -- this keeper is handed out for this path
    abbrev pub GivesKeeper : S → List ℕ → K → Type 0
    GivesKeeper old path keeper = HandsOut path (known old path) (log old path) (may_leave old path) (keeper_known keeper) (keeper_log keeper) (keeper_may_leave keeper)

    -- this keeper came back, and its log lies under this path, if that is known
    abbrev pub KeepsKeeper : S → List ℕ → K → Type 0
    KeepsKeeper new path keeper = IsTrue (known new path) → IsKeptAs (keeper_known keeper) (keeper_log keeper) (keeper_may_leave keeper) (log new path) (may_leave new path)
