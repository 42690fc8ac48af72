-- The log of a command: what it began with, and what is left of it.
use Rattle.std.specs.Prelude.{◌≡◌, ◌⊎◌, ◌^◌, ◌≤◌, ℕ, [], length, Option, Some, None, IfSome, IsSomeAnd, IsTrue, MatchBool}
use Rattle.ps_keeper.specs.Log.{Log}
use Rattle.ps_book.specs.Read.{IsOnlyRead}
use Rattle.ps_edge.specs.Files.{BeginsWith, SameFile}
use Rattle.ps_run.specs.Outside.{Outside}

module _ {I O : Type 0} (was now : Outside I O) where
  -- this holds of the log that the command began with: of the empty one over `-`, else of the file's, if that was known
  abbrev pub BeganWith : (Log → Type 0) → Type 0
  BeganWith P = MatchBool was.begins_empty (P []) (IsTrue was.known → IsSomeAnd was.log P)

  -- a log that was known is the old one, if it can be read, and a crash leaves nothing new
  abbrev pub IsOldLog : Type 0
  IsOldLog = IsTrue now.known → IsTrue was.known → IsOnlyRead was.log now.log was.may_leave now.may_leave

  -- the log was opened, and only read: over `-` it is empty, else it is the old one
  abbrev pub LeavesOpened : Type 0
  LeavesOpened = MatchBool was.begins_empty (BeginsWith [] now.known now.log now.may_leave) IsOldLog

  -- the same, or over `-` no log was opened, and what was there stays
  abbrev pub LeavesLog : Type 0
  LeavesLog = MatchBool was.begins_empty
      (SameFile was.known was.log was.may_leave now.known now.log now.may_leave ⊎ BeginsWith [] now.known now.log now.may_leave) IsOldLog

  -- nothing was read, nothing was written, and the log was at most read
  pub record LeavesAll : Type 0 where
    pub input : now.input ≡ was.input
    pub output : now.output ≡ was.output
    pub log : LeavesLog

-- from a world at which the log opened, with nothing in doubt
pub record FromOpening {W : Type 0} (Opens : W → Type 0) (P : W × Option W → Type 0) : Type 0 where
  pub opening : W
  pub opens : Opens opening
  pub runs : P (opening, None)

-- `mean`: the world that a log means. `IsBad`: the number of a log's first bad row.
module _ {W I O : Type 0} (mean : Log → Option W) where
  -- the log that the command began with means this world
  abbrev pub Opens : Outside I O → Outside I O → W → Type 0
  Opens was now w = BeganWith was now (λ rows. mean rows ≡ Some w)

  -- as long as the log is known: the row of this number is the first bad one of the log that the command began with, which so means nothing
  abbrev pub ShowsBadRow : (Log → ℕ → Type 0) → Outside I O → Outside I O → ℕ → Type 0
  ShowsBadRow IsBad was now seq = IsTrue now.known → BeganWith was now (λ rows. IsBad rows seq × (mean rows ≡ None))

-- 2 ^ 60 bytes were there to be read
abbrev pub HadTooMuch : {I O : Type 0} → Outside I O → Type 0
HadTooMuch was = IfSome was.left (λ bytes. 2 ^ 60 ≤ length bytes)
