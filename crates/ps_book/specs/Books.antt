-- What is said of a book, in terms of its machine and its keeper.
use Rattle.std.specs.Prelude.{◌≡◌, ◌≤◌, ℕ, Option, Some, None, IfSome, IsTrue, Bool, is_some, option_and_then}
use Rattle.ps_keeper.specs.Log.{Log}
use Rattle.ps_keeper.specs.declared.keeper.Keeper as keeper
use Rattle.ps_book.specs.declared.machine.Machine as machine
use Rattle.ps_book.specs.declared.book.Answer.{Answer}
use Rattle.ps_book.specs.Journaled.{Journaled}
use Rattle.ps_book.specs.Meaning.{meaning}
use Rattle.ps_book.specs.Read.{IsOnlyRead, IsReadTo, IsRead, HasBadRow}
use Rattle.ps_book.specs.Holding.{LogMeans, IsBookMeaning, Begins, WasJudgedIn, IsAnswered, IsRefused}

module _ {K : Type 0} (k : keeper.Ghosts K) where
  -- a log that is known was known before
  abbrev pub StaysKnown : K → K → Type 0
  StaysKnown old new = IsTrue (k.known new) → IsTrue (k.known old)

  -- a log that couldn't be read can't be read now
  abbrev pub StaysUnread : K → K → Type 0
  StaysUnread old new = IsTrue (k.known new) → k.log old ≡ None → k.log new ≡ None

  -- the log, if it is known, was only read
  abbrev pub OnlyRead : K → K → Type 0
  OnlyRead old new = IsTrue (k.known new) → IsOnlyRead (k.log old) (k.log new) (k.may_leave old) (k.may_leave new)

module _ {M C E R K : Type 0} (m : machine.Ghosts M C E R) (k : keeper.Ghosts K) where
  -- the world that a log means
  abbrev pub world_in : Log → Option m.World
  world_in log = meaning m.next m.spelled m.first log

  -- the log of the keeper, if it is known, and each log that a crash may leave means this world, or the one with one more entry
  abbrev pub KeeperMeans : K → m.World → Option m.World → Type 0
  KeeperMeans it w more = IsTrue (k.known it) → LogMeans (meaning m.next m.spelled m.first) w more (k.log it) (k.may_leave it)

  -- as many rows of the log as this world has entries mean it, if the log is known
  abbrev pub ReadsTo : K → m.World → Type 0
  ReadsTo it w = IsTrue (k.known it) → IfSome (k.log it) (IsReadTo m.next m.spelled m.number m.first w)

  -- the whole log means this world and is all that a crash leaves, if it is known
  abbrev pub ReadsWhole : K → m.World → Type 0
  ReadsWhole it w = IsTrue (k.known it) → IsRead m.next m.spelled m.first w (k.log it) (k.may_leave it)

  -- the first bad row of the old log has this number, if the log is known now
  abbrev pub FirstBadRow : K → K → ℕ → Type 0
  FirstBadRow old new seq = IsTrue (k.known new) → HasBadRow m.next m.spelled m.first (k.log old) seq

  -- the old log had no meaning, if the log is known now
  abbrev pub MeantNothing : K → K → Type 0
  MeantNothing old new = IsTrue (k.known new) → IfSome (k.log old) (λ log. world_in log ≡ None)

  -- the book means this world; without its machine, maybe the one with one more entry
  abbrev pub BookMeans : Journaled M K → m.World → Option m.World → Type 0
  BookMeans book w more = IsBookMeaning m.world (meaning m.next m.spelled m.first) m.number k.known k.log k.may_leave book w more

  -- the book means some world
  abbrev pub MeansSome : Journaled M K → Type 0
  MeansSome book = (w : m.World) × (more : Option m.World) × BookMeans book w more

  -- what every call leaves to the next one
  pub record GoesOn (old new : Journaled M K) : Type 0 where
    -- the book means some world
    pub means : MeansSome new
    -- its log is known only if it was known before
    pub still_known : StaysKnown k old.keeper new.keeper
    -- the count of faults never falls
    pub later : k.faults old.keeper ≤ k.faults new.keeper

  -- from each world that the book meant
  abbrev pub FromWhereItStood : Journaled M K → (m.World → Option m.World → Type 0) → Type 0
  FromWhereItStood old P = (w : m.World) (more : Option m.World) → BookMeans old w more → P w more

  -- the book begins with what the log meant
  abbrev pub BeginsFrom : Option Log → Journaled M K → Type 0
  BeginsFrom before book = Begins m.world (meaning m.next m.spelled m.first) m.number k.known k.log k.may_leave before book

  -- a call was answered, in this world or in the one with one more entry
  abbrev pub AnswersIn : Bool → Bool → m.World → Option m.World → Journaled M K → ℕ → C → Answer R → Type 0
  AnswersIn known shown w more new at command a =
      IsAnswered m.next m.number known shown w more (λ from. m.reply from at command) (λ from. m.entry_of from at command) (BookMeans new) a

  -- a call was answered, in the world that the book meant or in the one that a reload found
  abbrev pub Answers : Journaled M K → Journaled M K → ℕ → C → Answer R → Type 0
  Answers old new at command a = FromWhereItStood old (λ w more. AnswersIn (k.known new.keeper) (is_some old.machine) w more new at command a)

  -- a call was refused, and its entry may be in the log
  abbrev pub Refuses : Journaled M K → Journaled M K → ℕ → C → Type 0
  Refuses old new at command = FromWhereItStood old (λ w more.
      IsRefused m.next (k.known new.keeper) (is_some old.machine) w more (λ from. m.entry_of from at command) (BookMeans new))

  -- the book means this world, or the one after what this command records there
  abbrev pub MayHaveRecorded : Journaled M K → m.World → ℕ → C → Type 0
  MayHaveRecorded new w at command = BookMeans new w (option_and_then (λ e. m.next w e) (m.entry_of w at command))

  -- this machine is in the world in which a call is judged, and the book without it means that world
  abbrev pub IsPresent : Journaled M K → Journaled M K → M → Type 0
  IsPresent old new it = FromWhereItStood old (λ w more.
      WasJudgedIn (k.known new.keeper) (is_some old.machine) w more (m.world it) × BookMeans new (m.world it) None)

  -- the entry of this step was appended: a log that meant the world before it means the one after it
  abbrev pub Records : K → K → E → m.World → Type 0
  Records old new e v = (w : m.World) → m.next w e ≡ Some v → KeeperMeans old w None → KeeperMeans new v None

  -- it may have been appended
  abbrev pub MayRecord : K → K → E → m.World → Type 0
  MayRecord old new e v = (w : m.World) → m.next w e ≡ Some v → KeeperMeans old w None → KeeperMeans new w (Some v)
