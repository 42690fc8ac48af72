-- From a keeper to the book that it was given to, and from a cabinet to the keeper that it handed out and took back.
use Rattle.std.proofs.Common.{◌≡◌, ◌⊎◌, inl, inr, ℕ, ◌+◌, ◌-◌, ◌^◌, ◌≤◌, min, [], Option, Some, None, Bool, true, false, sym, ap, subst, arith}
use Rattle.std.specs.Prelude.{IfSome, IsSomeAnd, IsTrue, MatchBool}
use Rattle.ps_keeper.specs.Log.{Log}
use Rattle.ps_keeper.specs.declared.keeper.Keeper as keeper
use Rattle.ps_book.specs.Books.{BookMeans, OnlyRead, FirstBadRow, MeantNothing}
use Rattle.ps_book.specs.Holding.{IsMeantBy, LogMeans}
use Rattle.ps_book.specs.Journaled.{Journaled}
use Rattle.ps_book.specs.Meaning.{meaning, IsFirstBad}
use Rattle.ps_book.specs.Read.{IsOnlyRead}
use Rattle.ps_book.specs.declared.machine.Machine as machine
use Rattle.ps_edge.specs.Files.{BeginsWith, HasSameLog, IsKeptAs, SameFile}

-- a book was opened on a keeper, and gave one back
module _ {M C E R K : Type 0} (m : machine.Ghosts M C E R) (k : keeper.Ghosts K) where
  pub closed-known : (book : Journaled M K) (it : K) → it ≡ book.keeper → IsTrue (k.known it) → IsTrue (k.known book.keeper)
  closed-known book it given t = subst (λ (x : K). IsTrue (k.known x)) given t

  pub closed-means : (book : Journaled M K) (it : K) → it ≡ book.keeper → IsTrue (k.known it) → (w : m.World) (more : Option m.World) → BookMeans m k book w more → LogMeans (meaning m.next m.spelled m.first) w more (k.log it) (k.may_leave it)
  closed-means book it given t w more means = subst (λ (x : K). LogMeans (meaning m.next m.spelled m.first) w more (k.log x) (k.may_leave x)) (sym given) (means.kept (closed-known book it given t))

  pub closed-count : (before : ℕ) (book end : Journaled M K) (it : K) → it ≡ end.keeper → before ≤ k.faults book.keeper → (n : ℕ) → min (k.faults book.keeper + n) (2 ^ 64 - 1) ≤ k.faults end.keeper → min (before + n) (2 ^ 64 - 1) ≤ k.faults it
  closed-count before book end it given later n le = let same = ap k.faults given in omega (arith, same, later, le)

  -- it was only read
  pub closed-read : (was it : K) (book : Journaled M K) → it ≡ book.keeper → OnlyRead k was book.keeper → OnlyRead k was it
  closed-read was it book given read = subst (λ (x : K). OnlyRead k was x) (sym given) read

  -- the bad row at which it couldn't be opened
  pub shown-bad : (was now : K) (seq : ℕ) → FirstBadRow m k was now seq → MeantNothing m k was now → IsTrue (k.known now) → IsSomeAnd (k.log was) (λ rows. IsFirstBad m.next m.spelled m.first rows seq × (meaning m.next m.spelled m.first rows ≡ None))
  shown-bad was now seq bad nothing t =
      let row = bad t in
      let means : IfSome (Some row.log) (λ rows. meaning m.next m.spelled m.first rows ≡ None) = subst (λ (o : Option Log). IfSome o (λ rows. meaning m.next m.spelled m.first rows ≡ None)) row.log_is (nothing t) in
      subst (λ (o : Option Log). IsSomeAnd o (λ rows. IsFirstBad m.next m.spelled m.first rows seq × (meaning m.next m.spelled m.first rows ≡ None))) (sym row.log_is) (row.bad, means)

-- `known0`, `log0`, `leaves0`: of the file before; without the digit: of the keeper that was handed out
module _ (known0 : Bool) (log0 : Option Log) (leaves0 : Log → Type 0) (known : Bool) (log : Option Log) (leaves : Log → Type 0) where
  abbrev Hands : Bool → Type 0
  Hands is_dash = MatchBool is_dash (BeginsWith [] known log leaves) (HasSameLog known0 log0 leaves0 known log leaves)

  -- what the keeper's log began with, the file's did
  pub began-by : (is_dash : Bool) → Hands is_dash → IsTrue known → (A : Log → Type 0) → (IsTrue known → IsSomeAnd log A) → MatchBool is_dash (A []) (IsTrue known0 → IsSomeAnd log0 A)
  began-by true hands t A began = empty log (hands.now t) (began t)
    where
      empty : (o : Option Log) → IfSome o (λ l. l ≡ []) → IsSomeAnd o A → A []
      empty None is here = absurd (here)
      empty (Some rows) is here = subst A is here
  began-by false hands t A began = λ t0. subst (λ (o : Option Log). IsSomeAnd o A) (hands.log t0) (began t)

  -- the keeper was only read, and came back: the file is empty, or as it was
  module _ (known1 known_now : Bool) (log1 log_now : Option Log) (leaves1 leaves_now : Log → Type 0)
      (still : IsTrue known1 → IsTrue known) (kept : IsTrue known_now → IsKeptAs known1 log1 leaves1 log_now leaves_now) where
    abbrev KeeperRead : Type 0
    KeeperRead = IsTrue known1 → IsTrue known → IsOnlyRead log log1 leaves leaves1

    emptied : BeginsWith [] known log leaves → KeeperRead → BeginsWith [] known_now log_now leaves_now
    emptied hands read = record {
      now = λ t. let back = kept t in let was = still back.does in let only = read back.does was in
          subst (λ (o : Option Log). IfSome o (λ l. l ≡ [])) (sym back.log) (old log (hands.now was) log1 only.same);
      alone = λ t left may. let back = kept t in let was = still back.does in let only = read back.does was in
          hands.alone was left (only.crash left (back.crash left may));
    }
      where
        old : (o : Option Log) → IfSome o (λ l. l ≡ []) → (n : Option Log) → IfSome n (λ l. o ≡ Some l) → IfSome n (λ l. l ≡ [])
        old o is None same = tt
        old o is (Some l) same = subst (λ (x : Option Log). IfSome x (λ rows. rows ≡ [])) same is

    stayed : HasSameLog known0 log0 leaves0 known log leaves → KeeperRead → IsTrue known_now → IsTrue known0 → IsOnlyRead log0 log_now leaves0 leaves_now
    stayed hands read t t0 =
        let back = kept t in
        let only = read back.does (still back.does) in
        record {
          same = subst (λ (o : Option Log). IfSome o (λ l. log0 ≡ Some l)) (sym back.log) (subst (λ (o : Option Log). IfSome log1 (λ l. o ≡ Some l)) (hands.log t0) only.same);
          crash = λ left may. hands.crash t0 left (only.crash left (back.crash left may));
        }

    pub opened-by : (is_dash : Bool) → Hands is_dash → KeeperRead → MatchBool is_dash (BeginsWith [] known_now log_now leaves_now) (IsTrue known_now → IsTrue known0 → IsOnlyRead log0 log_now leaves0 leaves_now)
    unfolding emptied stayed
    opened-by true hands read = emptied hands read
    opened-by false hands read = stayed hands read

    pub leaves-by : (is_dash : Bool) → Hands is_dash → KeeperRead
        → MatchBool is_dash (SameFile known0 log0 leaves0 known_now log_now leaves_now ⊎ BeginsWith [] known_now log_now leaves_now) (IsTrue known_now → IsTrue known0 → IsOnlyRead log0 log_now leaves0 leaves_now)
    unfolding emptied stayed
    leaves-by true hands read = inr (emptied hands read)
    leaves-by false hands read = stayed hands read

pub kept-means : {W : Type 0} (mean : Log → Option W) (known : Bool) (log log_now : Option Log) (leaves leaves_now : Log → Type 0) → IsKeptAs known log leaves log_now leaves_now → (w : W) (more : Option W) → LogMeans mean w more log leaves → LogMeans mean w more log_now leaves_now
kept-means mean known log log_now leaves leaves_now kept w more means = record {
  now = subst (λ (o : Option Log). IfSome o (IsMeantBy mean w more)) (sym kept.log) means.now;
  left = λ left may. means.left left (kept.crash left may);
}

pub kept-count : (before mid now k0 k1 : ℕ) → k0 ≡ 0 → before ≤ mid → now ≡ min (mid + k1) (2 ^ 64 - 1) → (n : ℕ) → min (k0 + n) (2 ^ 64 - 1) ≤ k1 → min (before + n) (2 ^ 64 - 1) ≤ now
kept-count before mid now k0 k1 zero later sum n le = omega (arith, zero, later, sum, le)

-- a cabinet that refused a keeper left the file
pub refused-leaves : (is_dash : Bool) (known : Bool) (log : Option Log) (leaves : Log → Type 0) (known_now : Bool) (log_now : Option Log) (leaves_now : Log → Type 0) → SameFile known log leaves known_now log_now leaves_now
    → MatchBool is_dash (SameFile known log leaves known_now log_now leaves_now ⊎ BeginsWith [] known_now log_now leaves_now) (IsTrue known_now → IsTrue known → IsOnlyRead log log_now leaves leaves_now)
refused-leaves true known log leaves known_now log_now leaves_now file = inl file
refused-leaves false known log leaves known_now log_now leaves_now file = λ t _. record {
  same = same log_now (file.log t);
  crash = file.crash t;
}
  where
    same : (o : Option Log) → o ≡ log → IfSome o (λ l. log ≡ Some l)
    same None is = tt
    same (Some l) is = sym is
