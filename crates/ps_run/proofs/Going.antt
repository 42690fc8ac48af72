-- Counts that rise, and what calls leave to the next ones, one after another.
use Rattle.std.proofs.Common.{ℕ, ◌≤◌, arith}
use Rattle.ps_keeper.specs.Cause.{Rose}
use Rattle.ps_keeper.specs.declared.keeper.Keeper as keeper
use Rattle.ps_book.specs.Books.{MeansSome, GoesOn}
use Rattle.ps_book.specs.Journaled.{Journaled}
use Rattle.ps_book.specs.declared.machine.Machine as machine

-- a count that rose after it had not fallen
pub rose_after : (before mid now : ℕ) → before ≤ mid → Rose mid now → Rose before now
rose_after before mid now later rose = omega arith

module _ {M C E R K : Type 0} (m : machine.Ghosts M C E R) (k : keeper.Ghosts K) where
  pub goes_none : (book : Journaled M K) → MeansSome m k book → GoesOn m k book book
  goes_none book means = record { means = means; still_known = λ known. known; later = omega arith }

  pub goes_on : (old mid new : Journaled M K) → GoesOn m k old mid → GoesOn m k mid new → GoesOn m k old new
  goes_on old mid new one two = record { means = two.means; still_known = λ known. one.still_known (two.still_known known); later = omega (arith, one.later, two.later) }
