-- What contracts see of a book.
use Rattle.std.specs.Prelude.{ℕ, Option}

-- a machine with the keeper of its entries
pub record Journaled (M K : Type 0) : Type 0 where
  -- the keeper of the log
  pub keeper : K
  -- the machine, or nothing while the book is in doubt
  pub machine : Option M
  -- how many entries the book counts, at most 2^50
  pub place : ℕ
