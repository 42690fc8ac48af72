-- A row that a query shows, as a row of the log.
use Rattle.std.specs.Prelude.{ℕ, pos}
use Rattle.sqlite.specs.declared.types.Value.{Value}
use Rattle.sqlite.specs.declared.types.Value.TheVariants.{Int}
use Rattle.sqlite.specs.Order.{Row, column, bytes}
use Rattle.ps_keeper.specs.declared.keeper.Row as keeper

-- a number that a query shows, which is never below 1
abbrev pub natural : Value → ℕ
natural (Int (pos n)) = n
natural _ = 0

abbrev pub log_row : Row → keeper.Row
log_row row = record { seq = natural (column row 0); body = bytes (column row 1) }
