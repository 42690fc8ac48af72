use Rattle.std.proofs.Common.{◌≡◌, map, take}
use Rattle.ps_sqlkeep.specs.Shown.{log_row}
use Rattle.ps_sqlkeep.proofs.reading.read_rows.Given as goal

abbrev pub invariant-loop-row : goal.invariant-loop-row
invariant-loop-row l = l.read ≡ map log_row (take l.row-index l.part)
