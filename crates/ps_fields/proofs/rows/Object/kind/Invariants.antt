use Rattle.std.proofs.Common.{◌≡◌, drop, map}
use Rattle.ps_fields.specs.Rows.{kind_in, row_of, rows}
use Rattle.ps_fields.proofs.rows.Object.kind.Given as goal

-- no row so far has the name, so all is said by those that are left
abbrev pub invariant-loop-own : goal.invariant-loop-own
invariant-loop-own l = kind_in l.name (rows l.fn.self) ≡ kind_in l.name (map row_of (drop l.own-index l.own-items))
