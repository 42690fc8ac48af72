use Rattle.std.proofs.Common.{◌≡◌, ◌+◌, ℕ, List, Option, Some, None, IfSome, length, length-take, take, drop, ap, arith, ◌<◌}
use Rattle.ps_keeper.specs.declared.keeper.Row.{Row}
use Rattle.ps_keeper.specs.Log.{Log}
use Rattle.ps_keeper.specs.Rows.{page}
use Rattle.ps_keeper.proofs.RowLemmas.{length-numbered}
use Rattle.ps_sqlkeep.proofs.tests.append_next.Goals as goal

next : (log : Option Log) (rows : List Row) (count : ℕ) → IfSome log (λ was. rows ≡ page 0 100 was) → count ≡ length rows → count < 100 → IfSome log (λ was. count + 1 ≡ length was + 1)
next None rows count is len few = tt
next (Some was) rows count is len few =
    let rows_is = ap length is in
    omega (arith, rows_is, len, few, length-numbered 1 (take 100 (drop 0 was)), length-take 100 (drop 0 was))

pub append-requires-clause-next : goal.append-requires-clause-next
append-requires-clause-next g c known =
    next (g.K.Keeper.log c.rows.new.self) c.in_ok-rows.field-0 c.len-count.result (c.in_ok-rows.ensures.rows known) c.len-count.ensures (omega (arith, c.if-count-ge100.false))
