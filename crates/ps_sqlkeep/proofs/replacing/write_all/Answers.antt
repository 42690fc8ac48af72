use Rattle.std.proofs.Common.{map, arith}
use Rattle.sqlite.specs.declared.types.Value.TheVariants.{Blob}
use Rattle.sqlite.specs.Held.{state}
use Rattle.ps_sqlkeep.proofs.Replace.{then_filled}
use Rattle.ps_sqlkeep.proofs.replacing.write_all.Goals as goal

pub returns-in-Ok-clause-ok : goal.returns-in-Ok-clause-ok
returns-in-Ok-clause-ok g c clean =
    then_filled (state g.S.Store c.args.tx.now.conn.now) (state g.S.Store c.clear.new.tx.conn.now) (state g.S.Store c.fill.new.tx.conn.now) (map Blob c.args.rows.now) c.fill.result
    (c.in-Ok.ensures.ok (omega (arith, c.fill.ensures.survives.clean))) (c.fill.ensures.ok clean)
