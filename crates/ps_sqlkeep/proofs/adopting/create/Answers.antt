use Rattle.sqlite.specs.Held.{state}
use Rattle.ps_sqlkeep.proofs.Adopt.{made, refused}
use Rattle.ps_sqlkeep.proofs.adopting.create.Goals as goal

pub returns-clause-made : goal.returns-clause-made
returns-clause-made g c clean = made (state g.S.Store c.args.conn.now) (state g.S.Store c.execute.new.self) c.execute.result (c.execute.ensures.runs clean)

pub returns-clause-left : goal.returns-clause-left
returns-clause-left g c clean = refused _ _ (state g.S.Store c.args.conn.now) (state g.S.Store c.execute.new.self) c.execute.result (c.execute.ensures.runs clean)
