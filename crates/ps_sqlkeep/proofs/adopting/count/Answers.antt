use Rattle.sqlite.specs.Held.{state}
use Rattle.ps_sqlkeep.proofs.Adopt.{refused_query, all_same, all_sums}
use Rattle.ps_sqlkeep.proofs.adopting.count.Goals as goal

pub returns-clause-same : goal.returns-clause-same
returns-clause-same g c clean = all_same (λ rows. rows.items) (state g.S.Store c.args.conn.now) (state g.S.Store c.query_all.new.self) c.query_all.result (c.query_all.ensures.ok clean)

pub returns-clause-left : goal.returns-clause-left
returns-clause-left g c clean = refused_query _ _ (state g.S.Store c.args.conn.now) (state g.S.Store c.query_all.new.self) c.query_all.result (c.query_all.ensures.err clean)

pub returns-clause-rows : goal.returns-clause-rows
returns-clause-rows g c clean = all_sums (λ rows. rows.items) (state g.S.Store c.args.conn.now) (state g.S.Store c.query_all.new.self) c.query_all.result (c.query_all.ensures.ok clean)
