use Rattle.std.proofs.Common.{ap, ◌∙◌, w64}
use Rattle.std.proofs.lemmas.Int.{to_z-of_z}
use Rattle.sqlite.specs.declared.types.Value.TheVariants.{Int}
use Rattle.sqlite.specs.Held.{state}
use Rattle.ps_sqlkeep.proofs.Replace.{puts}
use Rattle.ps_sqlkeep.proofs.replacing.put.Goals as goal

pub returns-clause-ok : goal.returns-clause-ok
returns-clause-ok g c clean =
    let old = state g.S.Store c.args.tx.now.conn.now in
    let new = state g.S.Store c.execute.new.self.conn.now in
    let number = c.to_sql-number.ensures ∙ ap Int (to_z-of_z w64 c.args.seq c.ranges.seq) in
    let blob = c.to_sql-blob.ensures in
    puts old new c.args.seq c.args.body.now c.execute.result (λ inside. rw (number, blob) at (c.execute.ensures.runs clean inside))
