use Rattle.std.proofs.Common.{◌+◌, [], length, refl, ap, ◌∙◌, w64, arith}
use Rattle.std.proofs.lemmas.Int.{to_z-of_z}
use Rattle.sqlite.specs.declared.types.Value.TheVariants.{Int}
use Rattle.sqlite.specs.State.{HasCleanDisk}
use Rattle.sqlite.specs.Held.{state}
use Rattle.ps_keeper.specs.Log.{appended}
use Rattle.ps_sqlkeep.proofs.Append.{not_run, refused, ran}
use Rattle.ps_sqlkeep.proofs.statements.insert.Goals as goal

pub returns-in-Err-clause-change : goal.returns-in-Err-clause-change
returns-in-Err-clause-change g c next ready clean =
    let old = state g.S.Store c.args.conn.now in
    let new = state g.S.Store c.prepare.new.self in
    let was = ready (omega (arith, c.prepare.ensures.survives.clean)) in
    refused (appended c.args.body.now) old new _ was (not_run _ [] old new _ (c.in-Err.ensures.err clean [])) c.prepare.ensures.survives clean

pub returns-clause-change : goal.returns-clause-change
returns-clause-change g c next ready clean =
    let old = state g.S.Store c.args.conn.now in
    let mid = state g.S.Store c.prepare.new.self in
    let new = state g.S.Store c.execute.new.conn in
    let first = c.prepare.ensures.survives in
    let second = c.execute.ensures.survives in
    let early : HasCleanDisk mid = omega (arith, second.clean) in
    let at_first : HasCleanDisk old = omega (arith, first.clean) in
    let prepared = c.in-Ok.ensures.ok early in
    let number = c.to_sql-number.ensures ∙ ap Int (to_z-of_z w64 c.args.seq c.ranges.seq ∙ next at_first prepared.1.0.was_open) in
    let blob = c.to_sql-blob.ensures in
    ran old mid new (1 + length (old.now.trees 0)) c.args.body.now (ready at_first) (λ _. refl) prepared.1 c.execute.result
    (rw (prepared.0, number, blob) at (c.execute.ensures.runs clean)) first (rw (prepared.0, number, blob) at second) clean
    (λ db live left. g.met.S.Store.settled c.execute.new.conn.store db live left)
