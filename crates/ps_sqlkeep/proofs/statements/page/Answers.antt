use Rattle.std.proofs.Common.{◌<◌, ◌^◌, [], ap, ◌∙◌, w64, arith}
use Rattle.std.proofs.lemmas.Int.{to_z_pos}
use Rattle.sqlite.specs.declared.types.Value.TheVariants.{Int}
use Rattle.sqlite.specs.State.{HasCleanDisk}
use Rattle.sqlite.specs.Held.{state}
use Rattle.ps_sqlkeep.proofs.Append.{not_run}
use Rattle.ps_sqlkeep.proofs.Read.{refused_page, read}
use Rattle.ps_sqlkeep.proofs.statements.page.Goals as goal

pub returns-in-Err-clause-page : goal.returns-in-Err-clause-page
returns-in-Err-clause-page g c ready clean =
    let old = state g.S.Store c.args.conn.now in
    let new = state g.S.Store c.prepare.new.self in
    let was = ready (omega (arith, c.prepare.ensures.survives.clean)) in
    refused_page c.args.after c.args.most (λ rows. rows.items) old new _ was (not_run _ [] old new _ (c.in-Err.ensures.err clean [])) c.prepare.ensures.survives clean

pub returns-clause-page : goal.returns-clause-page
returns-clause-page g c ready clean =
    let old = state g.S.Store c.args.conn.now in
    let mid = state g.S.Store c.prepare.new.self in
    let new = state g.S.Store c.query_all.new.conn in
    let first = c.prepare.ensures.survives in
    let second = c.query_all.ensures.survives in
    let early : HasCleanDisk mid = omega (arith, second.clean) in
    let at_first : HasCleanDisk old = omega (arith, first.clean) in
    let prepared = c.in-Ok.ensures.ok early in
    let low : c.args.after < 2 ^ 63 = omega (arith, c.requires) in
    let from = c.to_sql-from.ensures ∙ ap Int (to_z_pos w64 c.args.after low) in
    let count = c.to_sql-count.ensures in
    read old mid new c.args.after c.args.most (ready at_first) prepared.1 (λ rows. rows.items) c.query_all.result
    (rw (prepared.0, from, count) at (c.query_all.ensures.ok clean)) (rw (prepared.0, from, count) at (c.query_all.ensures.err clean)) first (rw (prepared.0, from, count) at second) clean
    (λ db live left. g.met.S.Store.settled c.query_all.new.conn.store db live left)
