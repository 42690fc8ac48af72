use Rattle.std.proofs.Common.{[], inl, arith}
use Rattle.sqlite.specs.State.{HasCleanDisk}
use Rattle.sqlite.specs.Held.{state}
use Rattle.ps_keeper.specs.Log.{replaced}
use Rattle.ps_sqlkeep.proofs.Append.{not_run, stays_ours, refused}
use Rattle.ps_sqlkeep.proofs.Replace.{rebase}
use Rattle.ps_sqlkeep.proofs.replacing.replace.Goals as goal

pub returns-in-Err-clause-change : goal.returns-in-Err-clause-change
returns-in-Err-clause-change g c ready clean =
    let old = state g.S.Store c.args.conn.now in
    let new = state g.S.Store c.prepare.new.self in
    let was = ready (omega (arith, c.prepare.ensures.survives.clean)) in
    refused (replaced c.args.rows.now) old new _ was (not_run _ [] old new _ (c.in-Err.ensures.err clean [])) c.prepare.ensures.survives clean

pub returns-clause-change : goal.returns-clause-change
returns-clause-change g c ready clean =
    let old = state g.S.Store c.args.conn.now in
    let mid = state g.S.Store c.prepare.new.self in
    let first = c.prepare.ensures.survives in
    let early : HasCleanDisk mid = omega (arith, c.replace_all.ensures.clean, clean) in
    let same = (c.in-Ok.ensures.ok early).1 in
    let was = ready (omega (arith, first.clean, early)) in
    rebase (replaced c.args.rows.now) old mid (state g.S.Store c.replace_all.new.conn) c.replace_all.result same first early
    (c.replace_all.ensures.change same.0.is_open (λ _ live. (stays_ours old mid was (inl same) live).ours) clean)
