use Rattle.std.proofs.Common.{◌≡◌, true, refl, sym, subst, rules, arith}
use Rattle.sqlite.specs.State.{HasCleanDisk, KeepsCommit}
use Rattle.sqlite.specs.Held.{state}
use Rattle.sqlite.proofs.Callers.{survives_begin}
use Rattle.ps_keeper.specs.Log.{replaced}
use Rattle.ps_sqlkeep.specs.Kept.{stored}
use Rattle.ps_sqlkeep.specs.Calls.{HasMade}
use Rattle.ps_sqlkeep.proofs.Replace.{begins_filling, finish}
use Rattle.ps_sqlkeep.proofs.replacing.replace_all.Goals as goal

pub returns-in-Ok-clause-change : goal.returns-in-Ok-clause-change
returns-in-Ok-clause-change g c live ready clean =
    let old = c.args.conn.now in
    let t = c.write_all.new.tx.conn.now in
    let end = c.commit.new.self.0 in
    let same : end ≡ c.conn-1.given.0 = search rules in
    let late : HasCleanDisk (state g.S.Store end) = subst (λ h. HasCleanDisk (state g.S.Store h)) (sym same) clean in
    let second = c.commit.ensures.survives in
    let middle : HasCleanDisk (state g.S.Store t) = omega (arith, second.clean, late) in
    let begun = c.transaction-tx.ensures.begun in
    let first = survives_begin g.S.Store old (state g.S.Store t) _ (rw begun at c.in-Ok.ensures.survives) in
    let early : HasCleanDisk (state g.S.Store old) = omega (arith, first.clean, middle) in
    let ours = ready early live in
    let held = rw begun at (c.in-Ok.ensures.kept middle) in
    let kept : KeepsCommit (state g.S.Store old) (state g.S.Store t) = record { was_open = held.was_open; committed = held.committed } in
    let filled = (rw begun at (c.in-Ok.ensures.ok middle)) (state g.S.Store old).committed (stored ((state g.S.Store old).now.trees 0))
    (begins_filling (state g.S.Store old) (state g.S.Store (record old { in_transaction = true })) live ours live refl refl refl) in
    let all = finish (state g.S.Store old) (state g.S.Store t) (state g.S.Store end) c.args.rows.now live filled ours kept c.commit.result (c.commit.ensures.ok late) (c.commit.ensures.err late) first second late
    (λ db now left. g.met.S.Store.settled end.store db now left) in
    subst (λ h. HasMade (replaced c.args.rows.now) (state g.S.Store old) (state g.S.Store h) c.commit.result) same all
