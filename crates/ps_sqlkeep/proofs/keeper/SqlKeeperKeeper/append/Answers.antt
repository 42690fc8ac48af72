use Rattle.sqlite.specs.Held.{state}
use Rattle.ps_sqlkeep.proofs.Keep.{known_before, next_is, as_ok, as_err}
use Rattle.ps_sqlkeep.proofs.keeper.SqlKeeperKeeper.append.Goals as goal

pub returns-in-Ok-clause-still_known : goal.returns-in-Ok-clause-still_known
returns-in-Ok-clause-still_known g c h =
    let old = state g.S.Store c.self.inside.connection in
    let new = state g.S.Store c.insert.new.conn in
    rw (← c.self.view_is) (known_before c.self.inside.holds_log old new c.insert.ensures.clean h).was

pub returns-in-Ok-clause-change : goal.returns-in-Ok-clause-change
returns-in-Ok-clause-change g c h =
    let old = state g.S.Store c.self.inside.connection in
    let new = state g.S.Store c.insert.new.conn in
    let it = known_before c.self.inside.holds_log old new c.insert.ensures.clean h in
    let next = next_is c.self.inside.holds_log old c.args.seq it.kept c.requires.number (rw (← c.self.view_is) at c.requires.next) in
    let done = c.in-Ok.ensures.change next (c.self.invariant it.kept) it.clean in
    rw (← c.self.view_is) (as_ok _ _ _ _ _ c.in-Ok.field-0 tt done.change)

pub returns-in-Err-clause-still_known : goal.returns-in-Err-clause-still_known
returns-in-Err-clause-still_known g c h =
    let old = state g.S.Store c.self.inside.connection in
    let new = state g.S.Store c.insert.new.conn in
    rw (← c.self.view_is) (known_before c.self.inside.holds_log old new c.insert.ensures.clean h).was

pub returns-in-Err-clause-change : goal.returns-in-Err-clause-change
returns-in-Err-clause-change g c h =
    let old = state g.S.Store c.self.inside.connection in
    let new = state g.S.Store c.insert.new.conn in
    let it = known_before c.self.inside.holds_log old new c.insert.ensures.clean h in
    let next = next_is c.self.inside.holds_log old c.args.seq it.kept c.requires.number (rw (← c.self.view_is) at c.requires.next) in
    let done = c.in-Err.ensures.change next (c.self.invariant it.kept) it.clean in
    rw (← c.self.view_is) (as_err _ _ _ _ _ c.in-Err.error c.counted.result done.change)
