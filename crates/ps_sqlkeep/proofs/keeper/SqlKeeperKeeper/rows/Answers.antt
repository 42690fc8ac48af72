use Rattle.std.proofs.Common.{Ok, Err}
use Rattle.sqlite.specs.Held.{state}
use Rattle.ps_sqlkeep.proofs.Keep.{known_before, reads_ok, reads_err, page_is}
use Rattle.ps_sqlkeep.proofs.keeper.SqlKeeperKeeper.rows.Goals as goal

pub returns-in-Err-clause-still_known : goal.returns-in-Err-clause-still_known
returns-in-Err-clause-still_known g c h =
    let old = state g.S.Store c.self.inside.connection in
    let new = state g.S.Store c.page.new.conn in
    rw (← c.self.view_is) (known_before c.self.inside.holds_log old new c.page.ensures.clean h).was

pub returns-in-Err-clause-change : goal.returns-in-Err-clause-change
returns-in-Err-clause-change g c h =
    let old = state g.S.Store c.self.inside.connection in
    let new = state g.S.Store c.page.new.conn in
    let it = known_before c.self.inside.holds_log old new c.page.ensures.clean h in
    let done = c.in-Err.ensures.page (c.self.invariant it.kept) it.clean in
    rw (← c.self.view_is) (reads_err _ _ _ _ (Err c.in-Err.error) c.counted.result done.keeps)

pub returns-in-Ok-read_rows-clause-still_known : goal.returns-in-Ok-read_rows-clause-still_known
returns-in-Ok-read_rows-clause-still_known g c h =
    let old = state g.S.Store c.self.inside.connection in
    let new = state g.S.Store c.page.new.conn in
    rw (← c.self.view_is) (known_before c.self.inside.holds_log old new c.page.ensures.clean h).was

pub returns-in-Ok-read_rows-clause-change : goal.returns-in-Ok-read_rows-clause-change
returns-in-Ok-read_rows-clause-change g c h =
    let old = state g.S.Store c.self.inside.connection in
    let new = state g.S.Store c.page.new.conn in
    let it = known_before c.self.inside.holds_log old new c.page.ensures.clean h in
    let done = c.in-Ok.ensures.page (c.self.invariant it.kept) it.clean in
    rw (← c.self.view_is) (reads_ok _ _ _ _ c.in-Ok.shown c.in-Ok-read_rows.rows done.keeps)

pub returns-in-Ok-read_rows-clause-rows : goal.returns-in-Ok-read_rows-clause-rows
returns-in-Ok-read_rows-clause-rows g c h =
    let old = state g.S.Store c.self.inside.connection in
    let new = state g.S.Store c.page.new.conn in
    let it = known_before c.self.inside.holds_log old new c.page.ensures.clean h in
    let done = c.in-Ok.ensures.page (c.self.invariant it.kept) it.clean in
    page_is new c.args.after c.args.most c.in-Ok.shown.items c.in-Ok-read_rows.rows done.rows (rw c.as_slice.ensures.value at c.in-Ok-read_rows.ensures.rows)

pub returns-clause-still_known : goal.returns-clause-still_known
returns-clause-still_known g c h =
    let old = state g.S.Store c.self.inside.connection in
    let new = state g.S.Store c.page.new.conn in
    rw (← c.self.view_is) (known_before c.self.inside.holds_log old new c.page.ensures.clean h).was

pub returns-clause-change : goal.returns-clause-change
returns-clause-change g c h =
    let old = state g.S.Store c.self.inside.connection in
    let new = state g.S.Store c.page.new.conn in
    let it = known_before c.self.inside.holds_log old new c.page.ensures.clean h in
    let done = c.in-Ok.ensures.page (c.self.invariant it.kept) it.clean in
    rw (← c.self.view_is) (reads_err _ _ _ _ (Ok c.in-Ok.shown) c.counted-in-Err-read_rows.result done.keeps)
