use Rattle.std.proofs.Common.{ap, sym, subst, ◌∙◌, inr, arith}
use Rattle.sqlite.specs.Effect.{Database}
use Rattle.sqlite.specs.State.{HasCleanDisk}
use Rattle.sqlite.specs.Held.{state}
use Rattle.ps_sqlkeep.specs.Summary.{IsTableOfEntries}
use Rattle.ps_sqlkeep.proofs.Numbers.{table_of_entries}
use Rattle.ps_sqlkeep.proofs.Adopt.{is_found}
use Rattle.ps_sqlkeep.proofs.adopting.examine.Goals as goal

pub returns-clause-found : goal.returns-clause-found
returns-clause-found g c clean =
    let mid = state g.S.Store c.create.new.conn in
    let new = state g.S.Store c.count.new.conn in
    let same = c.in-Ok-count.ensures.same clean in
    let it = c.holds_log.ensures in
    let items = c.as_slice.ensures.value in
    is_found mid new c.holds_log.result c.in-Ok-count.counted.items same it.settled
    (λ alone.
    let now = it.settled alone.autocommit same.0.is_open in
    let sound = (it.live same.0.is_open).1 in
    let order = g.met.S.InOrder.in_order c.count.new.conn.store same.0.is_open in
    subst (λ (d : Database). IsTableOfEntries (d.trees 0)) (sym now)
    (table_of_entries (g.S.Store.view c.count.new.conn.store) new.committed.schema order sound (ap (λ (d : Database). d.schema) (sym now) ∙ alone.schema)))
    (c.in-Ok-count.ensures.rows clean) it.entries (λ yes_is row is. it.counts yes_is row (items ∙ is)) (λ alone row is. it.all alone row (items ∙ is)) (λ row is. it.fits row (items ∙ is))

pub returns-in-Err-count-clause-cause : goal.returns-in-Err-count-clause-cause
returns-in-Err-count-clause-cause g c clean =
    let early : HasCleanDisk (state g.S.Store c.create.new.conn) = omega (arith, c.in-Err-count.ensures.clean, clean) in
    inr (c.create.new.conn, c.in-Ok.field-0, c.in-Ok.ensures.runs early, c.in-Err-count.ensures.fails clean)
