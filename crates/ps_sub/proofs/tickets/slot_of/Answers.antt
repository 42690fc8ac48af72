use Rattle.std.proofs.Common.{rules, ◌∙◌, sym, ap}
use Rattle.std.proofs.lemmas.List.Sorted.{answers_always}
use Rattle.ps_sub.proofs.TicketLemmas.{absent-all, found-at, place-absent, place-found}
use Rattle.ps_sub.proofs.tickets.slot_of.Goals as goal

pub returns-in-Ok : goal.returns-in-Ok
returns-in-Ok c = λ test.
    let slots = c.args.slots.now in
    let n = c.args.number in
    let facts = c.in-Ok.ensures in
    let by_key = facts.position (λ s. s.item.number) (answers_always _ _ _ (λ f a r g called. search rules)) in
    let s = c.index-slots-at.result in
    found-at n test slots c.requires c.in-Ok.at s facts.bound (place-found slots c.requires n c.in-Ok.at by_key s) ∙ ap test (sym c.index-slots-at.is)

pub returns-in-Err : goal.returns-in-Err
returns-in-Err c = λ test.
    let slots = c.args.slots.now in
    let n = c.args.number in
    let by_key = c.in-Err.ensures.position (λ s. s.item.number) (answers_always _ _ _ (λ f a r g called. search rules)) in
    absent-all n test slots (place-absent slots c.requires n c.in-Err.field-0 by_key)
