use Rattle.std.proofs.Common.{sym, ◌∙◌, ap}
use Rattle.std.proofs.lemmas.List.{drop_more}
use Rattle.ps_model.specs.Acknowledging.{same_ticket}
use Rattle.ps_sub.proofs.OnceLemmas.{seen_more, kept_more}
use Rattle.ps_sub.proofs.TicketLemmas.{kept-more, kept-unchanged, was-new, was-there}
use Rattle.ps_sub.proofs.tickets.once.Goals as goal
use Rattle.ps_sub.proofs.tickets.once.Goals.{then-branch+in_ok-push, else-branch}

pub loop-ticket-preserved : goal.loop-ticket-preserved
loop-ticket-preserved c =
    let cut = drop_more c.args.tickets.now c.loop-ticket.ticket-index _ c.loop-ticket-test.true in
    let was = c.loop-ticket.invariant in
    let old = c.loop-ticket.kept.items in
    elim c.if-branch.branch [
      | then-branch+in_ok-push w ↦
          let made = ap (λ v. v.items) w.kept-is ∙ w.in_ok-push.ensures.items in
          record {
            seen = rw made (kept-more old _ c.loop-ticket.seen c.insert.new.self c.in_ok-insert.ensures.updates was.seen);
            so_far = kept_more same_ticket old c.if-branch.kept.items _ _ _ _ cut (sym (was.seen _) ∙ was-new c.in_ok-insert.field-0 _ c.in_ok-insert.ensures.added w.if-branch.true) made was.so_far;
          }
      | else-branch w ↦
          let same = ap (λ v. v.items) w.kept-is in
          record {
            seen = rw same (kept-unchanged old c.loop-ticket.seen c.insert.new.self (rw w.if-branch.false at c.in_ok-insert.ensures.unchanged) was.seen);
            so_far = rw same (seen_more same_ticket old _ _ _ _ cut (sym (was.seen _) ∙ was-there c.in_ok-insert.field-0 _ c.in_ok-insert.ensures.added w.if-branch.false) was.so_far);
          }
    ]
