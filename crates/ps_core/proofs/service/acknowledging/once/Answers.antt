use Rattle.std.proofs.Common.{sym, ◌∙◌, ap}
use Rattle.std.proofs.lemmas.List.{drop_more}
use Rattle.ps_model.specs.Answering.{same_id}
use Rattle.ps_sub.proofs.OnceLemmas.{seen_more, kept_more}
use Rattle.ps_sub.proofs.TicketLemmas.{was-new, was-there}
use Rattle.ps_core.proofs.delivering.Ids.{ids-more, ids-unchanged}
use Rattle.ps_core.proofs.service.acknowledging.once.Goals as goal
use Rattle.ps_core.proofs.service.acknowledging.once.Goals.{then-branch+in_ok-push, else-branch}

pub loop-id-preserved : goal.loop-id-preserved
loop-id-preserved c =
    let cut = drop_more c.args.ids.now c.loop-id.id-index _ c.loop-id-test.true in
    let was = c.loop-id.invariant in
    let old = c.loop-id.kept.items in
    elim c.if-branch.branch [
      | then-branch+in_ok-push w ↦
          let made = ap (λ v. v.items) w.kept-is ∙ w.in_ok-push.ensures.items in
          record {
            seen = rw made (ids-more old _ c.loop-id.seen c.insert.new.self c.in_ok-insert.ensures.updates was.seen);
            so_far = kept_more same_id old c.if-branch.kept.items _ _ _ _ cut (sym (was.seen _) ∙ was-new c.in_ok-insert.field-0 _ c.in_ok-insert.ensures.added w.if-branch.true) made was.so_far;
          }
      | else-branch w ↦
          let same = ap (λ v. v.items) w.kept-is in
          record {
            seen = rw same (ids-unchanged old c.loop-id.seen c.insert.new.self (rw w.if-branch.false at c.in_ok-insert.ensures.unchanged) was.seen);
            so_far = rw same (seen_more same_id old _ _ _ _ cut (sym (was.seen _) ∙ was-there c.in_ok-insert.field-0 _ c.in_ok-insert.ensures.added w.if-branch.false) was.so_far);
          }
    ]
