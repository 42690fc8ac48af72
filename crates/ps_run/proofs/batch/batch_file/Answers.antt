use Rattle.std.specs.Str.{bytes_eq}
use Rattle.ps_edge.specs.Files.{dash}
use Rattle.ps_run.specs.Outside.{around}
use Rattle.ps_run.specs.Rules.{rules_of}
use Rattle.ps_run.proofs.Batching.{batched-moved}
use Rattle.ps_run.proofs.FileLemmas.{began-by, leaves-by, kept-means, kept-count}
use Rattle.ps_run.proofs.batch.batch_file.Goals as goal

pub returns-in-Ok-clause-batched : goal.returns-in-Ok-clause-batched
returns-in-Ok-clause-batched g c =
    let M = g.M.Machine in
    let P = g.M.Protocol in
    let K = g.S.K.Keeper in
    let S = g.S.Cabinet in
    let file = c.args.file.now in
    let was = c.args.cabinet.now in
    let now = c.back.new.self in
    let given = c.in-Ok.ensures in
    let run = c.batch_keeper-status.ensures in
    let kept = c.back.ensures.kept given.out in
    batched-moved (rules_of M P)
    (around g.I.Source g.O.Sink K c.args.input.now c.args.output.now c.in-Ok.keeper)
    (around g.I.Source g.O.Sink K c.batch_keeper-status.new.input c.batch_keeper-status.new.output c.batch_keeper-status.result.keeper)
    (bytes_eq file dash) (S.known was file) (S.known now file) (S.log was file) (S.log now file) (S.may_leave was file) (S.may_leave now file) (S.faults was) (S.faults now)
    (kept-count _ _ _ _ _ given.unfailed given.cause.later c.back.ensures.faults)
    (λ t. (kept t).does)
    (λ t. began-by _ _ _ _ _ _ (bytes_eq file dash) given.begins (run.still_known (kept t).does))
    (λ t. kept-means (rules_of M P).mean _ _ _ _ _ (kept t))
    (leaves-by _ _ _ _ _ _ _ _ _ _ _ _ run.still_known kept (bytes_eq file dash) given.begins)
    c.batch_keeper-status.result.status run.batched
