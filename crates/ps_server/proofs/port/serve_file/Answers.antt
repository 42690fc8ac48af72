use Rattle.std.specs.Str.{bytes_eq}
use Rattle.ps_book.specs.Meaning.{meaning}
use Rattle.ps_edge.specs.Files.{dash}
use Rattle.ps_run.specs.Outside.{around, no_input, no_output}
use Rattle.ps_run.proofs.FileLemmas.{began-by, leaves-by, kept-means, kept-count}
use Rattle.ps_server.proofs.PortLemmas.{served_moved}
use Rattle.ps_server.proofs.port.serve_file.Goals as goal

pub returns-in-Ok-clause-served : goal.returns-in-Ok-clause-served
returns-in-Ok-clause-served g c =
    let M = g.M.Machine in
    let K = g.S.K.Keeper in
    let S = g.S.Cabinet in
    let file = c.args.file.now in
    let was = c.args.cabinet.now in
    let now = c.back.new.self in
    let given = c.in-Ok.ensures in
    let run = c.serve_keeper-status.ensures in
    let kept = c.back.ensures.kept given.out in
    served_moved M g.M.HttpProtocol (g.C.Clock.may_give c.args.clock.now)
    (around no_input no_output K tt tt c.in-Ok.keeper)
    (around no_input no_output K tt tt c.serve_keeper-status.result.keeper)
    (bytes_eq file dash) (S.known was file) (S.known now file) (S.log was file) (S.log now file) (S.may_leave was file) (S.may_leave now file) (S.faults was) (S.faults now)
    (kept-count _ _ _ _ _ given.unfailed given.cause.later c.back.ensures.faults)
    (λ t. (kept t).does)
    (λ t. began-by _ _ _ _ _ _ (bytes_eq file dash) given.begins (run.still_known (kept t).does))
    (λ t. kept-means (meaning M.next M.spelled M.first) _ _ _ _ _ (kept t))
    (leaves-by _ _ _ _ _ _ _ _ _ _ _ _ run.still_known kept (bytes_eq file dash) given.begins)
    c.serve_keeper-status.result.status run.served
