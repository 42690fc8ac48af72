use Rattle.std.specs.Str.{bytes_eq}
use Rattle.ps_edge.specs.Files.{dash}
use Rattle.ps_run.specs.Outside.{around, no_input}
use Rattle.ps_run.specs.Rules.{rules_of}
use Rattle.ps_run.proofs.FileLemmas.{began-by, opened-by, leaves-by, kept-count}
use Rattle.ps_run.proofs.Reporting.{reported-moved}
use Rattle.ps_run.proofs.report.report_file.Goals as goal

pub returns-in-Ok-clause-reported : goal.returns-in-Ok-clause-reported
returns-in-Ok-clause-reported g c =
    let M = g.M.Machine in
    let K = g.S.K.Keeper in
    let S = g.S.Cabinet in
    let file = c.args.file.now in
    let was = c.args.cabinet.now in
    let now = c.back.new.self in
    let given = c.in-Ok.ensures in
    let run = c.report_keeper-status.ensures in
    let kept = c.back.ensures.kept given.out in
    reported-moved (rules_of M g.M.Protocol) c.args.report
    (around no_input g.O.Sink K tt c.args.output.now c.in-Ok.keeper)
    (around no_input g.O.Sink K tt c.report_keeper-status.new.output c.report_keeper-status.result.keeper)
    (bytes_eq file dash) (S.known was file) (S.known now file) (S.log was file) (S.log now file) (S.may_leave was file) (S.may_leave now file) (S.faults was) (S.faults now)
    (kept-count _ _ _ _ _ given.unfailed given.cause.later c.back.ensures.faults)
    (λ t. (kept t).does)
    (λ t. began-by _ _ _ _ _ _ (bytes_eq file dash) given.begins (run.still_known (kept t).does))
    (opened-by _ _ _ _ _ _ _ _ _ _ _ _ run.still_known kept (bytes_eq file dash) given.begins)
    (leaves-by _ _ _ _ _ _ _ _ _ _ _ _ run.still_known kept (bytes_eq file dash) given.begins)
    c.report_keeper-status.result.status run.reported
