use Rattle.std.proofs.Common.{refl}
use Rattle.ps_run.specs.Outside.{around, no_input}
use Rattle.ps_run.specs.Rules.{rules_of}
use Rattle.ps_run.proofs.FileLemmas.{closed-known, closed-read, shown-bad}
use Rattle.ps_run.proofs.Reporting.{book-reported, begin-reported}
use Rattle.ps_run.proofs.report.report_keeper.Goals as goal

pub returns-in-Ok-begin-clause-reported : goal.returns-in-Ok-begin-clause-reported
returns-in-Ok-begin-clause-reported g c =
    let M = g.M.Machine in
    let K = g.K.Keeper in
    let begins = c.in-Ok-begin.ensures.begins in
    let book = c.in-Ok-begin.book in
    let known = closed-known M K book c.close.result c.close.ensures in
    book-reported M g.M.Protocol g.O.Sink K c.args.report c.args.keeper c.close.result c.args.output.now c.write_report-status.new.output
    begins.w
    (λ t _. begins.means (known t))
    (λ t _. closed-read M K c.args.keeper c.close.result book c.close.ensures c.in-Ok-begin.ensures.kept t)
    _ book.machine begins.shown begins.stands.shown c.write_report-status.result c.write_report-status.ensures

pub returns-in-Err-clause-reported : goal.returns-in-Err-clause-reported
returns-in-Err-clause-reported g c =
    let M = g.M.Machine in
    let K = g.K.Keeper in
    let end = c.in-Err.ensures in
    rw c.status_of_begin.ensures
    (begin-reported (rules_of M g.M.Protocol) c.args.report
    (around no_input g.O.Sink K tt c.args.output.now c.args.keeper)
    (around no_input g.O.Sink K tt c.args.output.now c.in-Err.field-0.keeper)
    c.in-Err.field-0.error
    (record { input = refl; output = refl; log = λ t _. end.kept_err t })
    end.failed
    (λ seq is t _. shown-bad M K c.args.keeper c.in-Err.field-0.keeper seq (end.bad seq is) (end.no_meaning seq is) t))
