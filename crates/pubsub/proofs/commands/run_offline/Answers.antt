use Rattle.std.proofs.Common.{◌≡◌, Some, refl, sym, ap, ◌∙◌, subst}
use Rattle.ps_core.specs.State.{seen}
use Rattle.ps_model.specs.declared.world.World.{World}
use Rattle.ps_run.proofs.Completing.{batch-unopened, report-unopened, batch-completes, report-completes}
use Rattle.ps_run.proofs.Reporting.{reported-with}
use Rattle.ps_run.specs.Outside.{outside, no_input}
use Rattle.ps_run.specs.Rules.{Rules}
use Rattle.ps_run.specs.Statuses.{IsUnopened}
use Rattle.pubsub.specs.Service.{service, text_of_report}
use Rattle.pubsub.specs.declared.words.Task.{Task}
use Rattle.pubsub.specs.declared.service.Service.{Service}
use Rattle.pubsub.proofs.commands.run_offline.Goals as goal

pub returns-in-Some-Batch-default-clause-unopened : goal.returns-in-Some-Batch-default-clause-unopened
returns-in-Some-Batch-default-clause-unopened g c is =
    let file = c.in-Some-Batch-default.file.now in
    batch-unopened service
    (outside g.I.Source g.O.Sink g.S.Cabinet file c.args.input.now c.args.output.now c.args.cabinet.now)
    (outside g.I.Source g.O.Sink g.S.Cabinet file c.batch_file-status.new.input c.batch_file-status.new.output c.batch_file-status.new.cabinet)
    c.batch_file-status.result (subst IsUnopened c.conclude.ensures.code is) c.batch_file-status.ensures.batched

pub returns-in-Some-Batch-default-clause-batch : goal.returns-in-Some-Batch-default-clause-batch
returns-in-Some-Batch-default-clause-batch g c =
    let file = c.in-Some-Batch-default.file.now in
    let asked = sym (ap (λ (t : Task). Some (t, file)) c.in-Some-Batch-default.field-0-0-is) ∙ c.in-Some-Batch-default.ensures in
    rw (← asked) (c.batch_file-status.result, c.conclude.ensures.code, (c.conclude.ensures.written, c.batch_file-status.ensures.batched))

pub returns-in-Some-Batch-default-clause-complete : goal.returns-in-Some-Batch-default-clause-complete
returns-in-Some-Batch-default-clause-complete g c =
    let file = c.in-Some-Batch-default.file.now in
    let asked = sym (ap (λ (t : Task). Some (t, file)) c.in-Some-Batch-default.field-0-0-is) ∙ c.in-Some-Batch-default.ensures in
    rw (← asked) (λ none. rw c.conclude.ensures.code (batch-completes service
    (outside g.I.Source g.O.Sink g.S.Cabinet file c.args.input.now c.args.output.now c.args.cabinet.now)
    (outside g.I.Source g.O.Sink g.S.Cabinet file c.batch_file-status.new.input c.batch_file-status.new.output c.batch_file-status.new.cabinet)
    c.batch_file-status.result c.batch_file-status.ensures.batched none))

-- the rules of the machine, whose report is one of its world
abbrev by_machine : Rules World
by_machine = record service { IsReport = λ report w text. (it : Service) × (seen it.core ≡ w) × (text ≡ text_of_report report (seen it.core)) }

pub returns-in-Some-Print-default-clause-report : goal.returns-in-Some-Print-default-clause-report
returns-in-Some-Print-default-clause-report g c =
    let file = c.in-Some-Print-default.file.now in
    let report = c.in-Some-Print-default.report in
    let asked = sym (ap (λ (t : Task). Some (t, file)) c.in-Some-Print-default.field-0-0-is) ∙ c.in-Some-Print-default.ensures in
    let end = c.conclude-in-Some-Print-default.ensures in
    rw (← asked) (
      c.report_file-status.result,
      end.code,
      (
        end.written,
        reported-with by_machine report
            (outside no_input g.O.Sink g.S.Cabinet file tt c.args.output.now c.args.cabinet.now)
            (outside no_input g.O.Sink g.S.Cabinet file tt c.report_file-status.new.output c.report_file-status.new.cabinet)
            service.IsReport (λ w text is. is.2 ∙ ap (text_of_report report) is.1)
            c.args.input.now (g.I.Source.left c.args.input.now) (g.I.Source.faults c.args.input.now)
            c.report_file-status.result c.report_file-status.ensures.reported,
      ),
    )

pub returns-in-Some-Print-default-clause-unopened : goal.returns-in-Some-Print-default-clause-unopened
returns-in-Some-Print-default-clause-unopened g c is =
    let file = c.in-Some-Print-default.file.now in (
      refl,
      (report-unopened by_machine
          (outside no_input g.O.Sink g.S.Cabinet file tt c.args.output.now c.args.cabinet.now)
          (outside no_input g.O.Sink g.S.Cabinet file tt c.report_file-status.new.output c.report_file-status.new.cabinet)
          c.in-Some-Print-default.report c.report_file-status.result (subst IsUnopened c.conclude-in-Some-Print-default.ensures.code is) c.report_file-status.ensures.reported).1,
    )

pub returns-in-Some-Print-default-clause-complete_report : goal.returns-in-Some-Print-default-clause-complete_report
returns-in-Some-Print-default-clause-complete_report g c =
    let file = c.in-Some-Print-default.file.now in
    let asked = sym (ap (λ (t : Task). Some (t, file)) c.in-Some-Print-default.field-0-0-is) ∙ c.in-Some-Print-default.ensures in
    rw (← asked) (λ none. rw c.conclude-in-Some-Print-default.ensures.code (report-completes by_machine
    (outside no_input g.O.Sink g.S.Cabinet file tt c.args.output.now c.args.cabinet.now)
    (outside no_input g.O.Sink g.S.Cabinet file tt c.report_file-status.new.output c.report_file-status.new.cabinet)
    c.in-Some-Print-default.report c.report_file-status.result c.report_file-status.ensures.reported
    (record { known = none.known; means = none.means; writes = none.writes; stores = none.stores })))
