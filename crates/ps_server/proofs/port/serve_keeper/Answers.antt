use Rattle.std.proofs.Common.{refl}
use Rattle.ps_run.specs.Outside.{around, no_input, no_output}
use Rattle.ps_run.proofs.FileLemmas.{shown-bad}
use Rattle.ps_server.proofs.PortLemmas.{begin_served}
use Rattle.ps_server.proofs.port.serve_keeper.Goals as goal

pub returns-in-Err-clause-served : goal.returns-in-Err-clause-served
returns-in-Err-clause-served g c =
    let M = g.M.Machine in
    let K = g.K.Keeper in
    let end = c.in-Err.ensures in
    rw c.status_of_begin.ensures
    (begin_served M g.M.HttpProtocol (g.C.Clock.may_give c.args.clock.now)
    (around no_input no_output K tt tt c.args.keeper)
    (around no_input no_output K tt tt c.in-Err.field-0.keeper)
    c.in-Err.field-0.error
    (record { input = refl; output = refl; log = λ t _. end.kept_err t })
    end.failed
    (λ seq is t _. shown-bad M K c.args.keeper c.in-Err.field-0.keeper seq (end.bad seq is) (end.no_meaning seq is) t))
