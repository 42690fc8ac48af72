use Rattle.std.proofs.Common.{refl, arith}
use Rattle.ps_run.proofs.Going.{goes_none, goes_on}
use Rattle.ps_server.proofs.EndLemmas.{cause_from}
use Rattle.ps_server.proofs.Steps.{begins}
use Rattle.ps_server.proofs.conn.serve_conn.Goals as goal

pub loop-init : goal.loop-init
loop-init g c =
    record {
      later = omega arith;
      goes = goes_none g.M.Machine g.K.Keeper _ c.requires;
      steps = λ known w more stands. rw (c.new-kept.ensures) (begins g.M.Machine g.M.HttpProtocol g.K.Keeper g.L.Link g.C.Clock c.args.clock.now c.args.link.now c.args.book.now (w, more) w more refl stands);
    }

pub loop-preserved : goal.loop-preserved
loop-preserved g c =
    let before = c.loop.invariant in
    let step = c.in_default.ensures in
    record {
      later = omega (arith, before.later, step.cause);
      goes = goes_on g.M.Machine g.K.Keeper _ _ _ before.goes step.goes;
      steps = λ known w more stands. step.steps known _ _ (w, more) (before.steps (step.goes.still_known known) w more stands);
    }

pub returns-in-Some-serve_next-clause-served : goal.returns-in-Some-serve_next-clause-served
returns-in-Some-serve_next-clause-served g c known w more stands =
    let before = c.loop.invariant in
    let step = c.in-Some-serve_next.ensures in
    step.steps known _ _ (w, more) (before.steps (step.goes.still_known known) w more stands)

pub returns-in-Some-serve_next-clause-cause : goal.returns-in-Some-serve_next-clause-cause
returns-in-Some-serve_next-clause-cause g c = cause_from g.L.Link _ _ _ _ c.loop.invariant.later c.in-Some-serve_next.ensures.cause

pub returns-in-Some-serve_next-clause-goes : goal.returns-in-Some-serve_next-clause-goes
returns-in-Some-serve_next-clause-goes g c = goes_on g.M.Machine g.K.Keeper _ _ _ c.loop.invariant.goes c.in-Some-serve_next.ensures.goes
