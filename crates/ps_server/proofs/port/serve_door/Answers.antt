use Rattle.std.proofs.Common.{arith}
use Rattle.ps_book.specs.Books.{BookMeans}
use Rattle.ps_run.proofs.Going.{goes_none, goes_on, rose_after}
use Rattle.ps_server.proofs.LedLemmas.{led_by, led_none, led_then}
use Rattle.ps_server.proofs.port.serve_door.Goals as goal

pub loop-init : goal.loop-init
loop-init g c =
    let M = g.M.Machine in
    let K = g.K.Keeper in
    record {
      goes = goes_none M K _ c.requires;
      led = λ known w more stands. led_none M g.M.HttpProtocol (g.C.Clock.may_give c.args.clock.now) (w, more) (BookMeans M K c.args.book.now) _ _ (omega arith) stands;
      later = omega arith;
    }

pub serve_conn-requires : goal.serve_conn-requires
serve_conn-requires g c = c.loop.invariant.goes.means

pub loop-preserved : goal.loop-preserved
loop-preserved g c =
    let M = g.M.Machine in
    let P = g.M.HttpProtocol in
    let K = g.K.Keeper in
    let before = c.loop.invariant in
    let conn = c.serve_conn.ensures in
    let book = c.serve_conn.new.book in
    let clock = c.args.clock.now in
    record {
      goes = goes_on M K _ _ _ before.goes conn.goes;
      led = λ known w more stands. led_then M P (g.C.Clock.may_give clock) (w, more) (BookMeans M K c.loop.book) (BookMeans M K book) _ _ _
          (before.led (conn.goes.still_known known) w more stands)
          (λ v maybe holds. led_by M P K g.D.L.Link g.C.Clock clock c.in-Link.link c.serve_conn.new.link c.loop.book book (v, maybe) c.serve_conn.result (conn.served known v maybe holds));
      later = omega (arith, before.later, c.next_link.ensures.cause.later, c.done.ensures.faults);
    }

pub returns-in-Closed-clause-led : goal.returns-in-Closed-clause-led
returns-in-Closed-clause-led g c = c.loop.invariant.led

pub returns-in-Closed-clause-goes : goal.returns-in-Closed-clause-goes
returns-in-Closed-clause-goes g c = c.loop.invariant.goes

pub returns-in-Closed-clause-cause : goal.returns-in-Closed-clause-cause
returns-in-Closed-clause-cause g c = record { later = omega (arith, c.loop.invariant.later, c.next_link.ensures.cause.later); failed = tt }

pub returns-in-Failed-clause-led : goal.returns-in-Failed-clause-led
returns-in-Failed-clause-led g c = c.loop.invariant.led

pub returns-in-Failed-clause-goes : goal.returns-in-Failed-clause-goes
returns-in-Failed-clause-goes g c = c.loop.invariant.goes

pub returns-in-Failed-clause-cause : goal.returns-in-Failed-clause-cause
returns-in-Failed-clause-cause g c = record {
  later = omega (arith, c.loop.invariant.later, c.next_link.ensures.cause.later);
  failed = rose_after _ _ _ c.loop.invariant.later (c.next_link.ensures.cause.failed c.in-Failed.is);
}
