use Rattle.std.proofs.Common.{sym, ap, ◌∙◌}
use Rattle.ps_core.specs.Effects.{recorded_at}
use Rattle.ps_core.proofs.judging.Refused.{room_left}
use Rattle.ps_core.proofs.judging.Rests.{ticked-any}
use Rattle.ps_core.proofs.service.Core.settle_alone.Goals as goal

pub tick_if-requires : goal.tick_if-requires
tick_if-requires c =
    let room = room_left c.args.self.now c.moment-at.ensures.steady (sym c.is_full.ensures ∙ c.if-is_full.false) in
    rw c.in_ok-due.ensures.after (record { can = record { room = room; later = c.moment-at.ensures.later } })

pub returns : goal.returns
returns c =
    let steady = c.moment-at.ensures.steady in
    let room = room_left c.args.self.now steady (sym c.is_full.ensures ∙ c.if-is_full.false) in
    ticked-any c.args.self.now c.tick_if.new.self c.args.now steady room c.moment-at.result c.moment-at.ensures.value c.in_ok-due.due c.tick_if.result c.in_ok-due.ensures.moved
    (λ moved. let it = c.tick_if.ensures.moved moved in (it.0, it.1 ∙ ap (recorded_at c.moment-at.result) c.in_ok-due.ensures.after))
    (λ still. let it = c.tick_if.ensures.still still in (it.0, it.1 ∙ c.in_ok-due.ensures.after))
