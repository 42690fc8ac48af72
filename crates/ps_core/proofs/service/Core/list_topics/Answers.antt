use Rattle.std.proofs.Common.{◌<◌, ◌^◌, ap, arith, ◌∙◌}
use Rattle.ps_core.specs.State.{State}
use Rattle.ps_core.proofs.listing.Topics.{topics-page}
use Rattle.ps_core.proofs.service.Core.list_topics.Goals as goal

pub returns : goal.returns
returns c =
    let room : c.self.inside.count < 2 ^ 50 = omega (arith, c.requires.can.room, ap (λ (s : State). s.count) c.self.view_is) in
    rw (c.shows.ensures.reply, c.shows.ensures.same, c.in_ok-items.ensures, ← c.self.view_is)
    (topics-page c.args._at c.args.project.now c.args.paging.now _ _ c.self.inside.tables c.self.invariant c.in_ok-page.ensures.ordered c.in_ok-front.ensures.grammar room
    _ _ c.as_slice.result.now c.page_size.result c.in_ok-page.page.next (c.as_str.ensures.value ∙ c.in_ok-front.ensures.front) c.as_str-after.ensures c.page_size.ensures (c.as_slice.ensures.value ∙ c.in_ok-page.ensures.numbers) c.in_ok-page.ensures.next)
