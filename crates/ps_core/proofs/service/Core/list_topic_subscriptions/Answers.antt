use Rattle.std.proofs.Common.{ap, sym, ◌∙◌}
use Rattle.ps_model.specs.Worlds.{topic_named}
use Rattle.ps_core.specs.State.{seen}
use Rattle.ps_core.proofs.carrying.Outcomes.{missing-carried}
use Rattle.ps_core.proofs.listing.Subscriptions.{members-missing, members-page}
use Rattle.ps_core.proofs.service.Core.list_topic_subscriptions.Goals as goal

pub returns-in_default : goal.returns-in_default
returns-in_default c =
    let name = c.args.name.now in
    missing-carried c.args._at _ c.args.self.now _ name c.missing.result c.missing.ensures.reply c.missing.ensures.same c.text-in_default.ensures.value
    (members-missing c.args._at name c.args.paging.now c.args.self.now c.requires.can.room (ap (topic_named (seen c.args.self.now)) (sym c.text.ensures.value) ∙ c.in_default.ensures.found))

pub returns : goal.returns
returns c =
    rw (c.shows.ensures.reply, c.shows.ensures.same, c.in_ok-names.ensures)
    (members-page c.args._at c.args.name.now c.args.paging.now c.args.self.now c.in-Some.subscriptions.now c.subscriptions_of.ensures.steady (rw c.text.ensures.value at c.in-Some.ensures.found) c.in_ok-page.ensures.ordered c.requires.can.room
    _ c.as_slice.result.now c.page_size.result c.in_ok-page.page.next c.as_str-after.ensures c.page_size.ensures (c.as_slice.ensures.value ∙ c.in_ok-page.ensures.numbers) c.in_ok-page.ensures.next)
