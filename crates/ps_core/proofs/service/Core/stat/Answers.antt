use Rattle.std.proofs.Common.{◌≡◌, length, map, sym, ◌∙◌}
use Rattle.std.specs.BTreeMap.{values}
use Rattle.std.proofs.lemmas.List.{length-map}
use Rattle.std.proofs.lemmas.Map.Entries.{length-values_of}
use Rattle.ps_model.specs.declared.world.MessageRow.{MessageRow}
use Rattle.ps_core.specs.Keeping.{the_message, the_row}
use Rattle.ps_core.specs.State.{sub_row}
use Rattle.ps_core.proofs.counting.Counted.{tally_all}
use Rattle.ps_core.proofs.service.Core.stat.Goals as goal

pub returns : goal.returns
returns c =
    let tables = c.self.inside.tables in
    let topics : c.len.result ≡ length (map the_row (values tables.topics)) = c.len.ensures.len ∙ sym (length-map (values tables.topics) the_row ∙ length-values_of tables.topics.entries) in
    let subs : c.len-2.result ≡ length (map sub_row (values tables.subscriptions)) = c.len-2.ensures.len ∙ sym (length-map (values tables.subscriptions) sub_row ∙ length-values_of tables.subscriptions.entries) in
    let kept =
    c.len-3.ensures.len
    ∙ sym (tally_all (λ (r : MessageRow). r.kept) (map the_message (values tables.messages)) c.self.invariant.steady.kept ∙ length-map (values tables.messages) the_message ∙ length-values_of tables.messages.entries) in
    let marks = c.marks_of_all-marks.ensures in
    rw (← c.self.view_is) (λ i. record {
      entries = c.self.inside.count;
      now = c.self.inside.clock;
      topics = topics i;
      subscriptions = subs i;
      snapshots = 0;
      messages = kept i;
      backlog = marks.backlog i;
      leased = marks.leased i;
      acknowledged = marks.acknowledged i;
      dead_lettered = marks.dead i;
    })
