use Rattle.std.proofs.Common.{◌∙◌, ap}
use Rattle.std.specs.BTreeMap.{insert_entry}
use Rattle.std.specs.Ordering.{nat_cmp}
use Rattle.ps_tables.specs.declared.tables.Tables.{Tables}
use Rattle.ps_tables.proofs.tables.Tables.add_subscription.Goals.{in-Some+in_ok-put-2, in_default}
use Rattle.ps_tables.proofs.tables.Tables.add_subscription.Goals as goal

pub returns-clause-subscriptions : goal.returns-clause-subscriptions
returns-clause-subscriptions c =
    let x = c.args.subscription in
    elim c.match-get_mut.branch [
      | in-Some+in_ok-put-2 w ↦ c.in_ok-insert.ensures.entries ∙ ap (λ (t : Tables). insert_entry nat_cmp t.subscriptions.entries x.number x) w.self-is
      | in_default w ↦ c.in_ok-insert.ensures.entries ∙ ap (λ (t : Tables). insert_entry nat_cmp t.subscriptions.entries x.number x) w.self-is
    ]
