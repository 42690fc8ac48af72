use Rattle.std.proofs.Common.{◌≡◌, ℕ, List, [], filter, map, not, sym, ap, ◌∙◌, if◌then◌else◌}
use Rattle.std.specs.List.{list_any}
use Rattle.ps_base.specs.declared.ack_id.AckId.{AckId}
use Rattle.ps_config.specs.declared.config.SubConfig.{SubConfig}
use Rattle.ps_model.specs.declared.mark.Ticket.{Ticket}
use Rattle.ps_model.specs.Acknowledging.{same_ticket}
use Rattle.ps_model.specs.Answering.{same_id}
use Rattle.ps_model.specs.Lists.{once}
use Rattle.ps_model.specs.Modifying.{modify_invalid, names}
use Rattle.ps_sub.specs.SubState.{SubState}
use Rattle.ps_core.specs.Delivering.{is_unknown, items_of}
use Rattle.ps_core.specs.Effects.{modify_subscription}
use Rattle.ps_core.proofs.delivering.Ids.{items-tickets, told-unknown}
use Rattle.ps_core.proofs.service.acknowledging.set_deadlines.Goals as goal

pub returns-clause-after : goal.returns-clause-after
returns-clause-after c =
    let x = c.args.subscription.now in
    let now = c.milliseconds-now.ensures.value in
    let named : c.as_slice.result.now ≡ items_of x.number c.args.items.now = c.as_slice.ensures.value ∙ c.in_ok-own.ensures in
    ap (λ (sub : SubState). record x { sub = sub }) c.in_ok-outcome.ensures.after ∙ (λ i. modify_subscription (now i) (named i) x)

pub returns-clause-invalid : goal.returns-clause-invalid
returns-clause-invalid c =
    let x = c.args.subscription.now in
    let items = c.args.items.now in
    let own : c.as_slice.result.now ≡ items_of x.number items = c.as_slice.ensures.value ∙ c.in_ok-own.ensures in
    let ids : c.as_slice-2.result.now ≡ map (λ (y : AckId × ℕ). y.0) items = c.as_slice-2.ensures.value ∙ c.in_ok-ids.ensures in
    let mode = ap (λ (config : SubConfig). config.exactly_once) c.config.ensures in
    c.in_ok-unknown_ids.ensures ∙ (λ i. if mode i then filter (is_unknown x.number c.as_slice-named.result.now) (once same_id (ids i)) else [])
    ∙ told-unknown (λ (t : Ticket). list_any (names t) x.sub.slots) x.sub.config.exactly_once x.number (map (λ (y : AckId × ℕ). y.0) items) c.as_slice-named.result.now
    (c.as_slice-named.ensures ∙ c.in_ok-outcome.ensures.invalid ∙ ap (λ (mine : List (Ticket × ℕ)). modify_invalid x.sub.config mine x.sub.slots) own
    ∙ (λ i. if x.sub.config.exactly_once then filter (λ (t : Ticket). not (list_any (names t) x.sub.slots)) (once same_ticket (items-tickets x.number items i)) else []))
