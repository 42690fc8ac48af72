use Rattle.std.proofs.Common.{◌≡◌, List, sym, ap, ◌∙◌, if◌then◌else◌, true, filter, []}
use Rattle.ps_base.specs.declared.ack_id.AckId.{AckId}
use Rattle.ps_config.specs.declared.config.SubConfig.{SubConfig}
use Rattle.ps_model.specs.declared.mark.Ticket.{Ticket}
use Rattle.ps_model.specs.Acknowledging.{acknowledge, invalid, is_good, is_unordered, unordered}
use Rattle.ps_model.specs.Answering.{same_id}
use Rattle.ps_model.specs.Lists.{once}
use Rattle.ps_sub.specs.SubState.{SubState}
use Rattle.ps_tables.specs.declared.kept_subscription.KeptSubscription.{KeptSubscription}
use Rattle.ps_tables.specs.Subscriptions.{with_slots}
use Rattle.ps_core.specs.Delivering.{is_named, is_unknown, tickets_of}
use Rattle.ps_core.specs.Effects.{caught_up, caught_up_subscription}
use Rattle.ps_core.proofs.delivering.Ids.{told-named, told-unknown}
use Rattle.ps_core.proofs.delivering.Returning.{acked-unordered, returned-here, returned-same}
use Rattle.ps_core.proofs.settling.CaughtUp.{caught_up-rests}
use Rattle.ps_core.proofs.service.acknowledging.take_back.Goals as goal
use Rattle.ps_core.proofs.service.acknowledging.take_back.Goals.{then-outcome+in_ok-catch_up, else-outcome}

pub catch_up-requires-clause-here : goal.catch_up-requires-clause-here
catch_up-requires-clause-here c =
    let x = c.args.subscription.now in
    let named : c.as_slice.result.now ≡ tickets_of x.number c.args.ids.now = c.as_slice.ensures.value ∙ c.in_ok-tickets.ensures in
    rw (c.in_ok-outcome.ensures.after, named) (returned-here x.sub.config (tickets_of x.number c.args.ids.now) x.sub.slots c.requires.here)

pub catch_up-requires-clause-caught : goal.catch_up-requires-clause-caught
catch_up-requires-clause-caught c =
    let x = c.args.subscription.now in
    let named : c.as_slice.result.now ≡ tickets_of x.number c.args.ids.now = c.as_slice.ensures.value ∙ c.in_ok-tickets.ensures in
    rw (c.in_ok-outcome.ensures.after, named) (acked-unordered x.sub.config (tickets_of x.number c.args.ids.now) x.sub.slots c.requires.caught)

pub returns-clause-after : goal.returns-clause-after
returns-clause-after c =
    let x = c.args.subscription.now in
    let tickets : List Ticket = tickets_of x.number c.args.ids.now in
    let named : c.as_slice.result.now ≡ tickets = c.as_slice.ensures.value ∙ c.in_ok-tickets.ensures in
    let after : c.acknowledge.new.self ≡ record x.sub { slots = acknowledge x.sub.config tickets x.sub.slots } = c.in_ok-outcome.ensures.after ∙ λ i. record x.sub { slots = acknowledge x.sub.config (named i) x.sub.slots } in
    elim c.if-outcome.branch [
      | then-outcome+in_ok-catch_up w ↦ w.subscription-is ∙ w.in_ok-catch_up.ensures ∙ ap (λ (sub : SubState). caught_up_subscription (record x { sub = sub })) after
      | else-outcome w ↦
          let same : acknowledge x.sub.config tickets x.sub.slots ≡ x.sub.slots = sym (ap (λ (sub : SubState). sub.slots) after) ∙ c.in_ok-outcome.ensures.same w.if-outcome.false in
          let rests = ap (caught_up x.sub.config.ordering) same ∙ caught_up-rests x.sub.config.ordering x.sub.slots c.requires.caught ∙ sym same in
          w.subscription-is ∙ ap (λ (sub : SubState). record x { sub = sub }) after ∙ (λ i. with_slots x (sym rests i))
    ]

pub returns-clause-changed : goal.returns-clause-changed
returns-clause-changed c = λ moved same.
    let x = c.args.subscription.now in
    let tickets : List Ticket = tickets_of x.number c.args.ids.now in
    let named : c.as_slice.result.now ≡ tickets = c.as_slice.ensures.value ∙ c.in_ok-tickets.ensures in
    let caught : caught_up x.sub.config.ordering (acknowledge x.sub.config tickets x.sub.slots) ≡ x.sub.slots = sym (ap (λ (y : KeptSubscription). y.sub.slots) (returns-clause-after c)) ∙ same in
    let slots : c.acknowledge.new.self.slots ≡ acknowledge x.sub.config tickets x.sub.slots = ap (λ (sub : SubState). sub.slots) c.in_ok-outcome.ensures.after ∙ ap (λ (ts : List Ticket). acknowledge x.sub.config ts x.sub.slots) named in
    c.in_ok-outcome.ensures.changed moved (slots ∙ returned-same x.sub.config tickets x.sub.slots caught)

pub returns-clause-invalid : goal.returns-clause-invalid
returns-clause-invalid c =
    let x = c.args.subscription.now in
    let ids = c.args.ids.now in
    let named : c.as_slice.result.now ≡ tickets_of x.number ids = c.as_slice.ensures.value ∙ c.in_ok-tickets.ensures in
    let mode = ap (λ (config : SubConfig). config.exactly_once) c.config.ensures in
    c.in_ok-unknown_ids.ensures ∙ (λ i. if mode i then filter (is_unknown x.number c.as_slice-2.result.now) (once same_id ids) else [])
    ∙ told-unknown (is_good true x.sub.slots) x.sub.config.exactly_once x.number ids c.as_slice-2.result.now (c.as_slice-2.ensures ∙ c.in_ok-outcome.ensures.invalid ∙ ap (λ (ts : List Ticket). invalid x.sub.config x.sub.slots ts) named)

pub returns-clause-unordered : goal.returns-clause-unordered
returns-clause-unordered c =
    let x = c.args.subscription.now in
    let ids = c.args.ids.now in
    let named : c.as_slice.result.now ≡ tickets_of x.number ids = c.as_slice.ensures.value ∙ c.in_ok-tickets.ensures in
    let mode = ap (λ (config : SubConfig). config.exactly_once) c.config.ensures in
    c.in_ok-named_ids.ensures ∙ (λ i. if mode i then filter (is_named x.number c.as_slice-3.result.now) (once same_id ids) else [])
    ∙ told-named (is_unordered x.sub.config (tickets_of x.number ids) x.sub.slots) x.sub.config.exactly_once x.number ids c.as_slice-3.result.now
    (c.as_slice-3.ensures ∙ c.in_ok-outcome.ensures.unordered ∙ ap (λ (ts : List Ticket). unordered x.sub.config x.sub.slots ts) named)
