-- An acknowledgement is carried out as the rules say.
use Rattle.std.proofs.Common.{◌≡◌, ◌≢◌, ◌^◌, ◌<◌, ◌≤◌, ℕ, true, false, nat_eq, List, [], ◌∷◌, Option, Some, None, option_map, map, find, nat_cmp, refl, sym, ap, subst, ◌∙◌, arith}
use Rattle.std.specs.BTreeMap.{is_at, values}
use Rattle.std.specs.Map.{set_value, values_of}
use Rattle.ps_base.specs.Moments.{last_moment}
use Rattle.ps_base.specs.declared.ack_id.AckId.{AckId}
use Rattle.ps_base.specs.declared.refusal.Refusal.TheVariants.{NotFound}
use Rattle.ps_base.proofs.Lists.{each-then}
use Rattle.ps_model.specs.declared.command.Command.TheVariants.{Acknowledge}
use Rattle.ps_model.specs.declared.mark.Mark.{Mark}
use Rattle.ps_model.specs.declared.mark.Slot.{Slot}
use Rattle.ps_model.specs.declared.mark.Ticket.{Ticket}
use Rattle.ps_model.specs.declared.reply.Reply.{Reply}
use Rattle.ps_model.specs.declared.reply.Reply.TheVariants.{Acked, Refused}
use Rattle.ps_model.specs.declared.world.SubRow.{SubRow}
use Rattle.ps_model.specs.declared.world.World.{World}
use Rattle.ps_model.specs.Acknowledging.{acknowledge, mark_after_ack}
use Rattle.ps_model.specs.Answering.{acknowledge_at, invalid_ids, unordered_ids}
use Rattle.ps_model.specs.Checks.{argument_fault}
use Rattle.ps_model.specs.Commands.{outcome}
use Rattle.ps_model.specs.Outcomes.{answers}
use Rattle.ps_model.specs.Retention.{caught_up_mark}
use Rattle.ps_model.specs.Settling.{catch_up, expunge_world}
use Rattle.ps_model.specs.Slots.{is_gone, remark, remarked}
use Rattle.ps_model.specs.Step.{finished}
use Rattle.ps_sub.proofs.DueLemmas.{remarked-twice}
use Rattle.ps_sub.proofs.SteadyLemmas.{acknowledging-live}
use Rattle.ps_tables.specs.declared.kept_subscription.KeptSubscription.{KeptSubscription}
use Rattle.ps_tables.specs.declared.tables.Tables.{Tables}
use Rattle.ps_core.specs.Carrying.{IsCarried}
use Rattle.ps_core.specs.Delivering.{tickets_of}
use Rattle.ps_core.specs.Effects.{ack_subscription, recorded_at}
use Rattle.ps_tables.specs.Members.{has_name, numbered}
use Rattle.ps_core.specs.Keeping.{IsKept}
use Rattle.ps_core.specs.State.{State, seen, sub_row}
use Rattle.ps_core.specs.Steady.{IsCaughtUp, IsSteady, IsSteadySubscription}
use Rattle.ps_core.proofs.carrying.Kept.{IsSubscriptionAt, sub-named-seen, subscription-nowhere}
use Rattle.ps_core.proofs.carrying.Outcomes.{carried-finished, carried-rests, carried-shown, finished-made, finished-seen, outcome-open}
use Rattle.ps_core.proofs.delivering.Marked.{marked, marked-steady, StandsIn}
use Rattle.ps_core.proofs.delivering.Moving.{marked-later, marked-moves, marked-none, returned-later}
use Rattle.ps_core.proofs.delivering.Returning.{caught_up-live, returned-same}
use Rattle.ps_core.proofs.delivering.Seen.{ack_rule, acked-caught, acked-leaves, acked_at, returned_at, same-there, steady-there}
use Rattle.ps_core.proofs.delivering.Written.{stands, unwritten, written, written-kept}
use Rattle.ps_core.proofs.settling.CaughtUp.{caught_up-after}
use Rattle.ps_core.proofs.settling.Ending.{forward-none}
use Rattle.ps_core.proofs.settling.Expunging.{catch_up-steady, expunge-caught}

ack-good : (name : List ℕ) (ids : List AckId) → ids ≢ [] → argument_fault (Acknowledge name ids) ≡ None
ack-good name [] some = absurd (some refl)
ack-good name (id ∷ ids) some = refl

module _ (s : State) (next_end : ℕ) (tables : Tables) (kept : IsKept s next_end tables) (own : s.subscriptions ≡ values tables.subscriptions) (room : s.count < 2 ^ 50) (name : List ℕ) (ids : List AckId) (some : ids ≢ []) (at : ℕ) where
  ack-at : (found : Option SubRow) → option_map sub_row (find (has_name name) s.subscriptions) ≡ found → outcome (seen s) at (Acknowledge name ids) ≡ acknowledge_at (seen s) name ids found
  ack-at found is = outcome-open s at (Acknowledge name ids) room (ack-good name ids some) ∙ ap (acknowledge_at (seen s) name ids) (sub-named-seen s name ∙ is)

  -- there is no subscription of this name
  pub ack-missing : numbered tables.subscription_numbers name ≡ None → IsCarried at (Acknowledge name ids) s s (Refused (NotFound name)) false
  ack-missing none = carried-shown at (Acknowledge name ids) s (Refused (NotFound name)) (ack-at None (ap (option_map sub_row) (subscription-nowhere s next_end tables kept name none)))

  -- there is one, in which x' is what becomes of it
  module _ (n : ℕ) (x : KeptSubscription) (there : IsSubscriptionAt s tables name n x) (new : List (ℕ × KeptSubscription)) (x' : KeptSubscription) (put : new ≡ set_value (is_at (nat_cmp n)) tables.subscriptions.entries x') (is : x' ≡ ack_subscription (tickets_of x.number ids) x) where
    abbrev tickets : List Ticket
    tickets = tickets_of x.number ids

    abbrev rule : Slot → Mark
    rule = ack_rule x (tickets_of x.number ids)

    -- the state after the ids acknowledged, and after what is ahead caught up
    abbrev acked : State
    acked = record s { subscriptions = map (acked_at x tickets) s.subscriptions }

    abbrev made : State
    made = record s { subscriptions = map (returned_at x tickets) s.subscriptions }

    abbrev reply : Reply
    reply = Acked x.sub.config.exactly_once (invalid_ids (sub_row x) x.sub.slots ids) (unordered_ids (sub_row x) x.sub.slots ids)

    stays : StandsIn s.subscriptions x
    stays = stands s next_end tables kept own name n x there

    pub ack-steady-there : IsSteadySubscription s x
    ack-steady-there = steady-there s kept.steady x stays

    ack-open : outcome (seen s) at (Acknowledge name ids) ≡ answers (seen acked) reply
    ack-open = ack-at (Some (sub_row x)) (ap (option_map sub_row) there.named) ∙ acked-leaves s kept.steady x stays name ids

    one-mark : remarked rule x.sub.slots ≡ (ack_subscription tickets x).sub.slots
    one-mark = sym (remarked-twice (caught_up_mark x.sub.config.ordering (acknowledge x.sub.config tickets x.sub.slots)) (mark_after_ack x.sub.config tickets x.sub.slots) x.sub.slots)

    anew : x' ≡ marked x.number rule (λ lease. lease) x
    anew = is ∙ λ i. record x { sub = record x.sub { slots = sym one-mark i } }

    ack-written : values_of new ≡ made.subscriptions
    ack-written = written s next_end tables kept own name n x there rule (λ lease. lease) new x' put anew

    rule-here : (slot : Slot) → is_gone slot.mark ≡ false → is_gone (rule slot) ≡ false
    rule-here slot h = caught_up-live x.sub.config.ordering (acknowledge x.sub.config tickets x.sub.slots) (remark slot (mark_after_ack x.sub.config tickets x.sub.slots slot)) (acknowledging-live x.sub.config tickets x.sub.slots slot h)

    ack-steady : s.now ≤ at → at ≤ last_moment → IsSteady (recorded_at at made)
    ack-steady later within =
        marked-steady x.number rule (λ lease. lease) s kept.steady room at later within rule-here (λ lease few. omega (arith, few))
        (each-then (λ (y : KeptSubscription). nat_eq y.number x.number ≡ true → y ≡ x) (λ (y : KeptSubscription). nat_eq y.number x.number ≡ true → IsCaughtUp y.sub.config.ordering (remarked rule y.sub.slots)) s.subscriptions
        (λ y same e. subst (λ (z : KeptSubscription). IsCaughtUp z.sub.config.ordering (remarked rule z.sub.slots)) (sym (same e))
        (subst (IsCaughtUp x.sub.config.ordering) (sym one-mark) (caught_up-after x.sub.config.ordering (acknowledge x.sub.config tickets x.sub.slots))))
        (same-there s kept.steady x stays))

    -- what is kept beside the state stays right
    pub ack-kept : s.now ≤ at → at ≤ last_moment → (after : Tables) → after.subscriptions.entries ≡ new → after.topics ≡ tables.topics → after.topic_numbers ≡ tables.topic_numbers → after.subscription_numbers ≡ tables.subscription_numbers → after.messages ≡ tables.messages
        → IsKept (recorded_at at (record s { subscriptions = values after.subscriptions })) next_end after
    ack-kept later within after entries topics topic_numbers subscription_numbers messages =
        written-kept s next_end tables kept own name n x there rule (λ lease. lease) new x' put anew at next_end after entries topics topic_numbers subscription_numbers messages
        (ack-steady later within) (λ u soon. marked-later s x rule u (returned-later u x tickets) (kept.none_before u soon))

    ack-left : s.now ≤ at → at ≤ last_moment → finished at (seen s) (answers (seen acked) reply) ≡ seen made
    ack-left later within =
        let steady : IsSteady (recorded_at at made) = ack-steady later within in
        let caught : catch_up (seen acked) ≡ seen made = acked-caught s kept.steady x stays tickets in
        let rests : catch_up (seen made) ≡ seen made = ap (λ (w : World). record w { now = made.now; count = made.count }) (catch_up-steady (recorded_at at made) steady) in
        ap (expunge_world at) (forward-none at (seen acked)) ∙ expunge-caught at (seen acked) (seen made) caught rests
        ∙ ap (expunge_world at) (sym (forward-none at (seen made))) ∙ finished-made at at (seen s) made reply steady

    -- it changed a mark
    pub ack-moved : s.now ≤ at → at ≤ last_moment → x'.sub.slots ≢ x.sub.slots → IsCarried at (Acknowledge name ids) s (recorded_at at (record s { subscriptions = values_of new })) reply true
    ack-moved later within moved =
        subst (λ (xs : List KeptSubscription). IsCarried at (Acknowledge name ids) s (recorded_at at (record s { subscriptions = xs })) reply true) (sym ack-written)
        (carried-finished at (Acknowledge name ids) s made reply (answers (seen acked) reply) (ack-steady later within) ack-open refl (ack-left later within)
        (marked-moves s kept.steady x stays rule (λ e. moved (ap (λ (y : KeptSubscription). y.sub.slots) anew ∙ e))) refl)

    -- it changed no mark
    pub ack-rests : x'.sub.slots ≡ x.sub.slots → new ≡ tables.subscriptions.entries
    ack-rests same = unwritten s next_end tables kept own name n x there new x' put (anew ∙ λ i. record x { sub = record x.sub { slots = (one-mark ∙ ap (λ (y : KeptSubscription). y.sub.slots) (sym is) ∙ same) i } })

    pub ack-rested : x'.sub.slots ≡ x.sub.slots → IsCarried at (Acknowledge name ids) s s reply false
    ack-rested same =
        let slots : acknowledge x.sub.config tickets x.sub.slots ≡ x.sub.slots = returned-same x.sub.config tickets x.sub.slots (ap (λ (y : KeptSubscription). y.sub.slots) (sym is) ∙ same) in
        let rests : acked.subscriptions ≡ s.subscriptions = marked-none s kept.steady x stays (mark_after_ack x.sub.config tickets x.sub.slots) slots in
        carried-rests at (Acknowledge name ids) s reply (answers (seen s) reply) (ack-open ∙ ap (λ (xs : List KeptSubscription). answers (seen (record s { subscriptions = xs })) reply) rests) refl
        (finished-seen at (seen s) s reply kept.steady)
