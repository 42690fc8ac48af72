-- A change of deadlines is carried out as the rules say.
use Rattle.std.proofs.Common.{◌≡◌, ◌≢◌, ◌^◌, ◌<◌, ◌≤◌, ℕ, true, false, nat_eq, List, [], ◌∷◌, Option, Some, None, option_map, map, find, nat_cmp, refl, sym, ap, subst, ◌∙◌, arith}
use Rattle.std.specs.BTreeMap.{is_at, values}
use Rattle.std.specs.List.{AllByRecursion}
use Rattle.std.specs.Map.{set_value, values_of}
use Rattle.ps_base.specs.Moments.{last_moment}
use Rattle.ps_base.specs.declared.ack_id.AckId.{AckId}
use Rattle.ps_base.specs.declared.refusal.Refusal.TheVariants.{NotFound}
use Rattle.ps_base.proofs.Lists.{each-then}
use Rattle.ps_config.specs.declared.config.SubConfig.{SubConfig}
use Rattle.ps_model.specs.declared.command.Command.TheVariants.{ModifyAckDeadline}
use Rattle.ps_model.specs.declared.mark.Mark.{Mark}
use Rattle.ps_model.specs.declared.mark.Mark.TheVariants.{Backlog, Leased, Ahead, Done, Gone}
use Rattle.ps_model.specs.declared.mark.Slot.{Slot}
use Rattle.ps_model.specs.declared.mark.Ticket.{Ticket}
use Rattle.ps_model.specs.declared.reply.Reply.{Reply}
use Rattle.ps_model.specs.declared.reply.Reply.TheVariants.{Modified, Refused}
use Rattle.ps_model.specs.declared.world.SubRow.{SubRow}
use Rattle.ps_model.specs.Answering.{modify_at}
use Rattle.ps_model.specs.Checks.{argument_fault}
use Rattle.ps_model.specs.Commands.{outcome}
use Rattle.ps_model.specs.Modifying.{extended, extended_mark, is_given_up, seconds_for, set_deadline}
use Rattle.ps_model.specs.Outcomes.{answers}
use Rattle.ps_model.specs.Slots.{is_ahead, is_unacked, remark, remarked}
use Rattle.ps_sub.specs.Modifying.{modified_mark}
use Rattle.ps_sub.proofs.FirstLemmas.{extended-same}
use Rattle.ps_sub.proofs.ModifyLemmas.{modify-is, modifying-live, one-modified}
use Rattle.ps_tables.specs.declared.kept_subscription.KeptSubscription.{KeptSubscription}
use Rattle.ps_tables.specs.declared.tables.Tables.{Tables}
use Rattle.ps_core.specs.Carrying.{IsCarried}
use Rattle.ps_core.specs.Delivering.{NotBefore, items_of, modified_ids}
use Rattle.ps_core.specs.Effects.{modify_subscription, recorded_at}
use Rattle.ps_tables.specs.Members.{has_name, numbered}
use Rattle.ps_core.specs.Keeping.{IsKept}
use Rattle.ps_core.specs.State.{State, seen, sub_row}
use Rattle.ps_core.specs.Steady.{IsCaughtUp, IsSteady, IsSteadySubscription}
use Rattle.ps_core.proofs.carrying.Kept.{IsSubscriptionAt, sub-named-seen, subscription-nowhere}
use Rattle.ps_core.proofs.carrying.Outcomes.{carried-left, carried-rests, carried-shown, finished-seen, outcome-open}
use Rattle.ps_core.proofs.checking.Faults.{plainly}
use Rattle.ps_core.proofs.delivering.Marked.{marked, marked-steady, StandsIn}
use Rattle.ps_core.proofs.delivering.Moving.{marked-later, marked-moves, marked-none, modified-later}
use Rattle.ps_core.proofs.delivering.Seen.{modified-leaves, modified_at, same-there, steady-there}
use Rattle.ps_core.proofs.delivering.Written.{stands, unwritten, written, written-kept}
use Rattle.ps_core.proofs.settling.CaughtUp.{caught_up-kept}
use Rattle.ps_core.proofs.settling.Ending.{failing-ahead, failing-unacked}

-- ---- a change of deadlines acknowledges nothing

set-unacked : (deadline : ℕ) (m : Mark) → is_unacked (set_deadline deadline m) ≡ is_unacked m
set-unacked deadline (Leased failures lease before) = refl
set-unacked deadline (Backlog failures until last) = refl
set-unacked deadline (Ahead failures) = refl
set-unacked deadline (Done cause) = refl
set-unacked deadline (Gone cause) = refl

set-ahead : (deadline : ℕ) (m : Mark) → is_ahead (set_deadline deadline m) ≡ is_ahead m
set-ahead deadline (Leased failures lease before) = refl
set-ahead deadline (Backlog failures until last) = refl
set-ahead deadline (Ahead failures) = refl
set-ahead deadline (Done cause) = refl
set-ahead deadline (Gone cause) = refl

module _ (at : ℕ) (config : SubConfig) (no_letter : config.dead_letter ≡ None) (items : List (Ticket × ℕ)) (slots : List Slot) where
  abbrev moved : Slot → Slot
  moved slot = remark slot (extended_mark at items slot)

  modified-unacked : (slot : Slot) → is_unacked slot.mark ≡ true → is_unacked (modified_mark at false config items slots slot) ≡ true
  modified-unacked slot h =
      subst (λ (m : Mark). is_unacked m ≡ true) (one-modified at items false config slots slot)
      (failing-unacked at config no_letter (is_given_up items) (extended at items slots) (moved slot) (extended-same is_unacked set-unacked at slot.mark (seconds_for items slot None) ∙ h))

  modified-ahead : (slot : Slot) → is_ahead (modified_mark at false config items slots slot) ≡ true → is_ahead slot.mark ≡ true
  modified-ahead slot h =
      sym (extended-same is_ahead set-ahead at slot.mark (seconds_for items slot None))
      ∙ failing-ahead at config no_letter (is_given_up items) (extended at items slots) (moved slot) (subst (λ (m : Mark). is_ahead m ≡ true) (sym (one-modified at items false config slots slot)) h)

module _ (s : State) (next_end : ℕ) (tables : Tables) (kept : IsKept s next_end tables) (own : s.subscriptions ≡ values tables.subscriptions) (room : s.count < 2 ^ 50) (name : List ℕ) (items : List (AckId × ℕ)) (at : ℕ) (good : argument_fault (ModifyAckDeadline name items) ≡ None) where
  modify-at-found : (found : Option SubRow) → option_map sub_row (find (has_name name) s.subscriptions) ≡ found → outcome (seen s) at (ModifyAckDeadline name items) ≡ modify_at (seen s) at name items found
  modify-at-found found is = outcome-open s at (ModifyAckDeadline name items) room good ∙ ap (modify_at (seen s) at name items) (sub-named-seen s name ∙ is)

  -- there is no subscription of this name
  pub modify-missing : numbered tables.subscription_numbers name ≡ None → IsCarried at (ModifyAckDeadline name items) s s (Refused (NotFound name)) false
  modify-missing none = carried-shown at (ModifyAckDeadline name items) s (Refused (NotFound name)) (modify-at-found None (ap (option_map sub_row) (subscription-nowhere s next_end tables kept name none)))

  -- there is one, in which x' is what becomes of it
  module _ (n : ℕ) (x : KeptSubscription) (there : IsSubscriptionAt s tables name n x) (new : List (ℕ × KeptSubscription)) (x' : KeptSubscription) (put : new ≡ set_value (is_at (nat_cmp n)) tables.subscriptions.entries x') (is : x' ≡ modify_subscription at (items_of x.number items) x) where
    abbrev mine : List (Ticket × ℕ)
    mine = items_of x.number items

    abbrev rule : Slot → Mark
    rule = modified_mark at false x.sub.config (items_of x.number items) x.sub.slots

    abbrev made : State
    made = record s { subscriptions = map (modified_at x at (items_of x.number items)) s.subscriptions }

    abbrev reply : Reply
    reply = Modified x.sub.config.exactly_once (modified_ids x items)

    stays : StandsIn s.subscriptions x
    stays = stands s next_end tables kept own name n x there

    steady-here : IsSteadySubscription s x
    steady-here = steady-there s kept.steady x stays

    no-letter : x.sub.config.dead_letter ≡ None
    no-letter = (plainly x.sub.config steady-here.settings.built).dead_letter

    modify-open : outcome (seen s) at (ModifyAckDeadline name items) ≡ answers (seen made) reply
    modify-open = modify-at-found (Some (sub_row x)) (ap (option_map sub_row) there.named) ∙ modified-leaves s kept.steady x stays at no-letter steady-here.settings name items

    one-mark : remarked rule x.sub.slots ≡ (modify_subscription at mine x).sub.slots
    one-mark = sym (modify-is at false x.sub.config mine x.sub.slots)

    anew : x' ≡ marked x.number rule (λ lease. lease) x
    anew = is ∙ λ i. record x { sub = record x.sub { slots = sym one-mark i } }

    modify-written : values_of new ≡ made.subscriptions
    modify-written = written s next_end tables kept own name n x there rule (λ lease. lease) new x' put anew

    caught : IsCaughtUp x.sub.config.ordering (remarked rule x.sub.slots)
    caught =
        caught_up-kept x.sub.config.ordering rule (modified-unacked at x.sub.config no-letter mine x.sub.slots) (modified-ahead at x.sub.config no-letter mine x.sub.slots) x.sub.slots steady-here.caught_up

    modify-steady : s.now ≤ at → at ≤ last_moment → IsSteady (recorded_at at made)
    modify-steady later within =
        marked-steady x.number rule (λ lease. lease) s kept.steady room at later within (modifying-live at false x.sub.config mine x.sub.slots) (λ lease few. omega (arith, few))
        (each-then (λ (y : KeptSubscription). nat_eq y.number x.number ≡ true → y ≡ x) (λ (y : KeptSubscription). nat_eq y.number x.number ≡ true → IsCaughtUp y.sub.config.ordering (remarked rule y.sub.slots)) s.subscriptions
        (λ y same e. subst (λ (z : KeptSubscription). IsCaughtUp z.sub.config.ordering (remarked rule z.sub.slots)) (sym (same e)) caught)
        (same-there s kept.steady x stays))

    -- what is kept beside the state stays right, if the next end of a lease isn't after the first deadline that is set
    pub modify-kept : (first next : ℕ) → AllByRecursion (NotBefore first at) items → next ≤ next_end → next ≤ first → s.now ≤ at → at ≤ last_moment → (after : Tables) → after.subscriptions.entries ≡ new → after.topics ≡ tables.topics → after.topic_numbers ≡ tables.topic_numbers
        → after.subscription_numbers ≡ tables.subscription_numbers → after.messages ≡ tables.messages → IsKept (recorded_at at (record s { subscriptions = values after.subscriptions })) next after
    modify-kept first next late before below later within after entries topics topic_numbers subscription_numbers messages =
        written-kept s next_end tables kept own name n x there rule (λ lease. lease) new x' put anew at next after entries topics topic_numbers subscription_numbers messages
        (modify-steady later within)
        (λ u soon. marked-later s x rule u (modified-later u first at x.sub.config x.number items x.sub.slots late (omega (arith, soon, below))) (kept.none_before u (omega (arith, soon, before))))

    -- it changed a mark
    pub modify-moved : s.now ≤ at → at ≤ last_moment → x'.sub.slots ≢ x.sub.slots → IsCarried at (ModifyAckDeadline name items) s (recorded_at at (record s { subscriptions = values_of new })) reply true
    modify-moved later within moved =
        subst (λ (xs : List KeptSubscription). IsCarried at (ModifyAckDeadline name items) s (recorded_at at (record s { subscriptions = xs })) reply true) (sym modify-written)
        (carried-left at (ModifyAckDeadline name items) s made reply (seen made) (modify-steady later within) modify-open refl
        (marked-moves s kept.steady x stays rule (λ e. moved (ap (λ (y : KeptSubscription). y.sub.slots) anew ∙ e))) refl)

    slots-rest : x'.sub.slots ≡ x.sub.slots → remarked rule x.sub.slots ≡ x.sub.slots
    slots-rest same = one-mark ∙ ap (λ (y : KeptSubscription). y.sub.slots) (sym is) ∙ same

    -- it changed no mark
    pub modify-rests : x'.sub.slots ≡ x.sub.slots → new ≡ tables.subscriptions.entries
    modify-rests same = unwritten s next_end tables kept own name n x there new x' put (anew ∙ λ i. record x { sub = record x.sub { slots = slots-rest same i } })

    pub modify-rested : x'.sub.slots ≡ x.sub.slots → IsCarried at (ModifyAckDeadline name items) s s reply false
    modify-rested same =
        let rests : made.subscriptions ≡ s.subscriptions = marked-none s kept.steady x stays rule (slots-rest same) in
        carried-rests at (ModifyAckDeadline name items) s reply (answers (seen s) reply) (modify-open ∙ ap (λ (xs : List KeptSubscription). answers (seen (record s { subscriptions = xs })) reply) rests) refl
        (finished-seen at (seen s) s reply kept.steady)
