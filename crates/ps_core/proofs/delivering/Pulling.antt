-- A pull is carried out as the rules say.
use Rattle.std.proofs.Common.{◌≡◌, ◌≢◌, ◌+◌, ◌-◌, ◌*◌, ◌^◌, ◌<◌, ◌≤◌, ◌||◌, ℕ, min, max, nat_cmp, nat_eq, Bool, true, false, List, [], ◌∷◌, Option, Some, None, option_map, unwrap_or, map, find, length, refl, sym, ap, subst, ◌∙◌, arith, if◌then◌else◌}
use Rattle.std.specs.BTreeMap.{is_at, values}
use Rattle.std.specs.Map.{set_value, values_of}
use Rattle.std.proofs.lemmas.Bool.{eqb-false, false≢true, ne_eqb}
use Rattle.ps_base.specs.Moments.{last_moment}
use Rattle.ps_base.specs.declared.reason.Reason.TheVariants.{Detached, MaxMessages}
use Rattle.ps_base.specs.declared.refusal.Refusal.TheVariants.{FailedPrecondition, NotFound}
use Rattle.ps_config.specs.declared.config.SubConfig.{SubConfig}
use Rattle.ps_message.specs.Messages.{broken}
use Rattle.ps_model.specs.declared.command.Command.{Command}
use Rattle.ps_model.specs.declared.command.Command.TheVariants.{Pull}
use Rattle.ps_model.specs.declared.mark.Handed.{Handed}
use Rattle.ps_model.specs.declared.mark.Mark.{Mark}
use Rattle.ps_model.specs.declared.mark.Slot.{Slot}
use Rattle.ps_model.specs.declared.reply.ReceivedMessage.{ReceivedMessage}
use Rattle.ps_model.specs.declared.reply.Reply.{Reply}
use Rattle.ps_model.specs.declared.reply.Reply.TheVariants.{Received, Refused}
use Rattle.ps_model.specs.declared.world.MessageRow.{MessageRow}
use Rattle.ps_model.specs.declared.world.SubRow.{SubRow}
use Rattle.ps_model.specs.Checks.{argument_fault, as_read}
use Rattle.ps_model.specs.Choice.{deliverable, first_of_them, handed, lease_in, leased_as, lent_mark}
use Rattle.ps_model.specs.Commands.{outcome}
use Rattle.ps_model.specs.Outcomes.{answers}
use Rattle.ps_model.specs.Pulling.{pull_at, pull_from, received}
use Rattle.ps_model.specs.Slots.{is_ahead, is_unacked, remarked}
use Rattle.ps_model.specs.Worlds.{message_at}
use Rattle.ps_base.proofs.Lists.{each-then}
use Rattle.ps_sub.proofs.SteadyLemmas.{lending-live}
use Rattle.ps_tables.specs.declared.kept_subscription.KeptSubscription.{KeptSubscription}
use Rattle.ps_tables.specs.declared.tables.Tables.{Tables}
use Rattle.ps_core.specs.Carrying.{IsCarried}
use Rattle.ps_core.specs.Delivering.{received_all}
use Rattle.ps_core.specs.Effects.{given_of, lend_subscription, recorded_at}
use Rattle.ps_tables.specs.Members.{has_name, numbered}
use Rattle.ps_core.specs.Keeping.{IsKept}
use Rattle.ps_core.specs.State.{State, seen, sub_row}
use Rattle.ps_core.specs.Steady.{IsCaughtUp, IsSteady, IsSteadySubscription}
use Rattle.ps_core.proofs.carrying.Kept.{IsSubscriptionAt, sub-named-seen, subscription-nowhere}
use Rattle.ps_core.proofs.carrying.Outcomes.{carried-left, carried-rests, carried-shown, finished-seen, outcome-open}
use Rattle.ps_core.proofs.checking.Faults.{plainly}
use Rattle.ps_core.proofs.delivering.Marked.{marked-steady, StandsIn}
use Rattle.ps_core.proofs.delivering.Moving.{lent-idle, lent-none, pulled-moves}
use Rattle.ps_core.proofs.delivering.Seen.{lent_at, pulled-leaves, steady-there}
use Rattle.ps_core.proofs.delivering.Written.{stands, unwritten, written, written-kept}
use Rattle.ps_core.proofs.settling.CaughtUp.{caught_up-kept}
use Rattle.ps_core.proofs.settling.Settings.{lease-seconds}

pull-good : (name : List ℕ) (most budget : ℕ) (seconds : Option ℕ) → most ≢ 0 → argument_fault (Pull name most budget seconds) ≡ None
pull-good name most budget seconds some = ap (λ (b : Bool). broken b MaxMessages) (ne_eqb most 0 some)

-- ---- a pull in the form in which it is read

most_in : Command → ℕ
most_in (Pull name most budget seconds) = most
most_in _ = 0

seconds_in : ℕ → Command → ℕ
seconds_in standard (Pull name most budget seconds) = unwrap_or seconds standard
seconds_in standard _ = 0

-- it asks for at most 1,000 messages
pub pull-few : (name : List ℕ) (most budget : ℕ) (seconds : Option ℕ) → as_read (Pull name most budget seconds) ≡ Pull name most budget seconds → most ≤ 1000
unfolding most_in
pull-few name most budget seconds read = let same : min most 1000 ≡ most = ap most_in read in omega arith

-- and for a lease of at most ten minutes
read-short : (name : List ℕ) (most budget : ℕ) (seconds : Option ℕ) → as_read (Pull name most budget seconds) ≡ Pull name most budget seconds → (standard : ℕ) → standard ≤ 600 → unwrap_or seconds standard ≤ 600
unfolding seconds_in
read-short name most budget None read standard short = short
read-short name most budget (Some seconds) read standard short = let same : max 10 (min seconds 600) ≡ seconds = ap (seconds_in standard) read in omega arith

-- ---- what goes out

-- no more than was asked for
given-few : (lease most budget : ℕ) (slots : List Slot) → length (handed lease (first_of_them most budget slots)) ≤ most
given-few lease most budget [] = omega arith
given-few lease most budget (s ∷ ss) = by (nat_eq most 0) refl (nat_eq budget 0) (given-few (lease + 1) (most - 1) (budget - s.item.size) ss)
  where
    rest : List Slot
    rest = first_of_them (most - 1) (budget - s.item.size) ss

    by : (a : Bool) → nat_eq most 0 ≡ a → (b : Bool) → length (handed (lease + 1) rest) ≤ most - 1 → length (handed lease (if a || b then [] else s ∷ rest)) ≤ most
    by true e b few = omega arith
    by false e true few = omega arith
    by false e false few = let some : most ≢ 0 = eqb-false most 0 e in omega arith

leased-unacked : (deadline : ℕ) (mark : Mark) (lease : Option ℕ) → is_unacked mark ≡ true → is_unacked (leased_as deadline mark lease) ≡ true
leased-unacked deadline mark None h = h
leased-unacked deadline mark (Some lease) h = refl

leased-ahead : (deadline : ℕ) (mark : Mark) (lease : Option ℕ) → is_ahead (leased_as deadline mark lease) ≡ true → is_ahead mark ≡ true
leased-ahead deadline mark None h = h
leased-ahead deadline mark (Some lease) h = absurd (false≢true h)

none-received : (sub : ℕ) (messages : List MessageRow) (given : List Handed) → received_all sub messages given ≡ [] → given ≡ []
none-received sub messages [] e = refl
none-received sub messages (g ∷ gs) e = absurd (cc (e))

module _ (s : State) (next_end : ℕ) (tables : Tables) (kept : IsKept s next_end tables) (own : s.subscriptions ≡ values tables.subscriptions) (room : s.count < 2 ^ 50) (name : List ℕ) (most budget : ℕ) (lasting : Option ℕ) (some : most ≢ 0) (at : ℕ) where
  pull-at : (found : Option SubRow) → option_map sub_row (find (has_name name) s.subscriptions) ≡ found → outcome (seen s) at (Pull name most budget lasting) ≡ pull_at (seen s) at name most budget lasting found
  pull-at found is = outcome-open s at (Pull name most budget lasting) room (pull-good name most budget lasting some) ∙ ap (pull_at (seen s) at name most budget lasting) (sub-named-seen s name ∙ is)

  -- there is no subscription of this name
  pub pull-missing : numbered tables.subscription_numbers name ≡ None → IsCarried at (Pull name most budget lasting) s s (Refused (NotFound name)) false
  pull-missing none = carried-shown at (Pull name most budget lasting) s (Refused (NotFound name)) (pull-at None (ap (option_map sub_row) (subscription-nowhere s next_end tables kept name none)))

  -- there is one
  module _ (n : ℕ) (x : KeptSubscription) (there : IsSubscriptionAt s tables name n x) where
    stays : StandsIn s.subscriptions x
    stays = stands s next_end tables kept own name n x there

    pub pulled-steady : IsSteadySubscription s x
    pulled-steady = steady-there s kept.steady x stays

    -- the numbers of its leases are far from their bound
    pub pull-leases : x.sub.next_lease ≤ 2 ^ 61
    pull-leases = omega (arith, pulled-steady.leases)

    pull-from : outcome (seen s) at (Pull name most budget lasting) ≡ pull_from (seen s) at (sub_row x) most budget (unwrap_or lasting x.sub.config.ack_seconds) x.detached
    pull-from = pull-at (Some (sub_row x)) (ap (option_map sub_row) there.named)

    -- it is detached
    pub pull-detached : x.detached ≡ true → IsCarried at (Pull name most budget lasting) s s (Refused (FailedPrecondition Detached)) false
    pull-detached detached =
        carried-shown at (Pull name most budget lasting) s (Refused (FailedPrecondition Detached))
        (pull-from ∙ ap (pull_from (seen s) at (sub_row x) most budget (unwrap_or lasting x.sub.config.ack_seconds)) detached)

    -- the lease lasts this many seconds
    module _ (seconds : ℕ) (lasts : seconds ≡ unwrap_or lasting x.sub.config.ack_seconds) (attached : x.detached ≡ false) where
      -- at most ten minutes
      pub pull-short : as_read (Pull name most budget lasting) ≡ Pull name most budget lasting → seconds ≤ 600
      pull-short read = omega (arith, lasts, read-short name most budget lasting read x.sub.config.ack_seconds (lease-seconds x.sub.config pulled-steady.settings.good).1)

      abbrev given : List Handed
      given = given_of at most budget x

      abbrev made : State
      made = record s { subscriptions = map (lent_at x (at + 1000 * seconds) given) s.subscriptions }

      pull-open : outcome (seen s) at (Pull name most budget lasting) ≡ answers (seen made) (Received x.sub.config.exactly_once x.sub.config.ordering (received_all x.number s.messages given))
      pull-open =
          let plain = plainly x.sub.config pulled-steady.settings.built in
          let reply : SubConfig → Reply = λ config. Received config.exactly_once config.ordering (map (λ (g : Handed). received (record (sub_row x) { config = config }) g (message_at s.messages g.number)) given) in
          let shown : reply x.sub.config ≡ Received x.sub.config.exactly_once x.sub.config.ordering (received_all x.number s.messages given) =
          λ i. Received x.sub.config.exactly_once x.sub.config.ordering (map (λ (g : Handed). received (record (sub_row x) { config = record x.sub.config { dead_letter = plain.dead_letter i } }) g (message_at s.messages g.number)) given) in
          pull-from
          ∙ (λ i. pull_from (seen s) at (sub_row x) most budget (sym lasts i) (attached i))
          ∙ pulled-leaves s kept.steady x stays at most budget seconds ∙ ap (answers (seen made)) shown

      pull-steady : most ≤ 1000 → s.now ≤ at → at ≤ last_moment → IsSteady (recorded_at at made)
      pull-steady few later within =
          let short : length given ≤ most = given-few x.sub.next_lease most budget (deliverable at x.sub.config.ordering x.sub.slots) in
          marked-steady x.number (lent_mark (at + 1000 * seconds) given) (λ lease. lease + length given) s kept.steady room at later within
          (λ slot here. lending-live (at + 1000 * seconds) given slot here) (λ lease below. omega (arith, below, short))
          (each-then (IsSteadySubscription s) (λ (y : KeptSubscription). nat_eq y.number x.number ≡ true → IsCaughtUp y.sub.config.ordering (remarked (lent_mark (at + 1000 * seconds) given) y.sub.slots)) s.subscriptions
          (λ y own _. caught_up-kept y.sub.config.ordering (lent_mark (at + 1000 * seconds) given) (λ slot h. leased-unacked (at + 1000 * seconds) slot.mark (lease_in given slot.item.number) h) (λ slot h. leased-ahead (at + 1000 * seconds) slot.mark (lease_in given slot.item.number) h) y.sub.slots own.caught_up)
          kept.steady.each)

      -- x' is what becomes of it
      module _ (new : List (ℕ × KeptSubscription)) (x' : KeptSubscription) (put : new ≡ set_value (is_at (nat_cmp n)) tables.subscriptions.entries x') (is : x' ≡ lend_subscription (at + 1000 * seconds) given x) where
        pull-written : values_of new ≡ made.subscriptions
        pull-written = written s next_end tables kept own name n x there (lent_mark (at + 1000 * seconds) given) (λ lease. lease + length given) new x' put is

        -- what is kept beside the state stays right
        pub pull-kept : most ≤ 1000 → s.now ≤ at → at ≤ last_moment → (next : ℕ) → next ≤ next_end → next ≤ at + 1000 * seconds → (after : Tables) → after.subscriptions.entries ≡ new → after.topics ≡ tables.topics → after.topic_numbers ≡ tables.topic_numbers
            → after.subscription_numbers ≡ tables.subscription_numbers → after.messages ≡ tables.messages → IsKept (recorded_at at (record s { subscriptions = values after.subscriptions })) next after
        pull-kept few later within next before below after entries topics topic_numbers subscription_numbers messages =
            written-kept s next_end tables kept own name n x there (lent_mark (at + 1000 * seconds) given) (λ lease. lease + length given) new x' put is at next after entries topics topic_numbers subscription_numbers messages
            (pull-steady few later within) (lent-idle s x (at + 1000 * seconds) next_end next given before below kept.none_before)

        -- something goes out
        pub pull-moved : most ≤ 1000 → s.now ≤ at → at ≤ last_moment → (items : List ReceivedMessage) → items ≡ received_all x.number s.messages given → items ≢ []
            → IsCarried at (Pull name most budget lasting) s (recorded_at at (record s { subscriptions = values_of new })) (Received x.sub.config.exactly_once x.sub.config.ordering items) true
        pull-moved few later within items told went =
            let reply : Reply = Received x.sub.config.exactly_once x.sub.config.ordering items in
            let steady : IsSteady (recorded_at at made) = pull-steady few later within in
            subst (λ (xs : List KeptSubscription). IsCarried at (Pull name most budget lasting) s (recorded_at at (record s { subscriptions = xs })) reply true) (sym pull-written)
            (carried-left at (Pull name most budget lasting) s made reply (seen made) steady (pull-open ∙ ap (λ (shown : List ReceivedMessage). answers (seen made) (Received x.sub.config.exactly_once x.sub.config.ordering shown)) (sym told)) refl
            (pulled-moves s kept.steady x stays (at + 1000 * seconds) given (λ none. went (told ∙ ap (received_all x.number s.messages) none))) refl)

        -- nothing goes out
        pub pull-rests : received_all x.number s.messages given ≡ [] → new ≡ tables.subscriptions.entries
        pull-rests none =
            unwritten s next_end tables kept own name n x there new x' put
            (is ∙ ap (λ (g : List Handed). lend_subscription (at + 1000 * seconds) g x) (none-received x.number s.messages given none) ∙ lent-none (at + 1000 * seconds) x)

        pub pull-rested : (items : List ReceivedMessage) → items ≡ received_all x.number s.messages given → items ≡ [] → IsCarried at (Pull name most budget lasting) s s (Received x.sub.config.exactly_once x.sub.config.ordering items) false
        pull-rested items told none =
            let reply : Reply = Received x.sub.config.exactly_once x.sub.config.ordering items in
            let rests : made.subscriptions ≡ s.subscriptions = sym pull-written ∙ ap values_of (pull-rests (sym told ∙ none)) ∙ sym own in
            carried-rests at (Pull name most budget lasting) s reply (answers (seen s) reply) (pull-open ∙ λ i. answers (seen (record s { subscriptions = rests i })) (Received x.sub.config.exactly_once x.sub.config.ordering (sym told i))) refl (finished-seen at (seen s) s reply kept.steady)
