-- One subscription of a state is marked anew.
use Rattle.ps_names.specs.Names.{is_sub_name}
use Rattle.std.proofs.Common.{ℕ, ◌≡◌, ◌≢◌, ◌+◌, ◌*◌, ◌^◌, ◌<◌, ◌≤◌, Bool, true, false, nat_eq, List, [], ◌∷◌, Some, map, find, refl, sym, ◌∙◌, ap, arith, if◌then◌else◌}
use Rattle.std.specs.List.{AllByRecursion, list_any}
use Rattle.std.proofs.lemmas.Bool.{cond_both, or_from, or_parts}
use Rattle.ps_base.specs.Moments.{last_moment}
use Rattle.ps_message.specs.Limits.{most_messages}
use Rattle.ps_model.specs.declared.mark.Mark.{Mark}
use Rattle.ps_model.specs.declared.mark.Slot.{Slot}
use Rattle.ps_model.specs.declared.world.MessageRow.{MessageRow}
use Rattle.ps_model.specs.Slots.{is_gone, remark, remarked}
use Rattle.ps_model.specs.Sound.{Ordered}
use Rattle.ps_sub.proofs.SteadyLemmas.{ascending-remarked}
use Rattle.ps_tables.specs.declared.kept_subscription.KeptSubscription.{KeptSubscription}
use Rattle.ps_tables.specs.Subscriptions.{is_had}
use Rattle.ps_core.specs.Effects.{recorded_at}
use Rattle.ps_core.specs.Settling.{has_due}
use Rattle.ps_core.specs.State.{State}
use Rattle.ps_core.specs.Steady.{IsCaughtUp, IsJoined, IsSteady, IsSteadySubscription}
use Rattle.ps_base.proofs.Lists.{each-both, each-map, each-then}
use Rattle.ps_core.proofs.carrying.Kept.{IsSameHolder}
use Rattle.ps_tables.proofs.lists.Ordered.{ordered-map}
use Rattle.ps_core.proofs.settling.Ending.{had-mapped, has-remarked}
use Rattle.ps_core.proofs.settling.Loop.{put-known}

-- a subscription stands among others
abbrev pub StandsIn : List KeptSubscription → KeptSubscription → Type 0
StandsIn subscriptions x = find (λ (y : KeptSubscription). nat_eq y.number x.number) subscriptions ≡ Some x

module _ (n : ℕ) (rule : Slot → Mark) (next : ℕ → ℕ) where
  -- the subscription with marks by a rule, and with the number of its next lease by another
  abbrev pub marked : KeptSubscription → KeptSubscription
  marked x = record x { sub = record x.sub { slots = remarked rule x.sub.slots; next_lease = next x.sub.next_lease } }

  -- the same of the one with this number
  abbrev pub marked_at : KeptSubscription → KeptSubscription
  marked_at x = if nat_eq x.number n then marked x else x

  -- what holds of a subscription and is kept by the marking
  pub marked-either : (P : KeptSubscription → Type 0) (x : KeptSubscription) → P (marked x) → P x → P (marked_at x)
  marked-either P x changed same = cond_both (nat_eq x.number n) (marked x) x P (λ _. changed) (λ _. same)

  pub marked-holder : (x : KeptSubscription) → IsSameHolder (marked_at x) x
  marked-holder x =
      marked-either (λ (y : KeptSubscription). IsSameHolder y x) x (record { number = refl; name = refl; topic = refl; detached = refl; holds = λ number. has-remarked rule number x.sub.slots })
      (record { number = refl; name = refl; topic = refl; detached = refl; holds = λ number. refl })

  pub marked-had : (number : ℕ) (xs : List KeptSubscription) → is_had (map marked_at xs) number ≡ is_had xs number
  marked-had number xs = had-mapped marked_at number (λ x. (marked-holder x).holds number) xs

  pub marked-order : (xs : List KeptSubscription) → Ordered (λ (a b : KeptSubscription). a.number < b.number) xs → Ordered (λ (a b : KeptSubscription). a.number < b.number) (map marked_at xs)
  marked-order xs up =
      ordered-map (λ (a b : KeptSubscription). a.number < b.number) (λ (a b : KeptSubscription). a.number < b.number) marked_at xs (λ a b below. omega (arith, (marked-holder a).number, (marked-holder b).number, below)) up

  -- if its number is that of a subscription that stands there, it is put in its place
  pub marked-put : (x : KeptSubscription) → x.number ≡ n → (xs : List KeptSubscription) → Ordered (λ (a b : KeptSubscription). a.number < b.number) xs → StandsIn xs x
      → map (λ (y : KeptSubscription). if nat_eq y.number x.number then marked x else y) xs ≡ map marked_at xs
  marked-put x own xs up there = put-known marked x.number x xs up there ∙ ap (λ (k : ℕ). map (λ (y : KeptSubscription). if nat_eq y.number k then marked y else y) xs) own

  -- where the marking makes no lease end by a moment, none does
  pub marked-idle : (at : ℕ) → ((x : KeptSubscription) → has_due at x ≡ false → has_due at (marked x) ≡ false) → (xs : List KeptSubscription) → list_any (has_due at) xs ≡ false → list_any (has_due at) (map marked_at xs) ≡ false
  marked-idle at keeps [] h = refl
  marked-idle at keeps (x ∷ xs) h =
      let parts = or_parts (has_due at x) (list_any (has_due at) xs) h in
      or_from (has_due at (marked_at x)) (list_any (has_due at) (map marked_at xs)) (marked-either (λ (y : KeptSubscription). has_due at y ≡ false) x (keeps x parts.0) parts.0) (marked-idle at keeps xs parts.1)

  -- ---- a steady state

  module _ (s : State) (h : IsSteady s) (few : s.count < 2 ^ 50) (at : ℕ) (now : s.now ≤ at) (last : at ≤ last_moment) (here : (slot : Slot) → is_gone slot.mark ≡ false → is_gone (rule slot) ≡ false) (more : (lease : ℕ) → lease ≤ most_messages * s.count + 1 → next lease ≤ most_messages * (s.count + 1) + 1) where
    abbrev made : State
    made = recorded_at at (record s { subscriptions = map marked_at s.subscriptions })

    joined-later : (x : KeptSubscription) (slot : Slot) → IsJoined s x slot → IsJoined made x slot
    joined-later x slot j = record { row = j.row; number = j.number; publish = omega (arith, j.publish); here = j.here }

    joined-marked : (x : KeptSubscription) (slot : Slot) → IsJoined s x slot → IsJoined made (marked x) (remark slot (rule slot))
    joined-marked x slot j = record { row = ap (λ (e : Slot). remark e (rule slot)) j.row; number = j.number; publish = omega (arith, j.publish); here = here slot j.here }

    subscription-later : (x : KeptSubscription) → IsSteadySubscription s x → IsSteadySubscription made x
    subscription-later x own = record {
      settings = own.settings;
      filter = own.filter;
      leases = omega (arith, own.leases);
      slots = own.slots;
      joined = each-then (IsJoined s x) (IsJoined made x) x.sub.slots (joined-later x) own.joined;
      caught_up = own.caught_up;
      detached = own.detached;
      topic = own.topic;
    }

    subscription-marked : (x : KeptSubscription) → IsSteadySubscription s x → IsCaughtUp x.sub.config.ordering (remarked rule x.sub.slots) → IsSteadySubscription made (marked x)
    subscription-marked x own caught = record {
      settings = own.settings;
      filter = own.filter;
      leases = more x.sub.next_lease own.leases;
      slots = ascending-remarked rule x.sub.slots own.slots;
      joined = each-map (IsJoined s x) (IsJoined made (marked x)) (λ (slot : Slot). remark slot (rule slot)) x.sub.slots (joined-marked x) own.joined;
      caught_up = caught;
      detached = λ e. ap (remarked rule) (own.detached e);
      topic = own.topic;
    }

    -- One entry more, at a later moment, which marks the messages of one subscription, keeps a state steady.
    pub marked-steady : AllByRecursion (λ (x : KeptSubscription). nat_eq x.number n ≡ true → IsCaughtUp x.sub.config.ordering (remarked rule x.sub.slots)) s.subscriptions → IsSteady made
    marked-steady caught = record {
      now = last;
      count = omega arith;
      topics = h.topics;
      topics_below = h.topics_below;
      topic_names = h.topic_names;
      topic_grammar = h.topic_grammar;
      topic_settings = h.topic_settings;
      topics_few = omega (arith, h.topics_few);
      subscriptions = marked-order s.subscriptions h.subscriptions;
      subscriptions_below = each-map (λ (x : KeptSubscription). x.number < s.next_sub) (λ (x : KeptSubscription). x.number < s.next_sub) marked_at s.subscriptions (λ x below. omega (arith, (marked-holder x).number, below)) h.subscriptions_below;
      subscription_names = ordered-map (λ (a b : KeptSubscription). a.name ≢ b.name) (λ (a b : KeptSubscription). a.name ≢ b.name) marked_at s.subscriptions (λ a b differ e. differ (sym (marked-holder a).name ∙ e ∙ (marked-holder b).name)) h.subscription_names;
      subscription_grammar = each-map (λ (x : KeptSubscription). is_sub_name x.name ≡ true) (λ (x : KeptSubscription). is_sub_name x.name ≡ true) marked_at s.subscriptions (λ x is. ap is_sub_name (marked-holder x).name ∙ is) h.subscription_grammar;
      subs_few = omega (arith, h.subs_few);
      each = each-map (λ (x : KeptSubscription). IsSteadySubscription s x × (nat_eq x.number n ≡ true → IsCaughtUp x.sub.config.ordering (remarked rule x.sub.slots))) (IsSteadySubscription made) marked_at s.subscriptions
          (λ x own. by x own.0 (nat_eq x.number n) own.1) (each-both (IsSteadySubscription s) (λ (x : KeptSubscription). nat_eq x.number n ≡ true → IsCaughtUp x.sub.config.ordering (remarked rule x.sub.slots)) s.subscriptions h.each caught);
      messages = h.messages;
      messages_below = h.messages_below;
      messages_few = omega (arith, h.messages_few);
      kept = h.kept;
      wanted = each-then (λ (m : MessageRow). is_had s.subscriptions m.number ≡ true) (λ (m : MessageRow). is_had (map marked_at s.subscriptions) m.number ≡ true) s.messages (λ m had. marked-had m.number s.subscriptions ∙ had) h.wanted;
    }
      where
        by : (x : KeptSubscription) → IsSteadySubscription s x → (b : Bool) → (b ≡ true → IsCaughtUp x.sub.config.ordering (remarked rule x.sub.slots)) → IsSteadySubscription made (if b then marked x else x)
        by x own true is = subscription-marked x own (is refl)
        by x own false is = subscription-later x own
