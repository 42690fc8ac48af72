-- What is kept when a subscription has other settings.
use Rattle.std.proofs.Common.{◌≡◌, ◌≢◌, ◌<◌, ◌||◌, ℕ, Bool, true, false, nat_eq, List, [], ◌∷◌, map, refl, sym, ap, ◌∙◌, subst, arith, if◌then◌else◌}
use Rattle.std.specs.BTreeMap.{values}
use Rattle.std.specs.List.{AllByRecursion, list_any}
use Rattle.ps_base.proofs.Lists.{each-always, each-map, each-then, each-then-both}
use Rattle.ps_config.specs.declared.config.SubConfig.{SubConfig}
use Rattle.ps_model.specs.declared.mark.Slot.{Slot}
use Rattle.ps_model.specs.declared.world.MessageRow.{MessageRow}
use Rattle.ps_model.specs.Failing.{is_due}
use Rattle.ps_model.specs.Worlds.{row_of, slot_of}
use Rattle.ps_names.specs.Names.{is_sub_name}
use Rattle.ps_tables.specs.declared.kept_subscription.KeptSubscription.{KeptSubscription}
use Rattle.ps_tables.specs.declared.tables.Tables.{Tables}
use Rattle.ps_core.specs.Changing.{KeepsRest, change_subscription, with_settings}
use Rattle.ps_tables.specs.Numbers.{changed_at, IsNumbered}
use Rattle.ps_tables.specs.Subscriptions.{filter_of, is_had, number_of}
use Rattle.ps_core.specs.Keeping.{IsKept, state_of, the_message, the_row}
use Rattle.ps_core.specs.State.{State}
use Rattle.ps_core.specs.Steady.{HasGoodSettings, IsCaughtUp, IsJoined, IsSteady, IsSteadySubscription}
use Rattle.ps_core.proofs.carrying.Kept.{IsSameHolder, kept-changed}
use Rattle.ps_tables.proofs.lists.Ordered.{ordered-map}

module _ (n : ℕ) (config : SubConfig) where
  abbrev put : KeptSubscription → KeptSubscription
  put x = if nat_eq x.number n then with_settings config x else x

  same : (x : KeptSubscription) → IsSameHolder (put x) x
  same x = by (nat_eq x.number n)
    where
      by : (b : Bool) → IsSameHolder (if b then with_settings config x else x) x
      by true = record { number = refl; name = refl; topic = refl; detached = refl; holds = λ k. refl }
      by false = record { number = refl; name = refl; topic = refl; detached = refl; holds = λ k. refl }

  due-same : (at : ℕ) (x : KeptSubscription) → list_any (is_due at) (put x).sub.slots ≡ list_any (is_due at) x.sub.slots
  due-same at x = by (nat_eq x.number n)
    where
      by : (b : Bool) → list_any (is_due at) (if b then with_settings config x else x).sub.slots ≡ list_any (is_due at) x.sub.slots
      by true = refl
      by false = refl

  had-same : (k : ℕ) (xs : List KeptSubscription) → is_had (map put xs) k ≡ is_had xs k
  had-same k [] = refl
  had-same k (x ∷ xs) = λ i. (same x).holds k i || had-same k xs i

  any-due-same : (at : ℕ) (xs : List KeptSubscription) → list_any (λ (x : KeptSubscription). list_any (is_due at) x.sub.slots) (map put xs) ≡ list_any (λ (x : KeptSubscription). list_any (is_due at) x.sub.slots) xs
  any-due-same at [] = refl
  any-due-same at (x ∷ xs) = λ i. due-same at x i || any-due-same at xs i

  joined-stays : (s : State) (xs : List KeptSubscription) (x y : KeptSubscription) → y.number ≡ x.number → y.sub.slots ≡ x.sub.slots → AllByRecursion (IsJoined s x) x.sub.slots → AllByRecursion (IsJoined (record s { subscriptions = xs }) y) y.sub.slots
  joined-stays s xs x y number slots h =
      subst (λ (ss : List Slot). AllByRecursion (IsJoined (record s { subscriptions = xs }) y) ss) (sym slots)
      (each-then (IsJoined s x) (IsJoined (record s { subscriptions = xs }) y) x.sub.slots
      (λ slot j. record { row = subst (λ (k : ℕ). slot_of s.messages (row_of k slot) ≡ slot) (sym number) j.row; number = j.number; publish = j.publish; here = j.here }) h)

  one-steady : (s : State) (xs : List KeptSubscription) → HasGoodSettings config → (x : KeptSubscription) → (nat_eq x.number n ≡ true → KeepsRest config x.sub.config) → IsSteadySubscription s x → IsSteadySubscription (record s { subscriptions = xs }) (put x)
  one-steady s xs good x rest h = by (nat_eq x.number n) rest
    where
      by : (b : Bool) → (b ≡ true → KeepsRest config x.sub.config) → IsSteadySubscription (record s { subscriptions = xs }) (if b then with_settings config x else x)
      by true rest = record {
        settings = good;
        filter = h.filter ∙ ap filter_of (sym (rest refl).filter);
        leases = h.leases;
        slots = h.slots;
        joined = joined-stays s xs x (with_settings config x) refl refl h.joined;
        caught_up = subst (λ (ordering : Bool). IsCaughtUp ordering x.sub.slots) (sym (rest refl).ordering) h.caught_up;
        detached = h.detached;
        topic = h.topic;
      }
      by false rest = record {
        settings = h.settings;
        filter = h.filter;
        leases = h.leases;
        slots = h.slots;
        joined = joined-stays s xs x x refl refl h.joined;
        caught_up = h.caught_up;
        detached = h.detached;
        topic = h.topic;
      }

  pub settings-steady : (s : State) → HasGoodSettings config → AllByRecursion (λ (x : KeptSubscription). nat_eq x.number n ≡ true → KeepsRest config x.sub.config) s.subscriptions → IsSteady s → IsSteady (change_subscription n (with_settings config) s)
  settings-steady s good rest h = record {
    now = h.now;
    count = h.count;
    topics = h.topics;
    topics_below = h.topics_below;
    topic_names = h.topic_names;
    topic_grammar = h.topic_grammar;
    topic_settings = h.topic_settings;
    topics_few = h.topics_few;
    subscriptions = ordered-map (λ (a b : KeptSubscription). a.number < b.number) (λ (a b : KeptSubscription). a.number < b.number) put s.subscriptions (λ a b up. omega (arith, up, (same a).number, (same b).number)) h.subscriptions;
    subscriptions_below = each-map (λ (x : KeptSubscription). x.number < s.next_sub) (λ (x : KeptSubscription). x.number < s.next_sub) put s.subscriptions (λ x below. omega (arith, below, (same x).number)) h.subscriptions_below;
    subscription_names = ordered-map (λ (a b : KeptSubscription). a.name ≢ b.name) (λ (a b : KeptSubscription). a.name ≢ b.name) put s.subscriptions (λ a b differ e. differ (sym (same a).name ∙ e ∙ (same b).name)) h.subscription_names;
    subscription_grammar = each-map (λ (x : KeptSubscription). is_sub_name x.name ≡ true) (λ (x : KeptSubscription). is_sub_name x.name ≡ true) put s.subscriptions (λ x is. ap is_sub_name (same x).name ∙ is) h.subscription_grammar;
    subs_few = h.subs_few;
    each = each-map (λ (x : KeptSubscription). IsSteadySubscription s x × (nat_eq x.number n ≡ true → KeepsRest config x.sub.config)) (IsSteadySubscription (record s { subscriptions = map put s.subscriptions })) put s.subscriptions
        (λ x both. one-steady s (map put s.subscriptions) good x both.1 both.0)
        (each-then-both (IsSteadySubscription s) (λ (x : KeptSubscription). nat_eq x.number n ≡ true → KeepsRest config x.sub.config) (λ (x : KeptSubscription). IsSteadySubscription s x × (nat_eq x.number n ≡ true → KeepsRest config x.sub.config)) s.subscriptions (λ x a b. (a, b)) h.each rest);
    messages = h.messages;
    messages_below = h.messages_below;
    messages_few = h.messages_few;
    kept = h.kept;
    wanted = each-then (λ (m : MessageRow). is_had s.subscriptions m.number ≡ true) (λ (m : MessageRow). is_had (map put s.subscriptions) m.number ≡ true) s.messages (λ m had. had-same m.number s.subscriptions ∙ had) h.wanted;
  }

  pub kept-settings : (s : State) (next_end : ℕ) (tables after : Tables) → IsKept s next_end tables → HasGoodSettings config → AllByRecursion (λ (x : KeptSubscription). nat_eq x.number n ≡ true → KeepsRest config x.sub.config) s.subscriptions
      → after.topics ≡ tables.topics → after.topic_numbers ≡ tables.topic_numbers → after.subscription_numbers ≡ tables.subscription_numbers → after.messages ≡ tables.messages → IsNumbered number_of after.subscriptions.entries
      → IsKept (change_subscription n (with_settings config) s) next_end after
  kept-settings s next_end tables after kept good rest topics topic_numbers subscription_numbers messages entries =
      kept-changed s (change_subscription n (with_settings config) s) next_end next_end tables after put kept (settings-steady s good rest kept.steady) (each-always (λ (x : KeptSubscription). IsSameHolder (put x) x) s.subscriptions same)
      refl refl topics topic_numbers subscription_numbers messages entries (λ at before. any-due-same at s.subscriptions ∙ kept.none_before at before)

  pub settings-view : (now count next_topic next_sub next_message : ℕ) (tables after : Tables) → after.topics ≡ tables.topics → after.messages ≡ tables.messages
      → values after.subscriptions ≡ changed_at number_of n (with_settings config) (values tables.subscriptions)
      → state_of now count next_topic next_sub next_message after ≡ change_subscription n (with_settings config) (state_of now count next_topic next_sub next_message tables)
  settings-view now count next_topic next_sub next_message tables after topics messages is = λ i. record {
    now = now;
    count = count;
    next_topic = next_topic;
    next_sub = next_sub;
    next_message = next_message;
    topics = map the_row (values (topics i));
    subscriptions = is i;
    messages = map the_message (values (messages i));
  }
