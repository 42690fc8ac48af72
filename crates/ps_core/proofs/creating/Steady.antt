-- A state with a new topic or a new subscription is steady.
use Rattle.ps_names.specs.Names.{is_topic_name, is_sub_name}
use Rattle.std.proofs.Common.{ℕ, ◌≡◌, ◌≢◌, ◌+◌, ◌<◌, ◌≤◌, true, false, List, [], ◌∷◌, None, find, refl, ◌∙◌, arith}
use Rattle.std.specs.List.{AllByRecursion}
use Rattle.std.proofs.lemmas.Bool.{or_left}
use Rattle.std.proofs.lemmas.List.Folds.{list_any-append}
use Rattle.ps_config.specs.declared.config.TopicConfig.{TopicConfig}
use Rattle.ps_config.specs.declared.config.SubConfig.{SubConfig}
use Rattle.ps_model.specs.declared.world.TopicRow.{TopicRow}
use Rattle.ps_model.specs.declared.world.MessageRow.{MessageRow}
use Rattle.ps_sub.specs.Showing.{has}
use Rattle.ps_tables.specs.declared.kept_subscription.KeptSubscription.{KeptSubscription}
use Rattle.ps_core.specs.Built.{unbuilt_topic_setting}
use Rattle.ps_core.specs.Effects.{add_topic, add_subscription, new_subscription}
use Rattle.ps_tables.specs.Subscriptions.{is_had}
use Rattle.ps_tables.specs.Members.{has_name}
use Rattle.ps_core.specs.Keeping.{has_topic_name}
use Rattle.ps_core.specs.State.{State}
use Rattle.ps_core.specs.Steady.{HasGoodSettings, IsJoined, IsSteadySubscription, IsSteady}
use Rattle.ps_base.proofs.Lists.{each-append, each-then}
use Rattle.ps_core.proofs.creating.Pushed.{other-names}
use Rattle.ps_tables.proofs.lists.Ordered.{ordered-append}

-- the one more is behind each of the others
behind : {A : Type 0} (R : A → A → Type 0) (P : A → Type 0) (xs : List A) (y : A) → ((x : A) → P x → R x y) → AllByRecursion P xs → AllByRecursion (λ x. AllByRecursion (R x) (y ∷ [])) xs
behind R P xs y k = each-then P (λ x. AllByRecursion (R x) (y ∷ [])) xs (λ x p. (k x p, tt))

pub topic-steady : (name : List ℕ) (config : TopicConfig) (s : State) → is_topic_name name ≡ true → IsSteady s → s.next_topic ≤ s.count → unbuilt_topic_setting config ≡ None → find (has_topic_name name) s.topics ≡ None → IsSteady (add_topic name config s)
topic-steady name config s spelled h few built new =
    let made : State = add_topic name config s in
    let row : TopicRow = record { number = s.next_topic; name = name; config = config } in
    let Before : TopicRow → TopicRow → Type 0 = λ (a b : TopicRow). a.number < b.number in
    let Other : TopicRow → TopicRow → Type 0 = λ (a b : TopicRow). a.name ≢ b.name in
    record {
      now = h.now;
      count = h.count;
      topics = ordered-append Before s.topics (row ∷ []) h.topics (tt, tt) (behind Before (λ (r : TopicRow). r.number < s.next_topic) s.topics row (λ r below. below) h.topics_below);
      topics_below =
          each-append (λ (r : TopicRow). r.number < s.next_topic + 1) s.topics (row ∷ [])
          (each-then (λ (r : TopicRow). r.number < s.next_topic) (λ (r : TopicRow). r.number < s.next_topic + 1) s.topics (λ r below. omega (arith, below)) h.topics_below) (omega arith, tt);
      topic_names = ordered-append Other s.topics (row ∷ []) h.topic_names (tt, tt) (behind Other (λ (r : TopicRow). r.name ≢ name) s.topics row (λ r other. other) (other-names (λ (r : TopicRow). r.name) name s.topics new));
      topic_grammar = each-append (λ (r : TopicRow). is_topic_name r.name ≡ true) s.topics (row ∷ []) h.topic_grammar (spelled, tt);
      topic_settings = each-append (λ (r : TopicRow). unbuilt_topic_setting r.config ≡ None) s.topics (row ∷ []) h.topic_settings (built, tt);
      topics_few = omega arith;
      subscriptions = h.subscriptions;
      subscriptions_below = h.subscriptions_below;
      subscription_names = h.subscription_names;
      subscription_grammar = h.subscription_grammar;
      subs_few = h.subs_few;
      each = each-then (IsSteadySubscription s) (IsSteadySubscription made) s.subscriptions stays h.each;
      messages = h.messages;
      messages_below = h.messages_below;
      messages_few = h.messages_few;
      kept = h.kept;
      wanted = h.wanted;
    }
  where
    stays : (x : KeptSubscription) → IsSteadySubscription s x → IsSteadySubscription (add_topic name config s) x
    stays x own = record {
      settings = own.settings;
      filter = own.filter;
      leases = own.leases;
      slots = own.slots;
      joined = each-then (IsJoined s x) (IsJoined (add_topic name config s) x) x.sub.slots (λ slot j. record { row = j.row; number = j.number; publish = j.publish; here = j.here }) own.joined;
      caught_up = own.caught_up;
      detached = own.detached;
      topic = omega (arith, own.topic);
    }

pub subscription-steady : (name : List ℕ) (topic : ℕ) (config : SubConfig) (s : State) → is_sub_name name ≡ true → IsSteady s → s.next_sub ≤ s.count → topic < s.next_topic → HasGoodSettings config → find (has_name name) s.subscriptions ≡ None → IsSteady (add_subscription name topic config s)
subscription-steady name topic config s spelled h few there good new =
    let made : State = add_subscription name topic config s in
    let x : KeptSubscription = new_subscription s.next_sub name topic config in
    let Before : KeptSubscription → KeptSubscription → Type 0 = λ (a b : KeptSubscription). a.number < b.number in
    let Other : KeptSubscription → KeptSubscription → Type 0 = λ (a b : KeptSubscription). a.name ≢ b.name in
    record {
      now = h.now;
      count = h.count;
      topics = h.topics;
      topics_below = h.topics_below;
      topic_names = h.topic_names;
      topic_grammar = h.topic_grammar;
      topic_settings = h.topic_settings;
      topics_few = h.topics_few;
      subscriptions = ordered-append Before s.subscriptions (x ∷ []) h.subscriptions (tt, tt) (behind Before (λ (y : KeptSubscription). y.number < s.next_sub) s.subscriptions x (λ y below. below) h.subscriptions_below);
      subscriptions_below =
          each-append (λ (y : KeptSubscription). y.number < s.next_sub + 1) s.subscriptions (x ∷ [])
          (each-then (λ (y : KeptSubscription). y.number < s.next_sub) (λ (y : KeptSubscription). y.number < s.next_sub + 1) s.subscriptions (λ y below. omega (arith, below)) h.subscriptions_below) (omega arith, tt);
      subscription_names =
          ordered-append Other s.subscriptions (x ∷ []) h.subscription_names (tt, tt)
          (behind Other (λ (y : KeptSubscription). y.name ≢ name) s.subscriptions x (λ y other. other) (other-names (λ (y : KeptSubscription). y.name) name s.subscriptions new));
      subscription_grammar = each-append (λ (y : KeptSubscription). is_sub_name y.name ≡ true) s.subscriptions (x ∷ []) h.subscription_grammar (spelled, tt);
      subs_few = omega arith;
      each =
          each-append (IsSteadySubscription made) s.subscriptions (x ∷ []) (each-then (IsSteadySubscription s) (IsSteadySubscription made) s.subscriptions stays h.each)
          (record { settings = good; filter = refl; leases = omega arith; slots = tt; joined = tt; caught_up = tt; detached = λ e. refl; topic = there }, tt);
      messages = h.messages;
      messages_below = h.messages_below;
      messages_few = h.messages_few;
      kept = h.kept;
      wanted = each-then (λ (m : MessageRow). is_had s.subscriptions m.number ≡ true) (λ (m : MessageRow). is_had made.subscriptions m.number ≡ true) s.messages
          (λ m had. list_any-append (λ (y : KeptSubscription). has y.sub.slots m.number) s.subscriptions (x ∷ []) ∙ or_left (is_had s.subscriptions m.number) false had) h.wanted;
    }
  where
    stays : (y : KeptSubscription) → IsSteadySubscription s y → IsSteadySubscription (add_subscription name topic config s) y
    stays y own = record {
      settings = own.settings;
      filter = own.filter;
      leases = own.leases;
      slots = own.slots;
      joined = each-then (IsJoined s y) (IsJoined (add_subscription name topic config s) y) y.sub.slots (λ slot j. record { row = j.row; number = j.number; publish = j.publish; here = j.here }) own.joined;
      caught_up = own.caught_up;
      detached = own.detached;
      topic = own.topic;
    }
