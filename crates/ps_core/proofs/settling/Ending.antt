-- Leases that end: what stays of a state, and of the world that it stands for.
use Rattle.ps_names.specs.Names.{is_sub_name}
use Rattle.std.proofs.Common.{ℕ, ◌≡◌, ◌≢◌, ◌<◌, ◌+◌, Bool, true, false, ◌||◌, nat_eq, List, [], ◌∷◌, ◌++◌, None, map, flat_map, is_some, append-nil, refl, sym, subst, ◌∙◌, ap, arith, if◌then◌else◌}
use Rattle.std.specs.BTreeMap.{values}
use Rattle.std.specs.List.{AllByRecursion, list_any}
use Rattle.std.proofs.lemmas.Bool.{and_right, cond_both, false≢true}
use Rattle.ps_model.specs.declared.mark.Mark.{Mark}
use Rattle.ps_model.specs.declared.mark.Mark.TheVariants.{Backlog, Leased, Ahead, Done, Gone}
use Rattle.ps_model.specs.declared.mark.Slot.{Slot}
use Rattle.ps_config.specs.declared.config.SubConfig.{SubConfig}
use Rattle.ps_model.specs.declared.world.World.{World}
use Rattle.ps_model.specs.declared.world.SubRow.{SubRow}
use Rattle.ps_model.specs.declared.world.MessageRow.{MessageRow}
use Rattle.ps_model.specs.Failing.{failed, fallen, mark_after_failing, fail, is_due, dead_letter, dead_letters}
use Rattle.ps_model.specs.Forwarding.{Letter, letters_of, dead_topic, forward, entered, enter_all}
use Rattle.ps_model.specs.Settling.{end_leases, ended_letters, expunge_world, settle}
use Rattle.ps_model.specs.Slots.{any_earlier, is_ahead, is_unacked, remark, remarked}
use Rattle.ps_model.specs.Worlds.{slots_of}
use Rattle.ps_sub.specs.Showing.{has}
use Rattle.ps_sub.proofs.SteadyLemmas.{failing-live}
use Rattle.ps_tables.specs.declared.kept_subscription.KeptSubscription.{KeptSubscription}
use Rattle.ps_core.specs.State.{State, seen, sub_row}
use Rattle.ps_tables.specs.Subscriptions.{number_of, is_had, with_slots}
use Rattle.ps_core.specs.Steady.{HasGoodSettings, IsJoined, IsSteadySubscription, IsSteady}
use Rattle.ps_core.specs.Effects.{settle_subscription, settle_state}
use Rattle.ps_core.specs.Keeping.{IsKept}
use Rattle.ps_tables.specs.Numbers.{IsNumbered}
use Rattle.ps_core.specs.Settling.{has_due}
use Rattle.ps_tables.specs.declared.tables.Tables.{Tables}
use Rattle.ps_base.proofs.Lists.{each-always, each-map, each-then}
use Rattle.ps_core.proofs.carrying.Kept.{IsSameHolder, kept-changed}
use Rattle.ps_tables.proofs.lists.Ordered.{ordered-map}
use Rattle.ps_core.proofs.settling.CaughtUp.{caught_up-kept}
use Rattle.ps_core.proofs.settling.Expunging.{expunge-seen, rows-steady}
use Rattle.ps_core.proofs.checking.Faults.{plainly}
use Rattle.ps_core.proofs.settling.Passes.{pass-seen, remark_subscription}

-- ---- without a dead-letter topic a failure acknowledges nothing

module _ (at : ℕ) (config : SubConfig) (no_letter : config.dead_letter ≡ None) where
  failed-unacked : (m : Mark) → is_unacked m ≡ true → is_unacked (failed at false config m) ≡ true
  failed-unacked (Backlog failures until last) h = refl
  failed-unacked (Leased failures lease deadline) h = rw no_letter refl
  failed-unacked (Ahead failures) h = absurd (false≢true h)
  failed-unacked (Done cause) h = absurd (false≢true h)
  failed-unacked (Gone cause) h = absurd (false≢true h)

  failed-ahead : (m : Mark) → is_ahead (failed at false config m) ≡ true → is_ahead m ≡ true
  failed-ahead (Backlog failures until last) h = absurd (false≢true h)
  failed-ahead (Leased failures lease deadline) h = absurd (false≢true (rw no_letter at h))
  failed-ahead (Ahead failures) h = refl
  failed-ahead (Done cause) h = absurd (false≢true h)
  failed-ahead (Gone cause) h = absurd (false≢true h)

  fallen-unacked : (m : Mark) → is_unacked m ≡ true → is_unacked (fallen m) ≡ true
  fallen-unacked (Backlog failures until last) h = refl
  fallen-unacked (Leased failures lease deadline) h = refl
  fallen-unacked (Ahead failures) h = refl
  fallen-unacked (Done cause) h = h
  fallen-unacked (Gone cause) h = h

  fallen-ahead : (m : Mark) → is_ahead (fallen m) ≡ true → is_ahead m ≡ true
  fallen-ahead (Backlog failures until last) h = h
  fallen-ahead (Leased failures lease deadline) h = absurd (false≢true h)
  fallen-ahead (Ahead failures) h = refl
  fallen-ahead (Done cause) h = h
  fallen-ahead (Gone cause) h = h

  module _ (fails : Slot → Bool) (slots : List Slot) where
    pub failing-unacked : (slot : Slot) → is_unacked slot.mark ≡ true → is_unacked (mark_after_failing fails at false config slots slot) ≡ true
    failing-unacked slot h =
        cond_both (fails slot) (failed at false config slot.mark) (if any_earlier config.ordering fails slots slot then fallen slot.mark else slot.mark) (λ (m : Mark). is_unacked m ≡ true)
        (λ _. failed-unacked slot.mark h)
        (λ _. cond_both (any_earlier config.ordering fails slots slot) (fallen slot.mark) slot.mark (λ (m : Mark). is_unacked m ≡ true) (λ _. fallen-unacked slot.mark h) (λ _. h))

    pub failing-ahead : (slot : Slot) → is_ahead (mark_after_failing fails at false config slots slot) ≡ true → is_ahead slot.mark ≡ true
    failing-ahead slot =
        cond_both (fails slot) (failed at false config slot.mark) (if any_earlier config.ordering fails slots slot then fallen slot.mark else slot.mark) (λ (m : Mark). is_ahead m ≡ true → is_ahead slot.mark ≡ true)
        (λ _. failed-ahead slot.mark)
        (λ _. cond_both (any_earlier config.ordering fails slots slot) (fallen slot.mark) slot.mark (λ (m : Mark). is_ahead m ≡ true → is_ahead slot.mark ≡ true) (λ _. fallen-ahead slot.mark) (λ _ h. h))

pub has-remarked : (rule : Slot → Mark) (number : ℕ) (slots : List Slot) → has (remarked rule slots) number ≡ has slots number
has-remarked rule number [] = refl
has-remarked rule number (slot ∷ slots) = ap (λ (later : Bool). nat_eq slot.item.number number || later) (has-remarked rule number slots)

-- subscriptions that have the same messages as before
pub had-mapped : (f : KeptSubscription → KeptSubscription) (number : ℕ) → ((x : KeptSubscription) → has (f x).sub.slots number ≡ has x.sub.slots number) → (xs : List KeptSubscription) → is_had (map f xs) number ≡ is_had xs number
had-mapped f number h [] = refl
had-mapped f number h (x ∷ xs) = λ i. h x i || had-mapped f number h xs i

settle-had : (at number : ℕ) (xs : List KeptSubscription) → is_had (map (settle_subscription at) xs) number ≡ is_had xs number
settle-had at number xs = had-mapped (settle_subscription at) number (λ x. has-remarked (mark_after_failing (is_due at) at false x.sub.config x.sub.slots) number x.sub.slots) xs

settle-joined : (at : ℕ) (s : State) (x : KeptSubscription) (slot : Slot) → IsJoined s x slot
    → IsJoined (settle_state at s) (settle_subscription at x) (remark slot (mark_after_failing (is_due at) at false x.sub.config x.sub.slots slot))
settle-joined at s x slot h =
    let mark : Mark = mark_after_failing (is_due at) at false x.sub.config x.sub.slots slot in
    record {
      row = ap (λ (e : Slot). remark e mark) h.row;
      number = h.number;
      publish = h.publish;
      here = failing-live (is_due at) at false x.sub.config x.sub.slots slot h.here;
    }

settle-subscription-steady : (at : ℕ) (s : State) (x : KeptSubscription) → IsSteadySubscription s x → IsSteadySubscription (settle_state at s) (settle_subscription at x)
settle-subscription-steady at s x h =
    let rule : Slot → Mark = mark_after_failing (is_due at) at false x.sub.config x.sub.slots in
    record {
      settings = h.settings;
      filter = h.filter;
      leases = h.leases;
      slots = ordered-map (λ (a b : Slot). a.item.number < b.item.number) (λ (a b : Slot). a.item.number < b.item.number) (λ (slot : Slot). remark slot (rule slot)) x.sub.slots (λ a b up. up) h.slots;
      joined = each-map (IsJoined s x) (IsJoined (settle_state at s) (settle_subscription at x)) (λ (slot : Slot). remark slot (rule slot)) x.sub.slots (settle-joined at s x) h.joined;
      caught_up =
          let no_letter = (plainly x.sub.config h.settings.built).dead_letter in
          caught_up-kept x.sub.config.ordering rule (failing-unacked at x.sub.config no_letter (is_due at) x.sub.slots) (failing-ahead at x.sub.config no_letter (is_due at) x.sub.slots) x.sub.slots h.caught_up;
      detached = λ e. ap (remarked rule) (h.detached e);
      topic = h.topic;
    }

-- What the end of leases leaves of a steady state is steady.
pub settle-steady : (at : ℕ) (s : State) → IsSteady s → IsSteady (settle_state at s)
settle-steady at s h = record {
  now = h.now;
  count = h.count;
  topics = h.topics;
  topics_below = h.topics_below;
  topic_names = h.topic_names;
  topic_grammar = h.topic_grammar;
  topic_settings = h.topic_settings;
  topics_few = h.topics_few;
  subscriptions = ordered-map (λ (a b : KeptSubscription). a.number < b.number) (λ (a b : KeptSubscription). a.number < b.number) (settle_subscription at) s.subscriptions (λ a b up. up) h.subscriptions;
  subscriptions_below = each-map (λ (x : KeptSubscription). x.number < s.next_sub) (λ (x : KeptSubscription). x.number < s.next_sub) (settle_subscription at) s.subscriptions (λ x below. below) h.subscriptions_below;
  subscription_names = ordered-map (λ (a b : KeptSubscription). a.name ≢ b.name) (λ (a b : KeptSubscription). a.name ≢ b.name) (settle_subscription at) s.subscriptions (λ a b differ. differ) h.subscription_names;
  subscription_grammar = each-map (λ (x : KeptSubscription). is_sub_name x.name ≡ true) (λ (x : KeptSubscription). is_sub_name x.name ≡ true) (settle_subscription at) s.subscriptions (λ x is. is) h.subscription_grammar;
  subs_few = h.subs_few;
  each = each-map (IsSteadySubscription s) (IsSteadySubscription (settle_state at s)) (settle_subscription at) s.subscriptions (settle-subscription-steady at s) h.each;
  messages = h.messages;
  messages_below = h.messages_below;
  messages_few = h.messages_few;
  kept = h.kept;
  wanted = each-then (λ (m : MessageRow). is_had s.subscriptions m.number ≡ true) (λ (m : MessageRow). is_had (settle_state at s).subscriptions m.number ≡ true) s.messages (λ m had. settle-had at m.number s.subscriptions ∙ had) h.wanted;
}

-- without a policy no dead letter has a topic
pub forward-no : (w : World) (x : KeptSubscription) → HasGoodSettings x.sub.config → is_some (dead_topic w (sub_row x)) ≡ false
forward-no w x settings = rw (plainly x.sub.config settings.built).dead_letter refl

ends-subscription : (at : ℕ) (w : World) (x : KeptSubscription) → HasGoodSettings x.sub.config → remark_subscription (λ sub. mark_after_failing (is_due at) at (is_some (dead_topic w sub)) sub.config) x ≡ settle_subscription at x
ends-subscription at w x settings = ap (λ (forward : Bool). with_slots x (fail (is_due at) at forward x.sub.config x.sub.slots)) (forward-no w x settings)

ends-subscriptions : (at : ℕ) (w : World) (xs : List KeptSubscription) → AllByRecursion (λ (x : KeptSubscription). HasGoodSettings x.sub.config) xs
    → map (remark_subscription (λ sub. mark_after_failing (is_due at) at (is_some (dead_topic w sub)) sub.config)) xs ≡ map (settle_subscription at) xs
ends-subscriptions at w [] h = refl
ends-subscriptions at w (x ∷ xs) h = λ i. ends-subscription at w x h.0 i ∷ ends-subscriptions at w xs h.1 i

pub settings-steady : (s : State) → IsSteady s → AllByRecursion (λ (x : KeptSubscription). HasGoodSettings x.sub.config) s.subscriptions
settings-steady s h = each-then (IsSteadySubscription s) (λ (x : KeptSubscription). HasGoodSettings x.sub.config) s.subscriptions (λ x own. own.settings) h.each

pub ends-seen : (at : ℕ) (s : State) → IsSteady s → end_leases at (seen s) ≡ seen (settle_state at s)
ends-seen at s h =
    pass-seen (λ sub. mark_after_failing (is_due at) at (is_some (dead_topic (seen s) sub)) sub.config) s h.subscriptions (rows-steady s h)
    ∙ ap (λ (xs : List KeptSubscription). seen (record s { subscriptions = xs })) (ends-subscriptions at (seen s) s.subscriptions (settings-steady s h))

no-letter : (fails : Slot → Bool) (forward : Bool) (config : SubConfig) → HasGoodSettings config → (m : Mark) (slot : Slot) → dead_letter fails forward config m slot ≡ None
no-letter fails forward config settings (Leased failures lease deadline) slot = rw ((plainly config settings.built).dead_letter, and_right (fails slot) false refl) refl
no-letter fails forward config settings (Backlog failures until last) slot = refl
no-letter fails forward config settings (Ahead failures) slot = refl
no-letter fails forward config settings (Done cause) slot = refl
no-letter fails forward config settings (Gone cause) slot = refl

pub no-letters : (fails : Slot → Bool) (forward : Bool) (config : SubConfig) → HasGoodSettings config → (slots : List Slot) → dead_letters fails forward config slots ≡ []
no-letters fails forward config settings [] = refl
no-letters fails forward config settings (slot ∷ slots) = rw (no-letter fails forward config settings slot.mark slot) (no-letters fails forward config settings slots)

pub letters-none : (at : ℕ) (s : State) → IsSteady s → ended_letters at (seen s) ≡ []
letters-none at s h = each s.subscriptions (settings-steady s h)
  where
    letters : SubRow → List Letter
    letters sub = letters_of (seen s) sub (dead_letters (is_due at) (is_some (dead_topic (seen s) sub)) sub.config (slots_of (seen s) sub.number))

    of_one : (x : KeptSubscription) → HasGoodSettings x.sub.config → letters (sub_row x) ≡ []
    of_one x settings = ap (letters_of (seen s) (sub_row x)) (no-letters (is_due at) (is_some (dead_topic (seen s) (sub_row x))) x.sub.config settings (slots_of (seen s) x.number))

    each : (xs : List KeptSubscription) → AllByRecursion (λ (x : KeptSubscription). HasGoodSettings x.sub.config) xs → flat_map letters (map sub_row xs) ≡ []
    each [] h = refl
    each (x ∷ xs) h = λ i. of_one x h.0 i ++ each xs h.1 i

-- no dead letter brings nothing
pub forward-none : (at : ℕ) (w : World) → forward at [] w ≡ w
forward-none at w = λ i. record w { next_message = stays w.next_message i; messages = append-nil w.messages i; marks = enter_all (none w.subs i) w.marks }
  where
    stays : (n : ℕ) → n + 0 ≡ n
    stays n = omega arith

    none : (subs : List SubRow) → flat_map (λ (sub : SubRow). entered sub []) subs ≡ []
    none [] = refl
    none (sub ∷ subs) = none subs

-- Settling ends the leases that are over, and does nothing else.
pub settle-seen : (at : ℕ) (s : State) → IsSteady s → settle at (seen s) ≡ seen (settle_state at s)
settle-seen at s h =
    ap (λ (letters : List Letter). expunge_world at (forward at letters (end_leases at (seen s)))) (letters-none at s h)
    ∙ ap (expunge_world at) (forward-none at (end_leases at (seen s)) ∙ ends-seen at s h)
    ∙ expunge-seen at (settle_state at s) (settle-steady at s h)

-- ---- what is kept beside the state

settled-holder : (at : ℕ) (x : KeptSubscription) → IsSameHolder (settle_subscription at x) x
settled-holder at x = record { number = refl; name = refl; topic = refl; detached = refl; holds = λ n. has-remarked (mark_after_failing (is_due at) at false x.sub.config x.sub.slots) n x.sub.slots }

-- What is kept beside a state stays right where the subscriptions are settled.
pub kept-settled : (at : ℕ) (s : State) (next_end next : ℕ) (tables after : Tables) → IsKept s next_end tables → s.subscriptions ≡ values tables.subscriptions → values after.subscriptions ≡ map (settle_subscription at) (values tables.subscriptions)
    → after.topics ≡ tables.topics → after.topic_numbers ≡ tables.topic_numbers → after.subscription_numbers ≡ tables.subscription_numbers → after.messages ≡ tables.messages → IsNumbered number_of after.subscriptions.entries
    → ((u : ℕ) → u < next → list_any (has_due u) (values after.subscriptions) ≡ false) → IsKept (record s { subscriptions = values after.subscriptions }) next after
kept-settled at s next_end next tables after kept own is topics topic_numbers subscription_numbers messages entries none =
    let settled : values after.subscriptions ≡ map (settle_subscription at) s.subscriptions = is ∙ ap (map (settle_subscription at)) (sym own) in
    kept-changed s (record s { subscriptions = values after.subscriptions }) next_end next tables after (settle_subscription at) kept
    (subst (λ (xs : List KeptSubscription). IsSteady (record s { subscriptions = xs })) (sym settled) (settle-steady at s kept.steady))
    (each-always (λ (x : KeptSubscription). IsSameHolder (settle_subscription at x) x) s.subscriptions (settled-holder at)) settled refl topics topic_numbers subscription_numbers messages entries none
