-- A state with fewer subscriptions, or with one that has nothing any more, lets go of the messages that none has.
use Rattle.std.proofs.Common.{◌≡◌, ◌≢◌, ◌<◌, ℕ, Bool, true, false, ◌||◌, cond, nat_eq, List, [], ◌∷◌, Option, Some, unwrap_or, find, filter, refl, sym, ap, ◌∙◌}
use Rattle.std.specs.List.{AllByRecursion}
use Rattle.std.proofs.lemmas.Bool.{eq-eqb, eqb-true, false≢true}
use Rattle.ps_base.proofs.Lists.{each-filter, each-left, each-then}
use Rattle.ps_model.specs.declared.mark.Slot.{Slot}
use Rattle.ps_model.specs.declared.world.MessageRow.{MessageRow}
use Rattle.ps_model.specs.Sound.{Ordered}
use Rattle.ps_model.specs.Worlds.{item_at, no_message}
use Rattle.ps_names.specs.Names.{is_sub_name}
use Rattle.ps_sub.specs.Showing.{has}
use Rattle.ps_tables.specs.declared.kept_subscription.KeptSubscription.{KeptSubscription}
use Rattle.ps_tables.specs.Subscriptions.{is_had}
use Rattle.ps_core.specs.Effects.{let_go}
use Rattle.ps_core.specs.State.{State}
use Rattle.ps_core.specs.Steady.{IsJoined, IsSteady, IsSteadySubscription}
use Rattle.ps_tables.proofs.lists.Ordered.{ordered-filter}

-- subscriptions as steady as those of the state were
pub record AreFewer (s : State) (ys : List KeptSubscription) : Type 0 where
  pub ordered : Ordered (λ (a b : KeptSubscription). a.number < b.number) ys
  pub below : AllByRecursion (λ (x : KeptSubscription). x.number < s.next_sub) ys
  pub names : Ordered (λ (a b : KeptSubscription). a.name ≢ b.name) ys
  pub grammar : AllByRecursion (λ (x : KeptSubscription). is_sub_name x.name ≡ true) ys
  pub each : AllByRecursion (IsSteadySubscription s) ys

-- the state with these subscriptions and their messages
abbrev pub left_with : List KeptSubscription → State → State
left_with ys s = let_go (record s { subscriptions = ys })

or-right : (a b : Bool) → b ≡ true → (a || b) ≡ true
or-right true b h = refl
or-right false b h = h

-- what each has is had
has-own : (slots : List Slot) → AllByRecursion (λ (slot : Slot). has slots slot.item.number ≡ true) slots
has-own [] = tt
has-own (z ∷ zs) = (
  ap (λ (b : Bool). b || has zs z.item.number) (eq-eqb z.item.number z.item.number refl),
  each-then (λ (slot : Slot). has zs slot.item.number ≡ true) (λ (slot : Slot). has (z ∷ zs) slot.item.number ≡ true) zs (λ slot h. or-right (nat_eq z.item.number slot.item.number) (has zs slot.item.number) h) (has-own zs),
)

abbrev AreHad : List KeptSubscription → KeptSubscription → Type 0
AreHad ys x = AllByRecursion (λ (slot : Slot). is_had ys slot.item.number ≡ true) x.sub.slots

slots-had : (ys : List KeptSubscription) → AllByRecursion (AreHad ys) ys
slots-had [] = tt
slots-had (y ∷ ys) = (
  each-then (λ (slot : Slot). has y.sub.slots slot.item.number ≡ true) (λ (slot : Slot). is_had (y ∷ ys) slot.item.number ≡ true) y.sub.slots (λ slot h. ap (λ (b : Bool). b || is_had ys slot.item.number) h) (has-own y.sub.slots),
  each-then (AreHad ys) (AreHad (y ∷ ys)) ys (λ x h. each-then (λ (slot : Slot). is_had ys slot.item.number ≡ true) (λ (slot : Slot). is_had (y ∷ ys) slot.item.number ≡ true) x.sub.slots (λ slot had. or-right (has y.sub.slots slot.item.number) (is_had ys slot.item.number) had) h) (slots-had ys),
)

-- a message that stays is found as before
found-kept : (test : ℕ → Bool) (k : ℕ) (ms : List MessageRow) → test k ≡ true → find (λ (m : MessageRow). nat_eq m.number k) (filter (λ (m : MessageRow). test m.number) ms) ≡ find (λ (m : MessageRow). nat_eq m.number k) ms
found-kept test k [] h = refl
found-kept test k (m ∷ ms) h = by (nat_eq m.number k) refl (test m.number) refl (found-kept test k ms h)
  where
    here : MessageRow → Bool
    here r = nat_eq r.number k

    left : List MessageRow
    left = filter (λ (r : MessageRow). test r.number) ms

    by : (a : Bool) → nat_eq m.number k ≡ a → (b : Bool) → test m.number ≡ b → find here left ≡ find here ms
        → find here (cond (test m.number) (m ∷ left) left) ≡ cond (nat_eq m.number k) (Some m) (find here ms)
    by true own true stays rest = rw (stays, own) refl
    by true own false stays rest = absurd (false≢true (sym stays ∙ ap test (eqb-true m.number k own) ∙ h))
    by false own true stays rest = rw (stays, own) rest
    by false own false stays rest = rw (stays, own) rest

abbrev slot_with : MessageRow → Slot → Slot
slot_with r slot = record { item = item_at slot.item.number r; mark = slot.mark }

module _ (s : State) (ys : List KeptSubscription) where
  joined-left : (x : KeptSubscription) (slot : Slot) → is_had ys slot.item.number ≡ true → IsJoined s x slot → IsJoined (left_with ys s) x slot
  joined-left x slot had j = record {
    row =
        ap (λ (o : Option MessageRow). slot_with (unwrap_or o (no_message slot.item.number)) slot) (found-kept (is_had ys) slot.item.number s.messages had) ∙ j.row;
    number = j.number;
    publish = j.publish;
    here = j.here;
  }

  steady-left : (x : KeptSubscription) → AreHad ys x → IsSteadySubscription s x → IsSteadySubscription (left_with ys s) x
  steady-left x had h = record {
    settings = h.settings;
    filter = h.filter;
    leases = h.leases;
    slots = h.slots;
    joined = joins x.sub.slots had h.joined;
    caught_up = h.caught_up;
    detached = h.detached;
    topic = h.topic;
  }
    where
      joins : (slots : List Slot) → AllByRecursion (λ (slot : Slot). is_had ys slot.item.number ≡ true) slots → AllByRecursion (IsJoined s x) slots → AllByRecursion (IsJoined (left_with ys s) x) slots
      joins [] a b = tt
      joins (z ∷ zs) a b = (joined-left x z a.0 b.0, joins zs a.1 b.1)

  each-left-with : (xs : List KeptSubscription) → AllByRecursion (AreHad ys) xs → AllByRecursion (IsSteadySubscription s) xs → AllByRecursion (IsSteadySubscription (left_with ys s)) xs
  each-left-with [] a b = tt
  each-left-with (x ∷ xs) a b = (steady-left x a.0 b.0, each-left-with xs a.1 b.1)

  abbrev is_left : MessageRow → Bool
  is_left m = is_had ys m.number

  pub let_go-steady : IsSteady s → AreFewer s ys → IsSteady (left_with ys s)
  let_go-steady h fewer = record {
    now = h.now;
    count = h.count;
    topics = h.topics;
    topics_below = h.topics_below;
    topic_names = h.topic_names;
    topic_grammar = h.topic_grammar;
    topic_settings = h.topic_settings;
    topics_few = h.topics_few;
    subscriptions = fewer.ordered;
    subscriptions_below = fewer.below;
    subscription_names = fewer.names;
    subscription_grammar = fewer.grammar;
    subs_few = h.subs_few;
    each = each-left-with ys (slots-had ys) fewer.each;
    messages = ordered-filter (λ (a b : MessageRow). a.number < b.number) is_left s.messages h.messages;
    messages_below = each-left (λ (m : MessageRow). m.number < s.next_message) is_left s.messages h.messages_below;
    messages_few = h.messages_few;
    kept = each-left (λ (m : MessageRow). m.kept ≡ true) is_left s.messages h.kept;
    wanted = each-filter (λ (m : MessageRow). m.kept ≡ true) (λ (m : MessageRow). is_had ys m.number ≡ true) is_left s.messages (λ m had kept. had) h.kept;
  }
