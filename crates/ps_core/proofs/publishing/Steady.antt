-- A state with new messages is steady.
use Rattle.ps_names.specs.Names.{is_sub_name}
use Rattle.std.proofs.Common.{ℕ, ◌≡◌, ◌≢◌, ◌+◌, ◌*◌, ◌^◌, ◌<◌, ◌≤◌, Bool, true, false, ◌&&◌, not, nat_eq, List, [], ◌∷◌, ◌++◌, Option, Some, unwrap_or, map, filter, length, refl, sym, ◌∙◌, ap, subst, arith}
use Rattle.std.specs.List.{AllByRecursion}
use Rattle.std.proofs.lemmas.Bool.{and_parts, both_ways, cond_both, eq-eqb, ne_eqb}
use Rattle.ps_base.specs.Moments.{last_moment}
use Rattle.ps_message.specs.declared.message.Message.{Message}
use Rattle.ps_message.specs.Limits.{most_messages}
use Rattle.ps_model.specs.declared.mark.Slot.{Slot}
use Rattle.ps_model.specs.declared.world.MessageRow.{MessageRow}
use Rattle.ps_model.specs.Forwarding.{message_rows}
use Rattle.ps_model.specs.Seeking.{fresh}
use Rattle.ps_model.specs.Slots.{is_ahead}
use Rattle.ps_model.specs.Sound.{Ordered}
use Rattle.ps_model.specs.Worlds.{item_at, message_numbered, no_message, row_of, slot_of}
use Rattle.ps_sub.specs.Showing.{has}
use Rattle.ps_tables.specs.declared.kept_subscription.KeptSubscription.{KeptSubscription}
use Rattle.ps_core.specs.State.{State}
use Rattle.ps_core.specs.Steady.{HasGoodSettings, IsCaughtUp, IsJoined, IsSteadySubscription, IsSteady}
use Rattle.ps_core.specs.Effects.{add_published, recorded_at}
use Rattle.ps_tables.specs.Subscriptions.{enter_subscription, filter_of, is_attached, is_had, slot_in, wanted_of}
use Rattle.ps_tables.specs.Entering.{enter_wanted, is_wanted}
use Rattle.ps_base.proofs.Lists.{each-always, each-append, each-both, each-filter, each-left, each-map, each-then, each-then-both, find-behind, find-front, find-none}
use Rattle.ps_tables.proofs.lists.Filtered.{filter-all}
use Rattle.ps_tables.proofs.lists.Ordered.{ordered-append, ordered-map}
use Rattle.ps_core.proofs.marks.Flat.{Joined}
use Rattle.ps_core.proofs.publishing.Had.{new-from, old-had, own-had, slots-below}
use Rattle.ps_tables.proofs.publishing.Holders.{rows-in}
use Rattle.ps_tables.proofs.publishing.Rows.{rows-from, rows-kept, rows-length, rows-ordered, rows-published, rows-to}
use Rattle.ps_core.proofs.settling.CaughtUp.{caught_up-more}
use Rattle.ps_core.proofs.publishing.World.{new_slots, number-entered, slots-entered}

-- ---- look-ups among the messages

message-old : (messages left : List MessageRow) (next n : ℕ) → n < next → AllByRecursion (λ (m : MessageRow). next ≤ m.number) left → message_numbered (messages ++ left) n ≡ message_numbered messages n
message-old messages left next n below from =
    find-front (λ (m : MessageRow). nat_eq m.number n) messages left
    (find-none (λ (m : MessageRow). nat_eq m.number n) left
    (each-then (λ (m : MessageRow). next ≤ m.number) (λ (m : MessageRow). nat_eq m.number n ≡ false) left (λ m k. ne_eqb m.number n (λ e. omega (arith, below, k, e))) from))

message-new : (messages left : List MessageRow) (next n : ℕ) → next ≤ n → AllByRecursion (λ (m : MessageRow). m.number < next) messages → message_numbered (messages ++ left) n ≡ message_numbered left n
message-new messages left next n from below =
    find-behind (λ (m : MessageRow). nat_eq m.number n) messages left
    (each-then (λ (m : MessageRow). m.number < next) (λ (m : MessageRow). nat_eq m.number n ≡ false) messages (λ m k. ne_eqb m.number n (λ e. omega (arith, from, k, e))) below)

-- each of the rows that passes is found by its number among those that pass
passing-found : (test : MessageRow → Bool) (rows : List MessageRow) → Ordered (λ (a b : MessageRow). a.number < b.number) rows → AllByRecursion (λ (m : MessageRow). test m ≡ true → message_numbered (filter test rows) m.number ≡ Some m) rows
passing-found test [] h = tt
passing-found test (r ∷ rs) h = (
  λ e. rw (e, eq-eqb r.number r.number refl) refl,
  each-then-both (λ (m : MessageRow). r.number < m.number) (λ (m : MessageRow). test m ≡ true → message_numbered (filter test rs) m.number ≡ Some m) (λ (m : MessageRow). test m ≡ true → message_numbered (filter test (r ∷ rs)) m.number ≡ Some m) rs
      (λ m above own e. let other : nat_eq r.number m.number ≡ false = ne_eqb r.number m.number (λ k. omega (arith, above, k)) in
      cond_both (test r) (r ∷ filter test rs) (filter test rs) (λ (left : List MessageRow). message_numbered left m.number ≡ Some m) (λ _. rw (other) (own e)) (λ _. own e)) h.0 (passing-found test rs h.1),
)

-- the rows that pass are in order
ordered-left : (test : MessageRow → Bool) (rows : List MessageRow) → Ordered (λ (a b : MessageRow). a.number < b.number) rows → Ordered (λ (a b : MessageRow). a.number < b.number) (filter test rows)
ordered-left test [] h = tt
ordered-left test (r ∷ rs) h =
    cond_both (test r) (r ∷ filter test rs) (filter test rs) (Ordered (λ (a b : MessageRow). a.number < b.number))
    (λ e. (each-left (λ (m : MessageRow). r.number < m.number) test rs h.0, ordered-left test rs h.1)) (λ e. ordered-left test rs h.1)

-- no new message is ahead
new-not-ahead : (rows : List MessageRow) → AllByRecursion (λ (slot : Slot). is_ahead slot.mark ≡ false) (map slot_in rows)
new-not-ahead [] = tt
new-not-ahead (r ∷ rs) = (refl, new-not-ahead rs)

-- ---- one publish

module _ (at topic : ℕ) (messages : List Message) (s : State) (steady : IsSteady s) (later : s.now ≤ at) where
  abbrev rows : List MessageRow
  rows = message_rows topic s.next_message at messages

  abbrev after : ℕ
  after = s.next_message + length (message_rows topic s.next_message at messages)

  abbrev made : State
  made = recorded_at at (add_published at topic messages s)

  abbrev left : List MessageRow
  left = filter (λ (m : MessageRow). is_had (map (enter_subscription topic (message_rows topic s.next_message at messages)) s.subscriptions) m.number) (message_rows topic s.next_message at messages)

  left-from : AllByRecursion (λ (m : MessageRow). s.next_message ≤ m.number) left
  left-from = each-left (λ (m : MessageRow). s.next_message ≤ m.number) _ rows (rows-from topic s.next_message s.next_message at messages (omega arith))

  -- a slot of a message that was there
  joined-old : (x y : KeptSubscription) (slot : Slot) → IsJoined s x slot → IsJoined made y slot
  joined-old x y slot h = record {
    row =
        ap (λ (found : Option MessageRow). record { item = item_at slot.item.number (unwrap_or found (no_message slot.item.number)); mark = slot.mark })
        (message-old s.messages left s.next_message slot.item.number h.number left-from)
        ∙ h.row;
    number = omega (arith, h.number);
    publish = omega (arith, h.publish, later);
    here = h.here;
  }

  -- what a new message's row meets
  record IsRow (x : KeptSubscription) (m : MessageRow) : Type 0 where
    from : s.next_message ≤ m.number
    to : m.number < after
    published : m.publish ≡ at
    found : is_had (map (enter_subscription topic rows) s.subscriptions) m.number ≡ true → message_numbered left m.number ≡ Some m
    own : has (enter_subscription topic rows x).sub.slots m.number ≡ (is_attached topic x && is_wanted x m.message)

  rows-are : (x : KeptSubscription) → IsSteadySubscription s x → AllByRecursion (IsRow x) rows
  rows-are x h =
      let had : MessageRow → Bool = λ m. is_had (map (enter_subscription topic rows) s.subscriptions) m.number in
      let up = rows-ordered topic s.next_message at messages in
      let from = rows-from topic s.next_message s.next_message at messages (omega arith) in
      each-then (λ (m : MessageRow). ((s.next_message ≤ m.number) × (m.number < after)) × ((m.publish ≡ at) × ((had m ≡ true → message_numbered left m.number ≡ Some m) × (has (enter_subscription topic rows x).sub.slots m.number ≡ (is_attached topic x && is_wanted x m.message))))) (IsRow x) rows
      (λ m k. record { from = k.0.0; to = k.0.1; published = k.1.0; found = k.1.1.0; own = k.1.1.1 })
      (each-both _ _ rows
      (each-both (λ (m : MessageRow). s.next_message ≤ m.number) (λ (m : MessageRow). m.number < after) rows from (rows-to topic after s.next_message at messages (omega (arith, rows-length topic s.next_message at messages))))
      (each-both (λ (m : MessageRow). m.publish ≡ at) _ rows (rows-published topic s.next_message at messages)
      (each-both (λ (m : MessageRow). had m ≡ true → message_numbered left m.number ≡ Some m) (λ (m : MessageRow). has (enter_subscription topic rows x).sub.slots m.number ≡ (is_attached topic x && is_wanted x m.message)) rows
      (passing-found had rows up) (rows-in topic s.next_message rows x up from (slots-below s x h)))))

  -- a slot of a new message
  joined-new : (x y : KeptSubscription) (m : MessageRow) → IsRow x m → is_had (map (enter_subscription topic rows) s.subscriptions) m.number ≡ true → IsJoined made y (slot_in m)
  joined-new x y m h had = record {
    row =
        ap (λ (found : Option MessageRow). record { item = item_at m.number (unwrap_or found (no_message m.number)); mark = fresh })
        (message-new s.messages left s.next_message m.number h.from steady.messages_below ∙ h.found had);
    number = h.to;
    publish = omega (arith, h.published);
    here = refl;
  }

  -- the new slots of one subscription
  record NewSlots (x y : KeptSubscription) (slots : List Slot) : Type 0 where
    up : Ordered (λ (a b : Slot). a.item.number < b.item.number) slots
    joined : AllByRecursion (IsJoined made y) slots

  new-right : (x y : KeptSubscription) → IsSteadySubscription s x → ((n : ℕ) → has (enter_subscription topic rows x).sub.slots n ≡ true → is_had (map (enter_subscription topic rows) s.subscriptions) n ≡ true) → NewSlots x y (new_slots topic rows x)
  new-right x y h own_had =
      cond_both (is_attached topic x) (map slot_in (wanted_of x rows)) [] (NewSlots x y)
      (λ e. record {
        up = ordered-map (λ (a b : MessageRow). a.number < b.number) (λ (a b : Slot). a.item.number < b.item.number) slot_in (wanted_of x rows) (λ a b k. k) (ordered-left (λ (m : MessageRow). is_wanted x m.message) rows (rows-ordered topic s.next_message at messages));
        joined = each-map (IsJoinedRow x y) (IsJoined made y) slot_in (wanted_of x rows) (λ m k. k)
            (each-filter (IsRow x) (IsJoinedRow x y) (λ (m : MessageRow). is_wanted x m.message) rows
            (λ m wanted k. let holds : (is_attached topic x && is_wanted x m.message) ≡ true = (λ i. e i && wanted i) in
            joined-new x y m k (own_had m.number (k.own ∙ holds))) (rows-are x h));
      })
      (λ e. record { up = tt; joined = tt })
    where
      IsJoinedRow : KeptSubscription → KeptSubscription → MessageRow → Type 0
      IsJoinedRow x y m = IsJoined made y (slot_in m)

  -- ---- look-ups among all messages, old and new

  row-old : (k : ℕ) (slot : Slot) → slot.item.number < s.next_message → slot_of s.messages (row_of k slot) ≡ slot → slot_of (s.messages ++ rows) (row_of k slot) ≡ slot
  row-old k slot below row =
      ap (λ (found : Option MessageRow). record { item = item_at slot.item.number (unwrap_or found (no_message slot.item.number)); mark = slot.mark })
      (message-old s.messages rows s.next_message slot.item.number below (rows-from topic s.next_message s.next_message at messages (omega arith)))
      ∙ row

  row-new : (k : ℕ) (m : MessageRow) → s.next_message ≤ m.number → message_numbered rows m.number ≡ Some m → slot_of (s.messages ++ rows) (row_of k (slot_in m)) ≡ slot_in m
  row-new k m from found =
      ap (λ (o : Option MessageRow). record { item = item_at m.number (unwrap_or o (no_message m.number)); mark = fresh })
      (message-new s.messages rows s.next_message m.number from steady.messages_below ∙ found)

  all-found : AllByRecursion (λ (m : MessageRow). message_numbered rows m.number ≡ Some m) rows
  all-found =
      let same : filter (λ (m : MessageRow). true) rows ≡ rows = filter-all (λ (m : MessageRow). true) rows (each-always (λ (m : MessageRow). true ≡ true) rows (λ m. refl)) in
      each-then (λ (m : MessageRow). true ≡ true → message_numbered (filter (λ (e : MessageRow). true) rows) m.number ≡ Some m) (λ (m : MessageRow). message_numbered rows m.number ≡ Some m) rows
      (λ m found. ap (λ (ms : List MessageRow). message_numbered ms m.number) (sym same) ∙ found refl) (passing-found (λ (m : MessageRow). true) rows (rows-ordered topic s.next_message at messages))

  entered-rows : (x : KeptSubscription) → IsSteadySubscription s x → Joined (s.messages ++ rows) (enter_subscription topic rows x).number (enter_subscription topic rows x).sub.slots
  entered-rows x own =
      let k : ℕ = (enter_subscription topic rows x).number in
      let Row : Slot → Type 0 = λ slot. slot_of (s.messages ++ rows) (row_of k slot) ≡ slot in
      let Found : MessageRow → Type 0 = λ m. (s.next_message ≤ m.number) × (message_numbered rows m.number ≡ Some m) in
      subst (AllByRecursion Row) (sym (slots-entered topic rows x))
      (each-append Row x.sub.slots (new_slots topic rows x) (each-then (IsJoined s x) Row x.sub.slots (λ slot j. row-old k slot j.number j.row) own.joined)
      (cond_both (is_attached topic x) (map slot_in (wanted_of x rows)) [] (AllByRecursion Row)
      (λ _. each-map Found Row slot_in (wanted_of x rows) (λ m found. row-new k m found.0 found.1)
      (each-left Found (λ (m : MessageRow). is_wanted x m.message) rows (each-both (λ (m : MessageRow). s.next_message ≤ m.number) (λ (m : MessageRow). message_numbered rows m.number ≡ Some m) rows (rows-from topic s.next_message s.next_message at messages (omega arith)) all-found)))
      (λ _. tt)))

  pub published-rows : AllByRecursion (λ (y : KeptSubscription). Joined (s.messages ++ rows) y.number y.sub.slots) (map (enter_subscription topic rows) s.subscriptions)
  published-rows = each-map (IsSteadySubscription s) (λ (y : KeptSubscription). Joined (s.messages ++ rows) y.number y.sub.slots) (enter_subscription topic rows) s.subscriptions entered-rows steady.each

  abbrev entered : KeptSubscription → KeptSubscription
  entered x = enter_subscription topic (message_rows topic s.next_message at messages) x

  settings-rest : (P : KeptSubscription → Type 0) (x : KeptSubscription) → P x → P (enter_wanted rows x) → P (entered x)
  settings-rest P x old new = cond_both (is_attached topic x) (enter_wanted rows x) x P (λ e. new) (λ e. old)

  subscription-steady : (x : KeptSubscription) → IsSteadySubscription s x → ((n : ℕ) → has (entered x).sub.slots n ≡ true → is_had (map entered s.subscriptions) n ≡ true) → IsSteadySubscription made (entered x)
  subscription-steady x h own_had =
      let y : KeptSubscription = entered x in
      let new : List Slot = new_slots topic rows x in
      let Before : Slot → Slot → Type 0 = λ (a b : Slot). a.item.number < b.item.number in
      let right : NewSlots x y new = new-right x y h own_had in
      let before : AllByRecursion (λ (a : Slot). AllByRecursion (Before a) new) x.sub.slots =
      each-then (λ (a : Slot). a.item.number < s.next_message) (λ (a : Slot). AllByRecursion (Before a) new) x.sub.slots
      (λ a k. each-then (λ (b : Slot). s.next_message ≤ b.item.number) (Before a) new (λ b l. omega (arith, k, l)) (new-from topic s.next_message at messages x)) (slots-below s x h) in
      let more : most_messages * s.count + 1 ≤ most_messages * (s.count + 1) + 1 = omega arith in
      record {
        settings = settings-rest (λ (z : KeptSubscription). HasGoodSettings z.sub.config) x h.settings h.settings;
        filter = settings-rest (λ (z : KeptSubscription). z.filter ≡ filter_of z.sub.config.filter) x h.filter h.filter;
        leases = settings-rest (λ (z : KeptSubscription). z.sub.next_lease ≤ most_messages * (s.count + 1) + 1) x (omega (arith, h.leases, more)) (omega (arith, h.leases, more));
        slots = subst (Ordered Before) (sym (slots-entered topic rows x)) (ordered-append Before x.sub.slots new h.slots right.up before);
        joined = subst (AllByRecursion (IsJoined made y)) (sym (slots-entered topic rows x))
            (each-append (IsJoined made y) x.sub.slots new (each-then (IsJoined s x) (IsJoined made y) x.sub.slots (λ slot k. joined-old x y slot k) h.joined) right.joined);
        caught_up = settings-rest (λ (z : KeptSubscription). IsCaughtUp z.sub.config.ordering z.sub.slots) x h.caught_up
            (caught_up-more x.sub.config.ordering x.sub.slots (map slot_in (wanted_of x rows)) h.caught_up (new-not-ahead (wanted_of x rows)));
        detached =
            cond_both (is_attached topic x) (enter_wanted rows x) x (λ (z : KeptSubscription). z.detached ≡ true → z.sub.slots ≡ [])
            (λ e gone. absurd (both_ways (not x.detached) (ap not gone) ((and_parts (nat_eq x.topic topic) (not x.detached) e).1))) (λ e. h.detached);
        topic = settings-rest (λ (z : KeptSubscription). z.topic < s.next_topic) x h.topic h.topic;
      }

  name-entered : (x : KeptSubscription) → (entered x).name ≡ x.name
  name-entered x = settings-rest (λ (z : KeptSubscription). z.name ≡ x.name) x refl refl

  pub published-steady : at ≤ last_moment → s.count < 2 ^ 50 → length messages ≤ 1000 → IsSteady (recorded_at at (add_published at topic messages s))
  published-steady in_time room few =
      let many : length rows ≡ length messages = rows-length topic s.next_message at messages in
      let Before : MessageRow → MessageRow → Type 0 = λ (a b : MessageRow). a.number < b.number in
      let more : most_messages * s.count + 1 + 1000 ≤ most_messages * (s.count + 1) + 1 = omega arith in
      record {
        now = in_time;
        count = omega arith;
        topics = steady.topics;
        topics_below = steady.topics_below;
        topic_names = steady.topic_names;
        topic_grammar = steady.topic_grammar;
        topic_settings = steady.topic_settings;
        topics_few = omega (arith, steady.topics_few);
        subscriptions =
            ordered-map (λ (a b : KeptSubscription). a.number < b.number) (λ (a b : KeptSubscription). a.number < b.number) entered s.subscriptions
            (λ a b k. omega (arith, k, number-entered topic rows a, number-entered topic rows b)) steady.subscriptions;
        subscriptions_below =
            each-map (λ (x : KeptSubscription). x.number < s.next_sub) (λ (x : KeptSubscription). x.number < s.next_sub) entered s.subscriptions
            (λ x k. omega (arith, k, number-entered topic rows x)) steady.subscriptions_below;
        subscription_names =
            ordered-map (λ (a b : KeptSubscription). a.name ≢ b.name) (λ (a b : KeptSubscription). a.name ≢ b.name) entered s.subscriptions
            (λ a b k e. k (sym (name-entered a) ∙ e ∙ name-entered b)) steady.subscription_names;
        subscription_grammar = each-map (λ (x : KeptSubscription). is_sub_name x.name ≡ true) (λ (x : KeptSubscription). is_sub_name x.name ≡ true) entered s.subscriptions (λ x is. ap is_sub_name (name-entered x) ∙ is) steady.subscription_grammar;
        subs_few = omega (arith, steady.subs_few);
        each =
            each-map (λ (x : KeptSubscription). IsSteadySubscription s x × ((n : ℕ) → has (entered x).sub.slots n ≡ true → is_had (map entered s.subscriptions) n ≡ true)) (IsSteadySubscription made) entered s.subscriptions
            (λ x k. subscription-steady x k.0 k.1)
            (each-both (IsSteadySubscription s) (λ (x : KeptSubscription). (n : ℕ) → has (entered x).sub.slots n ≡ true → is_had (map entered s.subscriptions) n ≡ true) s.subscriptions steady.each (own-had entered s.subscriptions));
        messages =
            ordered-append Before s.messages left steady.messages (ordered-left _ rows (rows-ordered topic s.next_message at messages))
            (each-then (λ (a : MessageRow). a.number < s.next_message) (λ (a : MessageRow). AllByRecursion (Before a) left) s.messages
            (λ a k. each-then (λ (b : MessageRow). s.next_message ≤ b.number) (Before a) left (λ b l. omega (arith, k, l)) left-from) steady.messages_below);
        messages_below =
            each-append (λ (m : MessageRow). m.number < after) s.messages left
            (each-then (λ (m : MessageRow). m.number < s.next_message) (λ (m : MessageRow). m.number < after) s.messages (λ m k. omega (arith, k)) steady.messages_below)
            (each-left (λ (m : MessageRow). m.number < after) _ rows (rows-to topic after s.next_message at messages (omega (arith, many))));
        messages_few = omega (arith, steady.messages_few, many, few, more);
        kept = each-append (λ (m : MessageRow). m.kept ≡ true) s.messages left steady.kept (each-left (λ (m : MessageRow). m.kept ≡ true) _ rows (rows-kept topic s.next_message at messages));
        wanted =
            each-append (λ (m : MessageRow). is_had (map entered s.subscriptions) m.number ≡ true) s.messages left
            (old-had at topic messages s steady)
            (each-filter (λ (m : MessageRow). m.publish ≡ at) (λ (m : MessageRow). is_had (map entered s.subscriptions) m.number ≡ true) (λ (m : MessageRow). is_had (map entered s.subscriptions) m.number) rows (λ m e k. e) (rows-published topic s.next_message at messages));
      }
