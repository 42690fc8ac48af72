-- Which messages some subscription has, with new ones.
use Rattle.std.proofs.Common.{ℕ, ◌≡◌, ◌+◌, ◌<◌, ◌≤◌, Bool, true, false, ◌||◌, nat_eq, List, [], ◌∷◌, ◌++◌, map, filter, length, if◌then◌else◌, refl, sym, ◌∙◌, ap, arith}
use Rattle.std.specs.List.{AllByRecursion}
use Rattle.std.proofs.lemmas.Bool.{ne_eqb, or_left, or_right}
use Rattle.std.proofs.lemmas.List.Elements.{filter-append}
use Rattle.std.proofs.lemmas.List.Folds.{list_any-append}
use Rattle.ps_message.specs.declared.message.Message.{Message}
use Rattle.ps_model.specs.declared.mark.Slot.{Slot}
use Rattle.ps_model.specs.declared.world.MessageRow.{MessageRow}
use Rattle.ps_model.specs.Forwarding.{message_rows}
use Rattle.ps_sub.specs.Showing.{has}
use Rattle.ps_tables.specs.declared.kept_subscription.KeptSubscription.{KeptSubscription}
use Rattle.ps_tables.specs.declared.tables.KeptMessage.{KeptMessage}
use Rattle.ps_core.specs.Effects.{add_published, let_go}
use Rattle.ps_tables.specs.Subscriptions.{enter_subscription, is_attached, is_had, slot_in, wanted_of}
use Rattle.ps_core.specs.Keeping.{IsCounted}
use Rattle.ps_tables.specs.Members.{holders_of}
use Rattle.ps_core.specs.State.{State}
use Rattle.ps_core.specs.Steady.{IsJoined, IsSteadySubscription, IsSteady}
use Rattle.ps_base.proofs.Lists.{any-none, each-left, each-map, each-then, each-then-both}
use Rattle.ps_tables.proofs.lists.Filtered.{filter-all}
use Rattle.ps_tables.proofs.publishing.Holders.{AllBelow}
use Rattle.ps_tables.proofs.publishing.Rows.{rows-from}
use Rattle.ps_core.proofs.publishing.World.{new_slots, slots-entered, with_published}

-- new slots have new numbers
pub new-from : (topic next at : ℕ) (messages : List Message) (x : KeptSubscription) → AllByRecursion (λ (s : Slot). next ≤ s.item.number) (new_slots topic (message_rows topic next at messages) x)
new-from topic next at messages x = by (is_attached topic x)
  where
    rows : List MessageRow
    rows = message_rows topic next at messages

    by : (b : Bool) → AllByRecursion (λ (s : Slot). next ≤ s.item.number) (if b then map slot_in (wanted_of x rows) else [])
    by true =
        each-map (λ (m : MessageRow). next ≤ m.number) (λ (s : Slot). next ≤ s.item.number) slot_in (wanted_of x rows) (λ m k. k)
        (each-left (λ (m : MessageRow). next ≤ m.number) _ rows (rows-from topic next next at messages (omega arith)))
    by false = tt

-- a subscription has an old message if it had it
has-old : (topic next at n : ℕ) (messages : List Message) (x : KeptSubscription) → n < next → has (enter_subscription topic (message_rows topic next at messages) x).sub.slots n ≡ has x.sub.slots n
has-old topic next at n messages x below =
    let rows : List MessageRow = message_rows topic next at messages in
    let none : has (new_slots topic rows x) n ≡ false =
    any-none (λ (s : Slot). nat_eq s.item.number n) (new_slots topic rows x)
    (each-then (λ (s : Slot). next ≤ s.item.number) (λ (s : Slot). nat_eq s.item.number n ≡ false) (new_slots topic rows x) (λ s k. ne_eqb s.item.number n (λ e. omega (arith, k, e, below))) (new-from topic next at messages x)) in
    ap (λ (slots : List Slot). has slots n) (slots-entered topic rows x)
    ∙ list_any-append (λ (s : Slot). nat_eq s.item.number n) x.sub.slots (new_slots topic rows x)
    ∙ ap (λ (b : Bool). has x.sub.slots n || b) none
    ∙ no_more (has x.sub.slots n)
  where
    no_more : (b : Bool) → (b || false) ≡ b
    no_more true = refl
    no_more false = refl

pub had-old : (topic next at n : ℕ) (messages : List Message) (xs : List KeptSubscription) → n < next → is_had (map (enter_subscription topic (message_rows topic next at messages)) xs) n ≡ is_had xs n
had-old topic next at n messages [] below = refl
had-old topic next at n messages (x ∷ xs) below = λ i. has-old topic next at n messages x below i || had-old topic next at n messages xs below i

pub holders-old : (topic next at n : ℕ) (messages : List Message) (xs : List KeptSubscription) → n < next → holders_of (map (enter_subscription topic (message_rows topic next at messages)) xs) n ≡ holders_of xs n
holders-old topic next at n messages [] below = refl
holders-old topic next at n messages (x ∷ xs) below = λ i. (if has-old topic next at n messages x below i then 1 else 0) + holders-old topic next at n messages xs below i

-- what a subscription has is had
pub own-had : (f : KeptSubscription → KeptSubscription) (xs : List KeptSubscription) → AllByRecursion (λ (x : KeptSubscription). (n : ℕ) → has (f x).sub.slots n ≡ true → is_had (map f xs) n ≡ true) xs
own-had f [] = tt
own-had f (x ∷ xs) = (
  λ n e. or_left (has (f x).sub.slots n) (is_had (map f xs) n) e,
  each-then (λ (y : KeptSubscription). (n : ℕ) → has (f y).sub.slots n ≡ true → is_had (map f xs) n ≡ true) (λ (y : KeptSubscription). (n : ℕ) → has (f y).sub.slots n ≡ true → is_had (map f (x ∷ xs)) n ≡ true) xs
      (λ y k n e. or_right (has (f x).sub.slots n) (is_had (map f xs) n) (k n e)) (own-had f xs),
)

pub slots-below : (s : State) (x : KeptSubscription) → IsSteadySubscription s x → AllByRecursion (λ (slot : Slot). slot.item.number < s.next_message) x.sub.slots
slots-below s x h = each-then (IsJoined s x) (λ (slot : Slot). slot.item.number < s.next_message) x.sub.slots (λ slot k. k.number) h.joined

pub all-below : (s : State) → IsSteady s → AllBelow s.next_message s.subscriptions
all-below s h = each-then (IsSteadySubscription s) (λ (x : KeptSubscription). AllByRecursion (λ (slot : Slot). slot.item.number < s.next_message) x.sub.slots) s.subscriptions (λ x k. slots-below s x k) h.each

-- old messages are had still
pub old-had : (at topic : ℕ) (messages : List Message) (s : State) → IsSteady s
    → AllByRecursion (λ (m : MessageRow). is_had (map (enter_subscription topic (message_rows topic s.next_message at messages)) s.subscriptions) m.number ≡ true) s.messages
old-had at topic messages s h =
    each-then-both (λ (m : MessageRow). m.number < s.next_message) (λ (m : MessageRow). is_had s.subscriptions m.number ≡ true) (λ (m : MessageRow). is_had (map (enter_subscription topic (message_rows topic s.next_message at messages)) s.subscriptions) m.number ≡ true) s.messages
    (λ m below had. had-old topic s.next_message at m.number messages s.subscriptions below ∙ had) h.messages_below h.wanted

-- of all messages those stay that some subscription has
pub published-left : (at topic : ℕ) (messages : List Message) (s : State) → IsSteady s → let_go (with_published at topic messages s) ≡ add_published at topic messages s
published-left at topic messages s h =
    let rows : List MessageRow = message_rows topic s.next_message at messages in
    let subscriptions : List KeptSubscription = map (enter_subscription topic rows) s.subscriptions in
    let test : MessageRow → Bool = λ m. is_had subscriptions m.number in
    ap (λ (kept : List MessageRow). record s { next_message = s.next_message + length rows; subscriptions = subscriptions; messages = kept })
    (filter-append test s.messages rows ∙ ap (λ (kept : List MessageRow). kept ++ filter test rows) (filter-all test s.messages (old-had at topic messages s h)))

-- the counts of old messages stay right
pub counted-old : (at topic next : ℕ) (messages : List Message) (xs : List KeptSubscription) (kept : List KeptMessage) → AllByRecursion (λ (x : KeptMessage). x.row.number < next) kept → AllByRecursion (IsCounted xs) kept
    → AllByRecursion (IsCounted (map (enter_subscription topic (message_rows topic next at messages)) xs)) kept
counted-old at topic next messages xs kept below =
    each-then-both (λ (x : KeptMessage). x.row.number < next) (IsCounted xs) (IsCounted (map (enter_subscription topic (message_rows topic next at messages)) xs)) kept
    (λ x low is. is ∙ sym (holders-old topic next at x.row.number messages xs low)) below
