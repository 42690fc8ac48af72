-- How many subscriptions have each new message.
use Rattle.std.proofs.Common.{◌≡◌, ◌<◌, ◌≤◌, ◌+◌, ℕ, Bool, true, false, ◌&&◌, ◌||◌, cond, nat_eq, nat_lt, List, [], ◌∷◌, Option, Some, None, length, map, filter, if◌then◌else◌, refl, sym, ap, ◌∙◌, arith}
use Rattle.std.specs.List.{AllByRecursion, list_any}
use Rattle.std.proofs.lemmas.Bool.{both_ways, cond_both, eq-eqb, eqb-true, ne_eqb, or_left}
use Rattle.std.proofs.lemmas.List.Folds.{list_any-append}
use Rattle.ps_message.specs.declared.message.Message.{Message}
use Rattle.ps_model.specs.Forwarding.{message_rows}
use Rattle.ps_model.specs.Lists.{tally}
use Rattle.ps_model.specs.Sound.{Ordered}
use Rattle.ps_model.specs.declared.mark.Slot.{Slot}
use Rattle.ps_model.specs.declared.world.MessageRow.{MessageRow}
use Rattle.ps_sub.specs.Showing.{has}
use Rattle.ps_tables.specs.declared.kept_subscription.KeptSubscription.{KeptSubscription}
use Rattle.ps_tables.specs.declared.tables.KeptMessage.{KeptMessage}
use Rattle.ps_tables.specs.Subscriptions.{enter_subscription, is_attached, is_had, slot_in, wanted_of}
use Rattle.ps_tables.specs.Entering.{IsDistinct, count_each, count_found, count_from, enter_wanted, is_among, is_wanted, kept_by, kept_rows, subscription_with}
use Rattle.ps_tables.specs.Members.{holders_of}
use Rattle.ps_base.proofs.Lists.{any-none, each-always, each-then, each-then-both, map-alike, map-same}
use Rattle.ps_tables.proofs.publishing.Rows.{rows-from, rows-ordered}
use Rattle.ps_tables.proofs.publishing.Numbers.{Ascends}

-- ---- tallies

abbrev one_if : Bool → ℕ
one_if b = if b then 1 else 0

tally-same : {A : Type 0} (p q : A → Bool) (xs : List A) → AllByRecursion (λ (x : A). p x ≡ q x) xs → tally p xs ≡ tally q xs
tally-same p q [] h = refl
tally-same p q (x ∷ xs) h = λ i. one_if (h.0 i) + tally-same p q xs h.1 i

tally-none : {A : Type 0} (p : A → Bool) (xs : List A) → AllByRecursion (λ (x : A). p x ≡ false) xs → tally p xs ≡ 0
tally-none p [] h = refl
tally-none p (x ∷ xs) h = let rest = tally-none p xs h.1 in (λ i. one_if (h.0 i) + tally p xs) ∙ omega (arith, rest)

tally-mapped : {A B : Type 0} (p : B → Bool) (f : A → B) (xs : List A) → tally p (map f xs) ≡ tally (λ (x : A). p (f x)) xs
tally-mapped p f [] = refl
tally-mapped p f (x ∷ xs) = ap (λ (n : ℕ). one_if (p (f x)) + n) (tally-mapped p f xs)

-- those that pass the one or the other, if none passes both
tally-either : {A : Type 0} (p q w : A → Bool) (xs : List A) → ((x : A) → p x ≡ true → q x ≡ false) → tally (λ (x : A). (p x || q x) && w x) xs ≡ tally (λ (x : A). p x && w x) xs + tally (λ (x : A). q x && w x) xs
tally-either p q w [] h = refl
tally-either p q w (x ∷ xs) h =
    let rest = tally-either p q w xs h in
    let own : one_if ((p x || q x) && w x) ≡ one_if (p x && w x) + one_if (q x && w x) = by (p x) (q x) (w x) (h x) in
    omega (arith, rest, own)
  where
    by : (a b c : Bool) → (a ≡ true → b ≡ false) → one_if ((a || b) && c) ≡ one_if (a && c) + one_if (b && c)
    by true true c k = absurd (both_ways true (k refl) refl)
    by true false true k = refl
    by true false false k = refl
    by false true true k = refl
    by false true false k = refl
    by false false c k = refl

-- some pass where their number isn't zero
tally-any : {A : Type 0} (p : A → Bool) (xs : List A) → nat_lt 0 (tally p xs) ≡ list_any p xs
tally-any p [] = refl
tally-any p (x ∷ xs) = by (p x) (tally-any p xs)
  where
    by : (b : Bool) → nat_lt 0 (tally p xs) ≡ list_any p xs → nat_lt 0 (one_if b + tally p xs) ≡ (b || list_any p xs)
    by true rest = grind arith
    by false rest = let same : 0 + tally p xs ≡ tally p xs = omega arith in ap (nat_lt 0) same ∙ rest

-- ---- the counts

-- whether the subscription with a number wants the message
abbrev wants : Option KeptSubscription → Message → Bool
wants None m = false
wants (Some x) m = is_wanted x m

count-one : (x : KeptSubscription) (f : Message → ℕ) (messages : List Message) → count_from 0 x messages (map f messages) ≡ map (λ (m : Message). f m + one_if (is_wanted x m)) messages
count-one x f [] = refl
count-one x f (m ∷ ms) = λ i. by (is_wanted x m) i ∷ count-one x f ms i
  where
    by : (b : Bool) → (if b then f m + 1 else f m) ≡ f m + one_if b
    by true = refl
    by false = omega arith

count-found : (o : Option KeptSubscription) (f : Message → ℕ) (messages : List Message) → count_found messages o (map f messages) ≡ map (λ (m : Message). f m + one_if (wants o m)) messages
count-found None f messages = map-alike f (λ (m : Message). f m + 0) messages (λ m. omega arith)
count-found (Some x) f messages = count-one x f messages

count-all : (messages : List Message) (xs : List KeptSubscription) (numbers : List ℕ) (f : Message → ℕ)
    → count_each messages xs numbers (map f messages) ≡ map (λ (m : Message). f m + tally (λ (n : ℕ). wants (subscription_with n xs) m) numbers) messages
count-all messages xs [] f = map-alike f (λ (m : Message). f m + 0) messages (λ m. omega arith)
count-all messages xs (n ∷ ns) f =
    let g : Message → ℕ = λ m. f m + one_if (wants (subscription_with n xs) m) in
    let more : Message → ℕ = λ m. tally (λ (k : ℕ). wants (subscription_with k xs) m) ns in
    ap (count_each messages xs ns) (count-found (subscription_with n xs) f messages)
    ∙ count-all messages xs ns g
    ∙ map-alike (λ (m : Message). g m + more m) (λ (m : Message). f m + (one_if (wants (subscription_with n xs) m) + more m)) messages (λ m. omega arith)

-- the one with a number
tally-one : (n : ℕ) (m : Message) (xs : List KeptSubscription) → Ascends xs → tally (λ (x : KeptSubscription). nat_eq x.number n && is_wanted x m) xs ≡ one_if (wants (subscription_with n xs) m)
tally-one n m [] h = refl
tally-one n m (x ∷ xs) h = by (nat_eq x.number n) refl (tally-one n m xs h.1)
  where
    test : KeptSubscription → Bool
    test y = nat_eq y.number n && is_wanted y m

    none : nat_eq x.number n ≡ true → tally test xs ≡ 0
    none e =
        tally-none test xs
        (each-then (λ (y : KeptSubscription). x.number < y.number) (λ (y : KeptSubscription). test y ≡ false) xs
        (λ y above. let other : nat_eq y.number n ≡ false = ne_eqb y.number n (λ k. omega (arith, above, k, eqb-true x.number n e)) in rw (other) refl) h.0)

    by : (b : Bool) → nat_eq x.number n ≡ b → tally test xs ≡ one_if (wants (subscription_with n xs) m) → one_if (b && is_wanted x m) + tally test xs ≡ one_if (wants (cond b (Some x) (subscription_with n xs)) m)
    by true e rest = let zero_more = none e in omega (arith, zero_more)
    by false e rest = omega (arith, rest)

tally-among : (numbers : List ℕ) (m : Message) (xs : List KeptSubscription) → Ascends xs → IsDistinct numbers → tally (λ (n : ℕ). wants (subscription_with n xs) m) numbers ≡ tally (λ (x : KeptSubscription). is_among numbers x.number && is_wanted x m) xs
tally-among [] m xs up h = sym (tally-none (λ (x : KeptSubscription). false) xs (each-always (λ (x : KeptSubscription). false ≡ false) xs (λ x. refl)))
tally-among (n ∷ ns) m xs up h =
    let first = tally-one n m xs up in
    let rest = tally-among ns m xs up h.1 in
    let split = tally-either (λ (x : KeptSubscription). nat_eq x.number n) (λ (x : KeptSubscription). is_among ns x.number) (λ (x : KeptSubscription). is_wanted x m) xs
    (λ x e. ap (is_among ns) (eqb-true x.number n e) ∙ any-none (nat_eq n) ns h.0) in
    (λ i. sym first i + rest i) ∙ sym split

none-counted : (counts : List ℕ) (messages : List Message) → length counts ≡ length messages → AllByRecursion (λ (n : ℕ). n ≡ 0) counts → counts ≡ map (λ (m : Message). 0) messages
none-counted [] [] e h = refl
none-counted [] (m ∷ ms) e h = absurd (omega (arith, e))
none-counted (n ∷ ns) [] e h = absurd (omega (arith, e))
none-counted (n ∷ ns) (m ∷ ms) e h = λ i. h.0 i ∷ none-counted ns ms (omega (arith, e)) h.1 i

-- the counts are the numbers of attached subscriptions that want each message
abbrev pub wanting : ℕ → List KeptSubscription → Message → ℕ
wanting topic xs m = tally (λ (x : KeptSubscription). is_attached topic x && is_wanted x m) xs

pub counts-are : (topic : ℕ) (messages : List Message) (xs : List KeptSubscription) (numbers counts : List ℕ) → Ascends xs → IsDistinct numbers → AllByRecursion (λ (x : KeptSubscription). is_among numbers x.number ≡ is_attached topic x) xs
    → length counts ≡ length messages → AllByRecursion (λ (n : ℕ). n ≡ 0) counts → count_each messages xs numbers counts ≡ map (wanting topic xs) messages
counts-are topic messages xs numbers counts up distinct right long nobody =
    ap (count_each messages xs numbers) (none-counted counts messages long nobody)
    ∙ count-all messages xs numbers (λ m. 0)
    ∙ map-alike (λ (m : Message). 0 + tally (λ (n : ℕ). wants (subscription_with n xs) m) numbers) (wanting topic xs) messages
    (λ m. let among = tally-among numbers m xs up distinct in
    let attached = tally-same (λ (x : KeptSubscription). is_among numbers x.number && is_wanted x m) (λ (x : KeptSubscription). is_attached topic x && is_wanted x m) xs
    (each-then (λ (x : KeptSubscription). is_among numbers x.number ≡ is_attached topic x) (λ (x : KeptSubscription). (is_among numbers x.number && is_wanted x m) ≡ (is_attached topic x && is_wanted x m)) xs (λ x e. ap (λ (b : Bool). b && is_wanted x m) e) right) in
    omega (arith, among, attached))

-- ---- who has a new message

has-none : (n : ℕ) (slots : List Slot) → AllByRecursion (λ (s : Slot). s.item.number < n) slots → has slots n ≡ false
has-none n slots h =
    any-none (λ (s : Slot). nat_eq s.item.number n) slots
    (each-then (λ (s : Slot). s.item.number < n) (λ (s : Slot). nat_eq s.item.number n ≡ false) slots (λ s k. ne_eqb s.item.number n (λ e. omega (arith, k, e))) h)

above-none : (n : ℕ) (test : MessageRow → Bool) (rows : List MessageRow) → AllByRecursion (λ (m : MessageRow). n < m.number) rows → has (map slot_in (filter test rows)) n ≡ false
above-none n test [] h = refl
above-none n test (r ∷ rs) h =
    let other : nat_eq r.number n ≡ false = ne_eqb r.number n (λ e. omega (arith, h.0, e)) in
    cond_both (test r) (r ∷ filter test rs) (filter test rs) (λ (left : List MessageRow). has (map slot_in left) n ≡ false) (λ e. rw (other) (above-none n test rs h.1)) (λ e. above-none n test rs h.1)

-- of the rows that pass a test, each that passes is had
rows-passing : (test : MessageRow → Bool) (rows : List MessageRow) → Ordered (λ (a b : MessageRow). a.number < b.number) rows → AllByRecursion (λ (m : MessageRow). has (map slot_in (filter test rows)) m.number ≡ test m) rows
rows-passing test [] h = tt
rows-passing test (r ∷ rs) h = (
  first (test r) refl,
  each-then-both (λ (m : MessageRow). r.number < m.number) (λ (m : MessageRow). has (map slot_in (filter test rs)) m.number ≡ test m) (λ (m : MessageRow). has (map slot_in (filter test (r ∷ rs))) m.number ≡ test m) rs
      (λ m above own. let other : nat_eq r.number m.number ≡ false = ne_eqb r.number m.number (λ e. omega (arith, above, e)) in
      cond_both (test r) (r ∷ filter test rs) (filter test rs) (λ (left : List MessageRow). has (map slot_in left) m.number ≡ test m) (λ e. rw (other) own) (λ e. own)) h.0 (rows-passing test rs h.1),
)
  where
    first : (b : Bool) → test r ≡ b → has (map slot_in (cond b (r ∷ filter test rs) (filter test rs))) r.number ≡ test r
    first true e = rw (e) (or_left (nat_eq r.number r.number) (has (map slot_in (filter test rs)) r.number) (eq-eqb r.number r.number refl))
    first false e = rw (e) (above-none r.number test rs h.0)

-- a subscription has a new message if it is attached and wants it
has-entered : (topic next n : ℕ) (rows : List MessageRow) (message : Message) (x : KeptSubscription) → next ≤ n → AllByRecursion (λ (s : Slot). s.item.number < next) x.sub.slots
    → has (map slot_in (wanted_of x rows)) n ≡ is_wanted x message → has (enter_subscription topic rows x).sub.slots n ≡ (is_attached topic x && is_wanted x message)
has-entered topic next n rows message x from below own = by (is_attached topic x)
  where
    old : has x.sub.slots n ≡ false
    old = has-none n x.sub.slots (each-then (λ (s : Slot). s.item.number < next) (λ (s : Slot). s.item.number < n) x.sub.slots (λ s k. omega (arith, k, from)) below)

    by : (b : Bool) → has (if b then enter_wanted rows x else x).sub.slots n ≡ (b && is_wanted x message)
    by true = list_any-append (λ (s : Slot). nat_eq s.item.number n) x.sub.slots (map slot_in (wanted_of x rows)) ∙ (λ i. old i || own i)
    by false = old

abbrev pub AllBelow : ℕ → List KeptSubscription → Type 0
AllBelow next xs = AllByRecursion (λ (x : KeptSubscription). AllByRecursion (λ (s : Slot). s.item.number < next) x.sub.slots) xs

-- what each of the rows comes to in one subscription
pub rows-in : (topic next : ℕ) (rows : List MessageRow) (x : KeptSubscription) → Ordered (λ (a b : MessageRow). a.number < b.number) rows → AllByRecursion (λ (m : MessageRow). next ≤ m.number) rows → AllByRecursion (λ (s : Slot). s.item.number < next) x.sub.slots
    → AllByRecursion (λ (m : MessageRow). has (enter_subscription topic rows x).sub.slots m.number ≡ (is_attached topic x && is_wanted x m.message)) rows
rows-in topic next rows x up from below =
    each-then-both (λ (m : MessageRow). next ≤ m.number) (λ (m : MessageRow). has (map slot_in (wanted_of x rows)) m.number ≡ is_wanted x m.message) (λ (m : MessageRow). has (enter_subscription topic rows x).sub.slots m.number ≡ (is_attached topic x && is_wanted x m.message)) rows
    (λ m high own. has-entered topic next m.number rows m.message x high below own) from (rows-passing (λ (m : MessageRow). is_wanted x m.message) rows up)

pub holders-new : (topic next : ℕ) (rows : List MessageRow) (xs : List KeptSubscription) → Ordered (λ (a b : MessageRow). a.number < b.number) rows → AllByRecursion (λ (m : MessageRow). next ≤ m.number) rows → AllBelow next xs
    → AllByRecursion (λ (m : MessageRow). holders_of (map (enter_subscription topic rows) xs) m.number ≡ wanting topic xs m.message) rows
holders-new topic next rows [] up from below = each-always (λ (m : MessageRow). 0 ≡ 0) rows (λ m. refl)
holders-new topic next rows (x ∷ xs) up from below =
    each-then-both (λ (m : MessageRow). has (enter_subscription topic rows x).sub.slots m.number ≡ (is_attached topic x && is_wanted x m.message)) (λ (m : MessageRow). holders_of (map (enter_subscription topic rows) xs) m.number ≡ wanting topic xs m.message)
    (λ (m : MessageRow). holders_of (map (enter_subscription topic rows) (x ∷ xs)) m.number ≡ wanting topic (x ∷ xs) m.message) rows
    (λ m own rest i. one_if (own i) + rest i) (rows-in topic next rows x up from below.0) (holders-new topic next rows xs up from below.1)

-- ---- what is kept

kept-counted : (subscriptions : List KeptSubscription) (rows : List MessageRow) → kept_rows rows (map (λ (m : MessageRow). holders_of subscriptions m.number) rows) ≡ map (kept_by subscriptions) (filter (λ (m : MessageRow). is_had subscriptions m.number) rows)
kept-counted subscriptions [] = refl
kept-counted subscriptions (r ∷ rs) =
    ap (λ (b : Bool). if b then kept_by subscriptions r ∷ kept_rows rs (map (λ (m : MessageRow). holders_of subscriptions m.number) rs) else kept_rows rs (map (λ (m : MessageRow). holders_of subscriptions m.number) rs))
    (tally-any (λ (x : KeptSubscription). has x.sub.slots r.number) subscriptions)
    ∙ by (is_had subscriptions r.number) (kept-counted subscriptions rs)
  where
    left : List MessageRow
    left = filter (λ (m : MessageRow). is_had subscriptions m.number) rs

    rest : List KeptMessage
    rest = kept_rows rs (map (λ (m : MessageRow). holders_of subscriptions m.number) rs)

    by : (b : Bool) → rest ≡ map (kept_by subscriptions) left → (if b then kept_by subscriptions r ∷ rest else rest) ≡ map (kept_by subscriptions) (if b then r ∷ left else left)
    by true more = ap (λ (kept : List KeptMessage). kept_by subscriptions r ∷ kept) more
    by false more = more

messages-of : {A : Type 0} (f : Message → A) (topic n at : ℕ) (messages : List Message) → map f messages ≡ map (λ (m : MessageRow). f m.message) (message_rows topic n at messages)
messages-of f topic n at [] = refl
messages-of f topic n at (m ∷ ms) = ap (λ rest. f m ∷ rest) (messages-of f topic (n + 1) at ms)

pub kept-right : (topic next at : ℕ) (messages : List Message) (xs : List KeptSubscription) → AllBelow next xs
    → (let rows : List MessageRow = message_rows topic next at messages in
    let subscriptions : List KeptSubscription = map (enter_subscription topic rows) xs in
    kept_rows rows (map (wanting topic xs) messages) ≡ map (kept_by subscriptions) (filter (λ (m : MessageRow). is_had subscriptions m.number) rows))
kept-right topic next at messages xs below =
    let rows : List MessageRow = message_rows topic next at messages in
    let subscriptions : List KeptSubscription = map (enter_subscription topic rows) xs in
    ap (kept_rows rows) (messages-of (wanting topic xs) topic next at messages
    ∙ map-same (λ (m : MessageRow). wanting topic xs m.message) (λ (m : MessageRow). holders_of subscriptions m.number) rows
    (each-then (λ (m : MessageRow). holders_of subscriptions m.number ≡ wanting topic xs m.message) (λ (m : MessageRow). wanting topic xs m.message ≡ holders_of subscriptions m.number) rows (λ m e. sym e)
    (holders-new topic next rows xs (rows-ordered topic next at messages) (rows-from topic next next at messages (omega arith)) below)))
    ∙ kept-counted subscriptions rows
