-- What a core keeps beside its state: what look-ups find by it, and how it stays right.
use Rattle.std.proofs.Common.{◌≡◌, ◌≢◌, ◌<◌, ◌+◌, ℕ, Bool, true, false, ◌&&◌, not, cond, nat_cmp, nat_eq, List, [], ◌∷◌, map, find, Option, Some, None, option_map, refl, sym, ap, subst, ◌∙◌, arith, if◌then◌else◌}
use Rattle.std.specs.List.{AllByRecursion}
use Rattle.std.specs.Map.{lookup}
use Rattle.std.specs.BTreeMap.{is_at, values}
use Rattle.std.specs.Str.{bytes_eq}
use Rattle.std.proofs.lemmas.Bool.{ne_eqb, eqb-true}
use Rattle.ps_model.specs.declared.world.TopicRow.{TopicRow}
use Rattle.ps_model.specs.declared.world.SubRow.{SubRow}
use Rattle.ps_model.specs.Sound.{Ordered}
use Rattle.ps_model.specs.Worlds.{sub_named}
use Rattle.ps_sub.specs.Showing.{has}
use Rattle.ps_tables.specs.declared.kept_subscription.KeptSubscription.{KeptSubscription}
use Rattle.ps_tables.specs.declared.tables.KeptTopic.{KeptTopic}
use Rattle.ps_tables.specs.declared.tables.KeptMessage.{KeptMessage}
use Rattle.ps_tables.specs.declared.tables.Tables.{Tables}
use Rattle.ps_core.specs.State.{State, topic_number, sub_row, seen}
use Rattle.ps_tables.specs.Subscriptions.{number_of, is_attached}
use Rattle.ps_core.specs.Effects.{is_any_due}
use Rattle.ps_core.specs.Steady.{IsSteady}
use Rattle.ps_core.specs.Keeping.{IsKept, IsCounted, has_topic_name, topic_at, subscription_at, the_row}
use Rattle.ps_tables.specs.Numbers.{IsNumbered}
use Rattle.ps_tables.specs.Members.{HasMembers, numbered, has_name, attached_at, holders_of}
use Rattle.ps_base.proofs.Lists.{each-then}
use Rattle.ps_tables.proofs.numbers.Numbered.{numbered-found}
use Rattle.ps_tables.proofs.numbers.Changes.{found-by-number}

-- ---- look-ups in lists

-- what is found in a map is what f makes of the one found
pub find-in-map : {A B : Type 0} (f : A → B) (test : B → Bool) (xs : List A) → find test (map f xs) ≡ option_map f (find (λ (x : A). test (f x)) xs)
find-in-map f test [] = refl
find-in-map f test (x ∷ xs) = by (test (f x)) (find-in-map f test xs)
  where
    by : (b : Bool) → find test (map f xs) ≡ option_map f (find (λ x. test (f x)) xs) → cond b (Some (f x)) (find test (map f xs)) ≡ option_map f (cond b (Some x) (find (λ x. test (f x)) xs))
    by true ih = refl
    by false ih = ih

-- ---- what is found by name

pub record IsTopicAt (s : State) (tables : Tables) (name : List ℕ) (n : ℕ) (x : KeptTopic) : Type 0 where
  pub got : lookup (is_at (nat_cmp n)) tables.topics.entries ≡ Some x
  pub number : x.row.number ≡ n
  pub named : find (has_topic_name name) s.topics ≡ Some x.row

pub record IsSubscriptionAt (s : State) (tables : Tables) (name : List ℕ) (n : ℕ) (x : KeptSubscription) : Type 0 where
  pub got : lookup (is_at (nat_cmp n)) tables.subscriptions.entries ≡ Some x
  pub number : x.number ≡ n
  pub named : find (has_name name) s.subscriptions ≡ Some x

-- a look-up by number finds the state's row of the number
pub topic-got : (s : State) (next_end : ℕ) (tables : Tables) → IsKept s next_end tables → s.topics ≡ map the_row (values tables.topics) → (n : ℕ)
    → option_map the_row (lookup (is_at (nat_cmp n)) tables.topics.entries) ≡ find (λ (r : TopicRow). nat_eq r.number n) s.topics
topic-got s next_end tables kept is n =
    ap (option_map the_row) (numbered-found (λ (x : KeptTopic). x.row.number) n tables.topics.entries kept.topics)
    ∙ sym (find-in-map the_row (λ (r : TopicRow). nat_eq r.number n) (values tables.topics)) ∙ ap (find (λ (r : TopicRow). nat_eq r.number n)) (sym is)

pub subscription-got : (s : State) (next_end : ℕ) (tables : Tables) → IsKept s next_end tables → s.subscriptions ≡ values tables.subscriptions → (n : ℕ)
    → lookup (is_at (nat_cmp n)) tables.subscriptions.entries ≡ find (λ (x : KeptSubscription). nat_eq x.number n) s.subscriptions
subscription-got s next_end tables kept is n = numbered-found number_of n tables.subscriptions.entries kept.subscriptions ∙ ap (find (λ (x : KeptSubscription). nat_eq x.number n)) (sym is)

-- of a number that an index has for a name
number-some : {A : Type 0} (number : A → ℕ) (o : Option A) (n : ℕ) → option_map number o ≡ Some n → (x : A) × ((o ≡ Some x) × (number x ≡ n))
number-some number None n e = absurd (cc (e))
number-some number (Some x) n e = (x, (refl, cc (e)))

number-none : {A : Type 0} (number : A → ℕ) (o : Option A) → option_map number o ≡ None → o ≡ None
number-none number None e = refl
number-none number (Some x) e = absurd (cc (e))

row-some : (o : Option KeptTopic) (r : TopicRow) → option_map the_row o ≡ Some r → (x : KeptTopic) × ((o ≡ Some x) × (x.row ≡ r))
row-some None r e = absurd (cc (e))
row-some (Some x) r e = (x, (refl, cc (e)))

-- the topic that stands at the number of a name
pub topic-there : (s : State) (next_end : ℕ) (tables : Tables) → IsKept s next_end tables → s.topics ≡ map the_row (values tables.topics) → (name : List ℕ) (n : ℕ) → numbered tables.topic_numbers name ≡ Some n
    → (x : KeptTopic) × IsTopicAt s tables name n x
topic-there s next_end tables kept is name n at =
    let row = number-some topic_number (find (has_topic_name name) s.topics) n (sym (kept.topic_numbers name) ∙ at) in
    let found : find (λ (r : TopicRow). nat_eq r.number n) s.topics ≡ Some row.0 =
    ap (λ k. find (λ (r : TopicRow). nat_eq r.number k) s.topics) (sym row.1.1) ∙ found-by-number topic_number (has_topic_name name) s.topics row.0 kept.steady.topics row.1.0 in
    let x = row-some (lookup (is_at (nat_cmp n)) tables.topics.entries) row.0 (topic-got s next_end tables kept is n ∙ found) in
    (x.0, record { got = x.1.0; number = ap topic_number x.1.1 ∙ row.1.1; named = row.1.0 ∙ ap Some (sym x.1.1) })

pub topic-nowhere : (s : State) (next_end : ℕ) (tables : Tables) → IsKept s next_end tables → (name : List ℕ) → numbered tables.topic_numbers name ≡ None → find (has_topic_name name) s.topics ≡ None
topic-nowhere s next_end tables kept name at = number-none topic_number (find (has_topic_name name) s.topics) (sym (kept.topic_numbers name) ∙ at)

-- the subscription that stands at the number of a name
pub subscription-there : (s : State) (next_end : ℕ) (tables : Tables) → IsKept s next_end tables → s.subscriptions ≡ values tables.subscriptions → (name : List ℕ) (n : ℕ) → numbered tables.subscription_numbers name ≡ Some n
    → (x : KeptSubscription) × IsSubscriptionAt s tables name n x
subscription-there s next_end tables kept is name n at =
    let x = number-some number_of (find (has_name name) s.subscriptions) n (sym (kept.subscription_numbers name) ∙ at) in
    let found : find (λ (y : KeptSubscription). nat_eq y.number n) s.subscriptions ≡ Some x.0 =
    ap (λ k. find (λ (y : KeptSubscription). nat_eq y.number k) s.subscriptions) (sym x.1.1) ∙ found-by-number number_of (has_name name) s.subscriptions x.0 kept.steady.subscriptions x.1.0 in
    (x.0, record { got = subscription-got s next_end tables kept is n ∙ found; number = x.1.1; named = x.1.0 })

pub subscription-nowhere : (s : State) (next_end : ℕ) (tables : Tables) → IsKept s next_end tables → (name : List ℕ) → numbered tables.subscription_numbers name ≡ None → find (has_name name) s.subscriptions ≡ None
subscription-nowhere s next_end tables kept name at = number-none number_of (find (has_name name) s.subscriptions) (sym (kept.subscription_numbers name) ∙ at)

-- the rules find the row of the subscription with the name
pub sub-named-seen : (s : State) (name : List ℕ) → sub_named (seen s) name ≡ option_map sub_row (find (has_name name) s.subscriptions)
sub-named-seen s name = find-in-map sub_row (λ (r : SubRow). bytes_eq r.name name) s.subscriptions

-- ---- subscriptions that change, but not what is kept beside them

-- it is the same subscription, and has the same messages
pub record IsSameHolder (x y : KeptSubscription) : Type 0 where
  pub number : x.number ≡ y.number
  pub name : x.name ≡ y.name
  pub topic : x.topic ≡ y.topic
  pub detached : x.detached ≡ y.detached
  pub holds : (n : ℕ) → has x.sub.slots n ≡ has y.sub.slots n

pub subscription-at-same : (f : KeptSubscription → KeptSubscription) (name : List ℕ) (xs : List KeptSubscription) → AllByRecursion (λ (x : KeptSubscription). IsSameHolder (f x) x) xs → subscription_at name (map f xs) ≡ subscription_at name xs
subscription-at-same f name [] h = refl
subscription-at-same f name (x ∷ xs) h =
    (λ i. option_map number_of (cond (bytes_eq (h.0.name i) name) (Some (f x)) (find (has_name name) (map f xs)))) ∙ by (bytes_eq x.name name) (subscription-at-same f name xs h.1)
  where
    by : (b : Bool) → option_map number_of (find (has_name name) (map f xs)) ≡ option_map number_of (find (has_name name) xs)
        → option_map number_of (cond b (Some (f x)) (find (has_name name) (map f xs))) ≡ option_map number_of (cond b (Some x) (find (has_name name) xs))
    by true ih = ap Some h.0.number
    by false ih = ih

pub attached-at-same : (f : KeptSubscription → KeptSubscription) (topic : ℕ) (name : List ℕ) (xs : List KeptSubscription) → AllByRecursion (λ (x : KeptSubscription). IsSameHolder (f x) x) xs → attached_at topic name (map f xs) ≡ attached_at topic name xs
attached-at-same f topic name [] h = refl
attached-at-same f topic name (x ∷ xs) h =
    (λ i. option_map number_of (cond (bytes_eq (h.0.name i) name && (nat_eq (h.0.topic i) topic && not (h.0.detached i))) (Some (f x)) (find (λ (x : KeptSubscription). has_name name x && is_attached topic x) (map f xs))))
    ∙ by (has_name name x && is_attached topic x) (attached-at-same f topic name xs h.1)
  where
    by : (b : Bool) → attached_at topic name (map f xs) ≡ attached_at topic name xs
        → option_map number_of (cond b (Some (f x)) (find (λ (x : KeptSubscription). has_name name x && is_attached topic x) (map f xs))) ≡ option_map number_of (cond b (Some x) (find (λ (x : KeptSubscription). has_name name x && is_attached topic x) xs))
    by true ih = ap Some h.0.number
    by false ih = ih

pub holders-same : (f : KeptSubscription → KeptSubscription) (n : ℕ) (xs : List KeptSubscription) → AllByRecursion (λ (x : KeptSubscription). IsSameHolder (f x) x) xs → holders_of (map f xs) n ≡ holders_of xs n
holders-same f n [] h = refl
holders-same f n (x ∷ xs) h = λ i. (if h.0.holds n i then 1 else 0) + holders-same f n xs h.1 i

-- what is kept beside them stays right
pub members-stay : (f : KeptSubscription → KeptSubscription) (xs : List KeptSubscription) (topics : List KeptTopic) → AllByRecursion (λ (x : KeptSubscription). IsSameHolder (f x) x) xs → AllByRecursion (HasMembers xs) topics → AllByRecursion (HasMembers (map f xs)) topics
members-stay f xs topics same = each-then (HasMembers xs) (HasMembers (map f xs)) topics (λ t has name. has name ∙ sym (attached-at-same f t.row.number name xs same))

pub holders-stay : (f : KeptSubscription → KeptSubscription) (xs : List KeptSubscription) (messages : List KeptMessage) → AllByRecursion (λ (x : KeptSubscription). IsSameHolder (f x) x) xs → AllByRecursion (IsCounted xs) messages → AllByRecursion (IsCounted (map f xs)) messages
holders-stay f xs messages same = each-then (IsCounted xs) (IsCounted (map f xs)) messages (λ m is. is ∙ sym (holders-same f m.row.number xs same))

-- the one with a number is another, and the rest stay
pub put-same : (n : ℕ) (x w : KeptSubscription) (xs : List KeptSubscription) → Ordered (λ (a b : KeptSubscription). a.number < b.number) xs → find (λ (y : KeptSubscription). nat_eq y.number n) xs ≡ Some x → IsSameHolder w x
    → AllByRecursion (λ (y : KeptSubscription). IsSameHolder (if nat_eq y.number n then w else y) y) xs
put-same n x w [] up is same = tt
put-same n x w (y ∷ ys) up is same = by (nat_eq y.number n) refl is (put-same n x w ys up.1)
  where
    Same : KeptSubscription → Type 0
    Same = λ y. IsSameHolder (if nat_eq y.number n then w else y) y

    itself : (z : KeptSubscription) → IsSameHolder z z
    itself z = record { number = refl; name = refl; topic = refl; detached = refl; holds = λ k. refl }

    above : (zs : List KeptSubscription) → AllByRecursion (λ (z : KeptSubscription). n < z.number) zs → AllByRecursion Same zs
    above zs h = each-then (λ (z : KeptSubscription). n < z.number) Same zs (λ z up. let ne : z.number ≢ n = omega (arith, up) in rw (ne_eqb z.number n ne) (itself z)) h

    by : (b : Bool) → nat_eq y.number n ≡ b → cond b (Some y) (find (λ (y : KeptSubscription). nat_eq y.number n) ys) ≡ Some x → (find (λ (y : KeptSubscription). nat_eq y.number n) ys ≡ Some x → IsSameHolder w x → AllByRecursion Same ys) → IsSameHolder (if nat_eq y.number n then w else y) y × AllByRecursion Same ys
    by true own is ih =
        let here : x ≡ y = cc (is) in
        (rw own (subst (λ z. IsSameHolder w z) here same), above ys (subst (λ k. AllByRecursion (λ (z : KeptSubscription). k < z.number) ys) (eqb-true y.number n own) up.0))
    by false own is ih = (rw own (itself y), ih is same)

-- Subscriptions change, but not what is kept beside them.
pub kept-changed : (s new : State) (next_end next : ℕ) (tables after : Tables) (f : KeptSubscription → KeptSubscription) → IsKept s next_end tables → IsSteady new → AllByRecursion (λ (x : KeptSubscription). IsSameHolder (f x) x) s.subscriptions
    → new.subscriptions ≡ map f s.subscriptions → new.topics ≡ s.topics → after.topics ≡ tables.topics → after.topic_numbers ≡ tables.topic_numbers → after.subscription_numbers ≡ tables.subscription_numbers → after.messages ≡ tables.messages
    → IsNumbered number_of after.subscriptions.entries → ((at : ℕ) → at < next → is_any_due at new ≡ false) → IsKept new next after
kept-changed s new next_end next tables after f kept steady same is topics rows topic_numbers subscription_numbers messages entries none = record {
  steady = steady;
  topics = subst (λ m. IsNumbered (λ (x : KeptTopic). x.row.number) m.entries) (sym rows) kept.topics;
  topic_numbers = λ name. ap (λ index. numbered index name) topic_numbers ∙ kept.topic_numbers name ∙ ap (topic_at name) (sym topics);
  subscriptions = entries;
  subscription_numbers = λ name. ap (λ index. numbered index name) subscription_numbers ∙ kept.subscription_numbers name ∙ sym (subscription-at-same f name s.subscriptions same) ∙ ap (subscription_at name) (sym is);
  members = subst (λ m. AllByRecursion (HasMembers new.subscriptions) (values m)) (sym rows) (subst (λ xs. AllByRecursion (HasMembers xs) (values tables.topics)) (sym is) (members-stay f s.subscriptions (values tables.topics) same kept.members));
  messages = subst (λ m. IsNumbered (λ (x : KeptMessage). x.row.number) m.entries) (sym messages) kept.messages;
  holders = subst (λ m. AllByRecursion (IsCounted new.subscriptions) (values m)) (sym messages) (subst (λ xs. AllByRecursion (IsCounted xs) (values tables.messages)) (sym is) (holders-stay f s.subscriptions (values tables.messages) same kept.holders));
  none_before = none;
}
