-- What is kept beside the state of a new topic and of a new subscription.
use Rattle.std.proofs.Common.{ℕ, ◌≡◌, ◌≢◌, ◌+◌, ◌<◌, Bool, true, false, ◌&&◌, ◌||◌, not, nat_cmp, nat_eq, List, [], ◌∷◌, ◌++◌, Option, Some, None, option_map, MatchOption, find, map, refl, sym, ◌∙◌, ap, subst, arith, if◌then◌else◌}
use Rattle.std.specs.List.{AllByRecursion, list_any}
use Rattle.std.specs.Map.{lookup, values_of}
use Rattle.std.specs.BTreeMap.{insert_entry, is_at, values}
use Rattle.std.specs.Str.{bytes_eq}
use Rattle.std.proofs.lemmas.Bool.{eq-eqb, eqb-true, eqb-false, ne_eqb}
use Rattle.std.proofs.lemmas.List.{map-append}
use Rattle.std.proofs.lemmas.List.Folds.{list_any-append}
use Rattle.ps_config.specs.declared.config.SubConfig.{SubConfig}
use Rattle.ps_model.specs.declared.world.TopicRow.{TopicRow}
use Rattle.ps_model.specs.declared.mark.Slot.{Slot}
use Rattle.ps_model.specs.Failing.{is_due}
use Rattle.ps_model.specs.Sound.{Ordered}
use Rattle.ps_sub.specs.Showing.{has}
use Rattle.ps_model.proofs.SameLemmas.{exact-bytes}
use Rattle.ps_tables.specs.declared.kept_subscription.KeptSubscription.{KeptSubscription}
use Rattle.ps_tables.specs.declared.tables.KeptMessage.{KeptMessage}
use Rattle.ps_tables.specs.declared.tables.KeptTopic.{KeptTopic}
use Rattle.ps_tables.specs.declared.tables.Tables.{Tables}
use Rattle.ps_core.specs.Effects.{add_topic, add_subscription, new_subscription}
use Rattle.ps_tables.specs.Subscriptions.{is_attached, number_of}
use Rattle.ps_core.specs.Keeping.{IsKept, IsCounted, has_topic_name, the_row}
use Rattle.ps_tables.specs.Numbers.{IsNumbered}
use Rattle.ps_tables.specs.Members.{HasMembers, numbered, has_name, attached_at, holders_of}
use Rattle.ps_core.specs.State.{State, topic_number}
use Rattle.ps_core.specs.Steady.{IsSteady, IsSteadySubscription}
use Rattle.ps_tables.specs.TableEdits.{AddsTopic, HasOtherSubs, JoinsTopic, PutsName}
use Rattle.ps_base.proofs.Lists.{each-append, each-found, each-map, each-of-map, each-then, find-none, found-passes, none-found}
use Rattle.ps_tables.proofs.lists.Ordered.{ordered-of-map}
use Rattle.ps_core.proofs.carrying.Kept.{topic-got}
use Rattle.ps_core.proofs.creating.Pushed.{entries-push, number-push, shown-put}
use Rattle.ps_tables.proofs.numbers.Numbered.{numbered-found, numbered-put, numbered-put-keys}

-- ---- a new topic

-- what a map with one topic more has
pub topics-added : (s : State) (next_end : ℕ) (tables : Tables) (row : TopicRow) → IsKept s next_end tables → s.topics ≡ map the_row (values tables.topics) → row.number ≡ s.next_topic → (after : Tables) (adds : AddsTopic tables.topics row after.topics)
    → IsNumbered (λ (x : KeptTopic). x.row.number) after.topics.entries × (values after.topics ≡ values tables.topics ++ adds.topic ∷ [])
topics-added s next_end tables row kept is own after adds =
    let below : AllByRecursion (λ (x : KeptTopic). x.row.number < row.number) (values tables.topics) =
    each-of-map (λ (r : TopicRow). r.number < row.number) the_row (values tables.topics)
    (subst (λ rows. AllByRecursion (λ (r : TopicRow). r.number < row.number) rows) is (subst (λ n. AllByRecursion (λ (r : TopicRow). r.number < n) s.topics) (sym own) kept.steady.topics_below)) in
    entries-push (λ (x : KeptTopic). x.row.number) row.number adds.topic tables.topics.entries after.topics.entries kept.topics below (ap topic_number adds.row_is) adds.entries

-- the rows of the topics, with one more
pub rows-added : (s : State) (next_end : ℕ) (tables : Tables) (row : TopicRow) → IsKept s next_end tables → s.topics ≡ map the_row (values tables.topics) → row.number ≡ s.next_topic → (after : Tables) → AddsTopic tables.topics row after.topics
    → map the_row (values after.topics) ≡ s.topics ++ row ∷ []
rows-added s next_end tables row kept is own after adds =
    ap (map the_row) (topics-added s next_end tables row kept is own after adds).1 ∙ map-append the_row (values tables.topics) (adds.topic ∷ []) ∙ λ i. sym is i ++ adds.row_is i ∷ []

-- a topic that no subscription has
none-attached : (topic : ℕ) (name : List ℕ) (xs : List KeptSubscription) → AllByRecursion (λ (x : KeptSubscription). x.topic < topic) xs → attached_at topic name xs ≡ None
none-attached topic name xs h =
    ap (option_map number_of) (find-none (λ (x : KeptSubscription). has_name name x && is_attached topic x) xs
    (each-then (λ (x : KeptSubscription). x.topic < topic) (λ (x : KeptSubscription). (has_name name x && is_attached topic x) ≡ false) xs (λ x below. let ne : x.topic ≢ topic = omega (arith, below) in no (has_name name x) (nat_eq x.topic topic) (not x.detached) (ne_eqb x.topic topic ne)) h))
  where
    no : (a b c : Bool) → b ≡ false → (a && (b && c)) ≡ false
    no true b c e = ap (λ (b : Bool). b && c) e
    no false b c e = refl

-- another name is no name of theirs
name-push : (name other : List ℕ) → bytes_eq name other ≡ true → other ≡ name
name-push name other e = sym (exact-bytes.one name other e)

pub kept-topic : (s : State) (next_end : ℕ) (tables after : Tables) (row : TopicRow) → IsKept s next_end tables → s.topics ≡ map the_row (values tables.topics) → row.number ≡ s.next_topic
    → IsSteady (add_topic row.name row.config s) → find (has_topic_name row.name) s.topics ≡ None
    → AddsTopic tables.topics row after.topics → PutsName tables.topic_numbers row.name row.number after.topic_numbers → after.subscriptions ≡ tables.subscriptions → after.subscription_numbers ≡ tables.subscription_numbers → after.messages ≡ tables.messages
    → IsKept (add_topic row.name row.config s) next_end after
kept-topic s next_end tables after row kept is own steady new adds names subscriptions subscription_names messages =
    let added = topics-added s next_end tables row kept is own after adds in
    let made : TopicRow = record { number = s.next_topic; name = row.name; config = row.config } in
    let below = each-then (IsSteadySubscription s) (λ (x : KeptSubscription). x.topic < row.number) s.subscriptions (λ x h. omega (arith, h.topic, own)) kept.steady.each in
    let alone : HasMembers s.subscriptions adds.topic = λ name. adds.alone name ∙ sym (none-attached row.number name s.subscriptions below) ∙ ap (λ n. attached_at n name s.subscriptions) (ap topic_number (sym adds.row_is)) in
    record {
      steady = steady;
      topics = added.0;
      topic_numbers = λ name.
          names name ∙ (λ i. if bytes_eq row.name name then Some (own i) else kept.topic_numbers name i)
          ∙ sym (number-push topic_number (has_topic_name name) s.topics made (λ e. ap (λ n. find (has_topic_name n) s.topics) (name-push row.name name e) ∙ new));
      subscriptions = subst (λ m. IsNumbered number_of m.entries) (sym subscriptions) kept.subscriptions;
      subscription_numbers = λ name. ap (λ index. numbered index name) subscription_names ∙ kept.subscription_numbers name;
      members = subst (AllByRecursion (HasMembers s.subscriptions)) (sym added.1) (each-append (HasMembers s.subscriptions) (values tables.topics) (adds.topic ∷ []) kept.members (alone, tt));
      messages = subst (λ m. IsNumbered (λ (x : KeptMessage). x.row.number) m.entries) (sym messages) kept.messages;
      holders = subst (λ m. AllByRecursion (IsCounted s.subscriptions) (values m)) (sym messages) kept.holders;
      none_before = kept.none_before;
    }

-- ---- a new subscription

-- what the maps have with one subscription more, which is of a topic that is there
pub record HasJoined (s : State) (tables after : Tables) (x : KeptSubscription) : Type 0 where
  pub rows : map the_row (values after.topics) ≡ s.topics
  pub topics : IsNumbered (λ (t : KeptTopic). t.row.number) after.topics.entries
  pub members : AllByRecursion (HasMembers (s.subscriptions ++ x ∷ [])) (values after.topics)

module _ (s : State) (x : KeptSubscription) (new : find (has_name x.name) s.subscriptions ≡ None) where
  unnamed : (name : List ℕ) → bytes_eq x.name name ≡ true → find (has_name name) s.subscriptions ≡ None
  unnamed name e = ap (λ n. find (has_name n) s.subscriptions) (name-push x.name name e) ∙ new

  and-false : (a b : Bool) → a ≡ false → (a && b) ≡ false
  and-false a b e = ap (λ (a : Bool). a && b) e

  and-true : (a b : Bool) → (a && b) ≡ true → a ≡ true
  and-true true b e = refl
  and-true false b e = e

  -- of the subscriptions that are attached to a topic
  pub attached-push : (topic : ℕ) (name : List ℕ) → attached_at topic name (s.subscriptions ++ x ∷ []) ≡ (if bytes_eq x.name name && is_attached topic x then Some x.number else attached_at topic name s.subscriptions)
  attached-push topic name =
      number-push number_of (λ (y : KeptSubscription). has_name name y && is_attached topic y) s.subscriptions x
      (λ e. find-none (λ (y : KeptSubscription). has_name name y && is_attached topic y) s.subscriptions
      (each-then (λ (y : KeptSubscription). has_name name y ≡ false) (λ (y : KeptSubscription). (has_name name y && is_attached topic y) ≡ false) s.subscriptions (λ y none. and-false (has_name name y) (is_attached topic y) none)
      (none-found (has_name name) s.subscriptions (unnamed name (and-true (bytes_eq x.name name) (is_attached topic x) e)))))

  and-own : (a b : Bool) → b ≡ true → (a && b) ≡ a
  and-own true b e = e
  and-own false b e = refl

  and-other : (a b : Bool) → b ≡ false → (a && b) ≡ false
  and-other true b e = e
  and-other false b e = refl

  -- its own topic, with the subscription
  own-members : (was topic : KeptTopic) → topic.row ≡ was.row → is_attached was.row.number x ≡ true → PutsName was.subs x.name x.number topic.subs → HasMembers s.subscriptions was → HasMembers (s.subscriptions ++ x ∷ []) topic
  own-members was topic row own puts has name =
      puts name ∙ (λ i. if sym (and-own (bytes_eq x.name name) (is_attached was.row.number x) own) i then Some x.number else has name i) ∙ sym (attached-push was.row.number name) ∙ ap (λ (r : TopicRow). attached_at r.number name (s.subscriptions ++ x ∷ [])) (sym row)

  -- another topic
  other-members : (t : KeptTopic) → is_attached t.row.number x ≡ false → HasMembers s.subscriptions t → HasMembers (s.subscriptions ++ x ∷ []) t
  other-members t other has name =
      has name ∙ sym (attached-push t.row.number name ∙ ap (λ (b : Bool). if b then Some x.number else attached_at t.row.number name s.subscriptions) (and-other (bytes_eq x.name name) (is_attached t.row.number x) other))

pub joined : (s : State) (next_end : ℕ) (tables after : Tables) (x : KeptSubscription) → IsKept s next_end tables → s.topics ≡ map the_row (values tables.topics) → find (has_name x.name) s.subscriptions ≡ None → x.detached ≡ false
    → (row : TopicRow) → find (λ (r : TopicRow). nat_eq r.number x.topic) s.topics ≡ Some row → JoinsTopic tables.topics x after.topics → HasJoined s tables after x
joined s next_end tables after x kept is new here row there joins = by (lookup (is_at (nat_cmp x.topic)) tables.topics.entries) refl (topic-got s next_end tables kept is x.topic ∙ there) joins
  where
    number : KeptTopic → ℕ
    number t = t.row.number

    -- whether it is attached
    own-attached : (n : ℕ) → n ≡ x.topic → is_attached n x ≡ true
    own-attached n e = ap (λ (b : Bool). b && not x.detached) (eq-eqb x.topic n (sym e)) ∙ ap not here

    other-attached : (n : ℕ) → nat_eq n x.topic ≡ false → is_attached n x ≡ false
    other-attached n e = let ne : x.topic ≢ n = λ same. eqb-false n x.topic e (sym same) in ap (λ (b : Bool). b && not x.detached) (ne_eqb x.topic n ne)

    put-members : (was topic : KeptTopic) → HasMembers (s.subscriptions ++ x ∷ []) topic → (t : KeptTopic) → HasMembers s.subscriptions t → HasMembers (s.subscriptions ++ x ∷ []) (if nat_eq t.row.number x.topic then topic else t)
    put-members was topic own t has = side (nat_eq t.row.number x.topic) refl
      where
        side : (b : Bool) → nat_eq t.row.number x.topic ≡ b → HasMembers (s.subscriptions ++ x ∷ []) (if b then topic else t)
        side true e = own
        side false e = other-members s x new t (other-attached t.row.number e) has

    by : (o : Option KeptTopic) → lookup (is_at (nat_cmp x.topic)) tables.topics.entries ≡ o → option_map the_row o ≡ Some row
        → MatchOption o (after.topics.entries ≡ tables.topics.entries) (λ was. HasOtherSubs (λ before new. PutsName before x.name x.number new) x.topic was tables.topics after.topics) → HasJoined s tables after x
    by None e r j = absurd (cc (r))
    by (Some was) e r j =
        let found : find (λ (t : KeptTopic). nat_eq t.row.number x.topic) (values tables.topics) ≡ Some was = sym (numbered-found number x.topic tables.topics.entries kept.topics) ∙ e in
        let at : was.row.number ≡ x.topic = eqb-true was.row.number x.topic (found-passes (λ (t : KeptTopic). nat_eq t.row.number x.topic) (values tables.topics) was found) in
        let up : Ordered (λ (a b : KeptTopic). a.row.number < b.row.number) (values tables.topics) = ordered-of-map (λ (a b : TopicRow). a.number < b.number) the_row (values tables.topics) (subst (Ordered (λ (a b : TopicRow). a.number < b.number)) is kept.steady.topics) in
        let own : HasMembers (s.subscriptions ++ x ∷ []) j.topic = own-members s x new was j.topic j.row (own-attached was.row.number at) j.subs (each-found (HasMembers s.subscriptions) (λ (t : KeptTopic). nat_eq t.row.number x.topic) (values tables.topics) was found kept.members) in
        record {
          rows = ap (λ es. map the_row (values_of es)) j.entries ∙ shown-put (is_at (nat_cmp x.topic)) the_row tables.topics.entries was j.topic e j.row ∙ sym is;
          topics = subst (IsNumbered number) (sym j.entries) (numbered-put-keys number x.topic j.topic tables.topics.entries kept.topics (ap topic_number j.row ∙ at));
          members = subst (AllByRecursion (HasMembers (s.subscriptions ++ x ∷ []))) (sym (ap values_of j.entries ∙ numbered-put number x.topic j.topic tables.topics.entries kept.topics up))
              (each-map (HasMembers s.subscriptions) (HasMembers (s.subscriptions ++ x ∷ [])) (λ (t : KeptTopic). if nat_eq t.row.number x.topic then j.topic else t) (values tables.topics) (put-members was j.topic own) kept.members);
        }

-- a subscription that has no message counts for none
holders-push : (n : ℕ) (xs : List KeptSubscription) (x : KeptSubscription) → x.sub.slots ≡ [] → holders_of (xs ++ x ∷ []) n ≡ holders_of xs n
holders-push n [] x e = ap (λ (slots : List Slot). (if has slots n then 1 else 0) + 0) e
holders-push n (y ∷ ys) x e = ap (λ k. (if has y.sub.slots n then 1 else 0) + k) (holders-push n ys x e)

-- what the map has with one subscription more
pub subscriptions-added : (s : State) (next_end : ℕ) (tables : Tables) (x : KeptSubscription) → IsKept s next_end tables → s.subscriptions ≡ values tables.subscriptions → x.number ≡ s.next_sub → (after : Tables)
    → after.subscriptions.entries ≡ insert_entry nat_cmp tables.subscriptions.entries x.number x → IsNumbered number_of after.subscriptions.entries × (values after.subscriptions ≡ s.subscriptions ++ x ∷ [])
subscriptions-added s next_end tables x kept is own after adds =
    let below : AllByRecursion (λ (y : KeptSubscription). y.number < x.number) (values tables.subscriptions) =
    subst (AllByRecursion (λ (y : KeptSubscription). y.number < x.number)) is (subst (λ n. AllByRecursion (λ (y : KeptSubscription). y.number < n) s.subscriptions) (sym own) kept.steady.subscriptions_below) in
    let pushed = entries-push number_of x.number x tables.subscriptions.entries after.subscriptions.entries kept.subscriptions below refl adds in
    (pushed.0, pushed.1 ∙ ap (λ xs. xs ++ x ∷ []) (sym is))

pub kept-subscription : (name : List ℕ) (topic : ℕ) (config : SubConfig) (s : State) (next_end : ℕ) (tables after : Tables) → (let x : KeptSubscription = new_subscription s.next_sub name topic config in
    IsKept s next_end tables → s.topics ≡ map the_row (values tables.topics) → s.subscriptions ≡ values tables.subscriptions → IsSteady (add_subscription name topic config s) → find (has_name name) s.subscriptions ≡ None
    → (row : TopicRow) → find (λ (r : TopicRow). nat_eq r.number topic) s.topics ≡ Some row → JoinsTopic tables.topics x after.topics → after.topic_numbers ≡ tables.topic_numbers
    → after.subscriptions.entries ≡ insert_entry nat_cmp tables.subscriptions.entries x.number x → PutsName tables.subscription_numbers name x.number after.subscription_numbers → after.messages ≡ tables.messages
    → IsKept (add_subscription name topic config s) next_end after)
kept-subscription name topic config s next_end tables after kept topics subscriptions steady new row there joins topic_names adds names messages =
    let x : KeptSubscription = new_subscription s.next_sub name topic config in
    let pushed = subscriptions-added s next_end tables x kept subscriptions refl after adds in
    let j = joined s next_end tables after x kept topics new refl row there joins in
    record {
      steady = steady;
      topics = j.topics;
      topic_numbers = λ other. ap (λ index. numbered index other) topic_names ∙ kept.topic_numbers other;
      subscriptions = pushed.0;
      subscription_numbers = λ other.
          names other ∙ (λ i. if bytes_eq name other then Some s.next_sub else kept.subscription_numbers other i)
          ∙ sym (number-push number_of (has_name other) s.subscriptions x (unnamed s x new other));
      members = j.members;
      messages = subst (λ m. IsNumbered (λ (m : KeptMessage). m.row.number) m.entries) (sym messages) kept.messages;
      holders =
          subst (λ m. AllByRecursion (IsCounted (s.subscriptions ++ x ∷ [])) (values m)) (sym messages)
          (each-then (IsCounted s.subscriptions) (IsCounted (s.subscriptions ++ x ∷ [])) (values tables.messages) (λ m is. is ∙ sym (holders-push m.row.number s.subscriptions x refl)) kept.holders);
      none_before = λ u before. list_any-append (λ (y : KeptSubscription). list_any (is_due u) y.sub.slots) s.subscriptions (x ∷ []) ∙ ap (λ (due : Bool). due || false) (kept.none_before u before);
    }
