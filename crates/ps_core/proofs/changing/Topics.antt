-- What is kept when a topic changes or goes.
use Rattle.ps_names.specs.Names.{is_topic_name}
use Rattle.std.proofs.Common.{◌≡◌, ◌≢◌, ◌<◌, ℕ, Bool, true, false, not, nat_cmp, nat_eq, List, [], ◌∷◌, Option, Some, None, filter, find, map, option_map, refl, sym, ap, ◌∙◌, subst, arith, if◌then◌else◌}
use Rattle.std.specs.BTreeMap.{BTreeMap, is_at, values}
use Rattle.std.specs.List.{AllByRecursion}
use Rattle.std.specs.Map.{remove_entry, values_of}
use Rattle.std.specs.Str.{bytes_eq}
use Rattle.ps_base.proofs.Lists.{each-left, each-map, each-then, each-then-both, found-passes}
use Rattle.ps_config.specs.declared.config.TopicConfig.{TopicConfig}
use Rattle.ps_model.specs.declared.world.TopicRow.{TopicRow}
use Rattle.ps_model.specs.Sound.{Ordered}
use Rattle.ps_model.proofs.SameLemmas.{exact-bytes}
use Rattle.ps_tables.specs.declared.kept_subscription.KeptSubscription.{KeptSubscription}
use Rattle.ps_tables.specs.declared.name_index.NameIndex.{NameIndex}
use Rattle.ps_tables.specs.declared.tables.KeptTopic.{KeptTopic}
use Rattle.ps_tables.specs.declared.tables.Tables.{Tables}
use Rattle.ps_core.specs.Built.{unbuilt_topic_setting}
use Rattle.ps_core.specs.Changing.{change_topic, kept_number, with_config, with_topic_config}
use Rattle.ps_tables.specs.Numbers.{changed_at, IsNumbered}
use Rattle.ps_core.specs.Effects.{drop_topic}
use Rattle.ps_tables.specs.Members.{HasMembers}
use Rattle.ps_core.specs.Keeping.{IsKept, has_topic_name, state_of, the_message, the_row, topic_at}
use Rattle.ps_core.specs.State.{State, topic_number}
use Rattle.ps_core.specs.Steady.{IsJoined, IsSteady, IsSteadySubscription}
use Rattle.ps_tables.specs.TableEdits.{RemovesName}
use Rattle.ps_tables.proofs.lists.Filtered.{filter-mapped}
use Rattle.ps_core.proofs.changing.Lists.{found-dropped, same-name}
use Rattle.ps_tables.proofs.numbers.Changes.{same-number, found-by-number}
use Rattle.ps_tables.proofs.numbers.Numbered.{numbered-remove-keys, numbered-removed}
use Rattle.ps_tables.proofs.lists.Ordered.{ordered-map, ordered-of-map, ordered-filter}

-- a subscription reads nothing of the topics
subscription-stays : (s : State) (topics : List TopicRow) (x : KeptSubscription) → IsSteadySubscription s x → IsSteadySubscription (record s { topics = topics }) x
subscription-stays s topics x h = record {
  settings = h.settings;
  filter = h.filter;
  leases = h.leases;
  slots = h.slots;
  joined = each-then (IsJoined s x) (IsJoined (record s { topics = topics }) x) x.sub.slots (λ slot j. record { row = j.row; number = j.number; publish = j.publish; here = j.here }) h.joined;
  caught_up = h.caught_up;
  detached = h.detached;
  topic = h.topic;
}

record IsSteadyRows (s : State) (rows : List TopicRow) : Type 0 where
  topics : Ordered (λ (a b : TopicRow). a.number < b.number) rows
  topics_below : AllByRecursion (λ (r : TopicRow). r.number < s.next_topic) rows
  topic_names : Ordered (λ (a b : TopicRow). a.name ≢ b.name) rows
  topic_grammar : AllByRecursion (λ (r : TopicRow). is_topic_name r.name ≡ true) rows
  topic_settings : AllByRecursion (λ (r : TopicRow). unbuilt_topic_setting r.config ≡ None) rows

topics-steady : (s : State) (topics : List TopicRow) → IsSteady s → IsSteadyRows s topics → IsSteady (record s { topics = topics })
topics-steady s topics h rows = record {
  now = h.now;
  count = h.count;
  topics = rows.topics;
  topics_below = rows.topics_below;
  topic_names = rows.topic_names;
  topic_grammar = rows.topic_grammar;
  topic_settings = rows.topic_settings;
  topics_few = h.topics_few;
  subscriptions = h.subscriptions;
  subscriptions_below = h.subscriptions_below;
  subscription_names = h.subscription_names;
  subscription_grammar = h.subscription_grammar;
  subs_few = h.subs_few;
  each = each-then (IsSteadySubscription s) (IsSteadySubscription (record s { topics = topics })) s.subscriptions (λ x own. subscription-stays s topics x own) h.each;
  messages = h.messages;
  messages_below = h.messages_below;
  messages_few = h.messages_few;
  kept = h.kept;
  wanted = h.wanted;
}

kept-part : {A B : Type 0} (g : A → B) (f : A → A) → ((x : A) → g (f x) ≡ g x) → (b : Bool) (x : A) → g (if b then f x else x) ≡ g x
kept-part g f same true x = same x
kept-part g f same false x = refl

-- ---- other settings

rows-changed : (n : ℕ) (config : TopicConfig) (ys : List KeptTopic) → map the_row (changed_at kept_number n (with_topic_config config) ys) ≡ changed_at topic_number n (with_config config) (map the_row ys)
rows-changed n config [] = refl
rows-changed n config (y ∷ ys) = by (nat_eq y.row.number n) (rows-changed n config ys)
  where
    by : (b : Bool) → map the_row (changed_at kept_number n (with_topic_config config) ys) ≡ changed_at topic_number n (with_config config) (map the_row ys)
        → the_row (if b then with_topic_config config y else y) ∷ map the_row (changed_at kept_number n (with_topic_config config) ys) ≡ (if b then with_config config y.row else y.row) ∷ changed_at topic_number n (with_config config) (map the_row ys)
    by true rest = ap (λ zs. with_config config y.row ∷ zs) rest
    by false rest = ap (λ zs. y.row ∷ zs) rest

topic-at-changed : (n : ℕ) (config : TopicConfig) (name : List ℕ) (rows : List TopicRow) → topic_at name (changed_at topic_number n (with_config config) rows) ≡ topic_at name rows
topic-at-changed n config name [] = refl
topic-at-changed n config name (r ∷ rows) = by (nat_eq r.number n) (bytes_eq r.name name) refl (topic-at-changed n config name rows)
  where
    by : (b has : Bool) → bytes_eq r.name name ≡ has → topic_at name (changed_at topic_number n (with_config config) rows) ≡ topic_at name rows
        → topic_at name ((if b then with_config config r else r) ∷ changed_at topic_number n (with_config config) rows) ≡ topic_at name (r ∷ rows)
    by true true own rest = rw own refl
    by true false own rest = rw own rest
    by false true own rest = rw own refl
    by false false own rest = rw own rest

pub configured-steady : (n : ℕ) (config : TopicConfig) (s : State) → unbuilt_topic_setting config ≡ None → IsSteady s → IsSteady (change_topic n (with_config config) s)
configured-steady n config s built h =
    let put : TopicRow → TopicRow = λ r. if nat_eq r.number n then with_config config r else r in
    let number : (r : TopicRow) → (put r).number ≡ r.number = λ r. kept-part topic_number (with_config config) (λ x. refl) (nat_eq r.number n) r in
    let name : (r : TopicRow) → (put r).name ≡ r.name = λ r. kept-part (λ (x : TopicRow). x.name) (with_config config) (λ x. refl) (nat_eq r.number n) r in
    topics-steady s (map put s.topics) h
    (record {
      topics = ordered-map (λ (a b : TopicRow). a.number < b.number) (λ (a b : TopicRow). a.number < b.number) put s.topics (λ a b up. omega (arith, up, number a, number b)) h.topics;
      topics_below = each-map (λ (r : TopicRow). r.number < s.next_topic) (λ (r : TopicRow). r.number < s.next_topic) put s.topics (λ r below. omega (arith, below, number r)) h.topics_below;
      topic_names = ordered-map (λ (a b : TopicRow). a.name ≢ b.name) (λ (a b : TopicRow). a.name ≢ b.name) put s.topics (λ a b differ same. differ (sym (name a) ∙ same ∙ name b)) h.topic_names;
      topic_grammar = each-map (λ (r : TopicRow). is_topic_name r.name ≡ true) (λ (r : TopicRow). is_topic_name r.name ≡ true) put s.topics (λ r is. ap is_topic_name (name r) ∙ is) h.topic_grammar;
      topic_settings = each-map (λ (r : TopicRow). unbuilt_topic_setting r.config ≡ None) (λ (r : TopicRow). unbuilt_topic_setting r.config ≡ None) put s.topics (λ r was. one r (nat_eq r.number n) was) h.topic_settings;
    })
  where
    one : (r : TopicRow) (b : Bool) → unbuilt_topic_setting r.config ≡ None → unbuilt_topic_setting (if b then with_config config r else r).config ≡ None
    one r true was = built
    one r false was = was

same-members : (n : ℕ) (config : TopicConfig) (subscriptions : List KeptSubscription) (b : Bool) (x : KeptTopic) → HasMembers subscriptions x → HasMembers subscriptions (if b then with_topic_config config x else x)
same-members n config subscriptions true x h = h
same-members n config subscriptions false x h = h

-- the tables with other settings at a topic
pub configured-view : (now count next_topic next_sub next_message n : ℕ) (config : TopicConfig) (tables after : Tables) → after.subscriptions ≡ tables.subscriptions → after.messages ≡ tables.messages
    → values after.topics ≡ changed_at kept_number n (with_topic_config config) (values tables.topics)
    → state_of now count next_topic next_sub next_message after ≡ change_topic n (with_config config) (state_of now count next_topic next_sub next_message tables)
configured-view now count next_topic next_sub next_message n config tables after subscriptions messages topics = λ i. record {
  now = now;
  count = count;
  next_topic = next_topic;
  next_sub = next_sub;
  next_message = next_message;
  topics = (ap (map the_row) topics ∙ rows-changed n config (values tables.topics)) i;
  subscriptions = values (subscriptions i);
  messages = map the_message (values (messages i));
}

pub kept-configured : (s : State) (n next_end : ℕ) (config : TopicConfig) (tables : Tables) (topics : BTreeMap ℕ KeptTopic) → unbuilt_topic_setting config ≡ None → IsKept s next_end tables
    → IsNumbered kept_number topics.entries → values topics ≡ changed_at kept_number n (with_topic_config config) (values tables.topics) → IsKept (change_topic n (with_config config) s) next_end (record tables { topics = topics })
kept-configured s n next_end config tables topics built kept entries is = record {
  steady = configured-steady n config s built kept.steady;
  topics = entries;
  topic_numbers = λ name. kept.topic_numbers name ∙ sym (topic-at-changed n config name s.topics);
  subscriptions = kept.subscriptions;
  subscription_numbers = kept.subscription_numbers;
  members = subst (AllByRecursion (HasMembers s.subscriptions)) (sym is)
      (each-map (HasMembers s.subscriptions) (HasMembers s.subscriptions) (λ (x : KeptTopic). if nat_eq (kept_number x) n then with_topic_config config x else x) (values tables.topics)
      (λ x h. same-members n config s.subscriptions (nat_eq (kept_number x) n) x h) kept.members);
  messages = kept.messages;
  holders = kept.holders;
  none_before = kept.none_before;
}

-- ---- a topic goes

pub dropped-steady : (n : ℕ) (s : State) → IsSteady s → IsSteady (drop_topic n s)
dropped-steady n s h =
    let stays : TopicRow → Bool = λ r. not (nat_eq r.number n) in
    topics-steady s (filter stays s.topics) h
    (record {
      topics = ordered-filter (λ (a b : TopicRow). a.number < b.number) stays s.topics h.topics;
      topics_below = each-left (λ (r : TopicRow). r.number < s.next_topic) stays s.topics h.topics_below;
      topic_names = ordered-filter (λ (a b : TopicRow). a.name ≢ b.name) stays s.topics h.topic_names;
      topic_grammar = each-left (λ (r : TopicRow). is_topic_name r.name ≡ true) stays s.topics h.topic_grammar;
      topic_settings = each-left (λ (r : TopicRow). unbuilt_topic_setting r.config ≡ None) stays s.topics h.topic_settings;
    })

pub topics-stand : (s : State) (name : List ℕ) (row : TopicRow) → IsSteady s → find (has_topic_name name) s.topics ≡ Some row
    → AllByRecursion (λ (r : TopicRow). (bytes_eq r.name name ≡ true → r.number ≡ row.number) × (nat_eq r.number row.number ≡ true → r.name ≡ name)) s.topics
topics-stand s name row h is =
    let own : row.name ≡ name = exact-bytes.one row.name name (found-passes (has_topic_name name) s.topics row is) in
    each-then-both (λ (r : TopicRow). bytes_eq r.name name ≡ true → r ≡ row) (λ (r : TopicRow). nat_eq r.number row.number ≡ true → r ≡ row) (λ (r : TopicRow). (bytes_eq r.name name ≡ true → r.number ≡ row.number) × (nat_eq r.number row.number ≡ true → r.name ≡ name)) s.topics
    (λ r named numbered. ((λ e. ap topic_number (named e)), (λ e. ap (λ (x : TopicRow). x.name) (numbered e) ∙ own)))
    (same-name topic_number (λ (r : TopicRow). r.name) name row s.topics h.topic_names is)
    (same-number topic_number row.number row s.topics h.topics (found-by-number topic_number (has_topic_name name) s.topics row h.topics is))

pub dropped-view : (now count next_topic next_sub next_message n next_end : ℕ) (tables after : Tables) → IsKept (state_of now count next_topic next_sub next_message tables) next_end tables
    → after.subscriptions ≡ tables.subscriptions → after.messages ≡ tables.messages → after.topics.entries ≡ remove_entry (is_at (nat_cmp n)) tables.topics.entries
    → state_of now count next_topic next_sub next_message after ≡ drop_topic n (state_of now count next_topic next_sub next_message tables)
dropped-view now count next_topic next_sub next_message n next_end tables after kept subscriptions messages topics = λ i. record {
  now = now;
  count = count;
  next_topic = next_topic;
  next_sub = next_sub;
  next_message = next_message;
  topics = (ap (λ es. map the_row (values_of es)) topics
      ∙ ap (map the_row) (numbered-removed kept_number n tables.topics.entries kept.topics (ordered-of-map (λ (a b : TopicRow). a.number < b.number) the_row (values tables.topics) kept.steady.topics)) ∙ sym (filter-mapped the_row (λ (r : TopicRow). not (nat_eq r.number n)) (values tables.topics))) i;
  subscriptions = values (subscriptions i);
  messages = map the_message (values (messages i));
}

pub kept-dropped : (s : State) (name : List ℕ) (row : TopicRow) (next_end : ℕ) (tables : Tables) (topics : BTreeMap ℕ KeptTopic) (topic_numbers : NameIndex) → s.topics ≡ map the_row (values tables.topics) → IsKept s next_end tables
    → find (has_topic_name name) s.topics ≡ Some row → topics.entries ≡ remove_entry (is_at (nat_cmp row.number)) tables.topics.entries → RemovesName tables.topic_numbers name topic_numbers
    → IsKept (drop_topic row.number s) next_end (record tables { topics = topics; topic_numbers = topic_numbers })
kept-dropped s name row next_end tables topics topic_numbers view kept is entries removed =
    let n : ℕ = row.number in
    let up : Ordered (λ (a b : KeptTopic). kept_number a < kept_number b) (values tables.topics) = ordered-of-map (λ (a b : TopicRow). a.number < b.number) the_row (values tables.topics) (subst (Ordered (λ (a b : TopicRow). a.number < b.number)) view kept.steady.topics) in
    record {
      steady = dropped-steady n s kept.steady;
      topics = subst (IsNumbered kept_number) (sym entries) (numbered-remove-keys kept_number n tables.topics.entries kept.topics);
      topic_numbers = λ other.
          removed other ∙ ap (λ o. if bytes_eq name other then None else o) (kept.topic_numbers other) ∙ numbers (bytes_eq name other) (find (has_topic_name other) s.topics)
          ∙ ap (option_map topic_number) (sym (found-dropped topic_number (λ (r : TopicRow). r.name) name other n s.topics (topics-stand s name row kept.steady is)));
      subscriptions = kept.subscriptions;
      subscription_numbers = kept.subscription_numbers;
      members = subst (λ es. AllByRecursion (HasMembers s.subscriptions) (values_of es)) (sym entries)
          (subst (AllByRecursion (HasMembers s.subscriptions)) (sym (numbered-removed kept_number n tables.topics.entries kept.topics up))
          (each-left (HasMembers s.subscriptions) (λ (x : KeptTopic). not (nat_eq (kept_number x) n)) (values tables.topics) kept.members));
      messages = kept.messages;
      holders = kept.holders;
      none_before = kept.none_before;
    }
  where
    numbers : (b : Bool) (o : Option TopicRow) → (if b then None else option_map topic_number o) ≡ option_map topic_number (if b then None else o)
    numbers true o = refl
    numbers false o = refl
