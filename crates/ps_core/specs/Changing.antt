-- What updates write, and what stays.
use Rattle.std.specs.Prelude.{◌≡◌, ℕ, ◌&&◌, nat_eq, List, None, if◌then◌else◌}
use Rattle.std.specs.BTreeMap.{get_by_text}
use Rattle.std.specs.List.{AllZip}
use Rattle.std.specs.Str.{bytes_eq}
use Rattle.ps_config.specs.declared.config.SubConfig.{SubConfig}
use Rattle.ps_config.specs.declared.config.TopicConfig.{TopicConfig}
use Rattle.ps_model.specs.declared.world.TopicRow.{TopicRow}
use Rattle.ps_tables.specs.declared.kept_subscription.KeptSubscription.{KeptSubscription}
use Rattle.ps_tables.specs.declared.tables.KeptTopic.{KeptTopic}
use Rattle.ps_core.specs.State.{State, topic_number}
use Rattle.ps_tables.specs.Subscriptions.{number_of}
use Rattle.ps_tables.specs.Numbers.{changed_at}

-- ---- what stands at a number

abbrev pub with_config : TopicConfig → TopicRow → TopicRow
with_config config r = record r { config = config }

abbrev pub with_topic_config : TopicConfig → KeptTopic → KeptTopic
with_topic_config config x = record x { row = with_config config x.row }

abbrev pub with_settings : SubConfig → KeptSubscription → KeptSubscription
with_settings config x = record x { sub = record x.sub { config = config } }

abbrev pub change_topic : ℕ → (TopicRow → TopicRow) → State → State
change_topic n f s = record s { topics = changed_at topic_number n f s.topics }

abbrev pub change_subscription : ℕ → (KeptSubscription → KeptSubscription) → State → State
change_subscription n f s = record s { subscriptions = changed_at number_of n f s.subscriptions }

-- the settings keep what never changes: whether messages are ordered, and the filter
pub record KeepsRest (config : SubConfig) (old : SubConfig) : Type 0 where
  pub ordering : config.ordering ≡ old.ordering
  pub filter : config.filter ≡ old.filter

-- ---- members

abbrev pub kept_number : KeptTopic → ℕ
kept_number x = x.row.number

-- the topic stays, and has no subscription of this name any more if it has this number
pub record IsLeft (topic : ℕ) (name : List ℕ) (old new : KeptTopic) : Type 0 where
  pub row : new.row ≡ old.row
  pub subs : (other : List ℕ) → get_by_text new.subs.numbers other ≡ (if nat_eq old.row.number topic && bytes_eq name other then None else get_by_text old.subs.numbers other)

abbrev pub AreLeft : ℕ → List ℕ → List KeptTopic → List KeptTopic → Type 0
AreLeft topic name = AllZip (IsLeft topic name)
