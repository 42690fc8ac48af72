-- What a core keeps beside its state, to find things and to know when to look.
use Rattle.std.specs.Prelude.{◌≡◌, ◌<◌, false, ℕ, Bool, List, Option, map, find, option_map}
use Rattle.std.specs.BTreeMap.{values}
use Rattle.std.specs.List.{AllByRecursion}
use Rattle.std.specs.Str.{bytes_eq}
use Rattle.ps_model.specs.declared.world.MessageRow.{MessageRow}
use Rattle.ps_model.specs.declared.world.TopicRow.{TopicRow}
use Rattle.ps_tables.specs.declared.kept_subscription.KeptSubscription.{KeptSubscription}
use Rattle.ps_tables.specs.declared.tables.KeptMessage.{KeptMessage}
use Rattle.ps_tables.specs.declared.tables.KeptTopic.{KeptTopic}
use Rattle.ps_tables.specs.declared.tables.Tables.{Tables}
use Rattle.ps_core.specs.State.{State, topic_number}
use Rattle.ps_tables.specs.Subscriptions.{number_of}
use Rattle.ps_core.specs.Steady.{IsSteady}
use Rattle.ps_core.specs.Effects.{is_any_due}
use Rattle.ps_tables.specs.Numbers.{IsNumbered}
use Rattle.ps_tables.specs.Members.{has_name, numbered, HasMembers, holders_of}

abbrev pub has_topic_name : List ℕ → TopicRow → Bool
has_topic_name name r = bytes_eq r.name name

-- the number of the topic with this name, and of the subscription with this name
abbrev pub topic_at : List ℕ → List TopicRow → Option ℕ
topic_at name topics = option_map topic_number (find (has_topic_name name) topics)

abbrev pub subscription_at : List ℕ → List KeptSubscription → Option ℕ
subscription_at name subscriptions = option_map number_of (find (has_name name) subscriptions)

abbrev pub IsCounted : List KeptSubscription → KeptMessage → Type 0
IsCounted subscriptions x = x.holders ≡ holders_of subscriptions x.row.number

abbrev pub the_row : KeptTopic → TopicRow
the_row x = x.row

abbrev pub the_message : KeptMessage → MessageRow
the_message x = x.row

-- the state that these numbers and tables make
abbrev pub state_of : ℕ → ℕ → ℕ → ℕ → ℕ → Tables → State
state_of now count next_topic next_sub next_message tables = record {
  now = now;
  count = count;
  next_topic = next_topic;
  next_sub = next_sub;
  next_message = next_message;
  topics = map the_row (values tables.topics);
  subscriptions = values tables.subscriptions;
  messages = map the_message (values tables.messages);
}

pub record IsKept (s : State) (next_end : ℕ) (tables : Tables) : Type 0 where
  pub steady : IsSteady s
  pub topics : IsNumbered (λ (x : KeptTopic). x.row.number) tables.topics.entries
  pub topic_numbers : (name : List ℕ) → numbered tables.topic_numbers name ≡ topic_at name s.topics
  pub subscriptions : IsNumbered number_of tables.subscriptions.entries
  pub subscription_numbers : (name : List ℕ) → numbered tables.subscription_numbers name ≡ subscription_at name s.subscriptions
  pub members : AllByRecursion (HasMembers s.subscriptions) (values tables.topics)
  pub messages : IsNumbered (λ (x : KeptMessage). x.row.number) tables.messages.entries
  pub holders : AllByRecursion (IsCounted s.subscriptions) (values tables.messages)
  -- no lease ends before this moment
  pub none_before : (at : ℕ) → at < next_end → is_any_due at s ≡ false
