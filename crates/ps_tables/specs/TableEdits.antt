-- What edits write into the tables.
use Rattle.std.specs.Prelude.{◌≡◌, MatchOption, ℕ, List, Some, None, if◌then◌else◌}
use Rattle.std.specs.BTreeMap.{BTreeMap, get, get_by_text, insert_entry, is_at}
use Rattle.std.specs.Map.{set_value}
use Rattle.std.specs.Ordering.{nat_cmp}
use Rattle.std.specs.Str.{bytes_eq}
use Rattle.ps_model.specs.declared.world.TopicRow.{TopicRow}
use Rattle.ps_tables.specs.declared.kept_subscription.KeptSubscription.{KeptSubscription}
use Rattle.ps_tables.specs.declared.name_index.NameIndex.{NameIndex}
use Rattle.ps_tables.specs.declared.tables.KeptTopic.{KeptTopic}
use Rattle.ps_tables.specs.Subscriptions.{detach_subscription}

-- the name has this number, and other names have theirs
abbrev pub PutsName : NameIndex → List ℕ → ℕ → NameIndex → Type 0
PutsName old name number new = (other : List ℕ) → get_by_text new.numbers other ≡ (if bytes_eq name other then Some number else get_by_text old.numbers other)

-- the name has no number, and other names have theirs
abbrev pub RemovesName : NameIndex → List ℕ → NameIndex → Type 0
RemovesName old name new = (other : List ℕ) → get_by_text new.numbers other ≡ (if bytes_eq name other then None else get_by_text old.numbers other)

-- one topic more, without subscriptions
pub record AddsTopic (old : BTreeMap ℕ KeptTopic) (row : TopicRow) (new : BTreeMap ℕ KeptTopic) : Type 0 where
  pub topic : KeptTopic
  pub entries : new.entries ≡ insert_entry nat_cmp old.entries row.number topic
  pub row_is : topic.row ≡ row
  pub alone : (name : List ℕ) → get_by_text topic.subs.numbers name ≡ None

-- the topic at this number has other subscriptions by name
pub record HasOtherSubs (Changes : NameIndex → NameIndex → Type 0) (number : ℕ) (was : KeptTopic) (old new : BTreeMap ℕ KeptTopic) : Type 0 where
  pub topic : KeptTopic
  pub entries : new.entries ≡ set_value (is_at (nat_cmp number)) old.entries topic
  pub row : topic.row ≡ was.row
  pub subs : Changes was.subs topic.subs

-- the same, if the topic is there
abbrev pub ChangesSubs : (NameIndex → NameIndex → Type 0) → ℕ → BTreeMap ℕ KeptTopic → BTreeMap ℕ KeptTopic → Type 0
ChangesSubs Changes number old new = MatchOption (get nat_cmp old number) (new.entries ≡ old.entries) (λ was. HasOtherSubs Changes number was old new)

-- the subscription is found by its name
abbrev pub NamesSubscription : NameIndex → KeptSubscription → NameIndex → Type 0
NamesSubscription old x new = PutsName old x.name x.number new

-- the topic has the subscription by its name, if the topic is there
abbrev pub JoinsTopic : BTreeMap ℕ KeptTopic → KeptSubscription → BTreeMap ℕ KeptTopic → Type 0
JoinsTopic old x new = ChangesSubs (λ before after. NamesSubscription before x after) x.topic old new

-- the topic at this number has no subscription of this name, if the topic is there
abbrev pub LeavesTopic : BTreeMap ℕ KeptTopic → ℕ → List ℕ → BTreeMap ℕ KeptTopic → Type 0
LeavesTopic old number name new = ChangesSubs (λ before after. RemovesName before name after) number old new

-- one subscription more
abbrev pub AddsSubscription : BTreeMap ℕ KeptSubscription → KeptSubscription → BTreeMap ℕ KeptSubscription → Type 0
AddsSubscription old x new = new.entries ≡ insert_entry nat_cmp old.entries x.number x

-- the subscription at this number is detached, if it is there
abbrev pub Detaches : BTreeMap ℕ KeptSubscription → ℕ → BTreeMap ℕ KeptSubscription → Type 0
Detaches old number new = MatchOption (get nat_cmp old number) (new.entries ≡ old.entries) (λ x. new.entries ≡ set_value (is_at (nat_cmp number)) old.entries (detach_subscription x))
