-- Which subscriptions a topic has, by name, and how many have a message.
use Rattle.std.specs.Prelude.{◌≡◌, ◌&&◌, ℕ, Bool, List, Option, find, option_map}
use Rattle.std.specs.BTreeMap.{get_by_text}
use Rattle.std.specs.Str.{bytes_eq}
use Rattle.ps_model.specs.Lists.{tally}
use Rattle.ps_sub.specs.Showing.{has}
use Rattle.ps_tables.specs.declared.kept_subscription.KeptSubscription.{KeptSubscription}
use Rattle.ps_tables.specs.declared.name_index.NameIndex.{NameIndex}
use Rattle.ps_tables.specs.declared.tables.KeptTopic.{KeptTopic}
use Rattle.ps_tables.specs.Subscriptions.{number_of, is_attached}

abbrev pub has_name : List ℕ → KeptSubscription → Bool
has_name name x = bytes_eq x.name name

-- the number of the subscription with this name that is attached to a topic
abbrev pub attached_at : ℕ → List ℕ → List KeptSubscription → Option ℕ
attached_at topic name subscriptions = option_map number_of (find (λ (x : KeptSubscription). has_name name x && is_attached topic x) subscriptions)

abbrev pub numbered : NameIndex → List ℕ → Option ℕ
numbered index name = get_by_text index.numbers name

-- a topic has its attached subscriptions by name
abbrev pub HasMembers : List KeptSubscription → KeptTopic → Type 0
HasMembers subscriptions x = (name : List ℕ) → numbered x.subs name ≡ attached_at x.row.number name subscriptions

-- how many subscriptions have a message
abbrev pub holders_of : List KeptSubscription → ℕ → ℕ
holders_of subscriptions number = tally (λ (x : KeptSubscription). has x.sub.slots number) subscriptions
