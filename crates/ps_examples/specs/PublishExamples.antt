-- Worked examples: what a publish answers, and what is recorded of it.
use Rattle.std.specs.Prelude.{ℕ, ◌≡◌, List, [], ◌∷◌, ◌++◌, Some, None, codes, replicate}
use Rattle.ps_base.specs.declared.reason.Reason.TheVariants.{Messages, MessageEmpty}
use Rattle.ps_message.specs.declared.message.Message.{Message}
use Rattle.ps_model.specs.declared.command.Command.TheVariants.{CreateTopic}
use Rattle.ps_model.specs.declared.reply.Reply.TheVariants.{Published}
use Rattle.ps_config.specs.Masks.{default_topic}
use Rattle.ps_examples.specs.Samples.{Call, told, recorded_of, counted, base, hi, keyed, publish_at, topic_name, broken_by, none_named, noted}

-- a message of this key and value, and no payload
abbrev pub with_attribute : List ℕ → List ℕ → Message
with_attribute key value = record { payload = []; attributes = (key, value) ∷ []; key = [] }

-- neither payload nor attributes
abbrev pub empty_message : Message
empty_message = record { payload = []; attributes = []; key = [] }

abbrev pub only_topic : List Call
only_topic = (1000, CreateTopic topic_name default_topic) ∷ []

-- a topic that keeps its messages for 10 minutes
abbrev pub keeping_topic : List Call
keeping_topic = (1000, CreateTopic topic_name (record { labels = []; retention = Some 600000 })) ∷ []

pub record PublishExamples : Type 0 where
  -- the messages get the next numbers in the order of the request, and the request is recorded as it was made
  pub thousand : told base (publish_at 1000 (replicate 1000 hi)) ≡ Published 1 1000
  pub numbers_go_on : told (base ++ publish_at 1000 (hi ∷ hi ∷ []) ∷ []) (publish_at 1000 (hi ∷ hi ∷ hi ∷ [])) ≡ Published 3 3
  pub recorded_as_made : recorded_of base (publish_at 1500 (hi ∷ keyed (codes "k") ∷ [])) ≡ noted (publish_at 1500 (hi ∷ keyed (codes "k") ∷ []))
  pub counts_after_two : counted (base ++ publish_at 1500 (hi ∷ hi ∷ []) ∷ []) ≡ record { entries = 3; now = 1500; topics = 1; subscriptions = 1; snapshots = 0; messages = 2; backlog = 2; leased = 0; acknowledged = 0; dead_lettered = 0 }
  -- a message that no subscription gets is kept only while its topic keeps it
  pub nobody_gets_it : recorded_of only_topic (publish_at 1000 (hi ∷ [])) ≡ noted (publish_at 1000 (hi ∷ []))
  pub counts_where_nobody_gets_it : counted (only_topic ++ publish_at 1000 (hi ∷ []) ∷ []) ≡ record { entries = 2; now = 1000; topics = 1; subscriptions = 0; snapshots = 0; messages = 0; backlog = 0; leased = 0; acknowledged = 0; dead_lettered = 0 }
  pub counts_where_the_topic_keeps_it : counted (keeping_topic ++ publish_at 1000 (hi ∷ []) ∷ []) ≡ record { entries = 2; now = 1000; topics = 1; subscriptions = 0; snapshots = 0; messages = 1; backlog = 0; leased = 0; acknowledged = 0; dead_lettered = 0 }
  -- one more message than a request may have, and none
  pub thousand_and_one : told base (publish_at 1000 (replicate 1001 hi)) ≡ broken_by Messages
  pub no_message : told base (publish_at 1000 []) ≡ broken_by Messages
  -- a refused publish leaves nothing behind
  pub refused_is_not_recorded : recorded_of base (publish_at 1000 []) ≡ None
  -- a message has a payload or an attribute; an ordering key alone isn't enough
  pub neither_payload_nor_attributes : told base (publish_at 1000 (empty_message ∷ [])) ≡ broken_by (MessageEmpty 0)
  pub attributes_alone : told base (publish_at 1000 (with_attribute (codes "a") (codes "1") ∷ [])) ≡ Published 1 1
  pub ordering_key_alone : told base (publish_at 1000 (record empty_message { key = codes "k" } ∷ [])) ≡ broken_by (MessageEmpty 0)
  -- the request is looked at before the topic
  pub no_topic : told [] (publish_at 1000 (hi ∷ [])) ≡ none_named topic_name
  pub no_topic_and_no_message : told [] (publish_at 1000 []) ≡ broken_by Messages
