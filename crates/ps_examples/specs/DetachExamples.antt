-- Worked examples: a deleted topic's subscription, and detached subscriptions.
use Rattle.std.specs.Prelude.{ℕ, ◌≡◌, true, false, List, [], ◌∷◌, ◌++◌, Option, Some, None, codes}
use Rattle.ps_base.specs.declared.reason.Reason.TheVariants.{Detached, MaxMessages}
use Rattle.ps_config.specs.declared.config.SubConfig.{SubConfig}
use Rattle.ps_model.specs.declared.command.Command.TheVariants.{DeleteTopic, CreateSubscription, GetSubscription, Detach, UpdateSubscription}
use Rattle.ps_model.specs.declared.reply.Reply.{Reply}
use Rattle.ps_model.specs.declared.reply.Reply.TheVariants.{Empty, Subscription, Acked, Modified, Published}
use Rattle.ps_config.specs.Masks.{default_sub}
use Rattle.ps_examples.specs.Samples.{Call, told, recorded_of, counted, base, base_with, hi, publish_at, pull_at, id, ack_at, modify_at, out, plain_answer, topic_name, sub_name, broken_by, none_named, not_allowed, noted}
use Rattle.ps_examples.specs.PublishExamples.{keeping_topic}

abbrev pub shown_as : Option (List ℕ) → SubConfig → Reply
shown_as topic config = Subscription (record { name = sub_name; topic = topic; config = config; detached = true; topic_retention = None })

abbrev pub topic_deleted : List Call
topic_deleted = base ++ (2000, DeleteTopic topic_name) ∷ []

abbrev pub detach_at : ℕ → Call
detach_at t = (t, Detach sub_name)

abbrev pub both_gone : List Call
both_gone = topic_deleted ++ detach_at 2000 ∷ []

-- of three messages one is out, one is acknowledged and one waits
abbrev pub three_with : SubConfig → List Call
three_with config = base_with config ++ publish_at 1000 (hi ∷ hi ∷ hi ∷ []) ∷ pull_at 2000 2 ∷ ack_at 2500 (id 1 2 2 ∷ []) ∷ []

-- acknowledged messages are kept too
abbrev pub retaining : SubConfig
retaining = record default_sub { retain_acked = true }

abbrev pub exactly_once : SubConfig
exactly_once = record retaining { exactly_once = true }

abbrev pub three : List Call
three = three_with retaining

pub record DetachExamples : Type 0 where
  -- a deleted topic's subscription stays, and shows no topic
  pub deleted : told base (2000, DeleteTopic topic_name) ≡ Empty
  pub without_its_topic : told topic_deleted (2000, GetSubscription sub_name) ≡ Subscription (record { name = sub_name; topic = None; config = default_sub; detached = false; topic_retention = None })
  pub retention_goes_with_its_topic : told (keeping_topic ++ (1000, CreateSubscription sub_name topic_name default_sub) ∷ (2000, DeleteTopic topic_name) ∷ []) (2000, GetSubscription sub_name) ≡ Subscription (record { name = sub_name; topic = None; config = default_sub; detached = false; topic_retention = None })
  pub pull_without_its_topic : told (three ++ (3000, DeleteTopic topic_name) ∷ []) (pull_at 12000 10) ≡ plain_answer (out (id 1 1 3) hi ∷ out (id 1 3 4) hi ∷ [])
  -- it can be detached still
  pub detached_without_its_topic : told topic_deleted (detach_at 2000) ≡ Empty
  pub shown_without_its_topic : told both_gone (2000, GetSubscription sub_name) ≡ shown_as None default_sub
  -- then nothing is pulled, but an argument is looked at first, and a name that isn't there is told
  pub pull : told both_gone (pull_at 2000 1) ≡ not_allowed Detached
  pub pull_of_nothing : told both_gone (pull_at 2000 0) ≡ broken_by MaxMessages
  pub another_name : told both_gone (2000, GetSubscription (codes "projects/p/subscriptions/none")) ≡ none_named (codes "projects/p/subscriptions/none")
  -- what waits, is out or is acknowledged goes at once
  pub counts_before : counted three ≡ record { entries = 5; now = 2500; topics = 1; subscriptions = 1; snapshots = 0; messages = 3; backlog = 1; leased = 1; acknowledged = 1; dead_lettered = 0 }
  pub recorded : recorded_of three (detach_at 3000) ≡ noted (detach_at 3000)
  pub counts_behind : counted (three ++ detach_at 3000 ∷ []) ≡ record { entries = 6; now = 3000; topics = 1; subscriptions = 1; snapshots = 0; messages = 0; backlog = 0; leased = 0; acknowledged = 0; dead_lettered = 0 }
  -- a second time changes nothing
  pub again : told (three ++ detach_at 3000 ∷ []) (detach_at 4000) ≡ Empty
  pub again_is_not_recorded : recorded_of (three ++ detach_at 3000 ∷ []) (detach_at 4000) ≡ None
  -- it stays a subscription of its topic, and nothing enters it any more
  pub shown : told (three ++ detach_at 3000 ∷ []) (3000, GetSubscription sub_name) ≡ shown_as (Some topic_name) retaining
  pub published_behind : told (three ++ detach_at 3000 ∷ []) (publish_at 3000 (hi ∷ [])) ≡ Published 4 1
  pub counts_of_published_behind : counted (three ++ detach_at 3000 ∷ publish_at 3000 (hi ∷ []) ∷ []) ≡ record { entries = 7; now = 3000; topics = 1; subscriptions = 1; snapshots = 0; messages = 0; backlog = 0; leased = 0; acknowledged = 0; dead_lettered = 0 }
  -- no id is good there any more; only exactly-once mode tells so
  pub acknowledged : told (three ++ detach_at 3000 ∷ []) (ack_at 3000 (id 1 1 1 ∷ [])) ≡ Acked false [] []
  pub acknowledged_is_not_recorded : recorded_of (three ++ detach_at 3000 ∷ []) (ack_at 3000 (id 1 1 1 ∷ [])) ≡ None
  pub acknowledged_exactly_once : told (three_with exactly_once ++ detach_at 3000 ∷ []) (ack_at 3000 (id 1 1 1 ∷ [])) ≡ Acked true (id 1 1 1 ∷ []) []
  pub modified : told (three ++ detach_at 3000 ∷ []) (modify_at 3000 ((id 1 1 1, 0) ∷ [])) ≡ Modified false []
  pub modified_exactly_once : told (three_with exactly_once ++ detach_at 3000 ∷ []) (modify_at 3000 ((id 1 1 1, 20) ∷ [])) ≡ Modified true (id 1 1 1 ∷ [])
  -- its settings can be changed
  pub updated : told (three ++ detach_at 3000 ∷ []) (3000, UpdateSubscription sub_name (record { 0 = 128 }) exactly_once) ≡ shown_as (Some topic_name) exactly_once
  pub detach_of_none : told [] (detach_at 1000) ≡ none_named sub_name
