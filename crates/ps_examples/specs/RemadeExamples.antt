-- Worked examples: resources that are deleted and made anew under the same name.
use Rattle.std.specs.Prelude.{◌≡◌, true, false, List, [], ◌∷◌, ◌++◌, Some, None, codes}
use Rattle.ps_base.specs.declared.reason.Reason.TheVariants.{SnapshotTopic}
use Rattle.ps_config.specs.declared.config.SubConfig.{SubConfig}
use Rattle.ps_model.specs.declared.command.Command.TheVariants.{CreateTopic, DeleteTopic, CreateSubscription, GetSubscription, DeleteSubscription, ListTopicSubscriptions, ListTopicSnapshots, SeekSnapshot, DeleteSnapshot}
use Rattle.ps_model.specs.declared.reply.Reply.TheVariants.{Subscription, Published, Acked, Page}
use Rattle.ps_model.specs.declared.reply.PageItems.TheVariants.{SubscriptionNames, SnapshotNames}
use Rattle.ps_config.specs.Masks.{default_topic, default_sub}
use Rattle.ps_examples.specs.Samples.{Call, told, recorded_of, counted, base_with, hi, publish_at, pull_at, id, ack_at, plain_answer, topic_name, sub_name, not_allowed}
use Rattle.ps_examples.specs.RefusalExamples.{snap_name, snap_at, snapped}
use Rattle.ps_examples.specs.SnapshotExamples.{all_pages, get_at, shown_snap, out_since}

-- the topic of the subscription and of its snapshot is deleted, and another one of its name is made
abbrev pub topic_anew : List Call
topic_anew = snapped ++ (2000, DeleteTopic topic_name) ∷ (3000, CreateTopic topic_name default_topic) ∷ []

abbrev pub new_sub : List Call
new_sub = topic_anew ++ (3000, CreateSubscription (codes "projects/p/subscriptions/new") topic_name default_sub) ∷ []

-- the subscription is deleted while its message is out, and another one of its name is made; then a message is published
abbrev pub sub_anew_with : SubConfig → List Call
sub_anew_with config = base_with config ++ publish_at 1000 (hi ∷ []) ∷ pull_at 2000 1 ∷ (2500, DeleteSubscription sub_name) ∷ (3000, CreateSubscription sub_name topic_name config) ∷ publish_at 3000 (hi ∷ []) ∷ []

abbrev pub sub_anew : List Call
sub_anew = sub_anew_with default_sub

abbrev pub exactly_once : SubConfig
exactly_once = record default_sub { exactly_once = true }

-- the snapshot is deleted and made anew
abbrev pub snapshot_anew : List Call
snapshot_anew = snapped ++ publish_at 1600 (hi ∷ []) ∷ (2000, DeleteSnapshot snap_name) ∷ snap_at 2500 ∷ []

pub record RemadeExamples : Type 0 where
  -- another topic of the name is another topic: subscription and snapshot stay with the former one
  pub subscription_of_the_former : told topic_anew (3000, GetSubscription sub_name) ≡ Subscription (record { name = sub_name; topic = None; config = default_sub; detached = false; topic_retention = None })
  pub snapshot_of_the_former : told topic_anew (get_at 3000) ≡ shown_snap None 604801500
  pub no_subscriptions : told topic_anew (3000, ListTopicSubscriptions topic_name all_pages) ≡ Page (SubscriptionNames []) None
  pub no_snapshots : told topic_anew (3000, ListTopicSnapshots topic_name all_pages) ≡ Page (SnapshotNames []) None
  pub published_to_the_new_one : told topic_anew (publish_at 3000 (hi ∷ [])) ≡ Published 1 1
  pub the_former_gets_nothing : counted (topic_anew ++ publish_at 3000 (hi ∷ []) ∷ []) ≡ record { entries = 6; now = 3000; topics = 1; subscriptions = 1; snapshots = 1; messages = 0; backlog = 0; leased = 0; acknowledged = 0; dead_lettered = 0 }
  pub snapshot_of_another_topic : told new_sub (3000, SeekSnapshot (codes "projects/p/subscriptions/new") snap_name) ≡ not_allowed SnapshotTopic
  -- another subscription of the name has leases of its own, and ids of the former one aren't good there
  pub leases_begin_anew : told sub_anew (pull_at 3000 10) ≡ plain_answer (out_since 3000 (id 2 2 1) ∷ [])
  pub former_id : told sub_anew (ack_at 3000 (id 1 1 1 ∷ [])) ≡ Acked false [] []
  pub former_id_with_its_numbers : recorded_of (sub_anew ++ pull_at 3000 10 ∷ []) (ack_at 3500 (id 1 2 1 ∷ [])) ≡ None
  pub former_id_exactly_once : told (sub_anew_with exactly_once ++ pull_at 3000 10 ∷ []) (ack_at 3500 (id 1 2 1 ∷ [])) ≡ Acked true (id 1 2 1 ∷ []) []
  pub its_own_id_exactly_once : told (sub_anew_with exactly_once ++ pull_at 3000 10 ∷ []) (ack_at 3500 (id 2 2 1 ∷ [])) ≡ Acked true [] []
  -- another snapshot of the name holds what is open when it is made
  pub snapshot_begins_anew : told snapshot_anew (get_at 2500) ≡ shown_snap (Some topic_name) 604801600
