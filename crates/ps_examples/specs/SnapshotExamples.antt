-- Worked examples: snapshots, what they hold and when they end.
use Rattle.std.specs.Prelude.{ℕ, ◌≡◌, List, [], ◌∷◌, ◌++◌, Option, Some, None, codes}
use Rattle.ps_base.specs.declared.reason.Reason.TheVariants.{SnapshotLifetime}
use Rattle.ps_base.specs.declared.ack_id.AckId.{AckId}
use Rattle.ps_config.specs.declared.config.SubConfig.{SubConfig}
use Rattle.ps_model.specs.declared.command.Command.TheVariants.{Tick, DeleteTopic, SeekSnapshot, UpdateSnapshot, GetSnapshot, DeleteSnapshot, ListSnapshots, ListTopicSnapshots}
use Rattle.ps_model.specs.declared.command.Paging.{Paging}
use Rattle.ps_model.specs.declared.reply.Reply.{Reply}
use Rattle.ps_model.specs.declared.reply.Reply.TheVariants.{Empty, Snapshot, Page}
use Rattle.ps_model.specs.declared.reply.PageItems.TheVariants.{Snapshots, SnapshotNames}
use Rattle.ps_model.specs.declared.reply.ReceivedMessage.{ReceivedMessage}
use Rattle.ps_config.specs.Masks.{default_sub}
use Rattle.ps_examples.specs.Samples.{Call, told, recorded_of, counted, base, base_with, hi, publish_at, pull_at, id, ack_at, out, topic_name, sub_name, none_named, taken_already, not_allowed, noted}
use Rattle.ps_examples.specs.RefusalExamples.{snap_name, snap_at, snapped}

abbrev pub labelled_at : ℕ → List (List ℕ × List ℕ) → Call
labelled_at t labels = (t, UpdateSnapshot snap_name labels)

abbrev pub get_at : ℕ → Call
get_at t = (t, GetSnapshot snap_name)

-- the snapshot, of this topic and with this end
abbrev pub shown_snap : Option (List ℕ) → ℕ → Reply
shown_snap topic expiry = Snapshot (record { name = snap_name; topic = topic; labels = []; expiry = expiry })

abbrev pub seek_at : ℕ → Call
seek_at t = (t, SeekSnapshot sub_name snap_name)

-- two messages are out
abbrev pub two_out : List Call
two_out = base ++ publish_at 1000 (hi ∷ hi ∷ []) ∷ pull_at 2000 2 ∷ []

-- the snapshot is made, both are acknowledged, and a third message is published
abbrev pub before_the_seek : List Call
before_the_seek = two_out ++ snap_at 2500 ∷ ack_at 3000 (id 1 1 1 ∷ id 1 2 2 ∷ []) ∷ publish_at 3500 (hi ∷ []) ∷ []

abbrev pub sought : List Call
sought = before_the_seek ++ seek_at 4000 ∷ []

abbrev pub all_out_again : List Call
all_out_again = sought ++ pull_at 4000 10 ∷ []

abbrev pub out_since : ℕ → AckId → ReceivedMessage
out_since publish ack = record (out ack hi) { publish = publish }

-- one message at 1000
abbrev pub one_message : List Call
one_message = base ++ publish_at 1000 (hi ∷ []) ∷ []

abbrev pub never_ending : SubConfig
never_ending = record default_sub { expiration = None }

-- of two messages the first is acknowledged
abbrev pub second_open : List Call
second_open = base ++ publish_at 1000 (hi ∷ []) ∷ publish_at 500000 (hi ∷ []) ∷ pull_at 500000 1 ∷ ack_at 500000 (id 1 1 1 ∷ []) ∷ []

abbrev pub all_pages : Paging
all_pages = record { size = 0; after = [] }

abbrev pub topic_deleted : List Call
topic_deleted = snapped ++ (2000, DeleteTopic topic_name) ∷ []

pub record SnapshotExamples : Type 0 where
  -- a snapshot ends 7 days after the publish of the oldest message that it lists
  pub created : told two_out (snap_at 2500) ≡ shown_snap (Some topic_name) 604801000
  pub created_is_recorded : recorded_of two_out (snap_at 2500) ≡ noted (snap_at 2500)
  pub counts_of_created : counted (two_out ++ snap_at 2500 ∷ []) ≡ record { entries = 5; now = 2500; topics = 1; subscriptions = 1; snapshots = 1; messages = 2; backlog = 0; leased = 2; acknowledged = 0; dead_lettered = 0 }
  pub oldest_is_acknowledged : told second_open (snap_at 500000) ≡ shown_snap (Some topic_name) 605300000
  pub nothing_is_listed : told base (snap_at 2500) ≡ shown_snap (Some topic_name) 604802500
  pub at_the_last_moment : told (base_with never_ending) (snap_at 253402300799999) ≡ shown_snap (Some topic_name) 253402905599999
  pub created_twice : told snapped (snap_at 2500) ≡ taken_already snap_name
  -- one that would end within the hour isn't made
  pub just_an_hour : told one_message (snap_at 601201000) ≡ shown_snap (Some topic_name) 604801000
  pub less_than_an_hour : told one_message (snap_at 601201001) ≡ not_allowed SnapshotLifetime
  pub less_than_an_hour_is_not_recorded : recorded_of one_message (snap_at 601201001) ≡ None
  -- what it holds is kept when it is acknowledged
  pub counts_before_the_seek : counted before_the_seek ≡ record { entries = 7; now = 3500; topics = 1; subscriptions = 1; snapshots = 1; messages = 3; backlog = 1; leased = 0; acknowledged = 2; dead_lettered = 0 }
  -- it ends when its moment comes; a read at a moment at which something ends is recorded as this alone
  pub read_before_its_end : told all_out_again (get_at 604800999) ≡ shown_snap (Some topic_name) 604801000
  pub leases_ended_then : recorded_of all_out_again (get_at 604800999) ≡ Some (record { now = 604800999; command = Tick })
  pub read_at_its_end : told (all_out_again ++ get_at 604800999 ∷ []) (get_at 604801000) ≡ none_named snap_name
  pub it_ended_then : recorded_of (all_out_again ++ get_at 604800999 ∷ []) (get_at 604801000) ≡ Some (record { now = 604801000; command = Tick })
  -- its labels can be changed, and an update that changes nothing isn't recorded
  pub updated : told snapped (labelled_at 2000 ((codes "a", codes "b") ∷ [])) ≡ Snapshot (record { name = snap_name; topic = Some topic_name; labels = (codes "a", codes "b") ∷ []; expiry = 604801500 })
  pub updated_is_recorded : recorded_of snapped (labelled_at 2000 ((codes "a", codes "b") ∷ [])) ≡ noted (labelled_at 2000 ((codes "a", codes "b") ∷ []))
  pub updated_to_the_same : recorded_of snapped (labelled_at 2000 []) ≡ None
  -- it can be deleted
  pub deleted : told snapped (2000, DeleteSnapshot snap_name) ≡ Empty
  pub deleted_again : told (snapped ++ (2000, DeleteSnapshot snap_name) ∷ []) (2000, DeleteSnapshot snap_name) ≡ none_named snap_name
  -- it outlives its topic, and is the project's then alone
  pub of_a_deleted_topic : told topic_deleted (get_at 2000) ≡ shown_snap None 604801500
  pub of_the_topic : told snapped (2000, ListTopicSnapshots topic_name all_pages) ≡ Page (SnapshotNames (snap_name ∷ [])) None
  pub of_the_deleted_topic : told topic_deleted (2000, ListTopicSnapshots topic_name all_pages) ≡ none_named topic_name
  pub of_the_project : told topic_deleted (2000, ListSnapshots (codes "p") all_pages) ≡ Page (Snapshots (record { name = snap_name; topic = None; labels = []; expiry = 604801500 } ∷ [])) None
