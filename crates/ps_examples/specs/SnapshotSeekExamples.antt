-- Worked examples: seeks to a snapshot.
use Rattle.std.specs.Prelude.{ℕ, ◌≡◌, true, false, List, [], ◌∷◌, ◌++◌, None, codes}
use Rattle.ps_base.specs.declared.reason.Reason.TheVariants.{SnapshotTopic}
use Rattle.ps_config.specs.declared.config.SubConfig.{SubConfig}
use Rattle.ps_message.specs.declared.message.Message.{Message}
use Rattle.ps_model.specs.declared.command.Command.TheVariants.{CreateTopic, DeleteTopic, CreateSubscription, SeekSnapshot, CreateSnapshot}
use Rattle.ps_model.specs.declared.reply.Reply.TheVariants.{Empty, Acked, Received}
use Rattle.ps_config.specs.Masks.{default_topic, default_sub}
use Rattle.ps_examples.specs.Samples.{Call, told, recorded_of, counted, base, base_with, hi, keyed, publish_at, pull_of, pull_at, id, ack_at, out, plain_answer, topic_name, not_allowed, noted}
use Rattle.ps_examples.specs.RefusalExamples.{snap_name, snap_at}
use Rattle.ps_examples.specs.SnapshotExamples.{two_out, before_the_seek, sought, all_out_again, seek_at, out_since, second_open}

abbrev pub other_topic : List ℕ
other_topic = codes "projects/p/topics/other"

abbrev pub second_sub : List ℕ
second_sub = codes "projects/p/subscriptions/sub2"

-- the snapshot is of a subscription of another topic
abbrev pub of_another_topic : List Call
of_another_topic = base ++ (1000, CreateTopic other_topic default_topic) ∷ (1000, CreateSubscription second_sub other_topic default_sub) ∷ (1000, CreateSnapshot snap_name second_sub []) ∷ []

-- a message with the attribute `a`
abbrev pub with_a : Message
with_a = record hi { attributes = (codes "a", codes "1") ∷ [] }

abbrev pub asking_for_a : SubConfig
asking_for_a = record default_sub { filter = codes "attributes:a" }

-- A message without the attribute and one with it, and a snapshot of both. A subscription that asks for the attribute is made behind them.
abbrev pub made_behind : List Call
made_behind = base ++ publish_at 1000 (hi ∷ with_a ∷ []) ∷ snap_at 1500 ∷ (2000, CreateSubscription second_sub topic_name asking_for_a) ∷ []

abbrev pub second_seeks : Call
second_seeks = (2500, SeekSnapshot second_sub snap_name)

-- a third message is acknowledged too
abbrev pub third_acknowledged : List Call
third_acknowledged = before_the_seek ++ pull_at 3500 1 ∷ ack_at 3600 (id 1 3 3 ∷ []) ∷ []

-- Of two messages of a key the second is acknowledged ahead. The snapshot is made, and the first is acknowledged too.
abbrev pub one_ahead : List Call
one_ahead = base_with (record default_sub { ordering = true }) ++ publish_at 1000 (keyed (codes "k") ∷ keyed (codes "k") ∷ []) ∷ pull_at 2000 2 ∷ ack_at 2500 (id 1 2 2 ∷ []) ∷ snap_at 2500 ∷ ack_at 3000 (id 1 1 1 ∷ []) ∷ []

-- the first of two messages was acknowledged before the snapshot was made, the second one behind it
abbrev pub second_acknowledged : List Call
second_acknowledged = second_open ++ snap_at 500000 ∷ pull_at 500000 1 ∷ ack_at 500000 (id 1 2 2 ∷ []) ∷ []

pub record SnapshotSeekExamples : Type 0 where
  -- what the snapshot holds is open again, and so is what was published behind it
  pub sought_for : told before_the_seek (seek_at 4000) ≡ Empty
  pub recorded : recorded_of before_the_seek (seek_at 4000) ≡ noted (seek_at 4000)
  pub counts : counted sought ≡ record { entries = 8; now = 4000; topics = 1; subscriptions = 1; snapshots = 1; messages = 3; backlog = 3; leased = 0; acknowledged = 0; dead_lettered = 0 }
  -- a lease from before the seek acknowledges nothing
  pub former_lease : told sought (ack_at 4000 (id 1 1 1 ∷ [])) ≡ Acked false [] []
  pub former_lease_is_not_recorded : recorded_of sought (ack_at 4000 (id 1 1 1 ∷ [])) ≡ None
  pub pulled : told sought (pull_at 4000 10) ≡ plain_answer (out_since 1000 (id 1 1 3) ∷ out_since 1000 (id 1 2 4) ∷ out_since 3500 (id 1 3 5) ∷ [])
  pub counts_of_pulled : counted all_out_again ≡ record { entries = 9; now = 4000; topics = 1; subscriptions = 1; snapshots = 1; messages = 3; backlog = 0; leased = 3; acknowledged = 0; dead_lettered = 0 }
  -- a seek ends all leases
  pub leases_end : told (two_out ++ snap_at 2500 ∷ seek_at 2600 ∷ []) (pull_at 2600 10) ≡ plain_answer (out (id 1 1 3) hi ∷ out (id 1 2 4) hi ∷ [])
  pub again_without_change : recorded_of sought (seek_at 4100) ≡ None
  -- what was published behind the snapshot is open again, acknowledged or not
  pub later_one_acknowledged : told (third_acknowledged ++ seek_at 4000 ∷ []) (pull_at 4000 10) ≡ plain_answer (out_since 1000 (id 1 1 4) ∷ out_since 1000 (id 1 2 5) ∷ out_since 3500 (id 1 3 6) ∷ [])
  -- what was acknowledged before the snapshot stays so, ahead of its turn too
  pub acknowledged_before : told (second_acknowledged ++ seek_at 500000 ∷ []) (pull_at 500000 10) ≡ plain_answer (out_since 500000 (id 1 2 3) ∷ [])
  pub ahead_before : told (one_ahead ++ seek_at 3500 ∷ []) (pull_at 3500 10) ≡ Received false true (out (id 1 1 3) (keyed (codes "k")) ∷ [])
  -- another subscription of the topic gets what meets its filter, also what it never had
  pub nothing_before : told made_behind (2500, pull_of second_sub 10) ≡ plain_answer []
  pub second_sought : told made_behind second_seeks ≡ Empty
  pub only_what_it_asks_for : told (made_behind ++ second_seeks ∷ []) (2500, pull_of second_sub 10) ≡ plain_answer (out (id 2 2 1) with_a ∷ [])
  -- only a snapshot of its own topic, which may be deleted
  pub another_topic : told of_another_topic (seek_at 1000) ≡ not_allowed SnapshotTopic
  pub topic_deleted : told (before_the_seek ++ (3600, DeleteTopic topic_name) ∷ []) (seek_at 4000) ≡ Empty
  pub pulled_of_a_deleted_topic : told (before_the_seek ++ (3600, DeleteTopic topic_name) ∷ seek_at 4000 ∷ []) (pull_at 4000 2) ≡ plain_answer (out_since 1000 (id 1 1 3) ∷ out_since 1000 (id 1 2 4) ∷ [])
