-- Worked examples: which refusal is told where a call breaks several rules, and a full record.
use Rattle.std.specs.Prelude.{ℕ, ◌^◌, ◌-◌, ◌≡◌, true, false, List, [], ◌∷◌, ◌++◌, Some, None, codes}
use Rattle.ps_base.specs.declared.reason.Reason.TheVariants.{Labels, MaxMessages, AckIds, Detached, TopicDeleted, AckDeadlineSeconds}
use Rattle.ps_base.specs.declared.refusal.Refusal.TheVariants.{Exhausted}
use Rattle.ps_model.specs.declared.command.Command.{Command}
use Rattle.ps_model.specs.declared.command.Command.TheVariants.{Tick, CreateTopic, GetTopic, DeleteTopic, Acknowledge, ModifyAckDeadline, SeekSnapshot, Detach, CreateSnapshot, ListTopics}
use Rattle.ps_model.specs.declared.reply.Reply.{Reply}
use Rattle.ps_model.specs.declared.reply.Reply.TheVariants.{Refused, Topic}
use Rattle.ps_model.specs.declared.mark.Mark.TheVariants.{Leased}
use Rattle.ps_model.specs.declared.world.World.{World}
use Rattle.ps_config.specs.Masks.{default_topic, default_sub}
use Rattle.ps_model.specs.Step.{step, reply, entry_of}
use Rattle.ps_examples.specs.Samples.{Call, told, base, hi, id, pull_of, topic_name, sub_name, broken_by, none_named, taken_already, not_allowed}
use Rattle.ps_examples.specs.SubscriptionExamples.{create_sub, dead_name, with_dead}

abbrev pub snap_name : List ℕ
snap_name = codes "projects/p/snapshots/snap"

abbrev pub snap_at : ℕ → Call
snap_at t = (t, CreateSnapshot snap_name sub_name [])

-- the subscription, a snapshot of it, and then it is detached
abbrev pub snapped : List Call
snapped = base ++ snap_at 1500 ∷ []

abbrev pub snapped_and_detached : List Call
snapped_and_detached = snapped ++ (2000, Detach sub_name) ∷ []

abbrev pub detached : List Call
detached = base ++ (2000, Detach sub_name) ∷ []

abbrev pub seek_to_snap : Call
seek_to_snap = (2000, SeekSnapshot sub_name snap_name)

-- the topic and a subscription of it with a message that is out until 12000, and so many entries
abbrev pub with_count : ℕ → World
with_count count = record {
  now = 2000;
  count = count;
  next_topic = 2;
  next_sub = 2;
  next_snap = 1;
  next_message = 2;
  topics = record { number = 1; name = topic_name; config = default_topic } ∷ [];
  subs = record { number = 1; name = sub_name; topic = 1; config = default_sub; detached = false; next_lease = 2 } ∷ [];
  snaps = [];
  messages = record { number = 1; topic = 1; publish = 1000; message = hi; kept = true } ∷ [];
  marks = record { sub = 1; message = 1; mark = Leased 0 1 12000 } ∷ [];
}

-- as many entries as there can be, and one less
abbrev pub full : World
full = with_count (2 ^ 50)

abbrev pub nearly_full : World
nearly_full = with_count (2 ^ 50 - 1)

abbrev pub exhausted : Reply
exhausted = Refused Exhausted

abbrev pub new_topic : Command
new_topic = CreateTopic (codes "projects/p/topics/new") default_topic

pub record RefusalExamples : Type 0 where
  -- a new subscription: its topic is looked up first, then the topic of its dead letters, then its own name
  pub topic_first : told [] (create_sub with_dead) ≡ none_named topic_name
  pub dead_topic_second : told base (create_sub with_dead) ≡ none_named dead_name
  pub taken_name_last : told (base ++ (1000, CreateTopic dead_name default_topic) ∷ []) (create_sub with_dead) ≡ taken_already sub_name
  -- a seek: the subscription is looked up first, then the snapshot, and only then what doesn't allow it
  pub subscription_first : told [] seek_to_snap ≡ none_named sub_name
  pub snapshot_second : told detached seek_to_snap ≡ none_named snap_name
  pub detached_last : told snapped_and_detached seek_to_snap ≡ not_allowed Detached
  -- a new snapshot: its subscription, then the name that is taken, then detached, then the deleted topic
  pub subscription_of_a_snapshot : told [] (snap_at 2000) ≡ none_named sub_name
  pub taken_snapshot : told snapped_and_detached (snap_at 2000) ≡ taken_already snap_name
  pub detached_before_deleted : told (detached ++ (2000, DeleteTopic topic_name) ∷ []) (snap_at 2000) ≡ not_allowed Detached
  pub topic_deleted : told (base ++ (2000, DeleteTopic topic_name) ∷ []) (snap_at 2000) ≡ not_allowed TopicDeleted
  -- an argument is looked at before any name
  pub labels_before_names : told [] (2000, CreateSnapshot snap_name sub_name (([], []) ∷ [])) ≡ broken_by Labels
  pub ids_before_names : told [] (2000, Acknowledge sub_name []) ≡ broken_by AckIds
  pub ids_of_a_modification_before_names : told [] (2000, ModifyAckDeadline sub_name []) ≡ broken_by AckIds
  pub seconds_before_names : told [] (2000, ModifyAckDeadline sub_name ((id 1 1 1, 601) ∷ [])) ≡ broken_by AckDeadlineSeconds
  -- in a full record an argument is looked at first, and every other call is refused, reads too
  pub bad_argument_of_a_full_record : reply full 3000 (pull_of sub_name 0) ≡ broken_by MaxMessages
  pub read_of_a_full_record : reply full 3000 (GetTopic topic_name) ≡ exhausted
  pub missing_name_in_a_full_record : reply full 3000 (GetTopic dead_name) ≡ exhausted
  pub taken_name_in_a_full_record : reply full 3000 (CreateTopic topic_name default_topic) ≡ exhausted
  pub list_of_a_full_record : reply full 3000 (ListTopics (codes "p") (record { size = 0; after = [] })) ≡ exhausted
  pub tick_of_a_full_record : reply full 3000 Tick ≡ exhausted
  -- and nothing is recorded there, what the moment brings neither
  pub nothing_is_recorded : entry_of full 3000 new_topic ≡ None
  pub nothing_settles : entry_of full 12000 Tick ≡ None
  -- the last entry is taken like any other
  pub last_entry : entry_of nearly_full 3000 new_topic ≡ Some (record { now = 3000; command = new_topic })
  pub behind_the_last_entry : reply (step nearly_full (record { now = 3000; command = new_topic })) 3000 (GetTopic topic_name) ≡ exhausted
  pub read_before_the_last_entry : reply nearly_full 3000 (GetTopic topic_name) ≡ Topic (record { name = topic_name; config = default_topic })
