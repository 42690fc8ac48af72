-- A command that leaves a world of its own isn't refused.
use Rattle.std.proofs.Common.{ℕ, ◌≡◌, ◌+◌, Bool, true, false, nat_eq, nat_lt, is_none, List, [], ◌∷◌, ◌++◌, Option, Some, None, unwrap_or, refl, ap, if◌then◌else◌}
use Rattle.std.proofs.lemmas.Bool.{cond_both, both_ways}
use Rattle.ps_base.specs.declared.ack_id.AckId.{AckId}
use Rattle.ps_base.specs.declared.reason.Reason.TheVariants.{Detached, TopicDeleted, SnapshotTopic, SnapshotLifetime}
use Rattle.ps_base.specs.declared.reason.Reason.{Reason}
use Rattle.ps_base.specs.declared.refusal.Refusal.{Refusal}
use Rattle.ps_base.specs.declared.refusal.Refusal.TheVariants.{Exhausted, FailedPrecondition}
use Rattle.ps_message.specs.declared.message.Message.{Message}
use Rattle.ps_config.specs.declared.config.TopicConfig.{TopicConfig}
use Rattle.ps_config.specs.declared.config.SubConfig.{SubConfig}
use Rattle.ps_config.specs.declared.mask.Mask.{Mask}
use Rattle.ps_config.specs.Masks.{has_bit}
use Rattle.ps_model.specs.declared.command.Command.{Command}
use Rattle.ps_model.specs.declared.command.Command.TheVariants.{Tick, CreateTopic, UpdateTopic, GetTopic, DeleteTopic, ListTopics, ListTopicSubscriptions, ListTopicSnapshots, Publish, CreateSubscription, UpdateSubscription, GetSubscription, DeleteSubscription, ListSubscriptions, Pull, Acknowledge, ModifyAckDeadline, SeekTime, SeekSnapshot, Detach, CreateSnapshot, UpdateSnapshot, GetSnapshot, DeleteSnapshot, ListSnapshots}
use Rattle.ps_model.specs.declared.command.Paging.{Paging}
use Rattle.ps_model.specs.declared.reply.Reply.{Reply}
use Rattle.ps_model.specs.declared.reply.Reply.TheVariants.{Empty, Snapshot, Refused}
use Rattle.ps_model.specs.declared.world.World.{World}
use Rattle.ps_model.specs.declared.world.TopicRow.{TopicRow}
use Rattle.ps_model.specs.declared.world.SubRow.{SubRow}
use Rattle.ps_model.specs.declared.world.SnapRow.{SnapRow}
use Rattle.ps_model.specs.Worlds.{topic_named, topic_numbered, sub_named, snap_named, with_slots_at, slots_of}
use Rattle.ps_model.specs.Outcomes.{Outcome, Shows, Leaves, answers, refuses, reply_in}
use Rattle.ps_model.specs.Topics.{create_topic_at, update_topic_at, get_topic_at, delete_topic_at, publish_at}
use Rattle.ps_model.specs.Subscriptions.{missing_of, create_sub_named, create_sub_at, update_sub_masked, update_sub_at, get_sub_at, delete_sub_at, detach_at}
use Rattle.ps_model.specs.Pulling.{pull_from, pull_at}
use Rattle.ps_model.specs.Answering.{acknowledge_at, modify_at}
use Rattle.ps_model.specs.Replaying.{held_items, seek_list, seek_time_in, seek_time_at, seek_snap_at}
use Rattle.ps_model.specs.Snapshots.{new_snap, create_snap_at, update_snap_at, get_snap_at, delete_snap_at}
use Rattle.ps_model.specs.Showing.{snap_shown}
use Rattle.ps_model.specs.Listing.{topic_subs_at, topic_snaps_at}
use Rattle.ps_model.specs.Checks.{argument_fault}
use Rattle.ps_model.specs.Commands.{carried, is_full, checked, outcome}
use Rattle.ps_model.specs.Step.{finished}

abbrev pub is_refused : Reply → Bool
is_refused (Refused refusal) = true
is_refused _ = false

abbrev leaves_refused : Outcome → Bool
leaves_refused (Shows reply) = false
leaves_refused (Leaves made letters reply) = is_refused reply

-- it shows something, or what it leaves comes with an answer
abbrev Answers : Outcome → Type 0
Answers o = leaves_refused o ≡ false

module _ (t : ℕ) (v : World) where
  create_topic-answers : (name : List ℕ) (config : TopicConfig) (o : Option TopicRow) → Answers (create_topic_at v name config o)
  create_topic-answers name config (Some taken) = refl
  create_topic-answers name config None = refl

  update_topic-answers : (name : List ℕ) (mask : Mask) (config : TopicConfig) (o : Option TopicRow) → Answers (update_topic_at v name mask config o)
  update_topic-answers name mask config None = refl
  update_topic-answers name mask config (Some old) = refl

  get_topic-answers : (name : List ℕ) (o : Option TopicRow) → Answers (get_topic_at v name o)
  get_topic-answers name None = refl
  get_topic-answers name (Some row) = refl

  delete_topic-answers : (name : List ℕ) (o : Option TopicRow) → Answers (delete_topic_at v name o)
  delete_topic-answers name None = refl
  delete_topic-answers name (Some row) = refl

  list_topic_subs-answers : (paging : Paging) (name : List ℕ) (o : Option TopicRow) → Answers (topic_subs_at v paging name o)
  list_topic_subs-answers paging name None = refl
  list_topic_subs-answers paging name (Some topic) = refl

  list_topic_snaps-answers : (paging : Paging) (name : List ℕ) (o : Option TopicRow) → Answers (topic_snaps_at v paging name o)
  list_topic_snaps-answers paging name None = refl
  list_topic_snaps-answers paging name (Some topic) = refl

  publish-answers : (name : List ℕ) (messages : List Message) (o : Option TopicRow) → Answers (publish_at v t name messages o)
  publish-answers name messages None = refl
  publish-answers name messages (Some topic) = refl

  create_sub-named-answers : (name : List ℕ) (topic : TopicRow) (config : SubConfig) (missing : Option (List ℕ)) (o : Option SubRow) → Answers (create_sub_named v t name topic config missing o)
  create_sub-named-answers name topic config (Some lost) o = refl
  create_sub-named-answers name topic config None (Some taken) = refl
  create_sub-named-answers name topic config None None = refl

  create_sub-answers : (name of : List ℕ) (config : SubConfig) (o : Option TopicRow) → Answers (create_sub_at v t name of config o)
  create_sub-answers name of config None = refl
  create_sub-answers name of config (Some topic) = create_sub-named-answers name topic config (missing_of v config.dead_letter) (sub_named v name)

  update_sub-masked-answers : (mask : Mask) (old : SubRow) (config : SubConfig) (missing : Option (List ℕ)) → Answers (update_sub_masked v mask old config missing)
  update_sub-masked-answers mask old config (Some lost) = refl
  update_sub-masked-answers mask old config None = refl

  update_sub-answers : (name : List ℕ) (mask : Mask) (config : SubConfig) (o : Option SubRow) → Answers (update_sub_at v name mask config o)
  update_sub-answers name mask config None = refl
  update_sub-answers name mask config (Some old) = update_sub-masked-answers mask old config (if has_bit mask 5 then missing_of v config.dead_letter else None)

  get_sub-answers : (name : List ℕ) (o : Option SubRow) → Answers (get_sub_at v name o)
  get_sub-answers name None = refl
  get_sub-answers name (Some row) = refl

  delete_sub-answers : (name : List ℕ) (o : Option SubRow) → Answers (delete_sub_at v name o)
  delete_sub-answers name None = refl
  delete_sub-answers name (Some row) = refl

  detach-answers : (name : List ℕ) (o : Option SubRow) → Answers (detach_at v name o)
  detach-answers name None = refl
  detach-answers name (Some row) = refl

  pull-from-answers : (sub : SubRow) (most budget seconds : ℕ) (detached : Bool) → Answers (pull_from v t sub most budget seconds detached)
  pull-from-answers sub most budget seconds true = refl
  pull-from-answers sub most budget seconds false = refl

  pull-answers : (name : List ℕ) (most budget : ℕ) (asked : Option ℕ) (o : Option SubRow) → Answers (pull_at v t name most budget asked o)
  pull-answers name most budget asked None = refl
  pull-answers name most budget asked (Some sub) = pull-from-answers sub most budget (unwrap_or asked sub.config.ack_seconds) sub.detached

  acknowledge-answers : (name : List ℕ) (ids : List AckId) (o : Option SubRow) → Answers (acknowledge_at v name ids o)
  acknowledge-answers name ids None = refl
  acknowledge-answers name ids (Some sub) = refl

  modify-answers : (name : List ℕ) (items : List (AckId × ℕ)) (o : Option SubRow) → Answers (modify_at v t name items o)
  modify-answers name items None = refl
  modify-answers name items (Some sub) = refl

  seek_time-in-answers : (time : ℕ) (sub : SubRow) (detached : Bool) → Answers (seek_time_in v time sub detached)
  seek_time-in-answers time sub true = refl
  seek_time-in-answers time sub false = refl

  seek_time-answers : (name : List ℕ) (time : ℕ) (o : Option SubRow) → Answers (seek_time_at v name time o)
  seek_time-answers name time None = refl
  seek_time-answers name time (Some sub) = seek_time-in-answers time sub sub.detached

  seek_snap-answers : (name snapshot : List ℕ) (o : Option SubRow) (q : Option SnapRow) → Answers (seek_snap_at v name snapshot o q)
  seek_snap-answers name snapshot None q = refl
  seek_snap-answers name snapshot (Some sub) None = refl
  seek_snap-answers name snapshot (Some sub) (Some snap) =
      let done : Outcome = answers (with_slots_at sub.number (seek_list (held_items v sub snap) (slots_of v sub.number)) v) Empty in
      cond_both sub.detached (refuses v (FailedPrecondition Detached)) (if nat_eq snap.topic sub.topic then done else refuses v (FailedPrecondition SnapshotTopic)) Answers (λ _. refl)
      (λ _. cond_both (nat_eq snap.topic sub.topic) done (refuses v (FailedPrecondition SnapshotTopic)) Answers (λ _. refl) (λ _. refl))

  create_snap-answers : (name subscription : List ℕ) (labels : List (List ℕ × List ℕ)) (o : Option SubRow) (q : Option SnapRow) → Answers (create_snap_at v t name subscription labels o q)
  create_snap-answers name subscription labels None q = refl
  create_snap-answers name subscription labels (Some sub) (Some taken) = refl
  create_snap-answers name subscription labels (Some sub) None =
      let row : SnapRow = new_snap v t name sub labels in
      let done : Outcome = answers (record v { next_snap = v.next_snap + 1; snaps = v.snaps ++ row ∷ [] }) (Snapshot (snap_shown v row)) in
      let in_time : Outcome = if nat_lt row.expiry (t + 3600000) then refuses v (FailedPrecondition SnapshotLifetime) else done in
      cond_both sub.detached (refuses v (FailedPrecondition Detached)) (if is_none (topic_numbered v sub.topic) then refuses v (FailedPrecondition TopicDeleted) else in_time) Answers (λ _. refl)
      (λ _. cond_both (is_none (topic_numbered v sub.topic)) (refuses v (FailedPrecondition TopicDeleted)) in_time Answers (λ _. refl)
      (λ _. cond_both (nat_lt row.expiry (t + 3600000)) (refuses v (FailedPrecondition SnapshotLifetime)) done Answers (λ _. refl) (λ _. refl)))

  update_snap-answers : (name : List ℕ) (labels : List (List ℕ × List ℕ)) (o : Option SnapRow) → Answers (update_snap_at v name labels o)
  update_snap-answers name labels None = refl
  update_snap-answers name labels (Some old) = refl

  get_snap-answers : (name : List ℕ) (o : Option SnapRow) → Answers (get_snap_at v name o)
  get_snap-answers name None = refl
  get_snap-answers name (Some row) = refl

  delete_snap-answers : (name : List ℕ) (o : Option SnapRow) → Answers (delete_snap_at v name o)
  delete_snap-answers name None = refl
  delete_snap-answers name (Some row) = refl

  pub carried-answers : (c : Command) → Answers (carried v t c)
  carried-answers Tick = refl
  carried-answers (CreateTopic topic config) = create_topic-answers topic config (topic_named v topic)
  carried-answers (UpdateTopic topic mask config) = update_topic-answers topic mask config (topic_named v topic)
  carried-answers (GetTopic topic) = get_topic-answers topic (topic_named v topic)
  carried-answers (DeleteTopic topic) = delete_topic-answers topic (topic_named v topic)
  carried-answers (ListTopics project paging) = refl
  carried-answers (ListTopicSubscriptions topic paging) = list_topic_subs-answers paging topic (topic_named v topic)
  carried-answers (ListTopicSnapshots topic paging) = list_topic_snaps-answers paging topic (topic_named v topic)
  carried-answers (Publish topic messages) = publish-answers topic messages (topic_named v topic)
  carried-answers (CreateSubscription subscription topic config) = create_sub-answers subscription topic config (topic_named v topic)
  carried-answers (UpdateSubscription subscription mask config) = update_sub-answers subscription mask config (sub_named v subscription)
  carried-answers (GetSubscription subscription) = get_sub-answers subscription (sub_named v subscription)
  carried-answers (DeleteSubscription subscription) = delete_sub-answers subscription (sub_named v subscription)
  carried-answers (ListSubscriptions project paging) = refl
  carried-answers (Pull subscription most budget seconds) = pull-answers subscription most budget seconds (sub_named v subscription)
  carried-answers (Acknowledge subscription ids) = acknowledge-answers subscription ids (sub_named v subscription)
  carried-answers (ModifyAckDeadline subscription items) = modify-answers subscription items (sub_named v subscription)
  carried-answers (SeekTime subscription time) = seek_time-answers subscription time (sub_named v subscription)
  carried-answers (SeekSnapshot subscription snapshot) = seek_snap-answers subscription snapshot (sub_named v subscription) (snap_named v snapshot)
  carried-answers (Detach subscription) = detach-answers subscription (sub_named v subscription)
  carried-answers (CreateSnapshot snapshot subscription labels) = create_snap-answers snapshot subscription labels (sub_named v subscription) (snap_named v snapshot)
  carried-answers (UpdateSnapshot snapshot labels) = update_snap-answers snapshot labels (snap_named v snapshot)
  carried-answers (GetSnapshot snapshot) = get_snap-answers snapshot (snap_named v snapshot)
  carried-answers (DeleteSnapshot snapshot) = delete_snap-answers snapshot (snap_named v snapshot)
  carried-answers (ListSnapshots project paging) = refl

  outcome-answers : (c : Command) → Answers (outcome v t c)
  outcome-answers c = at (argument_fault c)
    where
      at : (fault : Option Reason) → Answers (checked v t c fault)
      at (Some reason) = refl
      at None = cond_both (is_full v) (refuses v Exhausted) (carried v t c) Answers (λ _. refl) (λ _. carried-answers c)

  -- what is refused leaves the world as it is
  pub refused-leaves : (c : Command) (refusal : Refusal) → reply_in (outcome v t c) ≡ Refused refusal → finished t v (outcome v t c) ≡ v
  refused-leaves c refusal told = at (outcome v t c) (outcome-answers c) told
    where
      at : (o : Outcome) → Answers o → reply_in o ≡ Refused refusal → finished t v o ≡ v
      at (Shows reply) answers told = refl
      at (Leaves made letters reply) answers told = absurd (both_ways (is_refused reply) answers (ap is_refused told))
