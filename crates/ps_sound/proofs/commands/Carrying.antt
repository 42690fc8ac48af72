-- What each command leaves, checks included, of a settled world.
use Rattle.std.proofs.Common.{ℕ, ◌≡◌, ◌+◌, ◌≤◌, min, length, Bool, true, false, not, nat_eq, nat_lt, is_none, List, [], ◌∷◌, ◌++◌, Option, Some, None, option_map, unwrap_or, refl, arith, if◌then◌else◌}
use Rattle.std.specs.List.{AllByRecursion, list_any}
use Rattle.std.specs.Str.{bytes_eq}
use Rattle.std.proofs.lemmas.Bool.{cond_both, eqb-true}
use Rattle.ps_base.specs.declared.ack_id.AckId.{AckId}
use Rattle.ps_base.specs.declared.reason.Reason.{Reason}
use Rattle.ps_base.specs.declared.reason.Reason.TheVariants.{AckDeadlineSeconds, AckIds, UpdateMask, Detached, TopicDeleted, SnapshotTopic, SnapshotLifetime}
use Rattle.ps_base.specs.declared.refusal.Refusal.TheVariants.{Exhausted, FailedPrecondition}
use Rattle.ps_message.specs.declared.message.Message.{Message}
use Rattle.ps_message.specs.Lists.{is_empty}
use Rattle.ps_message.specs.Messages.{broken}
use Rattle.ps_config.specs.declared.config.TopicConfig.{TopicConfig}
use Rattle.ps_config.specs.declared.config.SubConfig.{SubConfig}
use Rattle.ps_config.specs.declared.mask.Mask.{Mask}
use Rattle.ps_model.specs.declared.command.Command.{Command}
use Rattle.ps_model.specs.declared.command.Command.TheVariants.{Tick, CreateTopic, UpdateTopic, GetTopic, DeleteTopic, ListTopics, ListTopicSubscriptions, ListTopicSnapshots, Publish, CreateSubscription, UpdateSubscription, GetSubscription, DeleteSubscription, ListSubscriptions, Pull, Acknowledge, ModifyAckDeadline, SeekTime, SeekSnapshot, Detach, CreateSnapshot, UpdateSnapshot, GetSnapshot, DeleteSnapshot, ListSnapshots}
use Rattle.ps_model.specs.declared.command.Paging.{Paging}
use Rattle.ps_model.specs.declared.reply.Reply.TheVariants.{Empty, Snapshot}
use Rattle.ps_model.specs.declared.world.World.{World}
use Rattle.ps_model.specs.declared.world.TopicRow.{TopicRow}
use Rattle.ps_model.specs.declared.world.SubRow.{SubRow}
use Rattle.ps_model.specs.declared.world.SnapRow.{SnapRow}
use Rattle.ps_config.specs.Masks.{whole_mask, is_mask, default_topic, default_sub, masked_topic, masked_sub, has_bit}
use Rattle.ps_model.specs.Worlds.{topic_named, topic_numbered, sub_named, snap_named, with_slots_at, slots_of}
use Rattle.ps_model.specs.Outcomes.{Outcome, answers, refuses}
use Rattle.ps_model.specs.Topics.{create_topic_at, update_topic_at, get_topic_at, delete_topic_at, publish_at}
use Rattle.ps_model.specs.Subscriptions.{missing_of, create_sub_named, create_sub_at, update_sub_masked, update_sub_at, get_sub_at, delete_sub_at, detach_at}
use Rattle.ps_model.specs.Pulling.{pull_from, pull_at}
use Rattle.ps_model.specs.Answering.{tickets_of, acknowledge_at, modify_at}
use Rattle.ps_model.specs.Replaying.{held_items, seek_list, seek_time_in, seek_time_at, seek_snap_in, seek_snap_at}
use Rattle.ps_model.specs.Snapshots.{new_snap, create_snap_in, create_snap_at, update_snap_at, get_snap_at, delete_snap_at}
use Rattle.ps_model.specs.Showing.{snap_shown}
use Rattle.ps_model.specs.Listing.{topic_subs_at, topic_snaps_at}
use Rattle.ps_config.specs.Limits.{topic_fault, sub_fault, labels_fault}
use Rattle.ps_model.specs.Checks.{new_sub_fault, has_long_deadline, argument_fault, as_read, lease_seconds}
use Rattle.ps_model.specs.Commands.{carried, is_full, checked, outcome}
use Rattle.ps_model.specs.Forwarding.{forward}
use Rattle.ps_model.specs.Settling.{expunge_world}
use Rattle.ps_model.specs.Step.{finished}
use Rattle.ps_base.proofs.Lists.{each-found}
use Rattle.ps_sound.proofs.worlds.Settings.{first-none, broken-none}
use Rattle.ps_sound.proofs.worlds.Underway.{IsUnderway, IsFinished, underway-more, finished-more}
use Rattle.ps_sound.proofs.phases.Settled.{answers-finished}
use Rattle.ps_sound.proofs.commands.Publishing.{publish-few, publish-underway}
use Rattle.ps_sound.proofs.commands.TopicChanges.{create_topic-underway, update_topic-underway, delete_topic-underway}
use Rattle.ps_sound.proofs.commands.SubChanges.{update_sub-underway, detach-underway}
use Rattle.ps_sound.proofs.commands.SubRows.{create_sub-underway, delete_sub-underway}
use Rattle.ps_sound.proofs.commands.Pulled.{lease-time, pull-underway}
use Rattle.ps_sound.proofs.commands.Acknowledged.{acknowledge-underway}
use Rattle.ps_sound.proofs.commands.Modified.{items-short, modify-finished}
use Rattle.ps_sound.proofs.commands.SoughtTime.{seek_time-underway}
use Rattle.ps_sound.proofs.commands.Replayed.{seek_snapshot-underway}
use Rattle.ps_sound.proofs.commands.SnapChanges.{create_snap-underway, update_snap-underway, delete_snap-underway}

module _ (t count : ℕ) (v : World) (h : IsFinished t count v) where
  -- what an outcome leaves is finished, with an entry more
  abbrev IsFine : Outcome → Type 0
  IsFine o = IsFinished t (count + 1) (finished t v o)

  shows : IsFinished t (count + 1) v
  shows = finished-more t count (count + 1) v (omega arith) h

  leaves : (made : World) → IsUnderway t (count + 1) made → IsFinished t (count + 1) (expunge_world t (forward t [] made))
  leaves made m = answers-finished t (count + 1) made m

  create_topic-fine : (name : List ℕ) (config : TopicConfig) (o : Option TopicRow) → topic_named v name ≡ o → topic_fault whole_mask config ≡ None → IsFine (create_topic_at v name config o)
  create_topic-fine name config (Some taken) eo checked = shows
  create_topic-fine name config None eo checked = leaves _ (create_topic-underway t count v name config eo checked h.underway)

  update_topic-fine : (name : List ℕ) (mask : Mask) (config : TopicConfig) (o : Option TopicRow) → topic_named v name ≡ o → topic_fault mask config ≡ None → IsFine (update_topic_at v name mask config o)
  update_topic-fine name mask config None eo checked = shows
  update_topic-fine name mask config (Some old) eo checked = leaves _ (update_topic-underway t count v name old mask config eo checked h.underway)

  get_topic-fine : (name : List ℕ) (o : Option TopicRow) → IsFine (get_topic_at v name o)
  get_topic-fine name None = shows
  get_topic-fine name (Some row) = shows

  delete_topic-fine : (name : List ℕ) (o : Option TopicRow) → IsFine (delete_topic_at v name o)
  delete_topic-fine name None = shows
  delete_topic-fine name (Some row) = leaves _ (delete_topic-underway t count v row h.underway)

  list_topic_subs-fine : (paging : Paging) (name : List ℕ) (o : Option TopicRow) → IsFine (topic_subs_at v paging name o)
  list_topic_subs-fine paging name None = shows
  list_topic_subs-fine paging name (Some topic) = shows

  list_topic_snaps-fine : (paging : Paging) (name : List ℕ) (o : Option TopicRow) → IsFine (topic_snaps_at v paging name o)
  list_topic_snaps-fine paging name None = shows
  list_topic_snaps-fine paging name (Some topic) = shows

  publish-fine : (name : List ℕ) (messages : List Message) (o : Option TopicRow) → topic_named v name ≡ o → length messages ≤ 1000 → IsFine (publish_at v t name messages o)
  publish-fine name messages None eo few = shows
  publish-fine name messages (Some topic) eo few = leaves _ (publish-underway t count v name topic messages eo few h.underway)

  create_sub-named-fine : (name of : List ℕ) (topic : TopicRow) (config : SubConfig) (missing : Option (List ℕ)) (o : Option SubRow) → topic_named v of ≡ Some topic → sub_named v name ≡ o → new_sub_fault config ≡ None
      → IsFine (create_sub_named v t name topic config missing o)
  create_sub-named-fine name of topic config (Some lost) o found eo checked = shows
  create_sub-named-fine name of topic config None (Some taken) found eo checked = shows
  create_sub-named-fine name of topic config None None found eo checked = leaves _ (create_sub-underway t count v name of topic config topic.config.retention h.underway eo checked found)

  create_sub-fine : (name of : List ℕ) (config : SubConfig) (o : Option TopicRow) → topic_named v of ≡ o → new_sub_fault config ≡ None → IsFine (create_sub_at v t name of config o)
  create_sub-fine name of config None eo checked = shows
  create_sub-fine name of config (Some topic) eo checked = create_sub-named-fine name of topic config (missing_of v config.dead_letter) (sub_named v name) eo refl checked

  update_sub-masked-fine : (name : List ℕ) (mask : Mask) (old : SubRow) (config : SubConfig) (missing : Option (List ℕ)) → sub_named v name ≡ Some old → sub_fault mask config ≡ None → IsFine (update_sub_masked v mask old config missing)
  update_sub-masked-fine name mask old config (Some lost) found checked = shows
  update_sub-masked-fine name mask old config None found checked = leaves _ (update_sub-underway t count v name old mask config found checked h.underway)

  update_sub-fine : (name : List ℕ) (mask : Mask) (config : SubConfig) (o : Option SubRow) → sub_named v name ≡ o → sub_fault mask config ≡ None → IsFine (update_sub_at v name mask config o)
  update_sub-fine name mask config None eo checked = shows
  update_sub-fine name mask config (Some old) eo checked = update_sub-masked-fine name mask old config (if has_bit mask 5 then missing_of v config.dead_letter else None) eo checked

  get_sub-fine : (name : List ℕ) (o : Option SubRow) → IsFine (get_sub_at v name o)
  get_sub-fine name None = shows
  get_sub-fine name (Some row) = shows

  delete_sub-fine : (name : List ℕ) (o : Option SubRow) → IsFine (delete_sub_at v name o)
  delete_sub-fine name None = shows
  delete_sub-fine name (Some row) = leaves _ (delete_sub-underway t count v row h.underway)

  detach-fine : (name : List ℕ) (o : Option SubRow) → sub_named v name ≡ o → IsFine (detach_at v name o)
  detach-fine name None eo = shows
  detach-fine name (Some row) eo = leaves _ (detach-underway t count v name row eo h.underway)

  pull-from-fine : (name : List ℕ) (sub : SubRow) (most budget : ℕ) (asked : Option ℕ) (detached : Bool) → sub.detached ≡ detached → sub_named v name ≡ Some sub → most ≤ 1000
      → IsFine (pull_from v t sub most budget (unwrap_or (option_map lease_seconds asked) sub.config.ack_seconds) detached)
  pull-from-fine name sub most budget asked true ed found few = shows
  pull-from-fine name sub most budget asked false ed found few =
      leaves _ (pull-underway t count v name sub most budget (unwrap_or (option_map lease_seconds asked) sub.config.ack_seconds) found ed few
      (lease-time asked sub.config (each-found (λ (r : SubRow). new_sub_fault r.config ≡ None) (λ (r : SubRow). bytes_eq r.name name) v.subs sub found h.underway.subs.settings)) h.underway)

  pull-fine : (name : List ℕ) (most budget : ℕ) (asked : Option ℕ) (o : Option SubRow) → sub_named v name ≡ o → most ≤ 1000 → IsFine (pull_at v t name most budget (option_map lease_seconds asked) o)
  pull-fine name most budget asked None eo few = shows
  pull-fine name most budget asked (Some sub) eo few = pull-from-fine name sub most budget asked sub.detached refl eo few

  acknowledge-fine : (name : List ℕ) (ids : List AckId) (o : Option SubRow) → IsFine (acknowledge_at v name ids o)
  acknowledge-fine name ids None = shows
  acknowledge-fine name ids (Some sub) = leaves _ (underway-more t count (count + 1) _ (omega arith) (acknowledge-underway t count v sub (tickets_of sub ids) h.underway))

  modify-fine : (name : List ℕ) (items : List (AckId × ℕ)) (o : Option SubRow) → sub_named v name ≡ o → AllByRecursion (λ (x : AckId × ℕ). x.1 ≤ 600) items → IsFine (modify_at v t name items o)
  modify-fine name items None eo short = shows
  modify-fine name items (Some sub) eo short = finished-more t count (count + 1) _ (omega arith) (modify-finished t count v name sub items eo short h.underway)

  seek_time-in-fine : (time : ℕ) (sub : SubRow) (detached : Bool) → IsFine (seek_time_in v time sub detached)
  seek_time-in-fine time sub true = shows
  seek_time-in-fine time sub false = leaves _ (seek_time-underway t count v sub time h.underway)

  seek_time-fine : (name : List ℕ) (time : ℕ) (o : Option SubRow) → IsFine (seek_time_at v name time o)
  seek_time-fine name time None = shows
  seek_time-fine name time (Some sub) = seek_time-in-fine time sub sub.detached

  seek_snap-in-fine : (name snapshot : List ℕ) (sub : SubRow) (snap : SnapRow) → sub_named v name ≡ Some sub → snap_named v snapshot ≡ Some snap → IsFine (seek_snap_in v sub snap)
  seek_snap-in-fine name snapshot sub snap found taken =
      cond_both sub.detached (refuses v (FailedPrecondition Detached)) (if nat_eq snap.topic sub.topic then answers (with_slots_at sub.number (seek_list (held_items v sub snap) (slots_of v sub.number)) v) Empty else refuses v (FailedPrecondition SnapshotTopic)) IsFine
      (λ _. shows)
      (λ attached. cond_both (nat_eq snap.topic sub.topic) (answers (with_slots_at sub.number (seek_list (held_items v sub snap) (slots_of v sub.number)) v) Empty) (refuses v (FailedPrecondition SnapshotTopic)) IsFine
      (λ same. leaves _ (seek_snapshot-underway t count v name snapshot sub snap found taken attached (eqb-true snap.topic sub.topic same) h.underway)) (λ _. shows))

  seek_snap-fine : (name snapshot : List ℕ) (o : Option SubRow) (q : Option SnapRow) → sub_named v name ≡ o → snap_named v snapshot ≡ q → IsFine (seek_snap_at v name snapshot o q)
  seek_snap-fine name snapshot None q eo eq = shows
  seek_snap-fine name snapshot (Some sub) None eo eq = shows
  seek_snap-fine name snapshot (Some sub) (Some snap) eo eq = seek_snap-in-fine name snapshot sub snap eo eq

  create_snap-in-fine : (name subscription : List ℕ) (sub : SubRow) (labels : List (List ℕ × List ℕ)) → sub_named v subscription ≡ Some sub → snap_named v name ≡ None → labels_fault labels ≡ None → IsFine (create_snap_in v t sub (new_snap v t name sub labels))
  create_snap-in-fine name subscription sub labels found free checked =
      let row : SnapRow = new_snap v t name sub labels in
      let made : Outcome = answers (record v { next_snap = v.next_snap + 1; snaps = v.snaps ++ row ∷ [] }) (Snapshot (snap_shown v row)) in
      let in_time : Outcome = if nat_lt row.expiry (t + 3600000) then refuses v (FailedPrecondition SnapshotLifetime) else made in
      cond_both sub.detached (refuses v (FailedPrecondition Detached)) (if is_none (topic_numbered v sub.topic) then refuses v (FailedPrecondition TopicDeleted) else in_time) IsFine (λ _. shows)
      (λ _. cond_both (is_none (topic_numbered v sub.topic)) (refuses v (FailedPrecondition TopicDeleted)) in_time IsFine (λ _. shows)
      (λ _. cond_both (nat_lt row.expiry (t + 3600000)) (refuses v (FailedPrecondition SnapshotLifetime)) made IsFine (λ _. shows)
      (λ lives. leaves _ (create_snap-underway t count v name subscription sub labels found free checked lives h.underway))))

  create_snap-fine : (name subscription : List ℕ) (labels : List (List ℕ × List ℕ)) (o : Option SubRow) (q : Option SnapRow) → sub_named v subscription ≡ o → snap_named v name ≡ q → labels_fault labels ≡ None → IsFine (create_snap_at v t name subscription labels o q)
  create_snap-fine name subscription labels None q eo eq checked = shows
  create_snap-fine name subscription labels (Some sub) (Some taken) eo eq checked = shows
  create_snap-fine name subscription labels (Some sub) None eo eq checked = create_snap-in-fine name subscription sub labels eo eq checked

  update_snap-fine : (name : List ℕ) (labels : List (List ℕ × List ℕ)) (o : Option SnapRow) → snap_named v name ≡ o → labels_fault labels ≡ None → IsFine (update_snap_at v name labels o)
  update_snap-fine name labels None eo checked = shows
  update_snap-fine name labels (Some old) eo checked = leaves _ (update_snap-underway t count v name old labels eo checked h.underway)

  get_snap-fine : (name : List ℕ) (o : Option SnapRow) → IsFine (get_snap_at v name o)
  get_snap-fine name None = shows
  get_snap-fine name (Some row) = shows

  delete_snap-fine : (name : List ℕ) (o : Option SnapRow) → IsFine (delete_snap_at v name o)
  delete_snap-fine name None = shows
  delete_snap-fine name (Some row) = leaves _ (delete_snap-underway t count v row h.underway)

  carried-fine : (c : Command) → argument_fault (as_read c) ≡ None → IsFine (carried v t (as_read c))
  carried-fine Tick checked = shows
  carried-fine (CreateTopic topic config) checked = create_topic-fine topic config (topic_named v topic) refl checked
  carried-fine (UpdateTopic topic mask config) checked = update_topic-fine topic mask (masked_topic mask default_topic config) (topic_named v topic) refl
      (first-none (broken (not (is_mask 2 mask)) UpdateMask ∷ topic_fault mask (masked_topic mask default_topic config) ∷ []) checked).1.0
  carried-fine (GetTopic topic) checked = get_topic-fine topic (topic_named v topic)
  carried-fine (DeleteTopic topic) checked = delete_topic-fine topic (topic_named v topic)
  carried-fine (ListTopics project paging) checked = shows
  carried-fine (ListTopicSubscriptions topic paging) checked = list_topic_subs-fine paging topic (topic_named v topic)
  carried-fine (ListTopicSnapshots topic paging) checked = list_topic_snaps-fine paging topic (topic_named v topic)
  carried-fine (Publish topic messages) checked = publish-fine topic messages (topic_named v topic) refl (publish-few messages checked)
  carried-fine (CreateSubscription subscription topic config) checked = create_sub-fine subscription topic config (topic_named v topic) refl checked
  carried-fine (UpdateSubscription subscription mask config) checked = update_sub-fine subscription mask (masked_sub mask default_sub config) (sub_named v subscription) refl
      (first-none (broken (not (is_mask 9 mask)) UpdateMask ∷ sub_fault mask (masked_sub mask default_sub config) ∷ []) checked).1.0
  carried-fine (GetSubscription subscription) checked = get_sub-fine subscription (sub_named v subscription)
  carried-fine (DeleteSubscription subscription) checked = delete_sub-fine subscription (sub_named v subscription)
  carried-fine (ListSubscriptions project paging) checked = shows
  carried-fine (Pull subscription most budget seconds) checked = pull-fine subscription (min most 1000) (min budget 10000000) seconds (sub_named v subscription) refl (omega arith)
  carried-fine (Acknowledge subscription ids) checked = acknowledge-fine subscription ids (sub_named v subscription)
  carried-fine (ModifyAckDeadline subscription items) checked = modify-fine subscription items (sub_named v subscription) refl
      (items-short items (broken-none (list_any has_long_deadline items) AckDeadlineSeconds (first-none (broken (is_empty items) AckIds ∷ broken (list_any has_long_deadline items) AckDeadlineSeconds ∷ []) checked).1.0))
  carried-fine (SeekTime subscription time) checked = seek_time-fine subscription time (sub_named v subscription)
  carried-fine (SeekSnapshot subscription snapshot) checked = seek_snap-fine subscription snapshot (sub_named v subscription) (snap_named v snapshot) refl refl
  carried-fine (Detach subscription) checked = detach-fine subscription (sub_named v subscription) refl
  carried-fine (CreateSnapshot snapshot subscription labels) checked = create_snap-fine snapshot subscription labels (sub_named v subscription) (snap_named v snapshot) refl refl checked
  carried-fine (UpdateSnapshot snapshot labels) checked = update_snap-fine snapshot labels (snap_named v snapshot) refl checked
  carried-fine (GetSnapshot snapshot) checked = get_snap-fine snapshot (snap_named v snapshot)
  carried-fine (DeleteSnapshot snapshot) checked = delete_snap-fine snapshot (snap_named v snapshot)
  carried-fine (ListSnapshots project paging) checked = shows

  checked-fine : (c : Command) (fault : Option Reason) → (fault ≡ None → IsFine (carried v t c)) → IsFine (checked v t c fault)
  checked-fine c (Some reason) k = shows
  checked-fine c None k = cond_both (is_full v) (refuses v Exhausted) (carried v t c) IsFine (λ _. shows) (λ _. k refl)

  -- What a command leaves of a finished world is finished, with an entry more.
  pub outcome-finished : (c : Command) → IsFinished t (count + 1) (finished t v (outcome v t (as_read c)))
  outcome-finished c = checked-fine (as_read c) (argument_fault (as_read c)) (carried-fine c)
