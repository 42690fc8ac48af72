-- No command reads the moment of the last entry or the count of entries: beside others it answers the same and leaves the same.
use Rattle.std.proofs.Common.{ℕ, ◌≡◌, ◌+◌, Bool, true, false, nat_eq, nat_lt, is_none, List, [], ◌∷◌, ◌++◌, Option, Some, None, unwrap_or, refl, ap, ◌∙◌, if◌then◌else◌}
use Rattle.ps_base.specs.declared.ack_id.AckId.{AckId}
use Rattle.ps_base.specs.declared.reason.Reason.TheVariants.{Detached, TopicDeleted, SnapshotTopic, SnapshotLifetime}
use Rattle.ps_base.specs.declared.refusal.Refusal.TheVariants.{FailedPrecondition}
use Rattle.ps_message.specs.declared.message.Message.{Message}
use Rattle.ps_config.specs.declared.config.TopicConfig.{TopicConfig}
use Rattle.ps_config.specs.declared.config.SubConfig.{SubConfig}
use Rattle.ps_config.specs.declared.config.DeadLetterPolicy.{DeadLetterPolicy}
use Rattle.ps_config.specs.declared.mask.Mask.{Mask}
use Rattle.ps_config.specs.Masks.{has_bit}
use Rattle.ps_model.specs.declared.command.Command.{Command}
use Rattle.ps_model.specs.declared.command.Command.TheVariants.{Tick, CreateTopic, UpdateTopic, GetTopic, DeleteTopic, ListTopics, ListTopicSubscriptions, ListTopicSnapshots, Publish, CreateSubscription, UpdateSubscription, GetSubscription, DeleteSubscription, ListSubscriptions, Pull, Acknowledge, ModifyAckDeadline, SeekTime, SeekSnapshot, Detach, CreateSnapshot, UpdateSnapshot, GetSnapshot, DeleteSnapshot, ListSnapshots}
use Rattle.ps_model.specs.declared.command.Paging.{Paging}
use Rattle.ps_model.specs.declared.reply.Reply.TheVariants.{Empty, Snapshot}
use Rattle.ps_model.specs.declared.world.World.{World}
use Rattle.ps_model.specs.declared.world.TopicRow.{TopicRow}
use Rattle.ps_model.specs.declared.world.SubRow.{SubRow}
use Rattle.ps_model.specs.declared.world.SnapRow.{SnapRow}
use Rattle.ps_model.specs.Worlds.{topic_named, topic_numbered, sub_named, snap_named, with_slots_at, slots_of}
use Rattle.ps_model.specs.Outcomes.{Outcome, Shows, Leaves, answers, refuses}
use Rattle.ps_model.specs.Topics.{create_topic_at, update_topic_at, get_topic_at, delete_topic_at, publish_at}
use Rattle.ps_model.specs.Subscriptions.{missing_of, create_sub_named, create_sub_at, update_sub_masked, update_sub_at, get_sub_at, delete_sub_at, detach_at}
use Rattle.ps_model.specs.Pulling.{pull_from, pull_at}
use Rattle.ps_model.specs.Answering.{acknowledge_at, modify_at}
use Rattle.ps_model.specs.Replaying.{held_items, seek_list, seek_time_in, seek_time_at, seek_snap_at}
use Rattle.ps_model.specs.Snapshots.{new_snap, create_snap_at, update_snap_at, get_snap_at, delete_snap_at}
use Rattle.ps_model.specs.Showing.{snap_shown}
use Rattle.ps_model.specs.Listing.{topic_subs_at, topic_snaps_at}
use Rattle.ps_model.specs.Commands.{carried}
use Rattle.ps_model.specs.Step.{finished}

module _ (now entries : ℕ) where
  -- the world at another moment, after another count of entries
  abbrev pub stamped : World → World
  stamped w = record w { now = now; count = entries }

  abbrev pub outcome_stamped : Outcome → Outcome
  outcome_stamped (Shows reply) = Shows reply
  outcome_stamped (Leaves made letters reply) = Leaves (stamped made) letters reply

  if-stamped : (b : Bool) (o p o' p' : Outcome) → o' ≡ outcome_stamped o → p' ≡ outcome_stamped p → (if b then o' else p') ≡ outcome_stamped (if b then o else p)
  if-stamped true o p o' p' h k = h
  if-stamped false o p o' p' h k = k

  module _ (t : ℕ) (v : World) where
    create_topic-stamped : (name : List ℕ) (config : TopicConfig) (o : Option TopicRow) → create_topic_at (stamped v) name config o ≡ outcome_stamped (create_topic_at v name config o)
    create_topic-stamped name config (Some taken) = refl
    create_topic-stamped name config None = refl

    update_topic-stamped : (name : List ℕ) (mask : Mask) (config : TopicConfig) (o : Option TopicRow) → update_topic_at (stamped v) name mask config o ≡ outcome_stamped (update_topic_at v name mask config o)
    update_topic-stamped name mask config None = refl
    update_topic-stamped name mask config (Some old) = refl

    get_topic-stamped : (name : List ℕ) (o : Option TopicRow) → get_topic_at (stamped v) name o ≡ outcome_stamped (get_topic_at v name o)
    get_topic-stamped name None = refl
    get_topic-stamped name (Some row) = refl

    delete_topic-stamped : (name : List ℕ) (o : Option TopicRow) → delete_topic_at (stamped v) name o ≡ outcome_stamped (delete_topic_at v name o)
    delete_topic-stamped name None = refl
    delete_topic-stamped name (Some row) = refl

    list_topic_subs-stamped : (paging : Paging) (name : List ℕ) (o : Option TopicRow) → topic_subs_at (stamped v) paging name o ≡ outcome_stamped (topic_subs_at v paging name o)
    list_topic_subs-stamped paging name None = refl
    list_topic_subs-stamped paging name (Some topic) = refl

    list_topic_snaps-stamped : (paging : Paging) (name : List ℕ) (o : Option TopicRow) → topic_snaps_at (stamped v) paging name o ≡ outcome_stamped (topic_snaps_at v paging name o)
    list_topic_snaps-stamped paging name None = refl
    list_topic_snaps-stamped paging name (Some topic) = refl

    publish-stamped : (name : List ℕ) (messages : List Message) (o : Option TopicRow) → publish_at (stamped v) t name messages o ≡ outcome_stamped (publish_at v t name messages o)
    publish-stamped name messages None = refl
    publish-stamped name messages (Some topic) = refl

    missing-stamped : (o : Option DeadLetterPolicy) → missing_of (stamped v) o ≡ missing_of v o
    missing-stamped None = refl
    missing-stamped (Some policy) = refl

    create_sub-named-stamped : (name : List ℕ) (topic : TopicRow) (config : SubConfig) (missing : Option (List ℕ)) (o : Option SubRow) → create_sub_named (stamped v) t name topic config missing o ≡ outcome_stamped (create_sub_named v t name topic config missing o)
    create_sub-named-stamped name topic config (Some lost) o = refl
    create_sub-named-stamped name topic config None (Some taken) = refl
    create_sub-named-stamped name topic config None None = refl

    create_sub-stamped : (name of : List ℕ) (config : SubConfig) (o : Option TopicRow) → create_sub_at (stamped v) t name of config o ≡ outcome_stamped (create_sub_at v t name of config o)
    create_sub-stamped name of config None = refl
    create_sub-stamped name of config (Some topic) =
        ap (λ missing. create_sub_named (stamped v) t name topic config missing (sub_named v name)) (missing-stamped config.dead_letter)
        ∙ create_sub-named-stamped name topic config (missing_of v config.dead_letter) (sub_named v name)

    update_sub-masked-stamped : (mask : Mask) (old : SubRow) (config : SubConfig) (missing : Option (List ℕ)) → update_sub_masked (stamped v) mask old config missing ≡ outcome_stamped (update_sub_masked v mask old config missing)
    update_sub-masked-stamped mask old config (Some lost) = refl
    update_sub-masked-stamped mask old config None = refl

    update_sub-stamped : (name : List ℕ) (mask : Mask) (config : SubConfig) (o : Option SubRow) → update_sub_at (stamped v) name mask config o ≡ outcome_stamped (update_sub_at v name mask config o)
    update_sub-stamped name mask config None = refl
    update_sub-stamped name mask config (Some old) =
        ap (λ (missing : Option (List ℕ)). update_sub_masked (stamped v) mask old config (if has_bit mask 5 then missing else None)) (missing-stamped config.dead_letter)
        ∙ update_sub-masked-stamped mask old config (if has_bit mask 5 then missing_of v config.dead_letter else None)

    get_sub-stamped : (name : List ℕ) (o : Option SubRow) → get_sub_at (stamped v) name o ≡ outcome_stamped (get_sub_at v name o)
    get_sub-stamped name None = refl
    get_sub-stamped name (Some row) = refl

    delete_sub-stamped : (name : List ℕ) (o : Option SubRow) → delete_sub_at (stamped v) name o ≡ outcome_stamped (delete_sub_at v name o)
    delete_sub-stamped name None = refl
    delete_sub-stamped name (Some row) = refl

    detach-stamped : (name : List ℕ) (o : Option SubRow) → detach_at (stamped v) name o ≡ outcome_stamped (detach_at v name o)
    detach-stamped name None = refl
    detach-stamped name (Some row) = refl

    pull-from-stamped : (sub : SubRow) (most budget seconds : ℕ) (detached : Bool) → pull_from (stamped v) t sub most budget seconds detached ≡ outcome_stamped (pull_from v t sub most budget seconds detached)
    pull-from-stamped sub most budget seconds true = refl
    pull-from-stamped sub most budget seconds false = refl

    pull-stamped : (name : List ℕ) (most budget : ℕ) (asked : Option ℕ) (o : Option SubRow) → pull_at (stamped v) t name most budget asked o ≡ outcome_stamped (pull_at v t name most budget asked o)
    pull-stamped name most budget asked None = refl
    pull-stamped name most budget asked (Some sub) = pull-from-stamped sub most budget (unwrap_or asked sub.config.ack_seconds) sub.detached

    acknowledge-stamped : (name : List ℕ) (ids : List AckId) (o : Option SubRow) → acknowledge_at (stamped v) name ids o ≡ outcome_stamped (acknowledge_at v name ids o)
    acknowledge-stamped name ids None = refl
    acknowledge-stamped name ids (Some sub) = refl

    modify-stamped : (name : List ℕ) (items : List (AckId × ℕ)) (o : Option SubRow) → modify_at (stamped v) t name items o ≡ outcome_stamped (modify_at v t name items o)
    modify-stamped name items None = refl
    modify-stamped name items (Some sub) = refl

    seek_time-in-stamped : (time : ℕ) (sub : SubRow) (detached : Bool) → seek_time_in (stamped v) time sub detached ≡ outcome_stamped (seek_time_in v time sub detached)
    seek_time-in-stamped time sub true = refl
    seek_time-in-stamped time sub false = refl

    seek_time-stamped : (name : List ℕ) (time : ℕ) (o : Option SubRow) → seek_time_at (stamped v) name time o ≡ outcome_stamped (seek_time_at v name time o)
    seek_time-stamped name time None = refl
    seek_time-stamped name time (Some sub) = seek_time-in-stamped time sub sub.detached

    seek_snap-stamped : (name snapshot : List ℕ) (o : Option SubRow) (q : Option SnapRow) → seek_snap_at (stamped v) name snapshot o q ≡ outcome_stamped (seek_snap_at v name snapshot o q)
    seek_snap-stamped name snapshot None q = refl
    seek_snap-stamped name snapshot (Some sub) None = refl
    seek_snap-stamped name snapshot (Some sub) (Some snap) =
        let other : Outcome = refuses v (FailedPrecondition SnapshotTopic) in
        if-stamped sub.detached (refuses v (FailedPrecondition Detached)) (if nat_eq snap.topic sub.topic then done v else other) _ (if nat_eq snap.topic sub.topic then done (stamped v) else other) refl
        (if-stamped (nat_eq snap.topic sub.topic) (done v) other (done (stamped v)) other refl refl)
      where
        done : World → Outcome
        done u = answers (with_slots_at sub.number (seek_list (held_items u sub snap) (slots_of u sub.number)) u) Empty

    create_snap-stamped : (name subscription : List ℕ) (labels : List (List ℕ × List ℕ)) (o : Option SubRow) (q : Option SnapRow) → create_snap_at (stamped v) t name subscription labels o q ≡ outcome_stamped (create_snap_at v t name subscription labels o q)
    create_snap-stamped name subscription labels None q = refl
    create_snap-stamped name subscription labels (Some sub) (Some taken) = refl
    create_snap-stamped name subscription labels (Some sub) None =
        if-stamped sub.detached (refuses v (FailedPrecondition Detached)) (there v) _ (there (stamped v)) refl
        (if-stamped (is_none (topic_numbered v sub.topic)) (refuses v (FailedPrecondition TopicDeleted)) (in_time v) _ (in_time (stamped v)) refl
        (if-stamped (nat_lt row.expiry (t + 3600000)) (refuses v (FailedPrecondition SnapshotLifetime)) (done v) _ (done (stamped v)) refl refl))
      where
        row : SnapRow
        row = new_snap v t name sub labels

        done : World → Outcome
        done u = answers (record u { next_snap = u.next_snap + 1; snaps = u.snaps ++ row ∷ [] }) (Snapshot (snap_shown u row))

        in_time : World → Outcome
        in_time u = if nat_lt row.expiry (t + 3600000) then refuses u (FailedPrecondition SnapshotLifetime) else done u

        there : World → Outcome
        there u = if is_none (topic_numbered u sub.topic) then refuses u (FailedPrecondition TopicDeleted) else in_time u

    update_snap-stamped : (name : List ℕ) (labels : List (List ℕ × List ℕ)) (o : Option SnapRow) → update_snap_at (stamped v) name labels o ≡ outcome_stamped (update_snap_at v name labels o)
    update_snap-stamped name labels None = refl
    update_snap-stamped name labels (Some old) = refl

    get_snap-stamped : (name : List ℕ) (o : Option SnapRow) → get_snap_at (stamped v) name o ≡ outcome_stamped (get_snap_at v name o)
    get_snap-stamped name None = refl
    get_snap-stamped name (Some row) = refl

    delete_snap-stamped : (name : List ℕ) (o : Option SnapRow) → delete_snap_at (stamped v) name o ≡ outcome_stamped (delete_snap_at v name o)
    delete_snap-stamped name None = refl
    delete_snap-stamped name (Some row) = refl

    pub carried-stamped : (c : Command) → carried (stamped v) t c ≡ outcome_stamped (carried v t c)
    carried-stamped Tick = refl
    carried-stamped (CreateTopic topic config) = create_topic-stamped topic config (topic_named v topic)
    carried-stamped (UpdateTopic topic mask config) = update_topic-stamped topic mask config (topic_named v topic)
    carried-stamped (GetTopic topic) = get_topic-stamped topic (topic_named v topic)
    carried-stamped (DeleteTopic topic) = delete_topic-stamped topic (topic_named v topic)
    carried-stamped (ListTopics project paging) = refl
    carried-stamped (ListTopicSubscriptions topic paging) = list_topic_subs-stamped paging topic (topic_named v topic)
    carried-stamped (ListTopicSnapshots topic paging) = list_topic_snaps-stamped paging topic (topic_named v topic)
    carried-stamped (Publish topic messages) = publish-stamped topic messages (topic_named v topic)
    carried-stamped (CreateSubscription subscription topic config) = create_sub-stamped subscription topic config (topic_named v topic)
    carried-stamped (UpdateSubscription subscription mask config) = update_sub-stamped subscription mask config (sub_named v subscription)
    carried-stamped (GetSubscription subscription) = get_sub-stamped subscription (sub_named v subscription)
    carried-stamped (DeleteSubscription subscription) = delete_sub-stamped subscription (sub_named v subscription)
    carried-stamped (ListSubscriptions project paging) = refl
    carried-stamped (Pull subscription most budget seconds) = pull-stamped subscription most budget seconds (sub_named v subscription)
    carried-stamped (Acknowledge subscription ids) = acknowledge-stamped subscription ids (sub_named v subscription)
    carried-stamped (ModifyAckDeadline subscription items) = modify-stamped subscription items (sub_named v subscription)
    carried-stamped (SeekTime subscription time) = seek_time-stamped subscription time (sub_named v subscription)
    carried-stamped (SeekSnapshot subscription snapshot) = seek_snap-stamped subscription snapshot (sub_named v subscription) (snap_named v snapshot)
    carried-stamped (Detach subscription) = detach-stamped subscription (sub_named v subscription)
    carried-stamped (CreateSnapshot snapshot subscription labels) = create_snap-stamped snapshot subscription labels (sub_named v subscription) (snap_named v snapshot)
    carried-stamped (UpdateSnapshot snapshot labels) = update_snap-stamped snapshot labels (snap_named v snapshot)
    carried-stamped (GetSnapshot snapshot) = get_snap-stamped snapshot (snap_named v snapshot)
    carried-stamped (DeleteSnapshot snapshot) = delete_snap-stamped snapshot (snap_named v snapshot)
    carried-stamped (ListSnapshots project paging) = refl

    pub finished-stamped : (o : Outcome) → finished t (stamped v) (outcome_stamped o) ≡ stamped (finished t v o)
    finished-stamped (Shows reply) = refl
    finished-stamped (Leaves made letters reply) = refl
