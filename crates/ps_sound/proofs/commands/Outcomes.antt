-- What every outcome keeps: messages that were let go stay so, and an answer hands messages out in order.
use Rattle.std.proofs.Common.{ℕ, ◌≡◌, ◌+◌, ◌-◌, ◌<◌, Bool, true, false, ◌&&◌, ◌||◌, nat_eq, nat_lt, is_some, is_none, List, [], ◌∷◌, ◌++◌, Option, Some, None, option_map, unwrap_or, refl, ◌∙◌, ap, if◌then◌else◌}
use Rattle.std.specs.List.{AllByRecursion}
use Rattle.std.proofs.lemmas.Bool.{cond_both, not-true, not_from_false, and_left}
use Rattle.ps_base.specs.declared.ack_id.AckId.{AckId}
use Rattle.ps_base.specs.declared.reason.Reason.{Reason}
use Rattle.ps_base.specs.declared.reason.Reason.TheVariants.{Detached, TopicDeleted, SnapshotTopic, SnapshotLifetime}
use Rattle.ps_base.specs.declared.refusal.Refusal.TheVariants.{Exhausted, FailedPrecondition}
use Rattle.ps_message.specs.declared.message.Message.{Message}
use Rattle.ps_config.specs.declared.config.TopicConfig.{TopicConfig}
use Rattle.ps_config.specs.declared.config.SubConfig.{SubConfig}
use Rattle.ps_config.specs.declared.mask.Mask.{Mask}
use Rattle.ps_model.specs.declared.command.Command.{Command}
use Rattle.ps_model.specs.declared.command.Command.TheVariants.{Tick, CreateTopic, UpdateTopic, GetTopic, DeleteTopic, ListTopics, ListTopicSubscriptions, ListTopicSnapshots, Publish, CreateSubscription, UpdateSubscription, GetSubscription, DeleteSubscription, ListSubscriptions, Pull, Acknowledge, ModifyAckDeadline, SeekTime, SeekSnapshot, Detach, CreateSnapshot, UpdateSnapshot, GetSnapshot, DeleteSnapshot, ListSnapshots}
use Rattle.ps_model.specs.declared.command.Paging.{Paging}
use Rattle.ps_model.specs.declared.mark.Slot.{Slot}
use Rattle.ps_model.specs.declared.mark.Handed.{Handed}
use Rattle.ps_model.specs.declared.reply.Reply.TheVariants.{Empty, Snapshot}
use Rattle.ps_model.specs.declared.reply.ReceivedMessage.{ReceivedMessage}
use Rattle.ps_model.specs.declared.world.World.{World}
use Rattle.ps_model.specs.declared.world.TopicRow.{TopicRow}
use Rattle.ps_model.specs.declared.world.SubRow.{SubRow}
use Rattle.ps_model.specs.declared.world.SnapRow.{SnapRow}
use Rattle.ps_model.specs.declared.world.MessageRow.{MessageRow}
use Rattle.ps_config.specs.Masks.{has_bit}
use Rattle.ps_model.specs.Choice.{is_deliverable, deliverable, first_of_them, choice, handed}
use Rattle.ps_model.specs.Worlds.{message_numbered, message_at, topic_named, topic_numbered, sub_named, snap_named, with_slots_at, slots_of}
use Rattle.ps_model.specs.Forwarding.{Letter, add_messages, forward, message_rows, letter_rows}
use Rattle.ps_model.specs.Settling.{drop_snapshots, end_leases, ended_letters, let_go, is_wanted, expire, catch_up, release, expunge_world, settle}
use Rattle.ps_model.specs.Worlds.{holds_of}
use Rattle.ps_model.specs.Outcomes.{Outcome, Shows, Leaves, answers, refuses, reply_in}
use Rattle.ps_model.specs.Topics.{create_topic_at, update_topic_at, get_topic_at, delete_topic_at, publish_at}
use Rattle.ps_model.specs.Subscriptions.{missing_of, create_sub_named, create_sub_at, update_sub_masked, update_sub_at, get_sub_at, delete_sub_at, detach_at}
use Rattle.ps_model.specs.Pulling.{received, received_all, pull_from, pull_at}
use Rattle.ps_model.specs.Answering.{acknowledge_at, modify_at}
use Rattle.ps_model.specs.Replaying.{held_items, seek_list, seek_time_in, seek_time_at, seek_snap_at}
use Rattle.ps_model.specs.Snapshots.{new_snap, create_snap_at, update_snap_at, get_snap_at, delete_snap_at}
use Rattle.ps_model.specs.Showing.{snap_shown}
use Rattle.ps_model.specs.Listing.{topic_subs_at, topic_snaps_at}
use Rattle.ps_model.specs.Checks.{argument_fault}
use Rattle.ps_model.specs.Commands.{carried, is_full, checked, outcome}
use Rattle.ps_model.specs.Step.{finished}
use Rattle.ps_model.specs.Sound.{Ordered, Precedes}
use Rattle.ps_model.specs.Laws.{items_in, is_lost}
use Rattle.ps_base.proofs.Lists.{found-map, found-append}
use Rattle.ps_sound.proofs.worlds.Lists.{ordered-map, ordered-filter}
use Rattle.ps_sound.proofs.phases.LettingGo.{let_all_go}
use Rattle.ps_sound.proofs.commands.Choosing.{slots-ascend}

-- what was let go of the first is let go in the second
abbrev pub LostStays : World → World → Type 0
LostStays w v = (n : ℕ) → is_lost (message_numbered w.messages n) ≡ true → is_lost (message_numbered v.messages n) ≡ true

pub lost-let_go : (t : ℕ) (w : World) → LostStays w (let_all_go t w)
lost-let_go t w n e = ap is_lost (found-map (λ (m : MessageRow). nat_eq m.number n) (let_go t w) w.messages (λ m. refl)) ∙ at (message_numbered w.messages n) e
  where
    at : (o : Option MessageRow) → is_lost o ≡ true → is_lost (option_map (let_go t w) o) ≡ true
    at None e = absurd (cc (e))
    at (Some m) e = not_from_false (m.kept && is_wanted t w.marks (holds_of w m.topic) m) (and_left m.kept (is_wanted t w.marks (holds_of w m.topic) m) (not-true m.kept e))

pub lost-added : (w : World) (rows : List MessageRow) → LostStays w (add_messages rows w)
lost-added w rows n e = ap is_lost (found-append (λ (m : MessageRow). nat_eq m.number n) w.messages rows (at (message_numbered w.messages n) e)) ∙ e
  where
    at : (o : Option MessageRow) → is_lost o ≡ true → is_some o ≡ true
    at None e = absurd (cc (e))
    at (Some m) e = refl

pub lost-expunged : (t : ℕ) (w : World) → LostStays w (expunge_world t w)
lost-expunged t w = lost-let_go t (release t (catch_up (expire t w)))

pub lost-forwarded : (t : ℕ) (w : World) (letters : List Letter) → LostStays w (expunge_world t (forward t letters w))
lost-forwarded t w letters n e = lost-expunged t (forward t letters w) n (lost-added w (letter_rows w.next_message t letters) n e)

pub lost-settled : (t : ℕ) (w : World) → LostStays w (settle t w)
lost-settled t w = lost-forwarded t (end_leases t (drop_snapshots t w)) (ended_letters t (drop_snapshots t w))

-- by the number of the message
abbrev pub InNumberOrder : List ReceivedMessage → Type 0
InNumberOrder items = Ordered (λ (a b : ReceivedMessage). a.id.message < b.id.message) items

pub each-first : (P : Slot → Type 0) (most budget : ℕ) (xs : List Slot) → AllByRecursion P xs → AllByRecursion P (first_of_them most budget xs)
each-first P most budget [] h = tt
each-first P most budget (s ∷ ss) h = cond_both (nat_eq most 0 || nat_eq budget 0) [] (s ∷ first_of_them (most - 1) (budget - s.item.size) ss) (AllByRecursion P) (λ _. tt) (λ _. (h.0, each-first P (most - 1) (budget - s.item.size) ss h.1))

pub first-ordered : (R : Slot → Slot → Type 0) (most budget : ℕ) (xs : List Slot) → Ordered R xs → Ordered R (first_of_them most budget xs)
first-ordered R most budget [] h = tt
first-ordered R most budget (s ∷ ss) h = cond_both (nat_eq most 0 || nat_eq budget 0) [] (s ∷ first_of_them (most - 1) (budget - s.item.size) ss) (Ordered R) (λ _. tt)
    (λ _. (each-first (R s) (most - 1) (budget - s.item.size) ss h.0, first-ordered R (most - 1) (budget - s.item.size) ss h.1))

pub each-handed : (P : ℕ → Type 0) (lease : ℕ) (xs : List Slot) → AllByRecursion (λ (s : Slot). P s.item.number) xs → AllByRecursion (λ (h : Handed). P h.number) (handed lease xs)
each-handed P lease [] h = tt
each-handed P lease (s ∷ ss) h = (h.0, each-handed P (lease + 1) ss h.1)

handed-ordered : (lease : ℕ) (xs : List Slot) → Ordered (λ (a b : Slot). a.item.number < b.item.number) xs → Ordered (λ (a b : Handed). a.number < b.number) (handed lease xs)
handed-ordered lease [] h = tt
handed-ordered lease (s ∷ ss) h = (each-handed (λ n. s.item.number < n) (lease + 1) ss h.0, handed-ordered (lease + 1) ss h.1)

-- what a world's outcome keeps
abbrev pub Leaving : World → Outcome → Type 0
Leaving v (Shows reply) = Unit {0}
Leaving v (Leaves made letters reply) = LostStays v made

abbrev pub Keeps : (List ReceivedMessage → Type 0) → World → Outcome → Type 0
Keeps Q v o = Leaving v o × Q (items_in (reply_in o))

-- what a pull hands out of a world whose marks stand in order
pub handed-in-order : (t : ℕ) (v : World) → Ordered Precedes v.marks → (sub : SubRow) (most budget : ℕ) → InNumberOrder (received_all v sub (handed sub.next_lease (choice t sub.config.ordering most budget (slots_of v sub.number))))
handed-in-order t v order sub most budget =
    ordered-map (λ (a b : Handed). a.number < b.number) (λ (a b : ReceivedMessage). a.id.message < b.id.message) (λ (h : Handed). received sub h (message_at v.messages h.number))
    (handed sub.next_lease (choice t sub.config.ordering most budget (slots_of v sub.number))) (λ a b e. e)
    (handed-ordered sub.next_lease (choice t sub.config.ordering most budget (slots_of v sub.number)) (first-ordered (λ (a b : Slot). a.item.number < b.item.number) most budget (deliverable t sub.config.ordering (slots_of v sub.number))
    (ordered-filter (λ (a b : Slot). a.item.number < b.item.number) (is_deliverable t sub.config.ordering (slots_of v sub.number)) (slots_of v sub.number) (slots-ascend v sub.number order))))

-- the command hands messages out
abbrev pub is_pull : Command → Bool
is_pull (Pull subscription most budget seconds) = true
is_pull _ = false

module _ (t : ℕ) (v : World) (Q : List ReceivedMessage → Type 0) (none : Q []) where
  -- of each choice
  abbrev Pulls : Type 0
  Pulls = (sub : SubRow) (most budget : ℕ) → Q (received_all v sub (handed sub.next_lease (choice t sub.config.ordering most budget (slots_of v sub.number))))

  -- the same messages
  still : LostStays v v
  still n e = e

  create_topic-keeps : (name : List ℕ) (config : TopicConfig) (o : Option TopicRow) → Keeps Q v (create_topic_at v name config o)
  create_topic-keeps name config (Some taken) = (tt, none)
  create_topic-keeps name config None = (still, none)

  update_topic-keeps : (name : List ℕ) (mask : Mask) (config : TopicConfig) (o : Option TopicRow) → Keeps Q v (update_topic_at v name mask config o)
  update_topic-keeps name mask config None = (tt, none)
  update_topic-keeps name mask config (Some old) = (still, none)

  get_topic-keeps : (name : List ℕ) (o : Option TopicRow) → Keeps Q v (get_topic_at v name o)
  get_topic-keeps name None = (tt, none)
  get_topic-keeps name (Some row) = (tt, none)

  delete_topic-keeps : (name : List ℕ) (o : Option TopicRow) → Keeps Q v (delete_topic_at v name o)
  delete_topic-keeps name None = (tt, none)
  delete_topic-keeps name (Some row) = (still, none)

  list_topic_subs-keeps : (paging : Paging) (name : List ℕ) (o : Option TopicRow) → Keeps Q v (topic_subs_at v paging name o)
  list_topic_subs-keeps paging name None = (tt, none)
  list_topic_subs-keeps paging name (Some topic) = (tt, none)

  list_topic_snaps-keeps : (paging : Paging) (name : List ℕ) (o : Option TopicRow) → Keeps Q v (topic_snaps_at v paging name o)
  list_topic_snaps-keeps paging name None = (tt, none)
  list_topic_snaps-keeps paging name (Some topic) = (tt, none)

  publish-keeps : (name : List ℕ) (messages : List Message) (o : Option TopicRow) → Keeps Q v (publish_at v t name messages o)
  publish-keeps name messages None = (tt, none)
  publish-keeps name messages (Some topic) = (lost-added v (message_rows topic.number v.next_message t messages), none)

  create_sub-named-keeps : (name : List ℕ) (topic : TopicRow) (config : SubConfig) (missing : Option (List ℕ)) (o : Option SubRow) → Keeps Q v (create_sub_named v t name topic config missing o)
  create_sub-named-keeps name topic config (Some lost) o = (tt, none)
  create_sub-named-keeps name topic config None (Some taken) = (tt, none)
  create_sub-named-keeps name topic config None None = (still, none)

  create_sub-keeps : (name of : List ℕ) (config : SubConfig) (o : Option TopicRow) → Keeps Q v (create_sub_at v t name of config o)
  create_sub-keeps name of config None = (tt, none)
  create_sub-keeps name of config (Some topic) = create_sub-named-keeps name topic config (missing_of v config.dead_letter) (sub_named v name)

  update_sub-masked-keeps : (mask : Mask) (old : SubRow) (config : SubConfig) (missing : Option (List ℕ)) → Keeps Q v (update_sub_masked v mask old config missing)
  update_sub-masked-keeps mask old config (Some lost) = (tt, none)
  update_sub-masked-keeps mask old config None = (still, none)

  update_sub-keeps : (name : List ℕ) (mask : Mask) (config : SubConfig) (o : Option SubRow) → Keeps Q v (update_sub_at v name mask config o)
  update_sub-keeps name mask config None = (tt, none)
  update_sub-keeps name mask config (Some old) = update_sub-masked-keeps mask old config (if has_bit mask 5 then missing_of v config.dead_letter else None)

  get_sub-keeps : (name : List ℕ) (o : Option SubRow) → Keeps Q v (get_sub_at v name o)
  get_sub-keeps name None = (tt, none)
  get_sub-keeps name (Some row) = (tt, none)

  delete_sub-keeps : (name : List ℕ) (o : Option SubRow) → Keeps Q v (delete_sub_at v name o)
  delete_sub-keeps name None = (tt, none)
  delete_sub-keeps name (Some row) = (still, none)

  detach-keeps : (name : List ℕ) (o : Option SubRow) → Keeps Q v (detach_at v name o)
  detach-keeps name None = (tt, none)
  detach-keeps name (Some row) = (still, none)

  pull-from-keeps : Pulls → (sub : SubRow) (most budget seconds : ℕ) (detached : Bool) → Keeps Q v (pull_from v t sub most budget seconds detached)
  pull-from-keeps pulls sub most budget seconds true = (tt, none)
  pull-from-keeps pulls sub most budget seconds false = (still, pulls sub most budget)

  pull-keeps : Pulls → (name : List ℕ) (most budget : ℕ) (asked : Option ℕ) (o : Option SubRow) → Keeps Q v (pull_at v t name most budget asked o)
  pull-keeps pulls name most budget asked None = (tt, none)
  pull-keeps pulls name most budget asked (Some sub) = pull-from-keeps pulls sub most budget (unwrap_or asked sub.config.ack_seconds) sub.detached

  acknowledge-keeps : (name : List ℕ) (ids : List AckId) (o : Option SubRow) → Keeps Q v (acknowledge_at v name ids o)
  acknowledge-keeps name ids None = (tt, none)
  acknowledge-keeps name ids (Some sub) = (still, none)

  modify-keeps : (name : List ℕ) (items : List (AckId × ℕ)) (o : Option SubRow) → Keeps Q v (modify_at v t name items o)
  modify-keeps name items None = (tt, none)
  modify-keeps name items (Some sub) = (still, none)

  seek_time-in-keeps : (time : ℕ) (sub : SubRow) (detached : Bool) → Keeps Q v (seek_time_in v time sub detached)
  seek_time-in-keeps time sub true = (tt, none)
  seek_time-in-keeps time sub false = (still, none)

  seek_time-keeps : (name : List ℕ) (time : ℕ) (o : Option SubRow) → Keeps Q v (seek_time_at v name time o)
  seek_time-keeps name time None = (tt, none)
  seek_time-keeps name time (Some sub) = seek_time-in-keeps time sub sub.detached

  seek_snap-keeps : (name snapshot : List ℕ) (o : Option SubRow) (q : Option SnapRow) → Keeps Q v (seek_snap_at v name snapshot o q)
  seek_snap-keeps name snapshot None q = (tt, none)
  seek_snap-keeps name snapshot (Some sub) None = (tt, none)
  seek_snap-keeps name snapshot (Some sub) (Some snap) =
      let done : Outcome = answers (with_slots_at sub.number (seek_list (held_items v sub snap) (slots_of v sub.number)) v) Empty in
      cond_both sub.detached (refuses v (FailedPrecondition Detached)) (if nat_eq snap.topic sub.topic then done else refuses v (FailedPrecondition SnapshotTopic)) (Keeps Q v) (λ _. (tt, none))
      (λ _. cond_both (nat_eq snap.topic sub.topic) done (refuses v (FailedPrecondition SnapshotTopic)) (Keeps Q v) (λ _. (still, none)) (λ _. (tt, none)))

  create_snap-keeps : (name subscription : List ℕ) (labels : List (List ℕ × List ℕ)) (o : Option SubRow) (q : Option SnapRow) → Keeps Q v (create_snap_at v t name subscription labels o q)
  create_snap-keeps name subscription labels None q = (tt, none)
  create_snap-keeps name subscription labels (Some sub) (Some taken) = (tt, none)
  create_snap-keeps name subscription labels (Some sub) None =
      let row : SnapRow = new_snap v t name sub labels in
      let done : Outcome = answers (record v { next_snap = v.next_snap + 1; snaps = v.snaps ++ row ∷ [] }) (Snapshot (snap_shown v row)) in
      let in_time : Outcome = if nat_lt row.expiry (t + 3600000) then refuses v (FailedPrecondition SnapshotLifetime) else done in
      cond_both sub.detached (refuses v (FailedPrecondition Detached)) (if is_none (topic_numbered v sub.topic) then refuses v (FailedPrecondition TopicDeleted) else in_time) (Keeps Q v) (λ _. (tt, none))
      (λ _. cond_both (is_none (topic_numbered v sub.topic)) (refuses v (FailedPrecondition TopicDeleted)) in_time (Keeps Q v) (λ _. (tt, none))
      (λ _. cond_both (nat_lt row.expiry (t + 3600000)) (refuses v (FailedPrecondition SnapshotLifetime)) done (Keeps Q v) (λ _. (tt, none)) (λ _. (still, none))))

  update_snap-keeps : (name : List ℕ) (labels : List (List ℕ × List ℕ)) (o : Option SnapRow) → Keeps Q v (update_snap_at v name labels o)
  update_snap-keeps name labels None = (tt, none)
  update_snap-keeps name labels (Some old) = (still, none)

  get_snap-keeps : (name : List ℕ) (o : Option SnapRow) → Keeps Q v (get_snap_at v name o)
  get_snap-keeps name None = (tt, none)
  get_snap-keeps name (Some row) = (tt, none)

  delete_snap-keeps : (name : List ℕ) (o : Option SnapRow) → Keeps Q v (delete_snap_at v name o)
  delete_snap-keeps name None = (tt, none)
  delete_snap-keeps name (Some row) = (still, none)

  carried-keeps : (c : Command) → (is_pull c ≡ true → Pulls) → Keeps Q v (carried v t c)
  carried-keeps Tick pulls = (tt, none)
  carried-keeps (CreateTopic topic config) pulls = create_topic-keeps topic config (topic_named v topic)
  carried-keeps (UpdateTopic topic mask config) pulls = update_topic-keeps topic mask config (topic_named v topic)
  carried-keeps (GetTopic topic) pulls = get_topic-keeps topic (topic_named v topic)
  carried-keeps (DeleteTopic topic) pulls = delete_topic-keeps topic (topic_named v topic)
  carried-keeps (ListTopics project paging) pulls = (tt, none)
  carried-keeps (ListTopicSubscriptions topic paging) pulls = list_topic_subs-keeps paging topic (topic_named v topic)
  carried-keeps (ListTopicSnapshots topic paging) pulls = list_topic_snaps-keeps paging topic (topic_named v topic)
  carried-keeps (Publish topic messages) pulls = publish-keeps topic messages (topic_named v topic)
  carried-keeps (CreateSubscription subscription topic config) pulls = create_sub-keeps subscription topic config (topic_named v topic)
  carried-keeps (UpdateSubscription subscription mask config) pulls = update_sub-keeps subscription mask config (sub_named v subscription)
  carried-keeps (GetSubscription subscription) pulls = get_sub-keeps subscription (sub_named v subscription)
  carried-keeps (DeleteSubscription subscription) pulls = delete_sub-keeps subscription (sub_named v subscription)
  carried-keeps (ListSubscriptions project paging) pulls = (tt, none)
  carried-keeps (Pull subscription most budget seconds) pulls = pull-keeps (pulls refl) subscription most budget seconds (sub_named v subscription)
  carried-keeps (Acknowledge subscription ids) pulls = acknowledge-keeps subscription ids (sub_named v subscription)
  carried-keeps (ModifyAckDeadline subscription items) pulls = modify-keeps subscription items (sub_named v subscription)
  carried-keeps (SeekTime subscription time) pulls = seek_time-keeps subscription time (sub_named v subscription)
  carried-keeps (SeekSnapshot subscription snapshot) pulls = seek_snap-keeps subscription snapshot (sub_named v subscription) (snap_named v snapshot)
  carried-keeps (Detach subscription) pulls = detach-keeps subscription (sub_named v subscription)
  carried-keeps (CreateSnapshot snapshot subscription labels) pulls = create_snap-keeps snapshot subscription labels (sub_named v subscription) (snap_named v snapshot)
  carried-keeps (UpdateSnapshot snapshot labels) pulls = update_snap-keeps snapshot labels (snap_named v snapshot)
  carried-keeps (GetSnapshot snapshot) pulls = get_snap-keeps snapshot (snap_named v snapshot)
  carried-keeps (DeleteSnapshot snapshot) pulls = delete_snap-keeps snapshot (snap_named v snapshot)
  carried-keeps (ListSnapshots project paging) pulls = (tt, none)

  checked-keeps : (c : Command) (fault : Option Reason) → (is_pull c ≡ true → Pulls) → Keeps Q v (checked v t c fault)
  checked-keeps c (Some reason) pulls = (tt, none)
  checked-keeps c None pulls = cond_both (is_full v) (refuses v Exhausted) (carried v t c) (Keeps Q v) (λ _. (tt, none)) (λ _. carried-keeps c pulls)

  pub outcome-keeps : (c : Command) → (is_pull c ≡ true → Pulls) → Keeps Q v (outcome v t c)
  outcome-keeps c = checked-keeps c (argument_fault c)

  -- what is let go of the settled world stays so in the one that the command leaves
  pub lost-finished : (o : Outcome) → Leaving v o → LostStays v (finished t v o)
  lost-finished (Shows reply) k = still
  lost-finished (Leaves made letters reply) k = λ n e. lost-forwarded t made letters n (k n e)
