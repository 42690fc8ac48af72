-- What is kept of the mark of one message on one subscription, by each command.
use Rattle.std.proofs.Common.{ℕ, ◌≡◌, ◌+◌, ◌*◌, ◌&&◌, Bool, true, false, not, nat_eq, nat_lt, is_none, is_some, List, [], ◌∷◌, ◌++◌, Option, Some, None, unwrap_or, map, filter, refl, sym, ◌∙◌, ap, arith, if◌then◌else◌}
use Rattle.std.specs.List.{AllByRecursion}
use Rattle.std.proofs.lemmas.Bool.{cond_both, eq-eqb, both_ways, false_from_ne_true, and_parts}
use Rattle.ps_base.specs.declared.ack_id.AckId.{AckId}
use Rattle.ps_base.specs.declared.reason.Reason.{Reason}
use Rattle.ps_base.specs.declared.reason.Reason.TheVariants.{Detached, TopicDeleted, SnapshotTopic, SnapshotLifetime}
use Rattle.ps_base.specs.declared.refusal.Refusal.TheVariants.{Exhausted, FailedPrecondition}
use Rattle.ps_message.specs.declared.message.Message.{Message}
use Rattle.ps_config.specs.declared.config.TopicConfig.{TopicConfig}
use Rattle.ps_config.specs.declared.config.SubConfig.{SubConfig}
use Rattle.ps_config.specs.declared.mask.Mask.{Mask}
use Rattle.ps_model.specs.declared.command.Command.{Command}
use Rattle.ps_model.specs.declared.command.Command.TheVariants.{Tick, CreateTopic, UpdateTopic, GetTopic, DeleteTopic, ListTopics, ListTopicSubscriptions, ListTopicSnapshots, Publish, CreateSubscription, UpdateSubscription, GetSubscription, DeleteSubscription, ListSubscriptions, Pull, Acknowledge, ModifyAckDeadline, SeekTime, SeekSnapshot, Detach, CreateSnapshot, UpdateSnapshot, GetSnapshot, DeleteSnapshot, ListSnapshots}
use Rattle.ps_model.specs.declared.command.Paging.{Paging}
use Rattle.ps_model.specs.declared.mark.Mark.{Mark}
use Rattle.ps_model.specs.declared.mark.Mark.TheVariants.{Done}
use Rattle.ps_model.specs.declared.mark.DoneCause.TheVariants.{Acknowledged}
use Rattle.ps_model.specs.declared.mark.Slot.{Slot}
use Rattle.ps_model.specs.declared.mark.Handed.{Handed}
use Rattle.ps_model.specs.declared.reply.Reply.TheVariants.{Empty, Snapshot}
use Rattle.ps_model.specs.declared.world.World.{World}
use Rattle.ps_model.specs.declared.world.TopicRow.{TopicRow}
use Rattle.ps_model.specs.declared.world.SubRow.{SubRow}
use Rattle.ps_model.specs.declared.world.SnapRow.{SnapRow}
use Rattle.ps_model.specs.declared.world.MessageRow.{MessageRow}
use Rattle.ps_model.specs.declared.world.MarkRow.{MarkRow}
use Rattle.ps_config.specs.Masks.{has_bit}
use Rattle.ps_filter.specs.Filters.{meets}
use Rattle.ps_model.specs.Retention.{is_within, lapsed}
use Rattle.ps_model.specs.Slots.{any_earlier}
use Rattle.ps_model.specs.Seeking.{sought_mark}
use Rattle.ps_model.specs.Failing.{mark_after_failing}
use Rattle.ps_model.specs.Acknowledging.{mark_after_ack}
use Rattle.ps_model.specs.Modifying.{seconds_for, set_deadline, extended_by, extended_mark, extended, is_given_up}
use Rattle.ps_model.specs.Choice.{is_ready, is_waiting, is_deliverable, choice, handed, lease_in, leased_as, lent_mark}
use Rattle.ps_model.specs.Worlds.{topic_named, topic_numbered, sub_named, snap_named, remark_at, row_of, slot_of, slots_of, with_slots_at}
use Rattle.ps_model.specs.Forwarding.{forward, dead_topic}
use Rattle.ps_model.specs.Outcomes.{Outcome, Shows, Leaves, answers, refuses}
use Rattle.ps_model.specs.Topics.{create_topic_at, update_topic_at, get_topic_at, delete_topic_at, publish_at}
use Rattle.ps_model.specs.Subscriptions.{missing_of, retained_rows, create_sub_named, create_sub_at, update_sub_masked, update_sub_at, get_sub_at, delete_sub_at, detach_at}
use Rattle.ps_model.specs.Pulling.{pull_from, pull_at}
use Rattle.ps_model.specs.Answering.{tickets_of, items_of, acknowledge_at, modify_at}
use Rattle.ps_model.specs.Replaying.{held_items, seek_list, seek_time_in, seek_time_at, seek_snap_at}
use Rattle.ps_model.specs.Snapshots.{new_snap, create_snap_at, update_snap_at, get_snap_at, delete_snap_at}
use Rattle.ps_model.specs.Showing.{snap_shown}
use Rattle.ps_model.specs.Listing.{topic_subs_at, topic_snaps_at}
use Rattle.ps_model.specs.Checks.{argument_fault}
use Rattle.ps_model.specs.Commands.{carried, is_full, checked, outcome}
use Rattle.ps_model.specs.Step.{finished}
use Rattle.ps_model.specs.Laws.{is_numbered, seeks}
use Rattle.ps_base.proofs.Lists.{each-always, each-then, each-map, each-left, each-append}
use Rattle.ps_sound.proofs.worlds.Earlier.{slots-of-rows}
use Rattle.ps_sound.proofs.commands.Lending.{each-chosen, handed-one}
use Rattle.ps_sound.proofs.histories.Pairs.{IsLasting, AtPair, PairIs, pair-at, pair-expunged, pair-published, pair-forwarded}

-- an acknowledgement that leaves the fact at the pair
abbrev pub AckSpares : (Mark → Type 0) → ℕ → ℕ → World → List AckId → SubRow → Type 0
AckSpares P n k v ids sub = AllByRecursion (λ (r : MarkRow). r.sub ≡ sub.number → r.sub ≡ n → r.message ≡ k → P r.mark → P (mark_after_ack sub.config (tickets_of sub ids) (slots_of v sub.number) (slot_of v.messages r))) v.marks

-- deadlines given up that do
abbrev pub ModifySpares : (Mark → Type 0) → ℕ → ℕ → ℕ → World → List (AckId × ℕ) → SubRow → Type 0
ModifySpares P n k t v items sub = AllByRecursion (λ (r : MarkRow). r.sub ≡ sub.number → r.sub ≡ n → r.message ≡ k → P r.mark
    → P (mark_after_failing (is_given_up (items_of sub items)) t (is_some (dead_topic v sub)) sub.config (extended t (items_of sub items) (slots_of v sub.number)) (slot_of v.messages r))) (remark_at sub.number (extended_mark t (items_of sub items)) v).marks

-- a command that leaves the fact at the pair
pub record Spares (P : Mark → Type 0) (n k t : ℕ) (v : World) (c : Command) : Type 0 where
  pub acks : (name : List ℕ) (ids : List AckId) → c ≡ Acknowledge name ids → (sub : SubRow) → sub_named v name ≡ Some sub → AckSpares P n k v ids sub
  pub modifies : (name : List ℕ) (items : List (AckId × ℕ)) → c ≡ ModifyAckDeadline name items → (sub : SubRow) → sub_named v name ≡ Some sub → ModifySpares P n k t v items sub
  pub seeks_not : seeks n v c ≡ false

-- what an outcome leaves
abbrev PairIn : (Mark → Type 0) → ℕ → ℕ → Outcome → Type 0
PairIn P n k (Shows reply) = Unit {0}
PairIn P n k (Leaves made letters reply) = PairIs P n k made

module _ (P : Mark → Type 0) (n k t : ℕ) (v : World) (lasting : IsLasting P) (p : PairIs P n k v) where
  -- the pair isn't among what is handed out
  pub never-chosen : (sub : SubRow) (most budget lease : ℕ) → sub.number ≡ n → is_some (lease_in (handed lease (choice t sub.config.ordering most budget (slots_of v sub.number))) k) ≡ false
  never-chosen sub most budget lease own = false_from_ne_true (is_some (lease_in (handed lease (choice t sub.config.ordering most budget (slots_of v sub.number))) k))
      (λ some. handed-one (λ j. j ≡ k → ⊥) lease (choice t sub.config.ordering most budget (slots_of v sub.number)) k
      (each-chosen (λ j. j ≡ k → ⊥) t sub.config.ordering most budget (slots_of v sub.number)
      (slots-of-rows (λ (s : Slot). is_deliverable t sub.config.ordering (slots_of v sub.number) s ≡ true → s.item.number ≡ k → ⊥) v sub.number
      (each-then (AtPair P n k) (λ (r : MarkRow). r.sub ≡ sub.number → is_deliverable t sub.config.ordering (slots_of v sub.number) (slot_of v.messages r) ≡ true → r.message ≡ k → ⊥) v.marks
      (λ r q same e ek. both_ways (is_ready t r.mark) (lasting.rests t r.mark (q (same ∙ own) ek)) (and_parts (is_ready t r.mark) (not (any_earlier sub.config.ordering (λ x. is_waiting t x.mark) (slots_of v sub.number) (slot_of v.messages r))) e).0) p.marks))) some refl)

  create_topic-pair : (name : List ℕ) (config : TopicConfig) (o : Option TopicRow) → PairIn P n k (create_topic_at v name config o)
  create_topic-pair name config (Some taken) = tt
  create_topic-pair name config None = record { sub = p.sub; message = p.message; marks = p.marks }

  update_topic-pair : (name : List ℕ) (mask : Mask) (config : TopicConfig) (o : Option TopicRow) → PairIn P n k (update_topic_at v name mask config o)
  update_topic-pair name mask config None = tt
  update_topic-pair name mask config (Some old) = record { sub = p.sub; message = p.message; marks = p.marks }

  get_topic-pair : (name : List ℕ) (o : Option TopicRow) → PairIn P n k (get_topic_at v name o)
  get_topic-pair name None = tt
  get_topic-pair name (Some row) = tt

  delete_topic-pair : (name : List ℕ) (o : Option TopicRow) → PairIn P n k (delete_topic_at v name o)
  delete_topic-pair name None = tt
  delete_topic-pair name (Some row) = record { sub = p.sub; message = p.message; marks = p.marks }

  list_topic_subs-pair : (paging : Paging) (name : List ℕ) (o : Option TopicRow) → PairIn P n k (topic_subs_at v paging name o)
  list_topic_subs-pair paging name None = tt
  list_topic_subs-pair paging name (Some topic) = tt

  list_topic_snaps-pair : (paging : Paging) (name : List ℕ) (o : Option TopicRow) → PairIn P n k (topic_snaps_at v paging name o)
  list_topic_snaps-pair paging name None = tt
  list_topic_snaps-pair paging name (Some topic) = tt

  publish-pair : (name : List ℕ) (messages : List Message) (o : Option TopicRow) → PairIn P n k (publish_at v t name messages o)
  publish-pair name messages None = tt
  publish-pair name messages (Some topic) = pair-published P n k v topic.number t messages p

  create_sub-named-pair : (name : List ℕ) (topic : TopicRow) (config : SubConfig) (missing : Option (List ℕ)) (o : Option SubRow) → PairIn P n k (create_sub_named v t name topic config missing o)
  create_sub-named-pair name topic config (Some lost) o = tt
  create_sub-named-pair name topic config None (Some taken) = tt
  create_sub-named-pair name topic config None None = record {
    sub = omega (arith, p.sub);
    message = p.message;
    marks = each-append (AtPair P n k) v.marks (retained_rows v t row topic.config.retention) p.marks
        (each-map (λ (r : MessageRow). Unit {0}) (AtPair P n k) (λ (r : MessageRow). record { sub = v.next_sub; message = r.number; mark = Done Acknowledged }) (filter takes v.messages) (λ r _ es _. absurd (omega (arith, es, p.sub))) (each-always (λ (r : MessageRow). Unit {0}) (filter takes v.messages) (λ r. tt)));
  }
    where
      row : SubRow
      row = record { number = v.next_sub; name = name; topic = topic.number; config = config; detached = false; next_lease = 1 }

      takes : MessageRow → Bool
      takes r = nat_eq r.topic topic.number && (r.kept && (is_within t r.publish topic.config.retention && meets config.filter r.message))

  create_sub-pair : (name of : List ℕ) (config : SubConfig) (o : Option TopicRow) → PairIn P n k (create_sub_at v t name of config o)
  create_sub-pair name of config None = tt
  create_sub-pair name of config (Some topic) = create_sub-named-pair name topic config (missing_of v config.dead_letter) (sub_named v name)

  update_sub-masked-pair : (mask : Mask) (old : SubRow) (config : SubConfig) (missing : Option (List ℕ)) → PairIn P n k (update_sub_masked v mask old config missing)
  update_sub-masked-pair mask old config (Some lost) = tt
  update_sub-masked-pair mask old config None = record { sub = p.sub; message = p.message; marks = p.marks }

  update_sub-pair : (name : List ℕ) (mask : Mask) (config : SubConfig) (o : Option SubRow) → PairIn P n k (update_sub_at v name mask config o)
  update_sub-pair name mask config None = tt
  update_sub-pair name mask config (Some old) = update_sub-masked-pair mask old config (if has_bit mask 5 then missing_of v config.dead_letter else None)

  get_sub-pair : (name : List ℕ) (o : Option SubRow) → PairIn P n k (get_sub_at v name o)
  get_sub-pair name None = tt
  get_sub-pair name (Some row) = tt

  delete_sub-pair : (name : List ℕ) (o : Option SubRow) → PairIn P n k (delete_sub_at v name o)
  delete_sub-pair name None = tt
  delete_sub-pair name (Some row) = record { sub = p.sub; message = p.message; marks = each-left (AtPair P n k) (λ (r : MarkRow). not (nat_eq r.sub row.number)) v.marks p.marks }

  detach-pair : (name : List ℕ) (o : Option SubRow) → PairIn P n k (detach_at v name o)
  detach-pair name None = tt
  detach-pair name (Some row) = record { sub = p.sub; message = p.message; marks = pair-at P n k row.number (λ s. lapsed s.mark) v (each-always (λ (r : MarkRow). r.sub ≡ row.number → r.sub ≡ n → r.message ≡ k → P r.mark → P (lapsed r.mark)) v.marks (λ r _ _ _. lasting.lapses r.mark)) p.marks }

  pull-from-pair : (sub : SubRow) (most budget seconds : ℕ) (detached : Bool) → PairIn P n k (pull_from v t sub most budget seconds detached)
  pull-from-pair sub most budget seconds true = tt
  pull-from-pair sub most budget seconds false = record {
    sub = p.sub;
    message = p.message;
    marks = pair-at P n k sub.number (lent_mark (t + 1000 * seconds) given) v (each-always (λ (r : MarkRow). r.sub ≡ sub.number → r.sub ≡ n → r.message ≡ k → P r.mark → P (lent_mark (t + 1000 * seconds) given (slot_of v.messages r))) v.marks
        (λ r same es ek q. at r (lease_in given r.message) (ap (λ j. is_some (lease_in given j)) ek ∙ never-chosen sub most budget sub.next_lease (sym same ∙ es)) q)) p.marks;
  }
    where
      given : List Handed
      given = handed sub.next_lease (choice t sub.config.ordering most budget (slots_of v sub.number))

      at : (r : MarkRow) (o : Option ℕ) → is_some o ≡ false → P r.mark → P (leased_as (t + 1000 * seconds) r.mark o)
      at r None e q = q
      at r (Some l) e q = absurd (cc (e))

  pull-pair : (name : List ℕ) (most budget : ℕ) (asked : Option ℕ) (o : Option SubRow) → PairIn P n k (pull_at v t name most budget asked o)
  pull-pair name most budget asked None = tt
  pull-pair name most budget asked (Some sub) = pull-from-pair sub most budget (unwrap_or asked sub.config.ack_seconds) sub.detached

  acknowledge-pair : (name : List ℕ) (ids : List AckId) (o : Option SubRow) → ((sub : SubRow) → o ≡ Some sub → AckSpares P n k v ids sub) → PairIn P n k (acknowledge_at v name ids o)
  acknowledge-pair name ids None spares = tt
  acknowledge-pair name ids (Some sub) spares = record {
    sub = p.sub;
    message = p.message;
    marks = pair-at P n k sub.number (mark_after_ack sub.config (tickets_of sub ids) (slots_of v sub.number)) v (spares sub refl) p.marks;
  }

  modify-pair : (name : List ℕ) (items : List (AckId × ℕ)) (o : Option SubRow) → ((sub : SubRow) → o ≡ Some sub → ModifySpares P n k t v items sub) → PairIn P n k (modify_at v t name items o)
  modify-pair name items None spares = tt
  modify-pair name items (Some sub) spares = record {
    sub = p.sub;
    message = p.message;
    marks = pair-at P n k sub.number (mark_after_failing (is_given_up (items_of sub items)) t (is_some (dead_topic v sub)) sub.config (extended t (items_of sub items) (slots_of v sub.number))) (remark_at sub.number (extended_mark t (items_of sub items)) v) (spares sub refl)
        (pair-at P n k sub.number (extended_mark t (items_of sub items)) v (each-always (λ (r : MarkRow). r.sub ≡ sub.number → r.sub ≡ n → r.message ≡ k → P r.mark → P (extended_mark t (items_of sub items) (slot_of v.messages r))) v.marks
        (λ r _ _ _ q. later r.mark (seconds_for (items_of sub items) (slot_of v.messages r) None) q)) p.marks);
  }
    where
      later : (mark : Mark) (o : Option ℕ) → P mark → P (extended_by t mark o)
      later mark None q = q
      later mark (Some seconds) q = cond_both (nat_eq seconds 0) mark (set_deadline (t + 1000 * seconds) mark) P (λ _. q) (λ _. lasting.extends (t + 1000 * seconds) mark q)

  -- a seek of another subscription
  other-sub : (sub : SubRow) (m : ℕ) → m ≡ sub.number → m ≡ n → nat_eq sub.number n ≡ false → ⊥
  other-sub sub m same es e = both_ways (nat_eq sub.number n) e (eq-eqb sub.number n (sym same ∙ es))

  seek_time-in-pair : (time : ℕ) (sub : SubRow) (detached : Bool) → nat_eq sub.number n ≡ false → PairIn P n k (seek_time_in v time sub detached)
  seek_time-in-pair time sub true e = tt
  seek_time-in-pair time sub false e = record {
    sub = p.sub;
    message = p.message;
    marks = pair-at P n k sub.number (sought_mark time) v (each-always (λ (r : MarkRow). r.sub ≡ sub.number → r.sub ≡ n → r.message ≡ k → P r.mark → P (sought_mark time (slot_of v.messages r))) v.marks
        (λ r same es _ _. absurd (other-sub sub r.sub same es e))) p.marks;
  }

  seek_time-pair : (name : List ℕ) (time : ℕ) (o : Option SubRow) → is_numbered n o ≡ false → PairIn P n k (seek_time_at v name time o)
  seek_time-pair name time None e = tt
  seek_time-pair name time (Some sub) e = seek_time-in-pair time sub sub.detached e

  seek_snap-pair : (name snapshot : List ℕ) (o : Option SubRow) (q : Option SnapRow) → is_numbered n o ≡ false → PairIn P n k (seek_snap_at v name snapshot o q)
  seek_snap-pair name snapshot None q e = tt
  seek_snap-pair name snapshot (Some sub) None e = tt
  seek_snap-pair name snapshot (Some sub) (Some snap) e =
      cond_both sub.detached (refuses v (FailedPrecondition Detached)) (if nat_eq snap.topic sub.topic then done else refuses v (FailedPrecondition SnapshotTopic)) (PairIn P n k) (λ _. tt)
      (λ _. cond_both (nat_eq snap.topic sub.topic) done (refuses v (FailedPrecondition SnapshotTopic)) (PairIn P n k) (λ _. put) (λ _. tt))
    where
      slots : List Slot
      slots = seek_list (held_items v sub snap) (slots_of v sub.number)

      done : Outcome
      done = answers (with_slots_at sub.number slots v) Empty

      put : PairIs P n k (with_slots_at sub.number slots v)
      put = record {
        sub = p.sub;
        message = p.message;
        marks = each-append (AtPair P n k) (filter (λ (r : MarkRow). nat_lt r.sub sub.number) v.marks) (map (row_of sub.number) slots ++ filter (λ (r : MarkRow). nat_lt sub.number r.sub) v.marks) (each-left (AtPair P n k) (λ (r : MarkRow). nat_lt r.sub sub.number) v.marks p.marks)
            (each-append (AtPair P n k) (map (row_of sub.number) slots) (filter (λ (r : MarkRow). nat_lt sub.number r.sub) v.marks)
            (each-map (λ (s : Slot). Unit {0}) (AtPair P n k) (row_of sub.number) slots (λ s _ es _. absurd (other-sub sub sub.number refl es e)) (each-always (λ (s : Slot). Unit {0}) slots (λ s. tt)))
            (each-left (AtPair P n k) (λ (r : MarkRow). nat_lt sub.number r.sub) v.marks p.marks));
      }

  create_snap-pair : (name subscription : List ℕ) (labels : List (List ℕ × List ℕ)) (o : Option SubRow) (q : Option SnapRow) → PairIn P n k (create_snap_at v t name subscription labels o q)
  create_snap-pair name subscription labels None q = tt
  create_snap-pair name subscription labels (Some sub) (Some taken) = tt
  create_snap-pair name subscription labels (Some sub) None =
      let row : SnapRow = new_snap v t name sub labels in
      let done : Outcome = answers (record v { next_snap = v.next_snap + 1; snaps = v.snaps ++ row ∷ [] }) (Snapshot (snap_shown v row)) in
      let in_time : Outcome = if nat_lt row.expiry (t + 3600000) then refuses v (FailedPrecondition SnapshotLifetime) else done in
      cond_both sub.detached (refuses v (FailedPrecondition Detached)) (if is_none (topic_numbered v sub.topic) then refuses v (FailedPrecondition TopicDeleted) else in_time) (PairIn P n k) (λ _. tt)
      (λ _. cond_both (is_none (topic_numbered v sub.topic)) (refuses v (FailedPrecondition TopicDeleted)) in_time (PairIn P n k) (λ _. tt)
      (λ _. cond_both (nat_lt row.expiry (t + 3600000)) (refuses v (FailedPrecondition SnapshotLifetime)) done (PairIn P n k) (λ _. tt) (λ _. record { sub = p.sub; message = p.message; marks = p.marks })))

  update_snap-pair : (name : List ℕ) (labels : List (List ℕ × List ℕ)) (o : Option SnapRow) → PairIn P n k (update_snap_at v name labels o)
  update_snap-pair name labels None = tt
  update_snap-pair name labels (Some old) = record { sub = p.sub; message = p.message; marks = p.marks }

  get_snap-pair : (name : List ℕ) (o : Option SnapRow) → PairIn P n k (get_snap_at v name o)
  get_snap-pair name None = tt
  get_snap-pair name (Some row) = tt

  delete_snap-pair : (name : List ℕ) (o : Option SnapRow) → PairIn P n k (delete_snap_at v name o)
  delete_snap-pair name None = tt
  delete_snap-pair name (Some row) = record { sub = p.sub; message = p.message; marks = p.marks }

  carried-pair : (c : Command) → Spares P n k t v c → PairIn P n k (carried v t c)
  carried-pair Tick spares = tt
  carried-pair (CreateTopic topic config) spares = create_topic-pair topic config (topic_named v topic)
  carried-pair (UpdateTopic topic mask config) spares = update_topic-pair topic mask config (topic_named v topic)
  carried-pair (GetTopic topic) spares = get_topic-pair topic (topic_named v topic)
  carried-pair (DeleteTopic topic) spares = delete_topic-pair topic (topic_named v topic)
  carried-pair (ListTopics project paging) spares = tt
  carried-pair (ListTopicSubscriptions topic paging) spares = list_topic_subs-pair paging topic (topic_named v topic)
  carried-pair (ListTopicSnapshots topic paging) spares = list_topic_snaps-pair paging topic (topic_named v topic)
  carried-pair (Publish topic messages) spares = publish-pair topic messages (topic_named v topic)
  carried-pair (CreateSubscription subscription topic config) spares = create_sub-pair subscription topic config (topic_named v topic)
  carried-pair (UpdateSubscription subscription mask config) spares = update_sub-pair subscription mask config (sub_named v subscription)
  carried-pair (GetSubscription subscription) spares = get_sub-pair subscription (sub_named v subscription)
  carried-pair (DeleteSubscription subscription) spares = delete_sub-pair subscription (sub_named v subscription)
  carried-pair (ListSubscriptions project paging) spares = tt
  carried-pair (Pull subscription most budget seconds) spares = pull-pair subscription most budget seconds (sub_named v subscription)
  carried-pair (Acknowledge subscription ids) spares = acknowledge-pair subscription ids (sub_named v subscription) (λ sub e. spares.acks subscription ids refl sub e)
  carried-pair (ModifyAckDeadline subscription items) spares = modify-pair subscription items (sub_named v subscription) (λ sub e. spares.modifies subscription items refl sub e)
  carried-pair (SeekTime subscription time) spares = seek_time-pair subscription time (sub_named v subscription) spares.seeks_not
  carried-pair (SeekSnapshot subscription snapshot) spares = seek_snap-pair subscription snapshot (sub_named v subscription) (snap_named v snapshot) spares.seeks_not
  carried-pair (Detach subscription) spares = detach-pair subscription (sub_named v subscription)
  carried-pair (CreateSnapshot snapshot subscription labels) spares = create_snap-pair snapshot subscription labels (sub_named v subscription) (snap_named v snapshot)
  carried-pair (UpdateSnapshot snapshot labels) spares = update_snap-pair snapshot labels (snap_named v snapshot)
  carried-pair (GetSnapshot snapshot) spares = get_snap-pair snapshot (snap_named v snapshot)
  carried-pair (DeleteSnapshot snapshot) spares = delete_snap-pair snapshot (snap_named v snapshot)
  carried-pair (ListSnapshots project paging) spares = tt

  left-pair : (o : Outcome) → PairIn P n k o → PairIs P n k (finished t v o)
  left-pair (Shows reply) q = p
  left-pair (Leaves made letters reply) q = pair-expunged P n k lasting t (forward t letters made) (pair-forwarded P n k t made letters q)

  -- What a command that leaves the fact at the pair leaves of the world.
  pub outcome-pair : (c : Command) → Spares P n k t v c → PairIs P n k (finished t v (outcome v t c))
  outcome-pair c spares = left-pair (outcome v t c) (at (argument_fault c))
    where
      at : (fault : Option Reason) → PairIn P n k (checked v t c fault)
      at (Some reason) = tt
      at None = cond_both (is_full v) (refuses v Exhausted) (carried v t c) (PairIn P n k) (λ _. tt) (λ _. carried-pair c spares)
