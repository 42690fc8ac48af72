-- What a command changes is seen in the live part of what it leaves.
use Rattle.std.proofs.Common.{ℕ, ◌≡◌, ◌+◌, ◌*◌, Bool, true, false, not, nat_eq, nat_lt, is_none, is_some, List, [], ◌∷◌, ◌++◌, Option, Some, None, map, filter, length, unwrap_or, refl, sym, ap, subst, arith, if◌then◌else◌}
use Rattle.std.specs.List.{AllByRecursion}
use Rattle.std.specs.Str.{bytes_eq}
use Rattle.std.proofs.lemmas.Bool.{both_ways, not_from_true, eq-eqb}
use Rattle.ps_base.specs.declared.ack_id.AckId.{AckId}
use Rattle.ps_base.specs.declared.reason.Reason.TheVariants.{Detached, TopicDeleted, SnapshotLifetime}
use Rattle.ps_base.specs.declared.refusal.Refusal.TheVariants.{FailedPrecondition}
use Rattle.ps_message.specs.declared.message.Message.{Message}
use Rattle.ps_config.specs.declared.config.TopicConfig.{TopicConfig}
use Rattle.ps_config.specs.declared.config.SubConfig.{SubConfig}
use Rattle.ps_config.specs.declared.mask.Mask.{Mask}
use Rattle.ps_config.specs.Masks.{has_bit, masked_topic, masked_sub}
use Rattle.ps_model.specs.declared.mark.Mark.{Mark}
use Rattle.ps_model.specs.declared.mark.Slot.{Slot}
use Rattle.ps_model.specs.declared.command.Paging.{Paging}
use Rattle.ps_model.specs.declared.reply.Reply.TheVariants.{Snapshot}
use Rattle.ps_model.specs.declared.world.World.{World}
use Rattle.ps_model.specs.declared.world.TopicRow.{TopicRow}
use Rattle.ps_model.specs.declared.world.SubRow.{SubRow}
use Rattle.ps_model.specs.declared.world.SnapRow.{SnapRow}
use Rattle.ps_model.specs.declared.world.MessageRow.{MessageRow}
use Rattle.ps_model.specs.Same.{WorldParts, world_parts}
use Rattle.ps_model.specs.Retention.{lapsed}
use Rattle.ps_model.specs.Seeking.{sought_mark}
use Rattle.ps_model.specs.Choice.{choice, handed, lent_mark}
use Rattle.ps_model.specs.Acknowledging.{mark_after_ack}
use Rattle.ps_model.specs.Modifying.{extended, extended_mark, is_given_up}
use Rattle.ps_model.specs.Failing.{mark_after_failing}
use Rattle.ps_model.specs.Worlds.{topic_numbered, sub_named, slots_of, remark_at, put_sub, put_topic}
use Rattle.ps_model.specs.Forwarding.{message_rows, dead_topic, add_messages, forward, letters_of}
use Rattle.ps_model.specs.Settling.{expunge_world}
use Rattle.ps_model.specs.Outcomes.{Outcome, answers, refuses}
use Rattle.ps_model.specs.Showing.{snap_shown}
use Rattle.ps_model.specs.Topics.{create_topic_at, update_topic_at, get_topic_at, delete_topic_at, publish_at}
use Rattle.ps_model.specs.Subscriptions.{missing_of, create_sub_named, create_sub_at, update_sub_masked, update_sub_at, get_sub_at, delete_sub_at, detach_at}
use Rattle.ps_model.specs.Pulling.{pull_from, pull_at}
use Rattle.ps_model.specs.Answering.{tickets_of, acknowledge_at, items_of, modify_at}
use Rattle.ps_model.specs.Modifying.{modify_dead}
use Rattle.ps_model.specs.Replaying.{seek_time_in, seek_time_at}
use Rattle.ps_model.specs.Snapshots.{new_snap, create_snap_in, create_snap_at, update_snap_at, get_snap_at, delete_snap_at}
use Rattle.ps_model.specs.Listing.{topic_subs_at, topic_snaps_at}
use Rattle.ps_model.specs.Step.{finished}
use Rattle.ps_model.specs.Sound.{Ordered, Precedes}
use Rattle.ps_base.proofs.Lists.{each-found, each-filter, each-always}
use Rattle.ps_sound.proofs.phases.Resting.{forward-none}
use Rattle.ps_sound.proofs.living.Filters.{fading-same}
use Rattle.ps_sound.proofs.living.Slotwise.{row_lives}
use Rattle.ps_sound.proofs.living.Passes.{failing-leaves}
use Rattle.ps_sound.proofs.living.Seen.{SeenIn, Fades, fades-then, forwarded-seen, leaves-each, remark-fades}
use Rattle.ps_sound.proofs.living.Marking.{lapsed-leaves, sought-leaves, acknowledged-leaves, extended-leaves, lent-leaves}

-- a change of a list that leaves out a member
others-left : {A : Type 0} (test : A → Bool) (xs : List A) → xs ≡ filter test xs → AllByRecursion (λ (x : A). test x ≡ true) xs
others-left test xs e = subst (AllByRecursion (λ x. test x ≡ true)) (sym e) (each-filter (λ x. Unit {0}) (λ x. test x ≡ true) test xs (λ x t _. t) (each-always (λ x. Unit {0}) xs (λ x. tt)))

module _ (t : ℕ) (v : World) (order : Ordered Precedes v.marks) where
  -- what the outcome changes is seen
  abbrev pub Changes : Outcome → Type 0
  Changes o = SeenIn v (finished t v o)

  pub shows : SeenIn v v
  shows e = λ i. world_parts v

  same : Fades v v
  same = record { messages = fading-same (λ (r : MessageRow). r.kept) v.messages; marks = fading-same row_lives v.marks }

  -- messages and marks as they were
  beside : (made : World) → v.next_message ≡ made.next_message → Fades v made → SeenIn v (expunge_world t (forward t [] made))
  beside made next h = forwarded-seen t [] v made next h

  pub if-changes : (b : Bool) (o p : Outcome) → Changes o → Changes p → Changes (if b then o else p)
  if-changes true o p h k = h
  if-changes false o p h k = k

  pub create_topic-changes : (name : List ℕ) (config : TopicConfig) (o : Option TopicRow) → Changes (create_topic_at v name config o)
  create_topic-changes name config (Some taken) = shows
  create_topic-changes name config None = λ e. let more : v.next_topic ≡ v.next_topic + 1 = ap (λ (p : WorldParts). p.0) e in absurd (omega (arith, more))

  pub update_topic-changes : (name : List ℕ) (mask : Mask) (config : TopicConfig) (o : Option TopicRow) → Changes (update_topic_at v name mask config o)
  update_topic-changes name mask config None = shows
  update_topic-changes name mask config (Some old) = beside (put_topic (record old { config = masked_topic mask old.config config }) v) refl (record { messages = same.messages; marks = same.marks })

  pub get_topic-changes : (name : List ℕ) (o : Option TopicRow) → Changes (get_topic_at v name o)
  get_topic-changes name None = shows
  get_topic-changes name (Some row) = shows

  pub delete_topic-changes : (name : List ℕ) (o : Option TopicRow) → Changes (delete_topic_at v name o)
  delete_topic-changes name None = shows
  delete_topic-changes name (Some row) = beside (record v { topics = filter (λ (r : TopicRow). not (nat_eq r.number row.number)) v.topics }) refl (record { messages = same.messages; marks = same.marks })

  pub list_topic_subs-changes : (paging : Paging) (name : List ℕ) (o : Option TopicRow) → Changes (topic_subs_at v paging name o)
  list_topic_subs-changes paging name None = shows
  list_topic_subs-changes paging name (Some topic) = shows

  pub list_topic_snaps-changes : (paging : Paging) (name : List ℕ) (o : Option TopicRow) → Changes (topic_snaps_at v paging name o)
  list_topic_snaps-changes paging name None = shows
  list_topic_snaps-changes paging name (Some topic) = shows

  pub publish-changes : (name : List ℕ) (messages : List Message) (o : Option TopicRow) → Changes (publish_at v t name messages o)
  publish-changes name messages None = shows
  publish-changes name [] (Some topic) = subst (λ w. SeenIn v (expunge_world t (forward t [] w))) (sym (forward-none t v)) (beside v refl same)
  publish-changes name (m ∷ ms) (Some topic) = λ e.
      let more : v.next_message ≡ (forward t [] (add_messages (message_rows topic.number v.next_message t (m ∷ ms)) v)).next_message = ap (λ (p : WorldParts). p.1.1.1.0) e in
      absurd (omega (arith, more))

  pub create_sub-named-changes : (name : List ℕ) (topic : TopicRow) (config : SubConfig) (missing : Option (List ℕ)) (o : Option SubRow) → Changes (create_sub_named v t name topic config missing o)
  create_sub-named-changes name topic config (Some lost) o = shows
  create_sub-named-changes name topic config None (Some taken) = shows
  create_sub-named-changes name topic config None None = λ e. let more : v.next_sub ≡ v.next_sub + 1 = ap (λ (p : WorldParts). p.1.0) e in absurd (omega (arith, more))

  pub create_sub-changes : (name of : List ℕ) (config : SubConfig) (o : Option TopicRow) → Changes (create_sub_at v t name of config o)
  create_sub-changes name of config None = shows
  create_sub-changes name of config (Some topic) = create_sub-named-changes name topic config (missing_of v config.dead_letter) (sub_named v name)

  pub update_sub-masked-changes : (mask : Mask) (old : SubRow) (config : SubConfig) (missing : Option (List ℕ)) → Changes (update_sub_masked v mask old config missing)
  update_sub-masked-changes mask old config (Some lost) = shows
  update_sub-masked-changes mask old config None = beside (put_sub (record old { config = masked_sub mask old.config config }) v) refl (record { messages = same.messages; marks = same.marks })

  pub update_sub-changes : (name : List ℕ) (mask : Mask) (config : SubConfig) (o : Option SubRow) → Changes (update_sub_at v name mask config o)
  update_sub-changes name mask config None = shows
  update_sub-changes name mask config (Some old) = update_sub-masked-changes mask old config (if has_bit mask 5 then missing_of v config.dead_letter else None)

  pub get_sub-changes : (name : List ℕ) (o : Option SubRow) → Changes (get_sub_at v name o)
  get_sub-changes name None = shows
  get_sub-changes name (Some row) = shows

  pub delete_sub-changes : (name : List ℕ) (o : Option SubRow) → sub_named v name ≡ o → Changes (delete_sub_at v name o)
  delete_sub-changes name None eo = shows
  delete_sub-changes name (Some row) eo = λ e.
      let left : v.subs ≡ filter (λ (r : SubRow). not (nat_eq r.number row.number)) v.subs = ap (λ (p : WorldParts). p.1.1.1.1.1.0) e in
      let own : not (nat_eq row.number row.number) ≡ true = each-found (λ (r : SubRow). not (nat_eq r.number row.number) ≡ true) (λ (r : SubRow). bytes_eq r.name name) v.subs row eo (others-left (λ (r : SubRow). not (nat_eq r.number row.number)) v.subs left) in
      absurd (both_ways (not (nat_eq row.number row.number)) (not_from_true (nat_eq row.number row.number) (eq-eqb row.number row.number refl)) own)

  pub detach-changes : (name : List ℕ) (o : Option SubRow) → Changes (detach_at v name o)
  detach-changes name None = shows
  detach-changes name (Some row) =
      let rule : Slot → Mark = λ s. lapsed s.mark in
      let fades : Fades v (remark_at row.number rule v) = remark-fades row.number rule v (leaves-each row.number rule v lapsed-leaves) in
      beside (put_sub (record row { detached = true }) (remark_at row.number rule v)) refl (record { messages = fades.messages; marks = fades.marks })

  pub pull-from-changes : (sub : SubRow) (most budget seconds : ℕ) (detached : Bool) → Changes (pull_from v t sub most budget seconds detached)
  pull-from-changes sub most budget seconds true = shows
  pull-from-changes sub most budget seconds false =
      let given = handed sub.next_lease (choice t sub.config.ordering most budget (slots_of v sub.number)) in
      let rule : Slot → Mark = lent_mark (t + 1000 * seconds) given in
      let fades : Fades v (remark_at sub.number rule v) = remark-fades sub.number rule v (lent-leaves v sub.number t sub.next_lease most budget (t + 1000 * seconds) sub.config.ordering order) in
      beside (put_sub (record sub { next_lease = sub.next_lease + length given }) (remark_at sub.number rule v)) refl (record { messages = fades.messages; marks = fades.marks })

  pub pull-changes : (name : List ℕ) (most budget : ℕ) (asked : Option ℕ) (o : Option SubRow) → Changes (pull_at v t name most budget asked o)
  pull-changes name most budget asked None = shows
  pull-changes name most budget asked (Some sub) = pull-from-changes sub most budget (unwrap_or asked sub.config.ack_seconds) sub.detached

  pub acknowledge-changes : (name : List ℕ) (ids : List AckId) (o : Option SubRow) → Changes (acknowledge_at v name ids o)
  acknowledge-changes name ids None = shows
  acknowledge-changes name ids (Some sub) =
      let rule : Slot → Mark = mark_after_ack sub.config (tickets_of sub ids) (slots_of v sub.number) in
      beside (remark_at sub.number rule v) refl (remark-fades sub.number rule v (leaves-each sub.number rule v (acknowledged-leaves sub.config (tickets_of sub ids) (slots_of v sub.number))))

  pub modify-changes : (name : List ℕ) (items : List (AckId × ℕ)) (o : Option SubRow) → Changes (modify_at v t name items o)
  modify-changes name items None = shows
  modify-changes name items (Some sub) =
      let its = items_of sub items in
      let goes : Bool = is_some (dead_topic v sub) in
      let longer : Slot → Mark = extended_mark t its in
      let rule : Slot → Mark = mark_after_failing (is_given_up its) t goes sub.config (extended t its (slots_of v sub.number)) in
      let first : World = remark_at sub.number longer v in
      forwarded-seen t (letters_of v sub (modify_dead t goes sub.config its (slots_of v sub.number))) v (remark_at sub.number rule first) refl
      (fades-then v first (remark_at sub.number rule first) (remark-fades sub.number longer v (leaves-each sub.number longer v (extended-leaves t its)))
      (remark-fades sub.number rule first (leaves-each sub.number rule first (failing-leaves (is_given_up its) t goes sub.config (extended t its (slots_of v sub.number))))))

  pub seek_time-in-changes : (time : ℕ) (sub : SubRow) (detached : Bool) → Changes (seek_time_in v time sub detached)
  seek_time-in-changes time sub true = shows
  seek_time-in-changes time sub false = beside (remark_at sub.number (sought_mark time) v) refl (remark-fades sub.number (sought_mark time) v (leaves-each sub.number (sought_mark time) v (sought-leaves time)))

  pub seek_time-changes : (name : List ℕ) (time : ℕ) (o : Option SubRow) → Changes (seek_time_at v name time o)
  seek_time-changes name time None = shows
  seek_time-changes name time (Some sub) = seek_time-in-changes time sub sub.detached

  pub create_snap-in-changes : (sub : SubRow) (row : SnapRow) → Changes (create_snap_in v t sub row)
  create_snap-in-changes sub row =
      let made : Outcome = answers (record v { next_snap = v.next_snap + 1; snaps = v.snaps ++ row ∷ [] }) (Snapshot (snap_shown v row)) in
      let in_time : Outcome = if nat_lt row.expiry (t + 3600000) then refuses v (FailedPrecondition SnapshotLifetime) else made in
      if-changes sub.detached (refuses v (FailedPrecondition Detached)) (if is_none (topic_numbered v sub.topic) then refuses v (FailedPrecondition TopicDeleted) else in_time) shows
      (if-changes (is_none (topic_numbered v sub.topic)) (refuses v (FailedPrecondition TopicDeleted)) in_time shows
      (if-changes (nat_lt row.expiry (t + 3600000)) (refuses v (FailedPrecondition SnapshotLifetime)) made shows
      (λ e. let more : v.next_snap ≡ v.next_snap + 1 = ap (λ (p : WorldParts). p.1.1.0) e in absurd (omega (arith, more)))))

  pub create_snap-changes : (name subscription : List ℕ) (labels : List (List ℕ × List ℕ)) (o : Option SubRow) (q : Option SnapRow) → Changes (create_snap_at v t name subscription labels o q)
  create_snap-changes name subscription labels None q = shows
  create_snap-changes name subscription labels (Some sub) (Some taken) = shows
  create_snap-changes name subscription labels (Some sub) None = create_snap-in-changes sub (new_snap v t name sub labels)

  pub update_snap-changes : (name : List ℕ) (labels : List (List ℕ × List ℕ)) (o : Option SnapRow) → Changes (update_snap_at v name labels o)
  update_snap-changes name labels None = shows
  update_snap-changes name labels (Some old) =
      let row : SnapRow = record old { labels = labels } in
      beside (record v { snaps = map (λ (r : SnapRow). if nat_eq r.number row.number then row else r) v.snaps }) refl (record { messages = same.messages; marks = same.marks })

  pub get_snap-changes : (name : List ℕ) (o : Option SnapRow) → Changes (get_snap_at v name o)
  get_snap-changes name None = shows
  get_snap-changes name (Some row) = shows

  pub delete_snap-changes : (name : List ℕ) (o : Option SnapRow) → Changes (delete_snap_at v name o)
  delete_snap-changes name None = shows
  delete_snap-changes name (Some row) = beside (record v { snaps = filter (λ (r : SnapRow). not (nat_eq r.number row.number)) v.snaps }) refl (record { messages = same.messages; marks = same.marks })
