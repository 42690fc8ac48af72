-- What each command leaves and answers in the live part of a world, and in the world.
use Rattle.std.proofs.Common.{ℕ, ◌≡◌, ◌+◌, ◌*◌, Bool, true, false, ◌&&◌, not, nat_eq, nat_lt, is_none, is_some, List, [], ◌∷◌, ◌++◌, Option, Some, None, map, filter, length, unwrap_or, refl, sym, ◌∙◌, ap, subst, if◌then◌else◌}
use Rattle.std.specs.List.{AllByRecursion}
use Rattle.std.proofs.lemmas.Bool.{and_left, and_right, and_parts, false_from_ne_true, both_ways}
use Rattle.ps_base.specs.declared.ack_id.AckId.{AckId}
use Rattle.ps_base.specs.declared.reason.Reason.TheVariants.{TopicDeleted, SnapshotLifetime}
use Rattle.ps_base.specs.declared.refusal.Refusal.TheVariants.{FailedPrecondition}
use Rattle.ps_message.specs.declared.message.Message.{Message}
use Rattle.ps_filter.specs.Filters.{meets}
use Rattle.ps_config.specs.declared.config.TopicConfig.{TopicConfig}
use Rattle.ps_config.specs.declared.config.SubConfig.{SubConfig}
use Rattle.ps_config.specs.declared.config.DeadLetterPolicy.{DeadLetterPolicy}
use Rattle.ps_config.specs.declared.mask.Mask.{Mask}
use Rattle.ps_config.specs.Masks.{has_bit, masked_topic, masked_sub}
use Rattle.ps_model.specs.declared.mark.Mark.{Mark}
use Rattle.ps_model.specs.declared.mark.Mark.TheVariants.{Done}
use Rattle.ps_model.specs.declared.mark.DoneCause.TheVariants.{Acknowledged}
use Rattle.ps_model.specs.declared.mark.Handed.{Handed}
use Rattle.ps_model.specs.declared.mark.Slot.{Slot}
use Rattle.ps_model.specs.declared.mark.Ticket.{Ticket}
use Rattle.ps_model.specs.declared.command.Paging.{Paging}
use Rattle.ps_model.specs.declared.reply.Reply.{Reply}
use Rattle.ps_model.specs.declared.reply.Reply.TheVariants.{Empty, Topic, Subscription, Snapshot, Received, Acked, Modified}
use Rattle.ps_model.specs.declared.world.World.{World}
use Rattle.ps_model.specs.declared.world.TopicRow.{TopicRow}
use Rattle.ps_model.specs.declared.world.SubRow.{SubRow}
use Rattle.ps_model.specs.declared.world.SnapRow.{SnapRow}
use Rattle.ps_model.specs.declared.world.MarkRow.{MarkRow}
use Rattle.ps_model.specs.declared.world.MessageRow.{MessageRow}
use Rattle.ps_model.specs.Slots.{is_gone, is_unacked, remark}
use Rattle.ps_model.specs.Lists.{once}
use Rattle.ps_model.specs.Retention.{is_within, lapsed}
use Rattle.ps_model.specs.Seeking.{sought_mark}
use Rattle.ps_model.specs.Choice.{choice, handed, lent_mark}
use Rattle.ps_model.specs.Acknowledging.{mark_after_ack}
use Rattle.ps_model.specs.Modifying.{names, extended, extended_mark, is_given_up}
use Rattle.ps_model.specs.Failing.{mark_after_failing, dead_letters}
use Rattle.ps_model.specs.Worlds.{topic_numbered, sub_named, message_numbered, no_message, message_at, slots_of, remark_at, put_sub, put_topic}
use Rattle.ps_model.specs.Forwarding.{Letter, message_rows, letters_of, dead_topic, add_messages, forward}
use Rattle.ps_model.specs.Outcomes.{Outcome, Shows, Leaves, answers, refuses, reply_in}
use Rattle.ps_model.specs.Showing.{topic_shown, sub_shown, snap_shown}
use Rattle.ps_model.specs.Topics.{create_topic_at, update_topic_at, get_topic_at, delete_topic_at, publish_at}
use Rattle.ps_model.specs.Subscriptions.{retained_rows, missing_of, create_sub_named, create_sub_at, update_sub_masked, update_sub_at, get_sub_at, delete_sub_at, detach_at}
use Rattle.ps_model.specs.Pulling.{received, received_all, pull_from, pull_at}
use Rattle.ps_model.specs.Answering.{ticket_of, tickets_of, same_id, invalid_ids, unordered_ids, acknowledge_at, items_of, unknown_ids, modify_at}
use Rattle.ps_model.specs.Replaying.{seek_time_in, seek_time_at}
use Rattle.ps_model.specs.Snapshots.{open_slots, oldest, lifetime, new_snap, create_snap_in, create_snap_at, update_snap_at, get_snap_at, delete_snap_at}
use Rattle.ps_model.specs.Listing.{topic_subs_at, topic_snaps_at}
use Rattle.ps_model.specs.Live.{live}
use Rattle.ps_model.specs.Sound.{Ordered, Precedes}
use Rattle.ps_base.proofs.Lists.{each-then, each-map, each-append, each-filter, each-left, map-same}
use Rattle.ps_sound.proofs.worlds.Lists.{found-own, ordered-map}
use Rattle.ps_sound.proofs.worlds.Underway.{IsUnderway}
use Rattle.ps_sound.proofs.worlds.Marked.{remark_at-marked}
use Rattle.ps_sound.proofs.phases.Resting.{forward-none}
use Rattle.ps_sound.proofs.phases.Adding.{rows-each, rows-ascend}
use Rattle.ps_sound.proofs.commands.Lending.{each-chosen, deliverable-lives}
use Rattle.ps_sound.proofs.living.Filters.{filter-again, filter-either, filter-within, filter-append}
use Rattle.ps_sound.proofs.living.Slotwise.{row_lives, slot_lives, live_slots, kept_messages, KeptAt, AllKept, message_at-live, slots-live, any-live, failing-live, dead-letters-live, unacked-fails-gone, choice-live, good-live, unordered-live, acknowledged-live}
use Rattle.ps_sound.proofs.living.Standing.{wanted-kept, live-underway}
use Rattle.ps_sound.proofs.living.Passes.{Like, like-live, live-kept, phase-like, phase-live, failing-leaves}
use Rattle.ps_sound.proofs.living.Growing.{by-sub, add-live, IsNext, add-kept, each-dead, KeptNumber, slots-kept, letters-of-live, IsReady, forward-like}
use Rattle.ps_sound.proofs.living.Seen.{LeavesAt}
use Rattle.ps_sound.proofs.living.Marking.{remark-live, remark-kept, remark-phase, put-like, lapsed-leaves, sought-leaves, acknowledged-leaves, names-fails-gone, given-up-fails-gone, extended-leaves, extended-live, lent-leaves}

-- The first outcome is that of the live part, and the second that of the world: the same answer, and worlds alike once the letters, which are the same, are forwarded.
abbrev pub Follows : ℕ → Outcome → Outcome → Type 0
Follows t (Shows a) (Shows b) = a ≡ b
Follows t (Leaves m letters a) (Leaves n others b) = Like (forward t letters m) (forward t others n) × (letters ≡ others) × (a ≡ b)
Follows t (Shows a) (Leaves n others b) = ⊥
Follows t (Leaves m letters a) (Shows b) = ⊥

pub follows-told : (t : ℕ) (o p : Outcome) → Follows t o p → reply_in o ≡ reply_in p
follows-told t (Shows a) (Shows b) h = h
follows-told t (Leaves m letters a) (Leaves n others b) h = h.2
follows-told t (Shows a) (Leaves n others b) h = absurd h
follows-told t (Leaves m letters a) (Shows b) h = absurd h

-- worlds alike, without letters
pub answers-follow : (t : ℕ) (m n : World) (a b : Reply) → Like m n → a ≡ b → Follows t (answers m a) (answers n b)
answers-follow t m n a b h e = (subst (λ x. Like x (forward t [] n)) (sym (forward-none t m)) (subst (Like m) (sym (forward-none t n)) h), refl, e)

pub if-follows : (t : ℕ) (b : Bool) (o o' p p' : Outcome) → Follows t o o' → Follows t p p' → Follows t (if b then o else p) (if b then o' else p')
if-follows t true o o' p p' h k = h
if-follows t false o o' p p' h k = k

module _ (t count : ℕ) (v : World) (u : IsUnderway t count v) where
  kept : AllKept v
  kept = wanted-kept v u.marks.wanted

  -- the live part of what a command leaves that reads and changes nothing gone
  plain : (n : World) (reply : Reply) → AllKept n → Follows t (answers (live n) reply) (answers n reply)
  plain n reply h = answers-follow t (live n) n reply reply (like-live n h) refl

  -- ---- topics

  pub create_topic-follows : (name : List ℕ) (config : TopicConfig) (o : Option TopicRow) → Follows t (create_topic_at (live v) name config o) (create_topic_at v name config o)
  create_topic-follows name config (Some taken) = refl
  create_topic-follows name config None =
      let row : TopicRow = record { number = v.next_topic; name = name; config = config } in
      plain (record v { next_topic = v.next_topic + 1; topics = v.topics ++ row ∷ [] }) (Topic (topic_shown row)) kept

  pub update_topic-follows : (name : List ℕ) (mask : Mask) (config : TopicConfig) (o : Option TopicRow) → Follows t (update_topic_at (live v) name mask config o) (update_topic_at v name mask config o)
  update_topic-follows name mask config None = refl
  update_topic-follows name mask config (Some old) =
      let row : TopicRow = record old { config = masked_topic mask old.config config } in
      plain (put_topic row v) (Topic (topic_shown row)) kept

  pub get_topic-follows : (name : List ℕ) (o : Option TopicRow) → Follows t (get_topic_at (live v) name o) (get_topic_at v name o)
  get_topic-follows name None = refl
  get_topic-follows name (Some row) = refl

  pub delete_topic-follows : (name : List ℕ) (o : Option TopicRow) → Follows t (delete_topic_at (live v) name o) (delete_topic_at v name o)
  delete_topic-follows name None = refl
  delete_topic-follows name (Some row) = plain (record v { topics = filter (λ (r : TopicRow). not (nat_eq r.number row.number)) v.topics }) Empty kept

  pub list_topic_subs-follows : (paging : Paging) (name : List ℕ) (o : Option TopicRow) → Follows t (topic_subs_at (live v) paging name o) (topic_subs_at v paging name o)
  list_topic_subs-follows paging name None = refl
  list_topic_subs-follows paging name (Some topic) = refl

  pub list_topic_snaps-follows : (paging : Paging) (name : List ℕ) (o : Option TopicRow) → Follows t (topic_snaps_at (live v) paging name o) (topic_snaps_at v paging name o)
  list_topic_snaps-follows paging name None = refl
  list_topic_snaps-follows paging name (Some topic) = refl

  pub publish-follows : (name : List ℕ) (messages : List Message) (o : Option TopicRow) → Follows t (publish_at (live v) t name messages o) (publish_at v t name messages o)
  publish-follows name messages None = refl
  publish-follows name messages (Some topic) = answers-follow t (add_messages rows (live v)) (add_messages rows v) _ _
      (record { same = add-live rows v (by-sub v.marks u.marks.ascend); first = added (live v) (live-underway t count v u) refl; second = added v u refl }) refl
    where
      rows : List MessageRow
      rows = message_rows topic.number v.next_message t messages

      added : (w : World) → IsUnderway t count w → w.next_message ≡ v.next_message → AllKept (add_messages rows w)
      added w h same = add-kept rows w h.messages.below (rows-ascend topic.number v.next_message t messages)
          (subst (λ next. AllByRecursion (IsNext next) rows) (sym same) (rows-each (IsNext v.next_message) topic.number v.next_message t messages (λ k m from below. record { from = from; kept = refl }))) (wanted-kept w h.marks.wanted)

  -- ---- subscriptions

  missing-live : (o : Option DeadLetterPolicy) → missing_of (live v) o ≡ missing_of v o
  missing-live None = refl
  missing-live (Some policy) = refl

  pub create_sub-named-follows : (name : List ℕ) (topic : TopicRow) (config : SubConfig) (missing : Option (List ℕ)) (o : Option SubRow) → Follows t (create_sub_named (live v) t name topic config missing o) (create_sub_named v t name topic config missing o)
  create_sub-named-follows name topic config (Some lost) o = refl
  create_sub-named-follows name topic config None (Some taken) = refl
  create_sub-named-follows name topic config None None =
      answers-follow t (record (live v) { next_sub = v.next_sub + 1; subs = v.subs ++ row ∷ []; marks = filter row_lives v.marks ++ retained_rows (live v) t row topic.config.retention }) made _ _ (record {
        same = λ i. record made { messages = filter-again (λ (r : MessageRow). r.kept) v.messages i; marks = marks i };
        first = each-append (KeptAt (kept_messages v.messages)) (filter row_lives v.marks) (retained_rows (live v) t row topic.config.retention) (live-kept v kept) (taken-kept (live v) (live-underway t count v u));
        second = each-append (KeptAt v.messages) v.marks (retained_rows v t row topic.config.retention) kept (taken-kept v u);
      }) refl
    where
      row : SubRow
      row = record { number = v.next_sub; name = name; topic = topic.number; config = config; detached = false; next_lease = 1 }

      made : World
      made = record v { next_sub = v.next_sub + 1; subs = v.subs ++ row ∷ []; marks = v.marks ++ retained_rows v t row topic.config.retention }

      takes : MessageRow → Bool
      takes r = nat_eq r.topic topic.number && (r.kept && (is_within t r.publish topic.config.retention && meets config.filter r.message))

      taken : MessageRow → MarkRow
      taken r = record { sub = v.next_sub; message = r.number; mark = Done Acknowledged }

      same-rows : retained_rows (live v) t row topic.config.retention ≡ retained_rows v t row topic.config.retention
      same-rows = ap (map taken) (filter-within takes (λ (r : MessageRow). r.kept) v.messages
          (λ r e. and_right (nat_eq r.topic topic.number) (r.kept && (is_within t r.publish topic.config.retention && meets config.filter r.message)) (and_left r.kept (is_within t r.publish topic.config.retention && meets config.filter r.message) e)))

      marks : filter row_lives (filter row_lives v.marks ++ retained_rows (live v) t row topic.config.retention) ≡ filter row_lives (v.marks ++ retained_rows v t row topic.config.retention)
      marks =
          filter-append row_lives (filter row_lives v.marks) (retained_rows (live v) t row topic.config.retention)
          ∙ (λ i. filter-again row_lives v.marks i ++ filter row_lives (same-rows i))
          ∙ sym (filter-append row_lives v.marks (retained_rows v t row topic.config.retention))

      taken-kept : (w : World) → IsUnderway t count w → AllByRecursion (KeptAt w.messages) (map taken (filter takes w.messages))
      taken-kept w h = each-map (λ (r : MessageRow). (takes r ≡ true) × (message_numbered w.messages r.number ≡ Some r)) (KeptAt w.messages) taken (filter takes w.messages)
          (λ r p _. ap (λ (o : Option MessageRow). (unwrap_or o (no_message r.number)).kept) p.1
          ∙ (and_parts r.kept (is_within t r.publish topic.config.retention && meets config.filter r.message) (and_parts (nat_eq r.topic topic.number) (r.kept && (is_within t r.publish topic.config.retention && meets config.filter r.message)) p.0).1).0)
          (each-filter (λ (r : MessageRow). message_numbered w.messages r.number ≡ Some r) (λ (r : MessageRow). (takes r ≡ true) × (message_numbered w.messages r.number ≡ Some r)) takes w.messages (λ r e p. (e, p))
          (found-own (λ (r : MessageRow). r.number) w.messages h.messages.ascend))

  pub create_sub-follows : (name of : List ℕ) (config : SubConfig) (o : Option TopicRow) → Follows t (create_sub_at (live v) t name of config o) (create_sub_at v t name of config o)
  create_sub-follows name of config None = refl
  create_sub-follows name of config (Some topic) =
      subst (λ missing. Follows t (create_sub_named (live v) t name topic config missing (sub_named v name)) (create_sub_named v t name topic config (missing_of v config.dead_letter) (sub_named v name))) (sym (missing-live config.dead_letter))
      (create_sub-named-follows name topic config (missing_of v config.dead_letter) (sub_named v name))

  pub update_sub-masked-follows : (mask : Mask) (old : SubRow) (config : SubConfig) (missing : Option (List ℕ)) → Follows t (update_sub_masked (live v) mask old config missing) (update_sub_masked v mask old config missing)
  update_sub-masked-follows mask old config (Some lost) = refl
  update_sub-masked-follows mask old config None =
      let row : SubRow = record old { config = masked_sub mask old.config config } in
      plain (put_sub row v) (Subscription (sub_shown (put_sub row v) row)) kept

  pub update_sub-follows : (name : List ℕ) (mask : Mask) (config : SubConfig) (o : Option SubRow) → Follows t (update_sub_at (live v) name mask config o) (update_sub_at v name mask config o)
  update_sub-follows name mask config None = refl
  update_sub-follows name mask config (Some old) =
      subst (λ missing. Follows t (update_sub_masked (live v) mask old config (if has_bit mask 5 then missing else None)) (update_sub_masked v mask old config (if has_bit mask 5 then missing_of v config.dead_letter else None))) (sym (missing-live config.dead_letter))
      (update_sub-masked-follows mask old config (if has_bit mask 5 then missing_of v config.dead_letter else None))

  pub get_sub-follows : (name : List ℕ) (o : Option SubRow) → Follows t (get_sub_at (live v) name o) (get_sub_at v name o)
  get_sub-follows name None = refl
  get_sub-follows name (Some row) = refl

  pub delete_sub-follows : (name : List ℕ) (o : Option SubRow) → Follows t (delete_sub_at (live v) name o) (delete_sub_at v name o)
  delete_sub-follows name None = refl
  delete_sub-follows name (Some row) =
      answers-follow t (record (live v) { subs = filter others v.subs; marks = filter its_not (filter row_lives v.marks) }) (record v { subs = filter others v.subs; marks = filter its_not v.marks }) Empty Empty (record {
        same = λ i. record v { subs = filter others v.subs; messages = filter-again (λ (r : MessageRow). r.kept) v.messages i; marks = marks i };
        first = each-left (KeptAt (kept_messages v.messages)) its_not (filter row_lives v.marks) (live-kept v kept);
        second = each-left (KeptAt v.messages) its_not v.marks kept;
      }) refl
    where
      others : SubRow → Bool
      others r = not (nat_eq r.number row.number)

      its_not : MarkRow → Bool
      its_not r = not (nat_eq r.sub row.number)

      marks : filter row_lives (filter its_not (filter row_lives v.marks)) ≡ filter row_lives (filter its_not v.marks)
      marks = ap (filter row_lives) (filter-either its_not row_lives v.marks) ∙ filter-again row_lives (filter its_not v.marks)

  pub detach-follows : (name : List ℕ) (o : Option SubRow) → Follows t (detach_at (live v) name o) (detach_at v name o)
  detach-follows name None = refl
  detach-follows name (Some row) =
      answers-follow t (put_sub (record row { detached = true }) (remark_at row.number (λ s. lapsed s.mark) (live v))) (put_sub (record row { detached = true }) (remark_at row.number (λ s. lapsed s.mark) v)) Empty Empty
      (put-like (record row { detached = true }) (remark_at row.number (λ s. lapsed s.mark) (live v)) (remark_at row.number (λ s. lapsed s.mark) v)
      (phase-live (remark_at row.number (λ s. lapsed s.mark)) v (remark-phase row.number (λ s. lapsed s.mark) lapsed-leaves) kept)) refl

  -- ---- deliveries

  pub pull-from-follows : (sub : SubRow) (most budget seconds : ℕ) (detached : Bool) → Follows t (pull_from (live v) t sub most budget seconds detached) (pull_from v t sub most budget seconds detached)
  pull-from-follows sub most budget seconds true = refl
  pull-from-follows sub most budget seconds false =
      subst (λ g. Follows t (pulled (live v) g) (pulled v given)) (sym same)
      (answers-follow t (lent (live v)) (lent v) _ _ (record {
        same = ap (put_sub row) (remark-live sub.number (lent_mark deadline given) v (lent-leaves v sub.number t sub.next_lease most budget deadline sub.config.ordering u.marks.ascend) kept);
        first = remark-kept sub.number (lent_mark deadline given) (live v)
            (subst (λ g. AllByRecursion (LeavesAt sub.number (lent_mark deadline g) (live v).messages) (live v).marks) same
            (lent-leaves (live v) sub.number t sub.next_lease most budget deadline sub.config.ordering (live-underway t count v u).marks.ascend)) (live-kept v kept);
        second = remark-kept sub.number (lent_mark deadline given) v (lent-leaves v sub.number t sub.next_lease most budget deadline sub.config.ordering u.marks.ascend) kept;
      }) (ap (Received sub.config.exactly_once sub.config.ordering) told))
    where
      deadline : ℕ
      deadline = t + 1000 * seconds

      chosen : List Slot
      chosen = choice t sub.config.ordering most budget (slots_of v sub.number)

      given : List Handed
      given = handed sub.next_lease chosen

      pulled : World → List Handed → Outcome
      pulled w g = answers (put_sub (record sub { next_lease = sub.next_lease + length g }) (remark_at sub.number (lent_mark deadline g) w)) (Received sub.config.exactly_once sub.config.ordering (received_all w sub g))

      row : SubRow
      row = record sub { next_lease = sub.next_lease + length given }

      lent : World → World
      lent w = put_sub row (remark_at sub.number (lent_mark deadline given) w)

      same : handed sub.next_lease (choice t sub.config.ordering most budget (slots_of (live v) sub.number)) ≡ given
      same = ap (λ slots. handed sub.next_lease (choice t sub.config.ordering most budget slots)) (slots-live v sub.number kept) ∙ ap (handed sub.next_lease) (choice-live t sub.config.ordering most budget (slots_of v sub.number))

      given-kept : AllByRecursion (λ (h : Handed). KeptNumber v h.number) given
      given-kept = each-handed sub.next_lease chosen (each-chosen (KeptNumber v) t sub.config.ordering most budget (slots_of v sub.number)
          (each-then (λ (s : Slot). is_gone s.mark ≡ false → KeptNumber v s.item.number) (λ (s : Slot). _ → KeptNumber v s.item.number) (slots_of v sub.number) (λ s k e. k (deliverable-lives t sub.config.ordering (slots_of v sub.number) s e)) (slots-kept v sub.number kept)))
        where
          each-handed : (lease : ℕ) (xs : List Slot) → AllByRecursion (λ (s : Slot). KeptNumber v s.item.number) xs → AllByRecursion (λ (h : Handed). KeptNumber v h.number) (handed lease xs)
          each-handed lease [] h = tt
          each-handed lease (s ∷ ss) h = (h.0, each-handed (lease + 1) ss h.1)

      told : received_all (live v) sub given ≡ received_all v sub given
      told = map-same (λ (h : Handed). received sub h (message_at (kept_messages v.messages) h.number)) (λ (h : Handed). received sub h (message_at v.messages h.number)) given
          (each-then (λ (h : Handed). KeptNumber v h.number) (λ (h : Handed). received sub h (message_at (kept_messages v.messages) h.number) ≡ received sub h (message_at v.messages h.number)) given (λ h k. ap (received sub h) (message_at-live v.messages h.number k)) given-kept)

  pub pull-follows : (name : List ℕ) (most budget : ℕ) (asked : Option ℕ) (o : Option SubRow) → Follows t (pull_at (live v) t name most budget asked o) (pull_at v t name most budget asked o)
  pull-follows name most budget asked None = refl
  pull-follows name most budget asked (Some sub) = pull-from-follows sub most budget (unwrap_or asked sub.config.ack_seconds) sub.detached

  pub acknowledge-follows : (name : List ℕ) (ids : List AckId) (o : Option SubRow) → Follows t (acknowledge_at (live v) name ids o) (acknowledge_at v name ids o)
  acknowledge-follows name ids None = refl
  acknowledge-follows name ids (Some sub) =
      subst (λ s. Follows t (answers (remark_at sub.number (mark_after_ack sub.config tickets s) (live v)) (Acked sub.config.exactly_once (invalid_ids sub s ids) (unordered_ids sub s ids))) (acknowledge_at v name ids (Some sub))) (sym (slots-live v sub.number kept))
      (subst (λ rule. Follows t (answers (remark_at sub.number rule (live v)) (Acked sub.config.exactly_once (invalid_ids sub (live_slots slots) ids) (unordered_ids sub (live_slots slots) ids))) (acknowledge_at v name ids (Some sub))) (sym rules)
      (answers-follow t (remark_at sub.number rule (live v)) (remark_at sub.number rule v) _ _ (phase-live (remark_at sub.number rule) v (remark-phase sub.number rule (acknowledged-leaves sub.config tickets slots)) kept)
      (λ i. Acked sub.config.exactly_once (invalid i) (unordered i))))
    where
      slots : List Slot
      slots = slots_of v sub.number

      tickets : List Ticket
      tickets = tickets_of sub ids

      rule : Slot → Mark
      rule = mark_after_ack sub.config tickets slots

      rules : mark_after_ack sub.config tickets (live_slots slots) ≡ rule
      rules = λ i s. acknowledged-live sub.config tickets slots s i

      invalid : invalid_ids sub (live_slots slots) ids ≡ invalid_ids sub slots ids
      invalid = λ i. if sub.config.exactly_once then filter (λ (id : AckId). not (nat_eq id.sub sub.number && good-live true slots (ticket_of id) i)) (once same_id ids) else []

      unordered : unordered_ids sub (live_slots slots) ids ≡ unordered_ids sub slots ids
      unordered = λ i. if sub.config.exactly_once then filter (λ (id : AckId). nat_eq id.sub sub.number && unordered-live sub.config tickets slots (ticket_of id) i) (once same_id ids) else []

  pub modify-follows : (name : List ℕ) (items : List (AckId × ℕ)) (o : Option SubRow) → Follows t (modify_at (live v) t name items o) (modify_at v t name items o)
  modify-follows name items None = refl
  modify-follows name items (Some sub) =
      subst (λ s. Follows t (modified (live v) (failing (extended t its s)) (letters (live v) (extended t its s)) s) (modified v rule (letters v longer) slots)) (sym (slots-live v sub.number kept))
      (subst (λ s. Follows t (modified (live v) (failing s) (letters (live v) s) (live_slots slots)) (modified v rule (letters v longer) slots)) (sym (extended-live t its slots))
      (subst (λ r. Follows t (modified (live v) r (letters (live v) (live_slots longer)) (live_slots slots)) (modified v rule (letters v longer) slots)) (sym rules)
      (subst (λ ls. Follows t (modified (live v) rule ls (live_slots slots)) (modified v rule (letters v longer) slots)) (sym same-letters) (
        forward-like t (letters v longer) (remark_at n rule (remark_at n longer_mark (live v))) (remark_at n rule (remark_at n longer_mark v)) (ready (live v) (live-underway t count v u)) (ready v u)
            (phase-like (remark_at n rule) (remark_at n longer_mark (live v)) (remark_at n longer_mark v) (remark-phase n rule (failing-leaves (is_given_up its) t goes sub.config longer))
            (phase-live (remark_at n longer_mark) v (remark-phase n longer_mark (extended-leaves t its)) kept)),
        refl,
        ap (Modified sub.config.exactly_once) unknown,
      ))))
    where
      n : ℕ
      n = sub.number

      slots : List Slot
      slots = slots_of v sub.number

      its : List (Ticket × ℕ)
      its = items_of sub items

      goes : Bool
      goes = is_some (dead_topic v sub)

      longer : List Slot
      longer = extended t its slots

      longer_mark : Slot → Mark
      longer_mark = extended_mark t its

      failing : List Slot → Slot → Mark
      failing s = mark_after_failing (is_given_up its) t goes sub.config s

      rule : Slot → Mark
      rule = failing longer

      letters : World → List Slot → List Letter
      letters w s = letters_of w sub (dead_letters (is_given_up its) goes sub.config s)

      modified : World → (Slot → Mark) → List Letter → List Slot → Outcome
      modified w r ls s = Leaves (remark_at n r (remark_at n longer_mark w)) ls (Modified sub.config.exactly_once (unknown_ids sub s (map (λ (x : AckId × ℕ). x.0) items)))

      rules : failing (live_slots longer) ≡ rule
      rules = λ i s. failing-live (is_given_up its) t goes sub.config longer s (given-up-fails-gone its) i

      longer-kept : AllByRecursion (λ (s : Slot). is_gone s.mark ≡ false → KeptNumber v s.item.number) longer
      longer-kept = each-map (λ (s : Slot). is_gone s.mark ≡ false → KeptNumber v s.item.number) (λ (s : Slot). is_gone s.mark ≡ false → KeptNumber v s.item.number) (λ s. remark s (extended_mark t its s)) slots
          (λ s k lives. k (false_from_ne_true (is_gone s.mark) (λ e. both_ways (is_gone (extended_mark t its s)) lives (ap is_gone (extended-leaves t its s e) ∙ e)))) (slots-kept v sub.number kept)

      same-letters : letters (live v) (live_slots longer) ≡ letters v longer
      same-letters = ap (letters_of (live v) sub) (dead-letters-live (is_given_up its) goes sub.config longer) ∙ letters-of-live v sub (dead_letters (is_given_up its) goes sub.config longer) (each-dead (KeptNumber v) (is_given_up its) goes sub.config longer longer-kept)

      unknown : unknown_ids sub (live_slots slots) (map (λ (x : AckId × ℕ). x.0) items) ≡ unknown_ids sub slots (map (λ (x : AckId × ℕ). x.0) items)
      unknown = λ i. if sub.config.exactly_once then filter (λ (id : AckId). not (nat_eq id.sub sub.number && any-live (names (ticket_of id)) slots (names-fails-gone (ticket_of id)) i)) (once same_id (map (λ (x : AckId × ℕ). x.0) items)) else []

      ready : (w : World) → IsUnderway t count w → IsReady (remark_at n rule (remark_at n longer_mark w))
      ready w h = record {
        marks = by-sub _ (twice rule (remark_at n longer_mark w) (twice longer_mark w h.marks.ascend));
        below = h.messages.below;
      }
        where
          twice : (r : Slot → Mark) (x : World) → Ordered Precedes x.marks → Ordered Precedes (remark_at n r x).marks
          twice r x o = subst (λ (y : World). Ordered Precedes y.marks) (sym (remark_at-marked n r x))
              (ordered-map Precedes Precedes _ x.marks (λ a b p. p) o)

  -- ---- seeks and snapshots

  pub seek_time-in-follows : (time : ℕ) (sub : SubRow) (detached : Bool) → Follows t (seek_time_in (live v) time sub detached) (seek_time_in v time sub detached)
  seek_time-in-follows time sub true = refl
  seek_time-in-follows time sub false = answers-follow t (remark_at sub.number (sought_mark time) (live v)) (remark_at sub.number (sought_mark time) v) Empty Empty (phase-live (remark_at sub.number (sought_mark time)) v (remark-phase sub.number (sought_mark time) (sought-leaves time)) kept) refl

  pub seek_time-follows : (name : List ℕ) (time : ℕ) (o : Option SubRow) → Follows t (seek_time_at (live v) name time o) (seek_time_at v name time o)
  seek_time-follows name time None = refl
  seek_time-follows name time (Some sub) = seek_time-in-follows time sub sub.detached

  open-live : (sub : SubRow) → open_slots (live v) sub ≡ open_slots v sub
  open-live sub = ap (filter (λ (s : Slot). is_unacked s.mark)) (slots-live v sub.number kept) ∙ filter-within (λ (s : Slot). is_unacked s.mark) slot_lives (slots_of v sub.number) unacked-fails-gone

  new_snap-live : (name : List ℕ) (sub : SubRow) (labels : List (List ℕ × List ℕ)) → new_snap (live v) t name sub labels ≡ new_snap v t name sub labels
  new_snap-live name sub labels = λ i. record (new_snap v t name sub labels) { listed = map (λ (s : Slot). s.item.number) (open-live sub i); expiry = lifetime + oldest t (open-live sub i) }

  pub create_snap-in-follows : (sub : SubRow) (row : SnapRow) → Follows t (create_snap_in (live v) t sub row) (create_snap_in v t sub row)
  create_snap-in-follows sub row =
      let made : World = record v { next_snap = v.next_snap + 1; snaps = v.snaps ++ row ∷ [] } in
      if-follows t sub.detached _ _ _ _ refl
      (if-follows t (is_none (topic_numbered v sub.topic)) (refuses (live v) (FailedPrecondition TopicDeleted)) (refuses v (FailedPrecondition TopicDeleted)) _ _ refl
      (if-follows t (nat_lt row.expiry (t + 3600000)) (refuses (live v) (FailedPrecondition SnapshotLifetime)) (refuses v (FailedPrecondition SnapshotLifetime)) (answers (live made) (Snapshot (snap_shown v row))) (answers made (Snapshot (snap_shown v row))) refl
      (plain made (Snapshot (snap_shown v row)) kept)))

  pub create_snap-follows : (name subscription : List ℕ) (labels : List (List ℕ × List ℕ)) (o : Option SubRow) (q : Option SnapRow) → Follows t (create_snap_at (live v) t name subscription labels o q) (create_snap_at v t name subscription labels o q)
  create_snap-follows name subscription labels None q = refl
  create_snap-follows name subscription labels (Some sub) (Some taken) = refl
  create_snap-follows name subscription labels (Some sub) None =
      subst (λ row. Follows t (create_snap_in (live v) t sub row) (create_snap_in v t sub (new_snap v t name sub labels))) (sym (new_snap-live name sub labels)) (create_snap-in-follows sub (new_snap v t name sub labels))

  pub update_snap-follows : (name : List ℕ) (labels : List (List ℕ × List ℕ)) (o : Option SnapRow) → Follows t (update_snap_at (live v) name labels o) (update_snap_at v name labels o)
  update_snap-follows name labels None = refl
  update_snap-follows name labels (Some old) =
      let row : SnapRow = record old { labels = labels } in
      plain (record v { snaps = map (λ (r : SnapRow). if nat_eq r.number row.number then row else r) v.snaps }) (Snapshot (snap_shown v row)) kept

  pub get_snap-follows : (name : List ℕ) (o : Option SnapRow) → Follows t (get_snap_at (live v) name o) (get_snap_at v name o)
  get_snap-follows name None = refl
  get_snap-follows name (Some row) = refl

  pub delete_snap-follows : (name : List ℕ) (o : Option SnapRow) → Follows t (delete_snap_at (live v) name o) (delete_snap_at v name o)
  delete_snap-follows name None = refl
  delete_snap-follows name (Some row) = plain (record v { snaps = filter (λ (r : SnapRow). not (nat_eq r.number row.number)) v.snaps }) Empty kept
