-- After a seek the marks of the subscription are what the seek and then expunging say, and the others are as they were.
use Rattle.std.proofs.Common.{ℕ, ◌≡◌, ◌≢◌, ◌<◌, ◌≤◌, ◌⊎◌, Bool, true, false, cond, ◌&&◌, nat_eq, nat_lt, List, [], ◌∷◌, ◌++◌, append-nil, Option, Some, unwrap_or, map, filter, refl, sym, ◌∙◌, ap, arith, inl, inr, if◌then◌else◌}
use Rattle.std.specs.List.{AllByRecursion}
use Rattle.std.specs.Str.{bytes_eq}
use Rattle.std.proofs.lemmas.Bool.{cond_both, eqb-true, eqb-false, ne_eqb, eq-eqb, lt-ltb, ltb-true, cases_lt}
use Rattle.ps_base.specs.Moments.{last_moment}
use Rattle.ps_base.specs.declared.reason.Reason.TheVariants.{Detached, SnapshotTopic}
use Rattle.ps_base.specs.declared.refusal.Refusal.TheVariants.{Exhausted, FailedPrecondition}
use Rattle.ps_model.specs.declared.command.Command.TheVariants.{SeekTime, SeekSnapshot}
use Rattle.ps_model.specs.declared.mark.Slot.{Slot}
use Rattle.ps_model.specs.declared.mark.Item.{Item}
use Rattle.ps_model.specs.declared.reply.Reply.TheVariants.{Empty}
use Rattle.ps_model.specs.declared.world.World.{World}
use Rattle.ps_model.specs.declared.world.SubRow.{SubRow}
use Rattle.ps_model.specs.declared.world.SnapRow.{SnapRow}
use Rattle.ps_model.specs.declared.world.MarkRow.{MarkRow}
use Rattle.ps_model.specs.declared.world.MessageRow.{MessageRow}
use Rattle.ps_model.specs.declared.mark.Mark.{Mark}
use Rattle.ps_model.specs.declared.mark.Mark.TheVariants.{Done}
use Rattle.ps_model.specs.declared.mark.DoneCause.TheVariants.{Acknowledged}
use Rattle.ps_filter.specs.Filters.{meets}
use Rattle.ps_model.specs.Slots.{remark, is_gone}
use Rattle.ps_model.specs.Seeking.{fresh, sought_mark}
use Rattle.ps_model.specs.Retention.{is_held_by, expunge}
use Rattle.ps_model.specs.Worlds.{sub_named, snap_named, sub_numbered, message_numbered, no_message, item_at, remark_at, remark_row, rows_of, row_of, slot_of, slots_of, with_slots_at, hold_of, holds_of}
use Rattle.ps_model.specs.Replaying.{put_aside, seek_list, held_items, seek_time_in, seek_time_at, seek_snap_in, seek_snap_at}
use Rattle.ps_model.specs.Settling.{expunge_world, settle}
use Rattle.ps_model.specs.Outcomes.{Outcome, answers, refuses, reply_in}
use Rattle.ps_model.specs.Commands.{is_full, outcome}
use Rattle.ps_model.specs.Step.{moment, settled, finished, carried_out}
use Rattle.ps_model.specs.Sound.{IsSound}
use Rattle.ps_model.specs.Laws.{SoughtToTime, SoughtToSnapshot}
use Rattle.ps_base.proofs.Lists.{each-always, each-map, each-filter, map-rests, filter-none}
use Rattle.ps_sound.proofs.worlds.Lists.{found-own, found-numbered}
use Rattle.ps_sound.proofs.worlds.Underway.{IsFinished}
use Rattle.ps_sound.proofs.worlds.Marked.{at_sub, remark_at-marked}
use Rattle.ps_sound.proofs.worlds.Slotted.{rows-marked, slots-at}
use Rattle.ps_sound.proofs.phases.Resting.{filter-all, forward-none}
use Rattle.ps_sound.proofs.commands.Replayed.{each-all-brought}
use Rattle.ps_sound.proofs.histories.Sought.{slots-expunged, rows-expunged}
use Rattle.ps_sound.proofs.phases.Stepping.{sound-settled}

-- where a call is answered, the record has room and the command is carried out
room-to-answer : (full : Bool) (v : World) (o : Outcome) → reply_in (if full then refuses v Exhausted else o) ≡ Empty → (full ≡ false) × (reply_in o ≡ Empty)
room-to-answer true v o told = absurd (cc (told))
room-to-answer false v o told = (refl, told)

-- the settled world, where it has room
settled-finished : (w : World) (at : ℕ) → IsSound w → is_full (settled (moment w at) w) ≡ false → IsFinished (moment w at) w.count (settled (moment w at) w)
settled-finished w at h room = either (is_full w) refl room
  where
    later : w.now ≤ moment w at
    later = omega (arith, h.in_time.now)

    last : moment w at ≤ last_moment
    last = omega arith

    either : (full : Bool) → is_full w ≡ full → is_full (cond full w (settle (moment w at) w)) ≡ false → IsFinished (moment w at) w.count (cond full w (settle (moment w at) w))
    either true e room = absurd (cc (e, room))
    either false e room = sound-settled (moment w at) w later last h

-- what an answered outcome leaves
answered : (t : ℕ) (v made : World) (o : Outcome) → o ≡ answers made Empty → finished t v o ≡ expunge_world t made
answered t v made o e = ap (finished t v) e ∙ ap (expunge_world t) (forward-none t made)

-- a change of one subscription leaves the rows of another
rows-other : (n k : ℕ) (rule : Slot → Mark) (v : World) → nat_eq k n ≡ false → rows_of (remark_at n rule v).marks k ≡ rows_of v.marks k
rows-other n k rule v other = ap (λ (u : World). rows_of u.marks k) (remark_at-marked n rule v) ∙ rows-marked (at_sub n rule v.messages) k v.marks
    ∙ map-rests (λ (r : MarkRow). remark_row r (at_sub n rule v.messages r)) (rows_of v.marks k)
    (each-filter (λ (r : MarkRow). Unit {0}) (λ (r : MarkRow). remark_row r (at_sub n rule v.messages r) ≡ r) (λ (r : MarkRow). nat_eq r.sub k) v.marks
    (λ r e _. ap (λ b. remark_row r (cond b (rule (slot_of v.messages r)) r.mark)) (ap (λ m. nat_eq m n) (eqb-true r.sub k e) ∙ other)) (each-always (λ (r : MarkRow). Unit {0}) v.marks (λ r. tt)))

sought-time-in : (v : World) (time : ℕ) (sub : SubRow) (detached : Bool) → reply_in (seek_time_in v time sub detached) ≡ Empty → seek_time_in v time sub detached ≡ answers (remark_at sub.number (sought_mark time) v) Empty
sought-time-in v time sub true told = absurd (cc (told))
sought-time-in v time sub false told = refl

pub sought_to_time : SoughtToTime
sought_to_time w at time name sub h told found =
    let t = moment w at in
    let v = settled t w in
    let made = remark_at sub.number (sought_mark time) v in
    let open1 = room-to-answer (is_full v) v (seek_time_at v name time (sub_named v name)) told in
    let fin : IsFinished t w.count v = settled-finished w at h open1.0 in
    let at_sub_named : seek_time_at v name time (sub_named v name) ≡ seek_time_in v time sub sub.detached = ap (seek_time_at v name time) found in
    let done : outcome v t (SeekTime name time) ≡ answers made Empty =
    ap (λ b. cond b (refuses v Exhausted) (seek_time_at v name time (sub_named v name))) open1.0 ∙ at_sub_named ∙ sought-time-in v time sub sub.detached (sym (ap reply_in at_sub_named) ∙ open1.1) in
    let left : carried_out w t (SeekTime name time) ≡ expunge_world t made = answered t v made (outcome v t (SeekTime name time)) done in
    let own : sub_numbered v sub.number ≡ Some sub = found-numbered (λ (r : SubRow). r.number) (λ (r : SubRow). bytes_eq r.name name) v.subs sub fin.underway.subs.ascend found in
    record {
      marks = ap (λ u. slots_of u sub.number) left ∙ slots-expunged t made sub own ∙ ap (expunge t sub.config (holds_of v sub.topic)) (slots-at (sought_mark time) v sub.number);
      others = λ other ne. ap (λ (u : World). rows_of u.marks other) left ∙ rows-expunged t w.count v made.marks other (rows-other sub.number other (sought_mark time) v ne) fin;
    }

filter-append : {A : Type 0} (test : A → Bool) (xs ys : List A) → filter test (xs ++ ys) ≡ filter test xs ++ filter test ys
filter-append test [] ys = refl
filter-append test (x ∷ xs) ys = cases (test x) (filter-append test xs ys)
  where
    cases : (b : Bool) → filter test (xs ++ ys) ≡ filter test xs ++ filter test ys → cond b (x ∷ filter test (xs ++ ys)) (filter test (xs ++ ys)) ≡ cond b (x ∷ filter test xs) (filter test xs) ++ filter test ys
    cases true ih = ap (λ zs. x ∷ zs) ih
    cases false ih = ih

-- what passes the second test and so the first
filter-filter : {A : Type 0} (first second : A → Bool) (xs : List A) → ((x : A) → second x ≡ true → first x ≡ true) → filter second (filter first xs) ≡ filter second xs
filter-filter first second [] k = refl
filter-filter {A = A} first second (x ∷ xs) k = cases (first x) (second x) refl refl (filter-filter first second xs k)
  where
    cases : (a b : Bool) → first x ≡ a → second x ≡ b → filter second (filter first xs) ≡ filter second xs → filter second (cond a (x ∷ filter first xs) (filter first xs)) ≡ cond b (x ∷ filter second xs) (filter second xs)
    cases true true ea eb ih = rw eb (ap (λ ys. x ∷ ys) ih)
    cases true false ea eb ih = rw eb ih
    cases false true ea eb ih = absurd (cc (ea, k x eb))
    cases false false ea eb ih = ih

map-map-rests : {A B : Type 0} (g : B → A) (f : A → B) (xs : List A) → AllByRecursion (λ x. g (f x) ≡ x) xs → map g (map f xs) ≡ xs
map-map-rests g f [] h = refl
map-map-rests g f (x ∷ xs) h = λ i. h.0 i ∷ map-map-rests g f xs h.1 i

module _ (v : World) (n : ℕ) (slots : List Slot) where
  abbrev below : List MarkRow
  below = filter (λ (r : MarkRow). nat_lt r.sub n) v.marks

  abbrev rows : List MarkRow
  rows = map (row_of n) slots

  abbrev above : List MarkRow
  above = filter (λ (r : MarkRow). nat_lt n r.sub) v.marks

  of-parts : (k : ℕ) → rows_of (with_slots_at n slots v).marks k ≡ rows_of below k ++ (rows_of rows k ++ rows_of above k)
  of-parts k = filter-append (λ (r : MarkRow). nat_eq r.sub k) below (rows ++ above) ∙ ap (λ rest. rows_of below k ++ rest) (filter-append (λ (r : MarkRow). nat_eq r.sub k) rows above)

  every : (xs : List MarkRow) → AllByRecursion (λ (r : MarkRow). Unit {0}) xs
  every xs = each-always (λ (r : MarkRow). Unit {0}) xs (λ r. tt)

  none-below : (k : ℕ) → n ≤ k → rows_of below k ≡ []
  none-below k up = filter-none (λ (r : MarkRow). nat_eq r.sub k) below (each-filter (λ (r : MarkRow). Unit {0}) (λ (r : MarkRow). nat_eq r.sub k ≡ false) (λ (r : MarkRow). nat_lt r.sub n) v.marks
      (λ r e _. let ne : r.sub ≢ k = omega (arith, up, ltb-true r.sub n e) in ne_eqb r.sub k ne) (every v.marks))

  none-above : (k : ℕ) → k ≤ n → rows_of above k ≡ []
  none-above k down = filter-none (λ (r : MarkRow). nat_eq r.sub k) above (each-filter (λ (r : MarkRow). Unit {0}) (λ (r : MarkRow). nat_eq r.sub k ≡ false) (λ (r : MarkRow). nat_lt n r.sub) v.marks
      (λ r e _. let ne : r.sub ≢ k = omega (arith, down, ltb-true n r.sub e) in ne_eqb r.sub k ne) (every v.marks))

  none-here : (k : ℕ) → nat_eq n k ≡ false → rows_of rows k ≡ []
  none-here k other = filter-none (λ (r : MarkRow). nat_eq r.sub k) rows (each-map (λ (s : Slot). Unit {0}) (λ (r : MarkRow). nat_eq r.sub k ≡ false) (row_of n) slots (λ s _. other) (each-always (λ (s : Slot). Unit {0}) slots (λ s. tt)))

  all-here : rows_of rows n ≡ rows
  all-here = filter-all (λ (r : MarkRow). nat_eq r.sub n) rows (each-map (λ (s : Slot). Unit {0}) (λ (r : MarkRow). nat_eq r.sub n ≡ true) (row_of n) slots (λ s _. eq-eqb n n refl) (each-always (λ (s : Slot). Unit {0}) slots (λ s. tt)))

  -- the subscription has the slots that were put there
  pub slots-put : AllByRecursion (λ (s : Slot). slot_of v.messages (row_of n s) ≡ s) slots → slots_of (with_slots_at n slots v) n ≡ slots
  slots-put joined = ap (map (slot_of v.messages)) (of-parts n ∙ (λ i. none-below n (omega arith) i ++ (all-here i ++ none-above n (omega arith) i)) ∙ append-nil rows) ∙ map-map-rests (slot_of v.messages) (row_of n) slots joined

  -- and the others have the rows that they had
  pub rows-beside : (k : ℕ) → nat_eq k n ≡ false → rows_of (with_slots_at n slots v).marks k ≡ rows_of v.marks k
  rows-beside k other = of-parts k ∙ cases (cases_lt k n)
    where
      here : rows_of rows k ≡ []
      here = none-here k (let ne : n ≢ k = λ same. absurd (eqb-false k n other (sym same)) in ne_eqb n k ne)

      cases : (k < n) ⊎ (n ≤ k) → rows_of below k ++ (rows_of rows k ++ rows_of above k) ≡ rows_of v.marks k
      cases (inl down) =
          (λ i. filter-filter (λ (r : MarkRow). nat_lt r.sub n) (λ (r : MarkRow). nat_eq r.sub k) v.marks (λ r e. lt-ltb r.sub n (omega (arith, down, eqb-true r.sub k e))) i ++ (here i ++ none-above k (omega arith) i))
          ∙ append-nil (rows_of v.marks k)
      cases (inr up) =
          let ne : k ≢ n = eqb-false k n other in
          let over : n < k = omega arith in
          λ i. none-below k up i ++ (here i ++ filter-filter (λ (r : MarkRow). nat_lt n r.sub) (λ (r : MarkRow). nat_eq r.sub k) v.marks (λ r e. lt-ltb n r.sub (omega (arith, over, eqb-true r.sub k e))) i)

-- each slot that a seek to a snapshot puts is one of its message
joined-list : (t count : ℕ) (v : World) (sub : SubRow) (snap : SnapRow) → IsFinished t count v → AllByRecursion (λ (s : Slot). slot_of v.messages (row_of sub.number s) ≡ s) (seek_list (held_items v sub snap) (slots_of v sub.number))
joined-list t count v sub snap fin = each-all-brought Joined (held_items v sub snap) (map put_aside (slots_of v sub.number))
    (each-map (λ (m : MessageRow). message_numbered v.messages m.number ≡ Some m) (λ (item : Item). Joined (record { item = item; mark = fresh })) (λ (m : MessageRow). item_at m.number m) (filter holds v.messages)
    (λ m e. ap (λ (o : Option MessageRow). record { item = item_at m.number (unwrap_or o (no_message m.number)); mark = fresh }) e)
    (each-filter (λ (m : MessageRow). message_numbered v.messages m.number ≡ Some m) (λ (m : MessageRow). message_numbered v.messages m.number ≡ Some m) holds v.messages (λ m _ e. e) (found-own (λ (m : MessageRow). m.number) v.messages fin.underway.messages.ascend)))
    (each-map Joined Joined put_aside (slots_of v sub.number) (λ s e. cond_both (is_gone s.mark) s (remark s (Done Acknowledged)) Joined (λ _. e) (λ _. ap (λ x. remark x (Done Acknowledged)) e))
    (each-map (λ (r : MarkRow). Unit {0}) Joined (slot_of v.messages) (rows_of v.marks sub.number) (λ r _. refl) (each-always (λ (r : MarkRow). Unit {0}) (rows_of v.marks sub.number) (λ r. tt))))
  where
    Joined : Slot → Type 0
    Joined s = slot_of v.messages (row_of sub.number s) ≡ s

    holds : MessageRow → Bool
    holds r = nat_eq r.topic snap.topic && (is_held_by r.number (hold_of snap) && meets sub.config.filter r.message)

sought-snap-in : (v : World) (sub : SubRow) (snap : SnapRow) → reply_in (seek_snap_in v sub snap) ≡ Empty → seek_snap_in v sub snap ≡ answers (with_slots_at sub.number (seek_list (held_items v sub snap) (slots_of v sub.number)) v) Empty
sought-snap-in v sub snap = cases sub.detached (nat_eq snap.topic sub.topic)
  where
    done : Outcome
    done = answers (with_slots_at sub.number (seek_list (held_items v sub snap) (slots_of v sub.number)) v) Empty

    cases : (detached same : Bool) → reply_in (cond detached (refuses v (FailedPrecondition Detached)) (cond same done (refuses v (FailedPrecondition SnapshotTopic)))) ≡ Empty → cond detached (refuses v (FailedPrecondition Detached)) (cond same done (refuses v (FailedPrecondition SnapshotTopic))) ≡ done
    cases true same told = absurd (cc (told))
    cases false true told = refl
    cases false false told = absurd (cc (told))

pub sought_to_snapshot : SoughtToSnapshot
sought_to_snapshot w at name snapshot sub snap h told found taken =
    let t = moment w at in
    let v = settled t w in
    let slots = seek_list (held_items v sub snap) (slots_of v sub.number) in
    let made = with_slots_at sub.number slots v in
    let open1 = room-to-answer (is_full v) v (seek_snap_at v name snapshot (sub_named v name) (snap_named v snapshot)) told in
    let fin : IsFinished t w.count v = settled-finished w at h open1.0 in
    let both : seek_snap_at v name snapshot (sub_named v name) (snap_named v snapshot) ≡ seek_snap_in v sub snap = λ i. seek_snap_at v name snapshot (found i) (taken i) in
    let done : outcome v t (SeekSnapshot name snapshot) ≡ answers made Empty =
    ap (λ b. cond b (refuses v Exhausted) (seek_snap_at v name snapshot (sub_named v name) (snap_named v snapshot))) open1.0 ∙ both ∙ sought-snap-in v sub snap (sym (ap reply_in both) ∙ open1.1) in
    let left : carried_out w t (SeekSnapshot name snapshot) ≡ expunge_world t made = answered t v made (outcome v t (SeekSnapshot name snapshot)) done in
    let own : sub_numbered v sub.number ≡ Some sub = found-numbered (λ (r : SubRow). r.number) (λ (r : SubRow). bytes_eq r.name name) v.subs sub fin.underway.subs.ascend found in
    record {
      marks = ap (λ u. slots_of u sub.number) left ∙ slots-expunged t made sub own ∙ ap (expunge t sub.config (holds_of v sub.topic)) (slots-put v sub.number slots (joined-list t w.count v sub snap fin));
      others = λ other ne. ap (λ (u : World). rows_of u.marks other) left ∙ rows-expunged t w.count v made.marks other (rows-beside v sub.number slots other ne) fin;
    }
