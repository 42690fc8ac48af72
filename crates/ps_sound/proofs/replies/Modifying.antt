-- What a change of deadlines tells is so in the world after it.
use Rattle.std.proofs.Common.{ℕ, ◌≡◌, ◌≢◌, ◌+◌, ◌*◌, ◌<◌, ◌≤◌, ◌⊎◌, Bool, true, false, cond, ◌&&◌, not, nat_eq, is_some, List, [], ◌∷◌, Option, Some, None, option_map, map, filter, find, refl, sym, ◌∙◌, ap, subst, arith, inl, inr, if◌then◌else◌}
use Rattle.std.specs.List.{list_any}
use Rattle.std.proofs.lemmas.Bool.{cond_both, and_parts, and_right, or_parts, eqb-true, eq-eqb, ne_eqb, both_ways, not-false, true_from_ne_false}
use Rattle.ps_base.specs.Moments.{last_moment}
use Rattle.ps_base.specs.declared.ack_id.AckId.{AckId}
use Rattle.ps_config.specs.declared.config.SubConfig.{SubConfig}
use Rattle.ps_model.specs.declared.command.Command.TheVariants.{ModifyAckDeadline}
use Rattle.ps_model.specs.declared.mark.Mark.{Mark}
use Rattle.ps_model.specs.declared.mark.Mark.TheVariants.{Backlog, Leased, Ahead, Done, Gone}
use Rattle.ps_model.specs.declared.mark.DoneCause.TheVariants.{Dead}
use Rattle.ps_model.specs.declared.mark.Slot.{Slot}
use Rattle.ps_model.specs.declared.mark.Ticket.{Ticket}
use Rattle.ps_model.specs.declared.reply.Reply.{Reply}
use Rattle.ps_model.specs.declared.reply.Reply.TheVariants.{Modified}
use Rattle.ps_model.specs.declared.world.World.{World}
use Rattle.ps_model.specs.declared.world.SubRow.{SubRow}
use Rattle.ps_model.specs.declared.world.MarkRow.{MarkRow}
use Rattle.ps_model.specs.declared.world.MessageRow.{MessageRow}
use Rattle.ps_model.specs.Same.{world_parts}
use Rattle.ps_model.specs.Lists.{once}
use Rattle.ps_model.specs.Slots.{is_out, is_earlier, any_earlier}
use Rattle.ps_model.specs.Retention.{caught_up_as}
use Rattle.ps_model.specs.Failing.{one_more, is_dead, retry_at, failed, fallen, mark_after_failing}
use Rattle.ps_model.specs.Modifying.{names, seconds_for, set_deadline, extended_by, extended_mark, extended, is_zero, is_given_up, modify_dead}
use Rattle.ps_model.specs.Worlds.{sub_named, remark_at, slot_of, slots_of}
use Rattle.ps_model.specs.Forwarding.{Letter, letters_of, dead_topic, forward}
use Rattle.ps_model.specs.Settling.{expunge_world, settle}
use Rattle.ps_model.specs.Answering.{same_id, ticket_of, items_of, modify_at}
use Rattle.ps_model.specs.Outcomes.{reply_in}
use Rattle.ps_model.specs.Standing.{mark_row}
use Rattle.ps_model.specs.Step.{moment, settled, finished}
use Rattle.ps_model.specs.History.{called}
use Rattle.ps_sound.specs.Told.{Found, OnMark, seconds_asked, gives_one_up, NamesLease, IsOutUntil, IsOutNoMore, IsModified, ModifiedIsSo}
use Rattle.ps_base.proofs.Lists.{each-always, each-then, from-any, any-none}
use Rattle.ps_sound.proofs.worlds.Earlier.{slots-of-rows}
use Rattle.ps_sound.proofs.worlds.Underway.{IsFinished}
use Rattle.ps_sound.proofs.phases.Stepping.{sound-settled}
use Rattle.ps_sound.proofs.phases.Ending.{failing-is}
use Rattle.ps_sound.proofs.commands.Lending.{is_at}
use Rattle.ps_sound.proofs.histories.ForGood.{left-out, once-any}
use Rattle.ps_sound.proofs.replies.Calls.{told-carried, told-left, settled-is}
use Rattle.ps_sound.proofs.replies.MarkRows.{HasMark, rows-own, has-remarked, has-forwarded, has-expunged, row-below}

-- a test of two numbers, turned round
eq-turned : (a b : ℕ) → nat_eq a b ≡ nat_eq b a
eq-turned a b = at (nat_eq b a) refl
  where
    at : (c : Bool) → nat_eq b a ≡ c → nat_eq a b ≡ c
    at true e = eq-eqb a b (sym (eqb-true b a e))
    at false e = ne_eqb a b (λ same. both_ways (nat_eq b a) e (eq-eqb b a (sym same)))

-- out under one lease is out under another where the two are one
out-turned : (lease other : ℕ) (mark : Mark) → is_out lease mark ≡ true → is_out other mark ≡ nat_eq other lease
out-turned lease other (Leased f own d) out = ap (λ l. nat_eq l other) (eqb-true own lease out) ∙ eq-turned lease other
out-turned lease other (Backlog f u l) out = absurd (cc (out))
out-turned lease other (Ahead f) out = absurd (cc (out))
out-turned lease other (Done c) out = absurd (cc (out))
out-turned lease other (Gone c) out = absurd (cc (out))

-- the items that name a message which is out are those of its id
asked-same : (sub : SubRow) (id : AckId) (rows : List MessageRow) (r : MarkRow) → id.sub ≡ sub.number → r.message ≡ id.message → is_out id.lease r.mark ≡ true
    → (items : List (AckId × ℕ)) (found : Option ℕ) → seconds_for (items_of sub items) (slot_of rows r) found ≡ seconds_asked id items found
asked-same sub id rows r its ek out [] found = refl
asked-same sub id rows r its ek out (x ∷ xs) found = cases (nat_eq x.0.sub sub.number) refl (asked-same sub id rows r its ek out xs)
  where
    own : nat_eq x.0.sub id.sub ≡ nat_eq x.0.sub sub.number
    own = ap (nat_eq x.0.sub) its

    names-same : nat_eq x.0.sub sub.number ≡ true → names (ticket_of x.0) (slot_of rows r) ≡ same_id x.0 id
    names-same e =
        ap (λ k. nat_eq k x.0.message && is_out x.0.lease r.mark) ek ∙ ap (λ b. b && is_out x.0.lease r.mark) (eq-turned id.message x.0.message)
        ∙ ap (λ b. nat_eq x.0.message id.message && b) (out-turned id.lease x.0.lease r.mark out)
        ∙ ap (λ b. b && (nat_eq x.0.message id.message && nat_eq x.0.lease id.lease)) (sym (own ∙ e))

    cases : (b : Bool) → nat_eq x.0.sub sub.number ≡ b → ((f : Option ℕ) → seconds_for (items_of sub xs) (slot_of rows r) f ≡ seconds_asked id xs f)
        → seconds_for (map (λ (y : AckId × ℕ). (ticket_of y.0, y.1)) (cond b (x ∷ filter (λ (y : AckId × ℕ). nat_eq y.0.sub sub.number) xs) (filter (λ (y : AckId × ℕ). nat_eq y.0.sub sub.number) xs))) (slot_of rows r) found
        ≡ seconds_asked id xs (if same_id x.0 id then Some x.1 else found)
    cases true e ih = ap (λ b. seconds_for (items_of sub xs) (slot_of rows r) (cond b (Some x.1) found)) (names-same e) ∙ ih (if same_id x.0 id then Some x.1 else found)
    cases false e ih = ih found ∙ ap (λ b. seconds_asked id xs (cond (b && (nat_eq x.0.message id.message && nat_eq x.0.lease id.lease)) (Some x.1) found)) (sym (own ∙ e))

-- where no item has 0 seconds, no lease is given up
none-given-up : (sub : SubRow) (s : Slot) (items : List (AckId × ℕ)) (found : Option ℕ) → gives_one_up items ≡ false → is_zero found ≡ false → is_zero (seconds_for (items_of sub items) s found) ≡ false
none-given-up sub s [] found none e = e
none-given-up sub s (x ∷ xs) found none e = cases (nat_eq x.0.sub sub.number) (none-given-up sub s xs)
  where
    p : (nat_eq x.1 0 ≡ false) × (gives_one_up xs ≡ false)
    p = or_parts (nat_eq x.1 0) (gives_one_up xs) none

    cases : (b : Bool) → ((f : Option ℕ) → gives_one_up xs ≡ false → is_zero f ≡ false → is_zero (seconds_for (items_of sub xs) s f) ≡ false)
        → is_zero (seconds_for (map (λ (y : AckId × ℕ). (ticket_of y.0, y.1)) (cond b (x ∷ filter (λ (y : AckId × ℕ). nat_eq y.0.sub sub.number) xs) (filter (λ (y : AckId × ℕ). nat_eq y.0.sub sub.number) xs))) s found) ≡ false
    cases true ih = ih (if names (ticket_of x.0) s then Some x.1 else found) p.1 (cond_both (names (ticket_of x.0) s) (Some x.1) found (λ f. is_zero f ≡ false) (λ _. p.0) (λ _. e))
    cases false ih = ih found p.1 e

-- a lease that failed, and one that fell back, are out no more
failed-out : (t : ℕ) (forward : Bool) (config : SubConfig) (lease : ℕ) (mark : Mark) → IsOutNoMore lease (failed t forward config mark)
failed-out t forward config lease (Leased f own d) =
    cond_both (is_dead config.dead_letter forward (one_more f)) (Done Dead) (Backlog (one_more f) (retry_at config.retry t (one_more f)) (Some own)) (IsOutNoMore lease) (λ _. refl) (λ _. refl)
failed-out t forward config lease (Backlog f u l) = refl
failed-out t forward config lease (Ahead f) = refl
failed-out t forward config lease (Done c) = refl
failed-out t forward config lease (Gone c) = refl

fallen-out : (lease : ℕ) (mark : Mark) → IsOutNoMore lease (fallen mark)
fallen-out lease (Leased f own d) = refl
fallen-out lease (Backlog f u l) = refl
fallen-out lease (Ahead f) = refl
fallen-out lease (Done c) = refl
fallen-out lease (Gone c) = refl

caught-out : (lease : ℕ) (mark : Mark) → IsOutNoMore lease mark → IsOutNoMore lease (caught_up_as mark)
caught-out lease (Leased f own d) e = e
caught-out lease (Backlog f u l) e = refl
caught-out lease (Ahead f) e = refl
caught-out lease (Done c) e = refl
caught-out lease (Gone c) e = refl

caught-until : (lease until : ℕ) (mark : Mark) → IsOutUntil lease until mark → IsOutUntil lease until (caught_up_as mark)
caught-until lease until mark (f, e) = (f, ap caught_up_as e)

-- what a deadline that is set, or 0 seconds, leaves of a lease
extended-out : (t lease seconds : ℕ) (mark : Mark) → is_out lease mark ≡ true → is_out lease (extended_by t mark (Some seconds)) ≡ true
extended-out t lease seconds mark out = cond_both (nat_eq seconds 0) mark (set_deadline (t + 1000 * seconds) mark) (λ m. is_out lease m ≡ true) (λ _. out) (λ _. at mark out)
  where
    at : (m : Mark) → is_out lease m ≡ true → is_out lease (set_deadline (t + 1000 * seconds) m) ≡ true
    at (Leased f own d) e = e
    at (Backlog f u l) e = absurd (cc (e))
    at (Ahead f) e = absurd (cc (e))
    at (Done c) e = absurd (cc (e))
    at (Gone c) e = absurd (cc (e))

extended-until : (t lease seconds : ℕ) (mark : Mark) → is_out lease mark ≡ true → seconds ≢ 0 → IsOutUntil lease (t + 1000 * seconds) (extended_by t mark (Some seconds))
extended-until t lease seconds mark out some = cond_both (nat_eq seconds 0) mark (set_deadline (t + 1000 * seconds) mark) (IsOutUntil lease (t + 1000 * seconds)) (λ e. absurd (some (eqb-true seconds 0 e))) (λ _. at mark out)
  where
    at : (m : Mark) → is_out lease m ≡ true → IsOutUntil lease (t + 1000 * seconds) (set_deadline (t + 1000 * seconds) m)
    at (Leased f own d) e = (f, ap (λ l. Leased f l (t + 1000 * seconds)) (eqb-true own lease e))
    at (Backlog f u l) e = absurd (cc (e))
    at (Ahead f) e = absurd (cc (e))
    at (Done c) e = absurd (cc (e))
    at (Gone c) e = absurd (cc (e))

-- A change of deadlines on the subscription, with an id that names a living lease.
module _ (t count : ℕ) (v : World) (sub : SubRow) (items : List (AckId × ℕ)) (id : AckId) (seconds : ℕ) (fin : IsFinished t count v) (its : id.sub ≡ sub.number)
    (lives : list_any (names (ticket_of id)) (slots_of v sub.number) ≡ true) (asked : seconds_asked id items None ≡ Some seconds) where
  abbrev asks : List (Ticket × ℕ)
  asks = items_of sub items

  abbrev slots : List Slot
  slots = extended t asks (slots_of v sub.number)

  abbrev forwards : Bool
  forwards = is_some (dead_topic v sub)

  abbrev set : World
  set = remark_at sub.number (extended_mark t asks) v

  abbrev made : World
  made = remark_at sub.number (mark_after_failing (is_given_up asks) t forwards sub.config slots) set

  abbrev letters : List Letter
  letters = letters_of v sub (modify_dead t forwards sub.config asks (slots_of v sub.number))

  abbrev left : World
  left = expunge_world t (forward t letters made)

  abbrev IsOut : Mark → Type 0
  IsOut mark = is_out id.lease mark ≡ true

  -- the message is out under the lease
  out-mark : HasMark IsOut v sub.number id.message
  out-mark = from-any (HasMark IsOut v sub.number id.message) (names (ticket_of id)) (slots_of v sub.number) lives
      (slots-of-rows (λ s. names (ticket_of id) s ≡ true → HasMark IsOut v sub.number id.message) v sub.number
      (each-then (λ (r : MarkRow). find (is_at r.sub r.message) v.marks ≡ Some r) (λ (r : MarkRow). r.sub ≡ sub.number → names (ticket_of id) (slot_of v.messages r) ≡ true → HasMark IsOut v sub.number id.message) v.marks each (rows-own v.marks fin.underway.marks.ascend)))
    where
      each : (r : MarkRow) → find (is_at r.sub r.message) v.marks ≡ Some r → r.sub ≡ sub.number → names (ticket_of id) (slot_of v.messages r) ≡ true → HasMark IsOut v sub.number id.message
      each r own same fit =
          let p = and_parts (nat_eq r.message id.message) (is_out id.lease r.mark) fit in
          subst (λ n. HasMark IsOut v n id.message) same (subst (λ k. HasMark IsOut v r.sub k) (eqb-true r.message id.message p.0) (subst (Found (λ (x : MarkRow). IsOut x.mark)) (sym own) p.1))

  below : id.message < v.next_message
  below = at (mark_row v sub.number id.message) refl out-mark
    where
      at : (o : Option MarkRow) → mark_row v sub.number id.message ≡ o → Found (λ (r : MarkRow). IsOut r.mark) o → id.message < v.next_message
      at None eo p = absurd p
      at (Some r) eo p = row-below t count sub.number id.message v r fin eo

  -- its mark once the deadlines are set
  IsSet : Mark → Type 0
  IsSet mark = (is_out id.lease mark ≡ true) × (seconds ≢ 0 → IsOutUntil id.lease (t + 1000 * seconds) mark)

  set-mark : HasMark IsSet set sub.number id.message
  unfolding IsSet
  set-mark = has-remarked IsOut IsSet sub.number id.message sub.number (extended_mark t asks) v
      (λ r _ es ek out. subst IsSet (sym (ap (λ b. cond b (extended_mark t asks (slot_of v.messages r)) r.mark) (eq-eqb r.sub sub.number es) ∙ ap (extended_by t r.mark) (asked-same sub id v.messages r its ek out items None ∙ asked)))
      (extended-out t id.lease seconds r.mark out, extended-until t id.lease seconds r.mark out)) out-mark

  -- whether it is given up
  given-up : (r : MarkRow) → r.message ≡ id.message → is_out id.lease r.mark ≡ true → is_given_up asks (slot_of v.messages r) ≡ nat_eq seconds 0
  given-up r ek out = ap is_zero (asked-same sub id v.messages r its ek out items None ∙ asked)

  -- the last phases leave what catching up leaves
  finish : (Q : Mark → Type 0) → ((mark : Mark) → Q mark → Q (caught_up_as mark))
      → ((r : MarkRow) → r.message ≡ id.message → IsSet r.mark → Q (mark_after_failing (is_given_up asks) t forwards sub.config slots (slot_of v.messages r)))
      → HasMark Q left sub.number id.message
  finish Q catches new =
      has-expunged Q sub.number id.message t (forward t letters made) catches
      (has-forwarded Q sub.number id.message t made letters below
      (has-remarked IsSet Q sub.number id.message sub.number (mark_after_failing (is_given_up asks) t forwards sub.config slots) set
      (λ r _ es ek is. subst Q (sym (ap (λ b. cond b (mark_after_failing (is_given_up asks) t forwards sub.config slots (slot_of v.messages r)) r.mark) (eq-eqb r.sub sub.number es))) (new r ek is)) set-mark))

  ended : seconds ≡ 0 → HasMark (IsOutNoMore id.lease) left sub.number id.message
  unfolding IsSet
  ended none = finish (IsOutNoMore id.lease) (caught-out id.lease) (λ r ek is.
      let s : Slot = slot_of v.messages r in
      subst (λ b. IsOutNoMore id.lease (cond b (failed t forwards sub.config r.mark) (if any_earlier sub.config.ordering (is_given_up asks) slots s then fallen r.mark else r.mark)))
      (sym (given-up r ek is.0 ∙ ap (λ n. nat_eq n 0) none)) (failed-out t forwards sub.config id.lease r.mark))

  set-or-fell : seconds ≢ 0 → HasMark (λ mark. IsOutUntil id.lease (t + 1000 * seconds) mark ⊎ IsOutNoMore id.lease mark) left sub.number id.message
  unfolding IsSet
  set-or-fell some = finish Either caught (λ r ek is. failing-is Either (is_given_up asks) t forwards sub.config slots (slot_of v.messages r) (inr (failed-out t forwards sub.config id.lease r.mark)) (inr (fallen-out id.lease r.mark)) (inl (is.1 some)))
    where
      Either : Mark → Type 0
      Either mark = IsOutUntil id.lease (t + 1000 * seconds) mark ⊎ IsOutNoMore id.lease mark

      caught : (mark : Mark) → Either mark → Either (caught_up_as mark)
      caught mark (inl p) = inl (caught-until id.lease (t + 1000 * seconds) mark p)
      caught mark (inr p) = inr (caught-out id.lease mark p)

  deadline-set : seconds ≢ 0 → gives_one_up items ≡ false → HasMark (IsOutUntil id.lease (t + 1000 * seconds)) left sub.number id.message
  unfolding IsSet
  deadline-set some none = finish (IsOutUntil id.lease (t + 1000 * seconds)) (caught-until id.lease (t + 1000 * seconds)) (λ r ek is.
      let s : Slot = slot_of v.messages r in
      subst (IsOutUntil id.lease (t + 1000 * seconds))
      (sym (ap (λ b. cond b (failed t forwards sub.config r.mark) (if any_earlier sub.config.ordering (is_given_up asks) slots s then fallen r.mark else r.mark)) (none-given-up sub s items None none refl)
      ∙ ap (λ b. cond b (fallen r.mark) r.mark) (none-earlier s))) (is.1 some))
    where
      none-earlier : (s : Slot) → any_earlier sub.config.ordering (is_given_up asks) slots s ≡ false
      none-earlier s = any-none (λ e. is_earlier sub.config.ordering e s && is_given_up asks e) slots
          (each-always (λ (e : Slot). (is_earlier sub.config.ordering e s && is_given_up asks e) ≡ false) slots (λ e. and_right (is_earlier sub.config.ordering e s) (is_given_up asks e) (none-given-up sub e items None none refl)))

-- an id that an item has is among the ids
same-turned : (a b : AckId) → same_id a b ≡ same_id b a
same-turned a b = λ i. eq-turned a.sub b.sub i && (eq-turned a.message b.message i && eq-turned a.lease b.lease i)

asked-listed : (id : AckId) (items : List (AckId × ℕ)) (found : Option ℕ) → list_any (same_id id) (map (λ (x : AckId × ℕ). x.0) items) ≡ false → seconds_asked id items found ≡ found
asked-listed id [] found none = refl
asked-listed id (x ∷ xs) found none =
    let p = or_parts (same_id id x.0) (list_any (same_id id) (map (λ (y : AckId × ℕ). y.0) xs)) none in
    ap (λ b. seconds_asked id xs (cond b (Some x.1) found)) (same-turned x.0 id ∙ p.0) ∙ asked-listed id xs found p.1

abbrev exactly_once_in : Reply → Bool
exactly_once_in (Modified exactly_once invalid) = exactly_once
exactly_once_in _ = false

abbrev invalid_in : Reply → List AckId
invalid_in (Modified exactly_once invalid) = invalid
invalid_in _ = []

pub modified_is_so : ModifiedIsSo
modified_is_so w at name items exactly_once invalid id seconds h told asked = by_sub (sub_named v name) refl (told-carried w at (ModifyAckDeadline name items) answer told refl) (told-left w at (ModifyAckDeadline name items) answer told refl)
  where
    answer : Reply
    answer = Modified exactly_once invalid

    t : ℕ
    t = moment w at

    v : World
    v = settle t w

    after : World
    after = called w (at, ModifyAckDeadline name items)

    later : w.now ≤ t
    later = omega (arith, h.in_time.now)

    last : t ≤ last_moment
    last = omega arith

    is : IsFinished t w.count v
    is = sound-settled t w later last h

    here : settled t w ≡ v
    here = settled-is w at (ModifyAckDeadline name items) answer told refl

    ids : List AckId
    ids = map (λ (x : AckId × ℕ). x.0) items

    listed : list_any (same_id id) ids ≡ true
    listed = true_from_ne_false (list_any (same_id id) ids) (λ none. let e : None ≡ Some seconds = sym (asked-listed id items None none) ∙ asked in absurd (cc (e)))

    Names : World → SubRow → Type 0
    Names u row = (id.sub ≡ row.number) × (list_any (names (ticket_of id)) (slots_of u row.number) ≡ true)

    -- what is found in the world that the command leaves, is found in the world after the call
    found-after : (P : Mark → Type 0) (sub : SubRow) (u : World) → id.sub ≡ sub.number → after.marks ≡ u.marks → HasMark P u sub.number id.message → OnMark P after id
    found-after P sub u its marks p = on (mark_row after id.sub id.message) (subst (λ rows. Found (λ (r : MarkRow). P r.mark) (find (is_at id.sub id.message) rows)) (sym marks) (subst (λ n. HasMark P u n id.message) (sym its) p))
      where
        on : (o : Option MarkRow) → Found (λ (r : MarkRow). P r.mark) o → Found P (option_map (λ (r : MarkRow). r.mark) o)
        on None p = p
        on (Some r) p = p

    Goal : Type 0
    Goal = record {
      valid : exactly_once ≡ true → list_any (same_id id) invalid ≡ false → NamesLease (settled (moment w at) w) name id;
      modified : NamesLease (settled (moment w at) w) name id → IsModified (called w (at, ModifyAckDeadline name items)) (moment w at) items id seconds;
    }

    by_sub : (o : Option SubRow) → sub_named v name ≡ o → reply_in (modify_at v t name items o) ≡ answer → world_parts after ≡ world_parts (finished t v (modify_at v t name items o)) → Goal
    by_sub None found e parts = absurd (cc (e))
    by_sub (Some sub) found e parts = record { valid = valid; modified = modified }
      where
        marks : after.marks ≡ (finished t v (modify_at v t name items (Some sub))).marks
        marks = ap (λ p. p.1.1.1.1.1.1.1.1) parts

        unknown : AckId → Bool
        unknown x = not (nat_eq x.sub sub.number && list_any (names (ticket_of x)) (slots_of v sub.number))

        valid : exactly_once ≡ true → list_any (same_id id) invalid ≡ false → NamesLease (settled (moment w at) w) name id
        valid mode none =
            let mode' : sub.config.exactly_once ≡ true = ap exactly_once_in e ∙ mode in
            let listed' : list_any (same_id id) (filter unknown (once same_id ids)) ≡ false = ap (λ b. list_any (same_id id) (cond b (filter unknown (once same_id ids)) [])) (sym mode') ∙ ap (list_any (same_id id)) (ap invalid_in e) ∙ none in
            let p = and_parts (nat_eq id.sub sub.number) (list_any (names (ticket_of id)) (slots_of v sub.number)) (not-false (nat_eq id.sub sub.number && list_any (names (ticket_of id)) (slots_of v sub.number))
            (left-out unknown id (once same_id ids) (once-any id [] ids refl listed) listed')) in
            subst (λ (u : World). Found (Names u) (sub_named u name)) (sym here) (subst (Found (Names v)) (sym found) (eqb-true id.sub sub.number p.0, p.1))

        modified : NamesLease (settled (moment w at) w) name id → IsModified (called w (at, ModifyAckDeadline name items)) (moment w at) items id seconds
        modified names_it = record {
          ended = λ none. found-after (IsOutNoMore id.lease) sub leaving p.0 marks (ended t w.count v sub items id seconds is p.0 p.1 asked none);
          set = λ some alone. found-after (IsOutUntil id.lease (t + 1000 * seconds)) sub leaving p.0 marks (deadline-set t w.count v sub items id seconds is p.0 p.1 asked some alone);
          set_or_fell = λ some. found-after (λ mark. IsOutUntil id.lease (t + 1000 * seconds) mark ⊎ IsOutNoMore id.lease mark) sub leaving p.0 marks (set-or-fell t w.count v sub items id seconds is p.0 p.1 asked some);
        }
          where
            p : Names v sub
            p = subst (Found (Names v)) found (subst (λ (u : World). Found (Names u) (sub_named u name)) here names_it)

            leaving : World
            leaving = left t w.count v sub items id seconds is p.0 p.1 asked
