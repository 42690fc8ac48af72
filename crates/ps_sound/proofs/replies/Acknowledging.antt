-- What an acknowledgement tells is so in the world after it.
use Rattle.std.proofs.Common.{ℕ, ◌≡◌, ◌≤◌, Bool, true, false, cond, ◌&&◌, nat_eq, List, [], Option, Some, None, option_map, find, refl, sym, ◌∙◌, ap, subst, arith, if◌then◌else◌}
use Rattle.std.specs.List.{AllByRecursion, list_any}
use Rattle.std.proofs.lemmas.Bool.{and_parts, and_from, eqb-true, eq-eqb}
use Rattle.ps_base.specs.Moments.{last_moment}
use Rattle.ps_base.specs.declared.ack_id.AckId.{AckId}
use Rattle.ps_model.specs.declared.command.Command.TheVariants.{Acknowledge}
use Rattle.ps_model.specs.declared.mark.Mark.{Mark}
use Rattle.ps_model.specs.declared.mark.Mark.TheVariants.{Backlog, Leased, Ahead, Done, Gone}
use Rattle.ps_model.specs.declared.mark.DoneCause.TheVariants.{Acknowledged}
use Rattle.ps_model.specs.declared.mark.Slot.{Slot}
use Rattle.ps_model.specs.declared.mark.Ticket.{Ticket}
use Rattle.ps_model.specs.declared.reply.Reply.{Reply}
use Rattle.ps_model.specs.declared.reply.Reply.TheVariants.{Acked}
use Rattle.ps_model.specs.declared.world.World.{World}
use Rattle.ps_model.specs.declared.world.SubRow.{SubRow}
use Rattle.ps_model.specs.declared.world.MarkRow.{MarkRow}
use Rattle.ps_model.specs.Same.{world_parts}
use Rattle.ps_model.specs.Slots.{is_ahead, failures_of}
use Rattle.ps_model.specs.Retention.{caught_up_as}
use Rattle.ps_model.specs.Acknowledging.{may_ack, fits, is_good, is_named, is_early, is_unordered, mark_after_ack}
use Rattle.ps_model.specs.Worlds.{sub_named, remark_at, slot_of, slots_of}
use Rattle.ps_model.specs.Forwarding.{forward}
use Rattle.ps_model.specs.Settling.{expunge_world, settle}
use Rattle.ps_model.specs.Answering.{same_id, ticket_of, tickets_of, acknowledge_at}
use Rattle.ps_model.specs.Outcomes.{reply_in}
use Rattle.ps_model.specs.Standing.{IsAcknowledged, standing_with, mark_row}
use Rattle.ps_model.specs.Step.{moment, settled, finished}
use Rattle.ps_model.specs.History.{called}
use Rattle.ps_model.specs.Sound.{Ordered, Precedes}
use Rattle.ps_model.specs.Laws.{took}
use Rattle.ps_sound.specs.Told.{Found, mark_of, OnMark, MayAcknowledge, AcknowledgedIsSo}
use Rattle.ps_base.proofs.Lists.{each-then, each-found, from-any}
use Rattle.ps_sound.proofs.worlds.Earlier.{rows-of-slots, slots-of-rows}
use Rattle.ps_sound.proofs.worlds.Marked.{at_sub}
use Rattle.ps_sound.proofs.worlds.Underway.{IsFinished}
use Rattle.ps_sound.proofs.phases.Stepping.{sound-settled}
use Rattle.ps_sound.proofs.phases.Resting.{forward-none}
use Rattle.ps_sound.proofs.commands.Lending.{is_at}
use Rattle.ps_sound.proofs.histories.ForGood.{none-any, ticket-any, once-mode, valid, in-turn}
use Rattle.ps_sound.proofs.replies.Calls.{told-carried, told-left, settled-is}
use Rattle.ps_sound.proofs.replies.MarkRows.{HasMark, rows-own, has-remarked, has-expunged}

-- An acknowledgement on the subscription, by an id that is good for it.
module _ (t : ℕ) (v : World) (sub : SubRow) (ids : List AckId) (id : AckId) (order : Ordered Precedes v.marks) (listed : list_any (same_id id) ids ≡ true) (its : id.sub ≡ sub.number)
    (good : is_good sub.config.exactly_once (slots_of v sub.number) (ticket_of id) ≡ true) where
  abbrev slots : List Slot
  slots = slots_of v sub.number

  abbrev tickets : List Ticket
  tickets = tickets_of sub ids

  abbrev left : World
  left = expunge_world t (forward t [] (remark_at sub.number (mark_after_ack sub.config tickets slots) v))

  May : Mark → Type 0
  May mark = may_ack sub.config.exactly_once id.lease mark ≡ true

  -- the message is there under this lease
  may-mark : HasMark May v sub.number id.message
  unfolding May
  may-mark = from-any (HasMark May v sub.number id.message) (fits sub.config.exactly_once (ticket_of id)) slots good
      (slots-of-rows (λ s. fits sub.config.exactly_once (ticket_of id) s ≡ true → HasMark May v sub.number id.message) v sub.number
      (each-then (λ (r : MarkRow). find (is_at r.sub r.message) v.marks ≡ Some r) (λ (r : MarkRow). r.sub ≡ sub.number → fits sub.config.exactly_once (ticket_of id) (slot_of v.messages r) ≡ true → HasMark May v sub.number id.message) v.marks each (rows-own v.marks order)))
    where
      each : (r : MarkRow) → find (is_at r.sub r.message) v.marks ≡ Some r → r.sub ≡ sub.number → fits sub.config.exactly_once (ticket_of id) (slot_of v.messages r) ≡ true → HasMark May v sub.number id.message
      each r own same fit =
          let p = and_parts (nat_eq r.message id.message) (may_ack sub.config.exactly_once id.lease r.mark) fit in
          subst (λ n. HasMark May v n id.message) same (subst (λ k. HasMark May v r.sub k) (eqb-true r.message id.message p.0) (subst (Found (λ (x : MarkRow). May x.mark)) (sym own) p.1))

  fits-row : (r : MarkRow) → r.message ≡ id.message → May r.mark → fits sub.config.exactly_once (ticket_of id) (slot_of v.messages r) ≡ true
  unfolding May
  fits-row r ek may = and_from (nat_eq r.message id.message) (may_ack sub.config.exactly_once id.lease r.mark) (eq-eqb r.message id.message ek) may

  -- what an early acknowledgement and what one in turn leaves
  abbrev by_turn : MarkRow → Bool → Mark
  by_turn r early = if early then if sub.config.exactly_once then r.mark else Ahead (failures_of r.mark) else Done Acknowledged

  acknowledged : (Q : Mark → Type 0) → ((mark : Mark) → Q mark → Q (caught_up_as mark))
      → ((r : MarkRow) → mark_row v sub.number id.message ≡ Some r → r.sub ≡ sub.number → r.message ≡ id.message → May r.mark → Q (by_turn r (is_early sub.config tickets slots (slot_of v.messages r))))
      → HasMark Q left sub.number id.message
  acknowledged Q catches new =
      has-expunged Q sub.number id.message t (forward t [] made) catches
      (subst (λ (u : World). HasMark Q u sub.number id.message) (sym (forward-none t made))
      (has-remarked May Q sub.number id.message sub.number (mark_after_ack sub.config tickets slots) v row may-mark))
    where
      made : World
      made = remark_at sub.number (mark_after_ack sub.config tickets slots) v

      row : (r : MarkRow) → mark_row v sub.number id.message ≡ Some r → r.sub ≡ sub.number → r.message ≡ id.message → May r.mark → Q (at_sub sub.number (mark_after_ack sub.config tickets slots) v.messages r)
      row r found es ek may =
          let named : is_named sub.config.exactly_once tickets (slot_of v.messages r) ≡ true = ticket-any (λ x. fits sub.config.exactly_once x (slot_of v.messages r)) sub id ids (fits-row r ek may) (eq-eqb id.sub sub.number its) listed in
          subst Q (sym (ap (λ b. cond b (mark_after_ack sub.config tickets slots (slot_of v.messages r)) r.mark) (eq-eqb r.sub sub.number es)
          ∙ ap (λ b. cond b (by_turn r (is_early sub.config tickets slots (slot_of v.messages r))) r.mark) named)) (new r found es ek may)

  -- none is early, where it isn't out of order
  pub done-in-turn : is_unordered sub.config tickets slots (ticket_of id) ≡ false → HasMark (λ mark. mark ≡ Done Acknowledged) left sub.number id.message
  done-in-turn turn = acknowledged (λ mark. mark ≡ Done Acknowledged) (λ mark e. ap caught_up_as e) (λ r found es ek may. ap (by_turn r) (early r es (fits-row r ek may) (each-found Turn (is_at sub.number id.message) v.marks r found turns)))
    where
      Turn : MarkRow → Type 0
      Turn r = r.sub ≡ sub.number → (fits sub.config.exactly_once (ticket_of id) (slot_of v.messages r) && is_early sub.config tickets slots (slot_of v.messages r)) ≡ false

      turns : AllByRecursion Turn v.marks
      turns = rows-of-slots (λ (s : Slot). (fits sub.config.exactly_once (ticket_of id) s && is_early sub.config tickets slots s) ≡ false) v sub.number
          (none-any (λ s. fits sub.config.exactly_once (ticket_of id) s && is_early sub.config tickets slots s) slots turn)

      early : (r : MarkRow) → r.sub ≡ sub.number → fits sub.config.exactly_once (ticket_of id) (slot_of v.messages r) ≡ true → Turn r → is_early sub.config tickets slots (slot_of v.messages r) ≡ false
      early r es fit turn = sym (ap (λ b. b && is_early sub.config tickets slots (slot_of v.messages r)) fit) ∙ turn es

  -- outside exactly-once mode it is acknowledged, maybe ahead of its turn
  pub done-at-least-once : sub.config.exactly_once ≡ false → HasMark (λ mark. standing_with mark ≡ IsAcknowledged) left sub.number id.message
  done-at-least-once mode = acknowledged (λ mark. standing_with mark ≡ IsAcknowledged) caught (λ r _ _ _ _. at r (is_early sub.config tickets slots (slot_of v.messages r)))
    where
      caught : (mark : Mark) → standing_with mark ≡ IsAcknowledged → standing_with (caught_up_as mark) ≡ IsAcknowledged
      caught (Backlog f u l) e = e
      caught (Leased f l d) e = e
      caught (Ahead f) e = refl
      caught (Done c) e = e
      caught (Gone c) e = e

      at : (r : MarkRow) (early : Bool) → standing_with (by_turn r early) ≡ IsAcknowledged
      at r true = ap (λ b. standing_with (if b then r.mark else Ahead (failures_of r.mark))) mode
      at r false = refl

weaker : {A : Type 0} (P Q : A → Type 0) → ((x : A) → P x → Q x) → (o : Option A) → Found P o → Found Q o
weaker P Q k None p = p
weaker P Q k (Some x) p = k x p

abbrev exactly_once_in : Reply → Bool
exactly_once_in (Acked exactly_once invalid unordered) = exactly_once
exactly_once_in _ = false

pub acknowledged_is_so : AcknowledgedIsSo
acknowledged_is_so w at name ids exactly_once invalid unordered id h told listed = by_sub (sub_named v name) refl (told-carried w at (Acknowledge name ids) answer told refl) (told-left w at (Acknowledge name ids) answer told refl)
  where
    answer : Reply
    answer = Acked exactly_once invalid unordered

    t : ℕ
    t = moment w at

    v : World
    v = settle t w

    after : World
    after = called w (at, Acknowledge name ids)

    later : w.now ≤ t
    later = omega (arith, h.in_time.now)

    last : t ≤ last_moment
    last = omega arith

    is : IsFinished t w.count v
    is = sound-settled t w later last h

    -- what is found in the world that the command leaves, is found in the world after the call
    found-after : (P : Mark → Type 0) (sub : SubRow) (u : World) → id.sub ≡ sub.number → after.marks ≡ u.marks → HasMark P u sub.number id.message → OnMark P after id
    found-after P sub u its marks p = on (mark_row after id.sub id.message) (subst (λ rows. Found (λ (r : MarkRow). P r.mark) (find (is_at id.sub id.message) rows)) (sym marks) (subst (λ n. HasMark P u n id.message) (sym its) p))
      where
        on : (o : Option MarkRow) → Found (λ (r : MarkRow). P r.mark) o → Found P (option_map (λ (r : MarkRow). r.mark) o)
        on None p = p
        on (Some r) p = p

    Goal : Type 0
    Goal = record {
      once : took id (Acked exactly_once invalid unordered) ≡ true → OnMark (λ mark. (standing_with mark ≡ IsAcknowledged) × (is_ahead mark ≡ false)) after id;
      at_least_once : exactly_once ≡ false → MayAcknowledge (settled (moment w at) w) name id → OnMark (λ mark. standing_with mark ≡ IsAcknowledged) after id;
    }

    by_sub : (o : Option SubRow) → sub_named v name ≡ o → reply_in (acknowledge_at v name ids o) ≡ answer → world_parts after ≡ world_parts (finished t v (acknowledge_at v name ids o)) → Goal
    by_sub None found e parts = absurd (cc (e))
    by_sub (Some sub) found e parts = record { once = once; at_least_once = at_least }
      where
        order : Ordered Precedes v.marks
        order = is.underway.marks.ascend

        marks : after.marks ≡ (finished t v (acknowledge_at v name ids (Some sub))).marks
        marks = ap (λ p. p.1.1.1.1.1.1.1.1) parts

        once : took id (Acked exactly_once invalid unordered) ≡ true → OnMark (λ mark. (standing_with mark ≡ IsAcknowledged) × (is_ahead mark ≡ false)) after id
        once taken =
            let taken' : took id (reply_in (acknowledge_at v name ids (Some sub))) ≡ true = ap (took id) e ∙ taken in
            let good = valid t w.count v name ids id is listed sub found taken' in
            let its : id.sub ≡ sub.number = eqb-true id.sub sub.number good.0 in
            let good' : is_good sub.config.exactly_once (slots_of v sub.number) (ticket_of id) ≡ true = ap (λ b. is_good b (slots_of v sub.number) (ticket_of id)) (once-mode t w.count v name ids id is listed sub found taken') ∙ good.1 in
            weaker (λ mark. mark ≡ Done Acknowledged) (λ mark. (standing_with mark ≡ IsAcknowledged) × (is_ahead mark ≡ false)) (λ mark same. (ap standing_with same, ap is_ahead same)) (mark_of after id)
            (found-after (λ mark. mark ≡ Done Acknowledged) sub (left t v sub ids id order listed its good') its marks (done-in-turn t v sub ids id order listed its good' (in-turn t w.count v name ids id is listed sub found taken')))

        at_least : exactly_once ≡ false → MayAcknowledge (settled (moment w at) w) name id → OnMark (λ mark. standing_with mark ≡ IsAcknowledged) after id
        at_least mode may =
            let its : id.sub ≡ sub.number = may-here.0 in
            let mode' : sub.config.exactly_once ≡ false = ap exactly_once_in e ∙ mode in
            let good : is_good sub.config.exactly_once (slots_of v sub.number) (ticket_of id) ≡ true = ap (λ b. is_good b (slots_of v sub.number) (ticket_of id)) mode' ∙ may-here.1 in
            found-after (λ mark. standing_with mark ≡ IsAcknowledged) sub (left t v sub ids id order listed its good) its marks (done-at-least-once t v sub ids id order listed its good mode')
          where
            May : World → SubRow → Type 0
            May u row = (id.sub ≡ row.number) × (is_good false (slots_of u row.number) (ticket_of id) ≡ true)

            may-here : May v sub
            may-here = subst (Found (May v)) found (subst (λ (u : World). Found (May u) (sub_named u name)) (settled-is w at (Acknowledge name ids) answer told refl) may)
