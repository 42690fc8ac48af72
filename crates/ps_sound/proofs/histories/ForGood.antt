-- What was acknowledged in exactly-once mode isn't handed out again without a seek.
use Rattle.std.proofs.Common.{ℕ, ◌≡◌, ◌<◌, ◌≤◌, Bool, true, false, cond, ◌&&◌, ◌||◌, not, nat_eq, is_some, List, [], ◌∷◌, Option, Some, None, map, filter, refl, sym, ◌∙◌, ap, subst, arith, inl, inr, if◌then◌else◌}
use Rattle.std.specs.List.{AllByRecursion, list_any}
use Rattle.std.proofs.lemmas.Bool.{cond_both, and_parts, and_from, and_left, or_parts, or_from, or_left, or_right, eqb-true, eq-eqb, not-true, not-false, both_ways, false_from_ne_true, false≢true}
use Rattle.ps_base.specs.Moments.{last_moment}
use Rattle.ps_base.specs.declared.ack_id.AckId.{AckId}
use Rattle.ps_base.specs.declared.reason.Reason.{Reason}
use Rattle.ps_base.specs.declared.refusal.Refusal.TheVariants.{Exhausted}
use Rattle.ps_model.specs.declared.command.Command.{Command}
use Rattle.ps_model.specs.declared.command.Command.TheVariants.{Acknowledge}
use Rattle.ps_model.specs.declared.command.Entry.{Entry}
use Rattle.ps_model.specs.declared.mark.Mark.TheVariants.{Done, Ahead}
use Rattle.ps_model.specs.declared.mark.DoneCause.TheVariants.{Acknowledged}
use Rattle.ps_model.specs.declared.mark.Slot.{Slot}
use Rattle.ps_model.specs.declared.mark.Ticket.{Ticket}
use Rattle.ps_model.specs.declared.reply.Reply.TheVariants.{Acked}
use Rattle.ps_model.specs.declared.world.World.{World}
use Rattle.ps_model.specs.declared.world.SubRow.{SubRow}
use Rattle.ps_model.specs.declared.world.MessageRow.{MessageRow}
use Rattle.ps_model.specs.declared.world.MarkRow.{MarkRow}
use Rattle.ps_model.specs.Lists.{once_after, once}
use Rattle.ps_model.specs.Slots.{failures_of}
use Rattle.ps_model.specs.Acknowledging.{may_ack, fits, is_named, is_early, is_good, is_unordered, mark_after_ack}
use Rattle.ps_model.specs.Worlds.{sub_named, sub_numbered, message_numbered, remark_row, remark_at, slot_of, slots_of}
use Rattle.ps_model.specs.Forwarding.{forward}
use Rattle.ps_model.specs.Settling.{settle}
use Rattle.ps_model.specs.Answering.{same_id, ticket_of, tickets_of, invalid_ids, unordered_ids, acknowledge_at}
use Rattle.ps_model.specs.Outcomes.{Outcome, refuses, reply_in}
use Rattle.ps_model.specs.Checks.{argument_fault}
use Rattle.ps_model.specs.Commands.{is_full, checked, outcome}
use Rattle.ps_model.specs.Step.{moment, settled, finished, carried_out, step, reply}
use Rattle.ps_model.specs.History.{after}
use Rattle.ps_model.specs.Sound.{Ordered, Precedes, IsNamed, IsSound}
use Rattle.ps_model.specs.Laws.{AcknowledgedForGood, acknowledges, took, failed_in, hands_out, some_step, seeks}
use Rattle.ps_base.proofs.Lists.{each-then, each-both, each-map, each-found, found-passes, any-none, from-any}
use Rattle.ps_sound.proofs.worlds.Earlier.{rows-of-slots}
use Rattle.ps_sound.proofs.worlds.Underway.{IsFinished}
use Rattle.ps_sound.proofs.commands.Lending.{is_at}
use Rattle.ps_sound.proofs.histories.Pairs.{AtPair, PairIs, pair-expunged, pair-forwarded}
use Rattle.ps_sound.proofs.histories.Dealt.{IsDealt, dealt-lasting, dealt-step, dealt-not-handed}
use Rattle.ps_sound.proofs.phases.Stepping.{accepted-room, sound-settled}

-- an id is the one that it is the same as
pub id-same : (a b : AckId) → same_id a b ≡ true → a ≡ b
id-same a b e =
    let p = and_parts (nat_eq a.sub b.sub) (nat_eq a.message b.message && nat_eq a.lease b.lease) e in
    let q = and_parts (nat_eq a.message b.message) (nat_eq a.lease b.lease) p.1 in
    λ i. record { sub = eqb-true a.sub b.sub p.0 i; message = eqb-true a.message b.message q.0 i; lease = eqb-true a.lease b.lease q.1 i }

-- the test of one id that is among them fails, where none of those that pass it is the id
pub left-out : (test : AckId → Bool) (id : AckId) (ids : List AckId) → list_any (same_id id) ids ≡ true → list_any (same_id id) (filter test ids) ≡ false → test id ≡ false
left-out test id [] e none = absurd (false≢true e)
left-out test id (x ∷ xs) e none = cases (same_id id x) refl (test x) refl e none (left-out test id xs)
  where
    cases : (a : Bool) → same_id id x ≡ a → (b : Bool) → test x ≡ b → (a || list_any (same_id id) xs) ≡ true → list_any (same_id id) (cond b (x ∷ filter test xs) (filter test xs)) ≡ false
        → (list_any (same_id id) xs ≡ true → list_any (same_id id) (filter test xs) ≡ false → test id ≡ false) → test id ≡ false
    cases true ea false eb e none rest = ap test (id-same id x ea) ∙ eb
    cases true ea true eb e none rest = absurd (both_ways (same_id id x) (or_parts (same_id id x) (list_any (same_id id) (filter test xs)) none).0 ea)
    cases false ea true eb e none rest = rest e (or_parts (same_id id x) (list_any (same_id id) (filter test xs)) none).1
    cases false ea false eb e none rest = rest e none

-- taking each once leaves every one of them
pub once-any : (id : AckId) (seen ids : List AckId) → list_any (same_id id) seen ≡ false → list_any (same_id id) ids ≡ true → list_any (same_id id) (once_after same_id seen ids) ≡ true
once-any id seen [] none e = absurd (false≢true e)
once-any id seen (x ∷ xs) none e = cases (same_id id x) refl (list_any (same_id x) seen) refl e
    (λ e'. once-any id seen xs none e') (λ ea e'. once-any id (x ∷ seen) xs (or_from (same_id id x) (list_any (same_id id) seen) ea none) e')
  where
    cases : (a : Bool) → same_id id x ≡ a → (b : Bool) → list_any (same_id x) seen ≡ b → (a || list_any (same_id id) xs) ≡ true
        → (list_any (same_id id) xs ≡ true → list_any (same_id id) (once_after same_id seen xs) ≡ true)
        → (same_id id x ≡ false → list_any (same_id id) xs ≡ true → list_any (same_id id) (once_after same_id (x ∷ seen) xs) ≡ true)
        → list_any (same_id id) (cond b (once_after same_id seen xs) (x ∷ once_after same_id (x ∷ seen) xs)) ≡ true
    cases true ea true eb e dropped kept = absurd (both_ways (list_any (same_id x) seen) (ap (λ y. list_any (same_id y) seen) (sym (id-same id x ea)) ∙ none) eb)
    cases true ea false eb e dropped kept = or_left (same_id id x) (list_any (same_id id) (once_after same_id (x ∷ seen) xs)) ea
    cases false ea true eb e dropped kept = dropped e
    cases false ea false eb e dropped kept = or_right (same_id id x) (list_any (same_id id) (once_after same_id (x ∷ seen) xs)) (kept ea e)

-- the ticket of an id that is among them is among those of its subscription
pub ticket-any : (test : Ticket → Bool) (sub : SubRow) (id : AckId) (ids : List AckId) → test (ticket_of id) ≡ true → nat_eq id.sub sub.number ≡ true → list_any (same_id id) ids ≡ true → list_any test (tickets_of sub ids) ≡ true
ticket-any test sub id [] good own e = absurd (false≢true e)
ticket-any test sub id (x ∷ xs) good own e = cases (same_id id x) refl (nat_eq x.sub sub.number) refl e (ticket-any test sub id xs good own)
  where
    cases : (a : Bool) → same_id id x ≡ a → (b : Bool) → nat_eq x.sub sub.number ≡ b → (a || list_any (same_id id) xs) ≡ true → (list_any (same_id id) xs ≡ true → list_any test (tickets_of sub xs) ≡ true)
        → list_any test (map ticket_of (cond b (x ∷ filter (λ (y : AckId). nat_eq y.sub sub.number) xs) (filter (λ (y : AckId). nat_eq y.sub sub.number) xs))) ≡ true
    cases true ea true eb e rest = or_left (test (ticket_of x)) (list_any test (tickets_of sub xs)) (ap (λ (y : AckId). test (ticket_of y)) (sym (id-same id x ea)) ∙ good)
    cases true ea false eb e rest = absurd (both_ways (nat_eq x.sub sub.number) eb (ap (λ (y : AckId). nat_eq y.sub sub.number) (sym (id-same id x ea)) ∙ own))
    cases false ea true eb e rest = or_right (test (ticket_of x)) (list_any test (tickets_of sub xs)) (rest e)
    cases false ea false eb e rest = rest e

pub any-map-filter : {A B : Type 0} (test : B → Bool) (g : A → B) (p : A → Bool) (xs : List A) → list_any test (map g (filter p xs)) ≡ list_any (λ x. p x && test (g x)) xs
any-map-filter test g p [] = refl
any-map-filter test g p (x ∷ xs) = cases (p x) (any-map-filter test g p xs)
  where
    cases : (b : Bool) → list_any test (map g (filter p xs)) ≡ list_any (λ x. p x && test (g x)) xs → list_any test (map g (cond b (x ∷ filter p xs) (filter p xs))) ≡ ((b && test (g x)) || list_any (λ x. p x && test (g x)) xs)
    cases true ih = ap (λ b. test (g x) || b) ih
    cases false ih = ih

pub none-any : {A : Type 0} (test : A → Bool) (xs : List A) → list_any test xs ≡ false → AllByRecursion (λ x. test x ≡ false) xs
none-any test [] e = tt
none-any test (x ∷ xs) e = let p = or_parts (test x) (list_any test xs) e in (p.0, none-any test xs p.1)

pub first-of : (a b : Bool) → (a || b) ≡ true → b ≡ false → a ≡ true
first-of true b e none = refl
first-of false b e none = absurd (both_ways b none e)

-- the one row of a pair has the mark that some row of it has
pub all-same : (n k : ℕ) (test : MarkRow → Bool) (rows : List MarkRow) → Ordered Precedes rows → list_any (λ r. is_at n k r && test r) rows ≡ true → AllByRecursion (λ (r : MarkRow). r.sub ≡ n → r.message ≡ k → test r ≡ true) rows
all-same n k test [] o e = tt
all-same n k test (x ∷ xs) o e = cases (is_at n k x) refl (all-same n k test xs o.1)
  where
    later-not : nat_eq x.sub n ≡ true → nat_eq x.message k ≡ true → (r : MarkRow) → Precedes x r → r.sub ≡ n → r.message ≡ k → ⊥
    later-not en ek r (inl p) es em = absurd (omega (arith, p, eqb-true x.sub n en, es))
    later-not en ek r (inr p) es em = absurd (omega (arith, p.1, eqb-true x.message k ek, em))

    cases : (b : Bool) → is_at n k x ≡ b → (list_any (λ r. is_at n k r && test r) xs ≡ true → AllByRecursion (λ (r : MarkRow). r.sub ≡ n → r.message ≡ k → test r ≡ true) xs)
        → (x.sub ≡ n → x.message ≡ k → test x ≡ true) × AllByRecursion (λ (r : MarkRow). r.sub ≡ n → r.message ≡ k → test r ≡ true) xs
    cases true eb rest =
        let at = and_parts (nat_eq x.sub n) (nat_eq x.message k) eb in
        let none : list_any (λ r. is_at n k r && test r) xs ≡ false = any-none (λ r. is_at n k r && test r) xs (each-then (Precedes x) (λ r. (is_at n k r && test r) ≡ false) xs
        (λ r p. and_left (is_at n k r) (test r) (false_from_ne_true (is_at n k r) (λ both. let q = and_parts (nat_eq r.sub n) (nat_eq r.message k) both in later-not at.0 at.1 r p (eqb-true r.sub n q.0) (eqb-true r.message k q.1)))) o.0) in (
          λ _ _. (and_parts (is_at n k x) (test x) (first-of (is_at n k x && test x) (list_any (λ r. is_at n k r && test r) xs) e none)).1,
          each-then (Precedes x) (λ (r : MarkRow). r.sub ≡ n → r.message ≡ k → test r ≡ true) xs (λ r p es em. absurd (later-not at.0 at.1 r p es em)) o.0,
        )
    cases false eb rest = (
      λ es em. absurd (both_ways (is_at n k x) eb (and_from (nat_eq x.sub n) (nat_eq x.message k) (eq-eqb x.sub n es) (eq-eqb x.message k em))),
      rest (ap (λ b. (b && test x) || list_any (λ r. is_at n k r && test r) xs) (sym eb) ∙ e),
    )

-- the answer to an acknowledgement that took the id
module _ (t count : ℕ) (v : World) (name : List ℕ) (ids : List AckId) (id : AckId) (fin : IsFinished t count v) (listed : list_any (same_id id) ids ≡ true) where
  -- what is to be shown of an outcome
  abbrev Takes : Outcome → Type 0
  Takes o = took id (reply_in o) ≡ true → PairIs IsDealt id.sub id.message (finished t v o)

  module _ (sub : SubRow) (found : sub_named v name ≡ Some sub) (told : took id (reply_in (acknowledge_at v name ids (Some sub))) ≡ true) where
    abbrev slots : List Slot
    slots = slots_of v sub.number

    abbrev ticket : Ticket
    ticket = ticket_of id

    abbrev tickets : List Ticket
    tickets = tickets_of sub ids

    pub once-mode : sub.config.exactly_once ≡ true
    once-mode = (and_parts sub.config.exactly_once (not (failed_in id (Acked sub.config.exactly_once (invalid_ids sub slots ids) (unordered_ids sub slots ids)))) told).0

    none-failed : (list_any (same_id id) (invalid_ids sub slots ids) ≡ false) × (list_any (same_id id) (unordered_ids sub slots ids) ≡ false)
    none-failed = or_parts (list_any (same_id id) (invalid_ids sub slots ids)) (list_any (same_id id) (unordered_ids sub slots ids))
        (not-true (failed_in id (Acked sub.config.exactly_once (invalid_ids sub slots ids) (unordered_ids sub slots ids)))
        (and_parts sub.config.exactly_once (not (failed_in id (Acked sub.config.exactly_once (invalid_ids sub slots ids) (unordered_ids sub slots ids)))) told).1)

    still-listed : list_any (same_id id) (once same_id ids) ≡ true
    still-listed = once-any id [] ids refl listed

    pub valid : (nat_eq id.sub sub.number ≡ true) × (is_good true slots ticket ≡ true)
    valid = and_parts (nat_eq id.sub sub.number) (is_good true slots ticket) (not-false (nat_eq id.sub sub.number && is_good true slots ticket)
        (left-out (λ (x : AckId). not (nat_eq x.sub sub.number && is_good true slots (ticket_of x))) id (once same_id ids) still-listed
        (ap (λ b. list_any (same_id id) (cond b (filter (λ (x : AckId). not (nat_eq x.sub sub.number && is_good true slots (ticket_of x))) (once same_id ids)) [])) (sym once-mode) ∙ none-failed.0)))

    pub in-turn : is_unordered sub.config tickets slots ticket ≡ false
    in-turn = second (nat_eq id.sub sub.number) (is_unordered sub.config tickets slots ticket) valid.0
        (left-out (λ (x : AckId). nat_eq x.sub sub.number && is_unordered sub.config tickets slots (ticket_of x)) id (once same_id ids) still-listed
        (ap (λ b. list_any (same_id id) (cond b (filter (λ (x : AckId). nat_eq x.sub sub.number && is_unordered sub.config tickets slots (ticket_of x)) (once same_id ids)) [])) (sym once-mode) ∙ none-failed.1))
      where
        second : (a b : Bool) → a ≡ true → (a && b) ≡ false → b ≡ false
        second true b ea e = e
        second false b ea e = absurd (false≢true ea)

    its : id.sub ≡ sub.number
    its = eqb-true id.sub sub.number valid.0

    may : MarkRow → Bool
    may r = may_ack true id.lease r.mark

    some-row : list_any (λ r. is_at id.sub id.message r && may r) v.marks ≡ true
    unfolding may
    some-row = ap (λ f. list_any f v.marks) (λ i r. regroup (nat_eq r.sub (its i)) (nat_eq r.message id.message) (may_ack true id.lease r.mark) i) ∙ sym (any-map-filter (fits true ticket) (slot_of v.messages) (λ (r : MarkRow). nat_eq r.sub sub.number) v.marks) ∙ valid.1
      where
        regroup : (a b c : Bool) → ((a && b) && c) ≡ (a && (b && c))
        regroup true b c = refl
        regroup false b c = refl

    may-rows : AllByRecursion (λ (r : MarkRow). r.sub ≡ id.sub → r.message ≡ id.message → may r ≡ true) v.marks
    may-rows = all-same id.sub id.message may v.marks fin.underway.marks.ascend some-row

    fits-row : (r : MarkRow) → r.message ≡ id.message → may r ≡ true → fits sub.config.exactly_once ticket (slot_of v.messages r) ≡ true
    unfolding may
    fits-row r em m = and_from (nat_eq r.message id.message) (may_ack sub.config.exactly_once id.lease r.mark) (eq-eqb r.message id.message em) (ap (λ b. may_ack b id.lease r.mark) once-mode ∙ m)

    turn-rows : AllByRecursion (λ (r : MarkRow). r.sub ≡ sub.number → (fits sub.config.exactly_once ticket (slot_of v.messages r) && is_early sub.config tickets slots (slot_of v.messages r)) ≡ false) v.marks
    turn-rows = rows-of-slots (λ (s : Slot). (fits sub.config.exactly_once ticket s && is_early sub.config tickets slots s) ≡ false) v sub.number (none-any (λ s. fits sub.config.exactly_once ticket s && is_early sub.config tickets slots s) slots in-turn)

    done-row : (r : MarkRow) → (r.sub ≡ id.sub → r.message ≡ id.message → may r ≡ true) × (r.sub ≡ sub.number → (fits sub.config.exactly_once ticket (slot_of v.messages r) && is_early sub.config tickets slots (slot_of v.messages r)) ≡ false)
        → AtPair IsDealt id.sub id.message (if nat_eq r.sub sub.number then remark_row r (mark_after_ack sub.config tickets slots (slot_of v.messages r)) else r)
    done-row r p = cond_both (nat_eq r.sub sub.number) (remark_row r (mark_after_ack sub.config tickets slots (slot_of v.messages r))) r (AtPair IsDealt id.sub id.message)
        (λ e es em.
        let fit : fits sub.config.exactly_once ticket (slot_of v.messages r) ≡ true = fits-row r em (p.0 es em) in
        let named : is_named sub.config.exactly_once tickets (slot_of v.messages r) ≡ true = ticket-any (λ x. fits sub.config.exactly_once x (slot_of v.messages r)) sub id ids fit valid.0 listed in
        let early : is_early sub.config tickets slots (slot_of v.messages r) ≡ false = second (fits sub.config.exactly_once ticket (slot_of v.messages r)) (is_early sub.config tickets slots (slot_of v.messages r)) fit (p.1 (es ∙ its)) in
        subst IsDealt (sym (ap (λ b. cond b (if is_early sub.config tickets slots (slot_of v.messages r) then if sub.config.exactly_once then r.mark else Ahead (failures_of r.mark) else Done Acknowledged) r.mark) named
        ∙ ap (λ b. cond b (if sub.config.exactly_once then r.mark else Ahead (failures_of r.mark)) (Done Acknowledged)) early)) refl)
        (λ e es em. absurd (both_ways (nat_eq r.sub sub.number) e (eq-eqb r.sub sub.number (es ∙ its))))
      where
        second : (a b : Bool) → a ≡ true → (a && b) ≡ false → b ≡ false
        second true b ea e = e
        second false b ea e = absurd (false≢true ea)

    -- the subscription and the message are there
    below : (id.sub < v.next_sub) × (id.message < v.next_message)
    below = from-any ((id.sub < v.next_sub) × (id.message < v.next_message)) (λ r. is_at id.sub id.message r && may r) v.marks some-row
        (each-then (IsNamed v) (λ r. (is_at id.sub id.message r && may r) ≡ true → (id.sub < v.next_sub) × (id.message < v.next_message)) v.marks each fin.underway.marks.named)
      where
        each : (r : MarkRow) → IsNamed v r → (is_at id.sub id.message r && may r) ≡ true → (id.sub < v.next_sub) × (id.message < v.next_message)
        each r p e =
            let at = and_parts (nat_eq r.sub id.sub) (nat_eq r.message id.message) (and_parts (is_at id.sub id.message r) (may r) e).0 in
            let a = of_sub (sub_numbered v r.sub) refl p.0 in
            let b = of_message (message_numbered v.messages r.message) refl p.1 in
            (omega (arith, a, eqb-true r.sub id.sub at.0), omega (arith, b, eqb-true r.message id.message at.1))
          where
            of_sub : (o : Option SubRow) → sub_numbered v r.sub ≡ o → is_some o ≡ true → r.sub < v.next_sub
            of_sub None eo some = absurd (false≢true some)
            of_sub (Some q) eo some =
                let up : q.number < v.next_sub = each-found (λ (x : SubRow). x.number < v.next_sub) (λ (x : SubRow). nat_eq x.number r.sub) v.subs q eo fin.underway.subs.below in
                omega (arith, eqb-true q.number r.sub (found-passes (λ (x : SubRow). nat_eq x.number r.sub) v.subs q eo))

            of_message : (o : Option MessageRow) → message_numbered v.messages r.message ≡ o → is_some o ≡ true → r.message < v.next_message
            of_message None eo some = absurd (false≢true some)
            of_message (Some m) eo some =
                let up : m.number < v.next_message = each-found (λ (x : MessageRow). x.number < v.next_message) (λ (x : MessageRow). nat_eq x.number r.message) v.messages m eo fin.underway.messages.below in
                omega (arith, eqb-true m.number r.message (found-passes (λ (x : MessageRow). nat_eq x.number r.message) v.messages m eo))

    taken : PairIs IsDealt id.sub id.message (finished t v (acknowledge_at v name ids (Some sub)))
    taken = pair-expunged IsDealt id.sub id.message dealt-lasting t (forward t [] made) (pair-forwarded IsDealt id.sub id.message t made [] (record {
      sub = below.0;
      message = below.1;
      marks = each-map (λ r. (r.sub ≡ id.sub → r.message ≡ id.message → may r ≡ true) × (r.sub ≡ sub.number → (fits sub.config.exactly_once ticket (slot_of v.messages r) && is_early sub.config tickets slots (slot_of v.messages r)) ≡ false))
          (AtPair IsDealt id.sub id.message) (λ (r : MarkRow). if nat_eq r.sub sub.number then remark_row r (mark_after_ack sub.config tickets slots (slot_of v.messages r)) else r) v.marks done-row
          (each-both (λ (r : MarkRow). r.sub ≡ id.sub → r.message ≡ id.message → may r ≡ true) (λ (r : MarkRow). r.sub ≡ sub.number → (fits sub.config.exactly_once ticket (slot_of v.messages r) && is_early sub.config tickets slots (slot_of v.messages r)) ≡ false) v.marks may-rows turn-rows);
    }))
      where
        made : World
        made = remark_at sub.number (mark_after_ack sub.config tickets slots) v

  at-sub : (o : Option SubRow) → sub_named v name ≡ o → Takes (acknowledge_at v name ids o)
  at-sub None e told = absurd (false≢true told)
  at-sub (Some sub) e told = taken sub e told

  at-fault : (fault : Option Reason) → Takes (checked v t (Acknowledge name ids) fault)
  at-fault (Some reason) = λ told. absurd (false≢true told)
  at-fault None = cond_both (is_full v) (refuses v Exhausted) (acknowledge_at v name ids (sub_named v name)) Takes (λ _ told. absurd (false≢true told)) (λ _. at-sub (sub_named v name) refl)

  took-dealt : Takes (outcome v t (Acknowledge name ids))
  took-dealt = at-fault (argument_fault (Acknowledge name ids))

first-dealt : (w : World) (now : ℕ) (c : Command) (id : AckId) → IsSound w → is_full w ≡ false → acknowledges id c ≡ true → took id (reply w now c) ≡ true → PairIs IsDealt id.sub id.message (carried_out w (moment w now) c)
first-dealt w now (Acknowledge name ids) id h room e told = took-dealt (moment w now) w.count (settled (moment w now) w) name ids id (subst (λ full. IsFinished (moment w now) w.count (cond full w (settle (moment w now) w))) (sym room) (sound-settled (moment w now) w later last h)) e told
  where
    later : w.now ≤ moment w now
    later = omega (arith, h.in_time.now)

    last : moment w now ≤ last_moment
    last = omega arith
first-dealt w now _ id h room e told = absurd (false≢true e)

never-again : (u : World) (between : List Entry) (second : Entry) (id : AckId) → PairIs IsDealt id.sub id.message u → some_step (λ v e. seeks id.sub v e.command) u between ≡ false → hands_out id (after u between) second ≡ false
never-again u [] second id p none = dealt-not-handed u second id p
never-again u (e ∷ between) second id p none =
    let q = or_parts (seeks id.sub u e.command) (some_step (λ v e. seeks id.sub v e.command) (step u e) between) none in
    never-again (step u e) between second id (dealt-step id.sub id.message u e q.0 p) q.1

pub acknowledged_for_good : AcknowledgedForGood
acknowledged_for_good w first between second id lease h history ack told none =
    let p = first-dealt w first.now first.command id h (accepted-room w first history.0) ack told in
    never-again (step w first) between second (record id { lease = lease }) (record { sub = p.sub; message = p.message; marks = p.marks }) none
