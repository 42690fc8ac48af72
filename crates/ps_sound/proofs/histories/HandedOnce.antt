-- A message that is out isn't handed out again before something ends its lease.
use Rattle.std.proofs.Common.{ℕ, ◌≡◌, ◌⊎◌, Bool, true, false, cond, ◌&&◌, ◌||◌, not, nat_eq, is_some, List, [], ◌∷◌, Option, Some, None, filter, refl, sym, ◌∙◌, ap, subst, inl, inr, if◌then◌else◌}
use Rattle.std.specs.List.{AllByRecursion, list_any}
use Rattle.std.proofs.lemmas.Bool.{cond_both, and_parts, and_from, or_parts, or_left, or_right, or_cases, eqb-true, eq-eqb, not-true, both_ways, false≢true}
use Rattle.ps_base.specs.declared.ack_id.AckId.{AckId}
use Rattle.ps_base.specs.declared.reason.Reason.{Reason}
use Rattle.ps_base.specs.declared.refusal.Refusal.TheVariants.{Exhausted}
use Rattle.ps_model.specs.declared.command.Command.{Command}
use Rattle.ps_model.specs.declared.command.Command.TheVariants.{Acknowledge}
use Rattle.ps_model.specs.declared.mark.Mark.{Mark}
use Rattle.ps_model.specs.declared.mark.Mark.TheVariants.{Backlog, Leased, Ahead, Done, Gone}
use Rattle.ps_model.specs.declared.mark.DoneCause.TheVariants.{Acknowledged}
use Rattle.ps_model.specs.declared.mark.Slot.{Slot}
use Rattle.ps_model.specs.declared.mark.Ticket.{Ticket}
use Rattle.ps_model.specs.declared.world.World.{World}
use Rattle.ps_model.specs.declared.world.SubRow.{SubRow}
use Rattle.ps_model.specs.declared.world.MarkRow.{MarkRow}
use Rattle.ps_model.specs.Lists.{once}
use Rattle.ps_model.specs.Slots.{is_out, any_earlier, is_earlier, failures_of}
use Rattle.ps_model.specs.Failing.{mark_after_failing, is_due}
use Rattle.ps_model.specs.Retention.{lapsed, caught_up_as}
use Rattle.ps_model.specs.Modifying.{set_deadline}
use Rattle.ps_model.specs.Acknowledging.{may_ack, fits, is_named, is_early, is_good, is_unordered, mark_after_ack}
use Rattle.ps_model.specs.Choice.{is_ready}
use Rattle.ps_model.specs.Worlds.{sub_named, sub_numbered, new_mark, slot_of, slots_of}
use Rattle.ps_model.specs.Forwarding.{dead_topic}
use Rattle.ps_model.specs.Settling.{drop_snapshots}
use Rattle.ps_model.specs.Answering.{same_id, ticket_of, tickets_of, invalid_ids, unordered_ids, acknowledge_at}
use Rattle.ps_model.specs.Outcomes.{Outcome, refuses, reply_in}
use Rattle.ps_model.specs.Checks.{argument_fault}
use Rattle.ps_model.specs.Commands.{is_full, checked, outcome}
use Rattle.ps_model.specs.Laws.{failed_in, fails_at, gives_up, loses}
use Rattle.ps_base.proofs.Lists.{each-always, each-then, each-both}
use Rattle.ps_sound.proofs.worlds.Earlier.{each-earlier, from-none-earlier, rows-of-slots}
use Rattle.ps_sound.proofs.phases.Ending.{failing-same}
use Rattle.ps_sound.proofs.worlds.Underway.{IsFinished}
use Rattle.ps_sound.proofs.histories.Pairs.{IsLasting}
use Rattle.ps_sound.proofs.histories.PairSteps.{AckSpares}
use Rattle.ps_sound.proofs.histories.Dealt.{IsDealt, dealt-lasting, dealt-failing, dealt-acknowledged}
use Rattle.ps_sound.proofs.histories.ForGood.{id-same, any-map-filter, none-any, all-same}

-- out under this lease, or dealt with
abbrev pub OutOrDealt : ℕ → Mark → Type 0
OutOrDealt lease mark = (is_out lease mark ≡ true) ⊎ IsDealt mark

out-lapses : (lease : ℕ) (mark : Mark) → is_out lease mark ≡ true → IsDealt (lapsed mark)
out-lapses lease (Backlog f u l) e = absurd (false≢true e)
out-lapses lease (Leased f own d) e = refl
out-lapses lease (Ahead f) e = absurd (false≢true e)
out-lapses lease (Done c) e = absurd (false≢true e)
out-lapses lease (Gone c) e = absurd (false≢true e)

out-catches : (lease : ℕ) (mark : Mark) → is_out lease mark ≡ true → is_out lease (caught_up_as mark) ≡ true
out-catches lease (Backlog f u l) e = e
out-catches lease (Leased f own d) e = e
out-catches lease (Ahead f) e = absurd (false≢true e)
out-catches lease (Done c) e = e
out-catches lease (Gone c) e = e

out-extends : (lease deadline : ℕ) (mark : Mark) → is_out lease (set_deadline deadline mark) ≡ is_out lease mark
out-extends lease deadline (Backlog f u l) = refl
out-extends lease deadline (Leased f own d) = refl
out-extends lease deadline (Ahead f) = refl
out-extends lease deadline (Done c) = refl
out-extends lease deadline (Gone c) = refl

out-rests : (lease t : ℕ) (mark : Mark) → is_out lease mark ≡ true → is_ready t mark ≡ false
out-rests lease t (Backlog f u l) e = absurd (false≢true e)
out-rests lease t (Leased f own d) e = refl
out-rests lease t (Ahead f) e = refl
out-rests lease t (Done c) e = refl
out-rests lease t (Gone c) e = refl

pub out-lasting : (lease : ℕ) → IsLasting (OutOrDealt lease)
out-lasting lease = record { lapses = lapses; catches = catches; extends = extends; rests = rests }
  where
    lapses : (mark : Mark) → OutOrDealt lease mark → OutOrDealt lease (lapsed mark)
    lapses mark (inl out) = inr (out-lapses lease mark out)
    lapses mark (inr dealt) = inr (dealt-lasting.lapses mark dealt)

    catches : (mark : Mark) → OutOrDealt lease mark → OutOrDealt lease (caught_up_as mark)
    catches mark (inl out) = inl (out-catches lease mark out)
    catches mark (inr dealt) = inr (dealt-lasting.catches mark dealt)

    extends : (deadline : ℕ) (mark : Mark) → OutOrDealt lease mark → OutOrDealt lease (set_deadline deadline mark)
    extends deadline mark (inl out) = inl (out-extends lease deadline mark ∙ out)
    extends deadline mark (inr dealt) = inr (dealt-lasting.extends deadline mark dealt)

    rests : (t : ℕ) (mark : Mark) → OutOrDealt lease mark → is_ready t mark ≡ false
    rests t mark (inl out) = out-rests lease t mark out
    rests t mark (inr dealt) = dealt-lasting.rests t mark dealt

-- Where the lease isn't lost at t by this command: neither its own message fails, nor an earlier one of its key.
module _ (id : AckId) (w : World) (t : ℕ) (c : Command) (sub : SubRow) (own : sub_numbered w id.sub ≡ Some sub) (kept : list_any (loses id t sub c (slots_of w sub.number)) (slots_of w sub.number) ≡ false) where
  -- at the row of the pair, where it is out
  abbrev Spared : MarkRow → Type 0
  Spared r = (fails_at t sub c (slot_of w.messages r) ≡ false) × (any_earlier sub.config.ordering (fails_at t sub c) (slots_of w sub.number) (slot_of w.messages r) ≡ false)

  pub spared-rows : AllByRecursion (λ (r : MarkRow). r.sub ≡ sub.number → r.message ≡ id.message → is_out id.lease r.mark ≡ true → Spared r) w.marks
  spared-rows = each-then (λ (r : MarkRow). r.sub ≡ sub.number → loses id t sub c (slots_of w sub.number) (slot_of w.messages r) ≡ false) (λ (r : MarkRow). r.sub ≡ sub.number → r.message ≡ id.message → is_out id.lease r.mark ≡ true → Spared r) w.marks
      (λ r k es em out. or_parts (fails_at t sub c (slot_of w.messages r)) (any_earlier sub.config.ordering (fails_at t sub c) (slots_of w sub.number) (slot_of w.messages r))
      (second (nat_eq r.message id.message && is_out id.lease r.mark) (fails_at t sub c (slot_of w.messages r) || any_earlier sub.config.ordering (fails_at t sub c) (slots_of w sub.number) (slot_of w.messages r))
      (and_from (nat_eq r.message id.message) (is_out id.lease r.mark) (eq-eqb r.message id.message em) out) (k es)))
      (rows-of-slots (λ (s : Slot). loses id t sub c (slots_of w sub.number) s ≡ false) w sub.number (none-any (loses id t sub c (slots_of w sub.number)) (slots_of w sub.number) kept))
    where
      second : (a b : Bool) → a ≡ true → (a && b) ≡ false → b ≡ false
      second true b ea e = e
      second false b ea e = absurd (false≢true ea)

  -- so settling leaves it out
  pub settling-spares : (n : ℕ) → n ≡ id.sub → sub.number ≡ id.sub → AllByRecursion (λ (r : MarkRow). r.sub ≡ n → r.message ≡ id.message → OutOrDealt id.lease r.mark
      → OutOrDealt id.lease (new_mark (λ x. mark_after_failing (is_due t) t (is_some (dead_topic (drop_snapshots t w) x)) x.config) (drop_snapshots t w) r (sub_numbered w r.sub))) w.marks
  settling-spares n en number = each-then (λ (r : MarkRow). r.sub ≡ sub.number → r.message ≡ id.message → is_out id.lease r.mark ≡ true → Spared r) (λ (r : MarkRow). r.sub ≡ n → r.message ≡ id.message → OutOrDealt id.lease r.mark
      → OutOrDealt id.lease (new_mark rule (drop_snapshots t w) r (sub_numbered w r.sub))) w.marks
      (λ r k es em. subst (λ o. OutOrDealt id.lease r.mark → OutOrDealt id.lease (new_mark rule (drop_snapshots t w) r o)) (sym (ap (λ j. sub_numbered w j) (es ∙ en) ∙ own)) (at r (k (es ∙ en ∙ sym number) em))) spared-rows
    where
      rule : SubRow → List Slot → Slot → Mark
      rule x = mark_after_failing (is_due t) t (is_some (dead_topic (drop_snapshots t w) x)) x.config

      at : (r : MarkRow) → (is_out id.lease r.mark ≡ true → Spared r) → OutOrDealt id.lease r.mark → OutOrDealt id.lease (rule sub (slots_of w sub.number) (slot_of w.messages r))
      at r k (inr dealt) = inr (dealt-failing (is_due t) t (is_some (dead_topic (drop_snapshots t w) sub)) sub.config (slots_of w sub.number) (slot_of w.messages r) dealt)
      at r k (inl out) =
          let spared = k out in
          let none : any_earlier sub.config.ordering (is_due t) (slots_of w sub.number) (slot_of w.messages r) ≡ false =
          from-none-earlier sub.config.ordering (is_due t) (slot_of w.messages r) (slots_of w sub.number)
          (each-then (λ (e : Slot). is_earlier sub.config.ordering e (slot_of w.messages r) ≡ true → fails_at t sub c e ≡ false) (λ (e : Slot). is_earlier sub.config.ordering e (slot_of w.messages r) ≡ true → is_due t e ≡ false) (slots_of w sub.number)
          (λ e q early. (or_parts (is_due t e) (gives_up sub c e) (q early)).0) (each-earlier sub.config.ordering (fails_at t sub c) (slot_of w.messages r) (slots_of w sub.number) spared.1)) in
          inl (ap (is_out id.lease) (failing-same (is_due t) t (is_some (dead_topic (drop_snapshots t w) sub)) sub.config (slots_of w sub.number) (slot_of w.messages r) (or_parts (is_due t (slot_of w.messages r)) (gives_up sub c (slot_of w.messages r)) spared.0).0 none) ∙ out)

any-implies : {A : Type 0} (p q : A → Bool) (xs : List A) → ((x : A) → p x ≡ true → q x ≡ true) → list_any p xs ≡ true → list_any q xs ≡ true
any-implies p q [] k e = absurd (false≢true e)
any-implies p q (x ∷ xs) k e = cases (p x) (k x) e (any-implies p q xs k)
  where
    cases : (b : Bool) → (b ≡ true → q x ≡ true) → (b || list_any p xs) ≡ true → (list_any p xs ≡ true → list_any q xs ≡ true) → (q x || list_any q xs) ≡ true
    cases true here e rest = or_left (q x) (list_any q xs) (here refl)
    cases false here e rest = or_right (q x) (list_any q xs) (rest e)

-- the test of one id passes, where one that is the same is among those that pass it
left-in : (test : AckId → Bool) (id : AckId) (ids : List AckId) → list_any (same_id id) (filter test ids) ≡ true → test id ≡ true
left-in test id [] e = absurd (false≢true e)
left-in test id (x ∷ xs) e = cases (test x) refl (same_id id x) refl e (left-in test id xs)
  where
    cases : (b : Bool) → test x ≡ b → (a : Bool) → same_id id x ≡ a → list_any (same_id id) (cond b (x ∷ filter test xs) (filter test xs)) ≡ true → (list_any (same_id id) (filter test xs) ≡ true → test id ≡ true) → test id ≡ true
    cases true eb true ea e rest = ap test (id-same id x ea) ∙ eb
    cases true eb false ea e rest = rest (ap (λ y. y || list_any (same_id id) (filter test xs)) (sym ea) ∙ e)
    cases false eb a ea e rest = rest e

-- An acknowledgement that failed, or names another lease, leaves it out.
module _ (t count : ℕ) (v : World) (fin : IsFinished t count v) (id : AckId) (name : List ℕ) (ids : List AckId) (sub : SubRow) (found : sub_named v name ≡ Some sub) (its : sub.number ≡ id.sub)
    (failed_then : list_any (same_id id) ids ≡ true → failed_in id (reply_in (outcome v t (Acknowledge name ids))) ≡ true) where
  abbrev slots : List Slot
  slots = slots_of v sub.number

  abbrev tickets : List Ticket
  tickets = tickets_of sub ids

  -- what is out is good for the ticket of its lease
  out-may : (exactly_once : Bool) (lease : ℕ) (mark : Mark) → is_out id.lease mark ≡ true → may_ack exactly_once lease mark ≡ nat_eq id.lease lease
  out-may exactly_once lease (Backlog f u l) e = absurd (false≢true e)
  out-may exactly_once lease (Leased f own d) e = ap (λ j. nat_eq j lease) (eqb-true own id.lease e)
  out-may exactly_once lease (Ahead f) e = absurd (false≢true e)
  out-may exactly_once lease (Done c) e = absurd (false≢true e)
  out-may exactly_once lease (Gone c) e = absurd (false≢true e)

  -- a ticket that is good for it is of this id
  listed : (r : MarkRow) → r.message ≡ id.message → is_out id.lease r.mark ≡ true → is_named sub.config.exactly_once tickets (slot_of v.messages r) ≡ true → list_any (same_id id) ids ≡ true
  listed r em out named = any-implies (λ (x : AckId). nat_eq x.sub sub.number && fits sub.config.exactly_once (ticket_of x) (slot_of v.messages r)) (same_id id) ids each
      (sym (any-map-filter (λ ticket. fits sub.config.exactly_once ticket (slot_of v.messages r)) ticket_of (λ (x : AckId). nat_eq x.sub sub.number) ids) ∙ named)
    where
      each : (x : AckId) → (nat_eq x.sub sub.number && fits sub.config.exactly_once (ticket_of x) (slot_of v.messages r)) ≡ true → same_id id x ≡ true
      each x e =
          let a = and_parts (nat_eq x.sub sub.number) (fits sub.config.exactly_once (ticket_of x) (slot_of v.messages r)) e in
          let b = and_parts (nat_eq r.message x.message) (may_ack sub.config.exactly_once x.lease r.mark) a.1 in
          and_from (nat_eq id.sub x.sub) (nat_eq id.message x.message && nat_eq id.lease x.lease) (eq-eqb id.sub x.sub (sym its ∙ sym (eqb-true x.sub sub.number a.0)))
          (and_from (nat_eq id.message x.message) (nat_eq id.lease x.lease) (eq-eqb id.message x.message (sym em ∙ eqb-true r.message x.message b.0)) (sym (out-may sub.config.exactly_once x.lease r.mark out) ∙ b.1))

  -- the answer names the id
  answered : list_any (same_id id) ids ≡ true → (list_any (same_id id) (invalid_ids sub slots ids) || list_any (same_id id) (unordered_ids sub slots ids)) ≡ true
  answered there = at-fault (argument_fault (Acknowledge name ids)) (failed_then there)
    where
      Names : Outcome → Type 0
      Names o = failed_in id (reply_in o) ≡ true → (list_any (same_id id) (invalid_ids sub slots ids) || list_any (same_id id) (unordered_ids sub slots ids)) ≡ true

      at-fault : (fault : Option Reason) → Names (checked v t (Acknowledge name ids) fault)
      at-fault (Some reason) = λ e. absurd (false≢true e)
      at-fault None = cond_both (is_full v) (refuses v Exhausted) (acknowledge_at v name ids (sub_named v name)) Names (λ _ e. absurd (false≢true e)) (λ _. subst (λ o. Names (acknowledge_at v name ids o)) (sym found) (λ e. e))

  good-rows : AllByRecursion (λ (r : MarkRow). is_good true slots (ticket_of id) ≡ false → r.sub ≡ sub.number → fits true (ticket_of id) (slot_of v.messages r) ≡ false) v.marks
  good-rows = cases (is_good true slots (ticket_of id)) refl
    where
      cases : (b : Bool) → is_good true slots (ticket_of id) ≡ b → AllByRecursion (λ (r : MarkRow). is_good true slots (ticket_of id) ≡ false → r.sub ≡ sub.number → fits true (ticket_of id) (slot_of v.messages r) ≡ false) v.marks
      cases true eb = each-always (λ (r : MarkRow). is_good true slots (ticket_of id) ≡ false → r.sub ≡ sub.number → fits true (ticket_of id) (slot_of v.messages r) ≡ false) v.marks (λ r none. absurd (both_ways (is_good true slots (ticket_of id)) none eb))
      cases false eb = each-then (λ (r : MarkRow). r.sub ≡ sub.number → fits true (ticket_of id) (slot_of v.messages r) ≡ false) (λ (r : MarkRow). is_good true slots (ticket_of id) ≡ false → r.sub ≡ sub.number → fits true (ticket_of id) (slot_of v.messages r) ≡ false) v.marks (λ r k _. k)
          (rows-of-slots (λ (s : Slot). fits true (ticket_of id) s ≡ false) v sub.number (none-any (fits true (ticket_of id)) slots eb))

  early-rows : AllByRecursion (λ (r : MarkRow). is_unordered sub.config tickets slots (ticket_of id) ≡ true → r.sub ≡ sub.number → r.message ≡ id.message → is_early sub.config tickets slots (slot_of v.messages r) ≡ true) v.marks
  early-rows = cases (is_unordered sub.config tickets slots (ticket_of id)) refl
    where
      Early : MarkRow → Type 0
      Early r = is_unordered sub.config tickets slots (ticket_of id) ≡ true → r.sub ≡ sub.number → r.message ≡ id.message → is_early sub.config tickets slots (slot_of v.messages r) ≡ true

      test : MarkRow → Bool
      test r = may_ack sub.config.exactly_once id.lease r.mark && is_early sub.config tickets slots (slot_of v.messages r)

      regroup : (a b c d : Bool) → (a && ((b && c) && d)) ≡ ((a && b) && (c && d))
      regroup true true c d = refl
      regroup true false c d = refl
      regroup false b c d = refl

      cases : (b : Bool) → is_unordered sub.config tickets slots (ticket_of id) ≡ b → AllByRecursion Early v.marks
      cases false eb = each-always Early v.marks (λ r yes. absurd (both_ways (is_unordered sub.config tickets slots (ticket_of id)) eb yes))
      cases true eb = each-then (λ (r : MarkRow). r.sub ≡ sub.number → r.message ≡ id.message → test r ≡ true) Early v.marks
          (λ r k _ es em. (and_parts (may_ack sub.config.exactly_once id.lease r.mark) (is_early sub.config tickets slots (slot_of v.messages r)) (k es em)).1)
          (all-same sub.number id.message test v.marks fin.underway.marks.ascend
          (sym (ap (λ f. list_any f v.marks) (λ i (r : MarkRow). regroup (nat_eq r.sub sub.number) (nat_eq r.message id.message) (may_ack sub.config.exactly_once id.lease r.mark) (is_early sub.config tickets slots (slot_of v.messages r)) i))
          ∙ sym (any-map-filter (λ (s : Slot). fits sub.config.exactly_once (ticket_of id) s && is_early sub.config tickets slots s) (slot_of v.messages) (λ (r : MarkRow). nat_eq r.sub sub.number) v.marks) ∙ eb))

  pub acknowledging-spares : AckSpares (OutOrDealt id.lease) id.sub id.message v ids sub
  acknowledging-spares = each-then (λ r. Good r × Early r) (λ (r : MarkRow). r.sub ≡ sub.number → r.sub ≡ id.sub → r.message ≡ id.message → OutOrDealt id.lease r.mark → OutOrDealt id.lease (mark_after_ack sub.config tickets slots (slot_of v.messages r))) v.marks
      (λ r p es _ em. at r p.0 p.1 es em) (each-both Good Early v.marks good-rows early-rows)
    where
      Good : MarkRow → Type 0
      Good r = is_good true slots (ticket_of id) ≡ false → r.sub ≡ sub.number → fits true (ticket_of id) (slot_of v.messages r) ≡ false

      Early : MarkRow → Type 0
      Early r = is_unordered sub.config tickets slots (ticket_of id) ≡ true → r.sub ≡ sub.number → r.message ≡ id.message → is_early sub.config tickets slots (slot_of v.messages r) ≡ true

      -- named, so it failed, so it is early in exactly-once mode
      stays : (r : MarkRow) → Good r → Early r → r.sub ≡ sub.number → r.message ≡ id.message → is_out id.lease r.mark ≡ true → is_named sub.config.exactly_once tickets (slot_of v.messages r) ≡ true
          → (b : Bool) → sub.config.exactly_once ≡ b → (sub.config.exactly_once ≡ true) × (is_early sub.config tickets slots (slot_of v.messages r) ≡ true)
      stays r good early es em out named false eb = absurd (false≢true (ap (λ b. list_any (same_id id) (cond b (filter (λ (x : AckId). not (nat_eq x.sub sub.number && is_good true slots (ticket_of x))) (once same_id ids)) [])
          || list_any (same_id id) (cond b (filter (λ (x : AckId). nat_eq x.sub sub.number && is_unordered sub.config tickets slots (ticket_of x)) (once same_id ids)) [])) (sym eb) ∙ answered (listed r em out named)))
      stays r good early es em out named true eb = (eb, either (or_cases (list_any (same_id id) (invalid_ids sub slots ids)) (list_any (same_id id) (unordered_ids sub slots ids)) (answered (listed r em out named))))
        where
          either : (list_any (same_id id) (invalid_ids sub slots ids) ≡ true) ⊎ (list_any (same_id id) (unordered_ids sub slots ids) ≡ true) → is_early sub.config tickets slots (slot_of v.messages r) ≡ true
          either (inl invalid) =
              let bad : (nat_eq id.sub sub.number && is_good true slots (ticket_of id)) ≡ false = not-true (nat_eq id.sub sub.number && is_good true slots (ticket_of id))
              (left-in (λ (x : AckId). not (nat_eq x.sub sub.number && is_good true slots (ticket_of x))) id (once same_id ids) (ap (λ b. list_any (same_id id) (cond b (filter (λ (x : AckId). not (nat_eq x.sub sub.number && is_good true slots (ticket_of x))) (once same_id ids)) [])) (sym eb) ∙ invalid)) in
              let none : is_good true slots (ticket_of id) ≡ false = second (nat_eq id.sub sub.number) (is_good true slots (ticket_of id)) (eq-eqb id.sub sub.number (sym its)) bad in
              absurd (both_ways (fits true (ticket_of id) (slot_of v.messages r)) (good none es) (and_from (nat_eq r.message id.message) (may_ack true id.lease r.mark) (eq-eqb r.message id.message em) (out-may true id.lease r.mark out ∙ eq-eqb id.lease id.lease refl)))
            where
              second : (a b : Bool) → a ≡ true → (a && b) ≡ false → b ≡ false
              second true b ea e = e
              second false b ea e = absurd (false≢true ea)
          either (inr unordered) = early (and_parts (nat_eq id.sub sub.number) (is_unordered sub.config tickets slots (ticket_of id))
              (left-in (λ (x : AckId). nat_eq x.sub sub.number && is_unordered sub.config tickets slots (ticket_of x)) id (once same_id ids) (ap (λ b. list_any (same_id id) (cond b (filter (λ (x : AckId). nat_eq x.sub sub.number && is_unordered sub.config tickets slots (ticket_of x)) (once same_id ids)) [])) (sym eb) ∙ unordered))).1 es em

      at : (r : MarkRow) → Good r → Early r → r.sub ≡ sub.number → r.message ≡ id.message → OutOrDealt id.lease r.mark → OutOrDealt id.lease (mark_after_ack sub.config tickets slots (slot_of v.messages r))
      at r good early es em (inr dealt) = inr (dealt-acknowledged sub.config tickets slots (slot_of v.messages r) dealt)
      at r good early es em (inl out) = cond_both (is_named sub.config.exactly_once tickets (slot_of v.messages r)) (if is_early sub.config tickets slots (slot_of v.messages r) then if sub.config.exactly_once then r.mark else Ahead (failures_of r.mark) else Done Acknowledged) r.mark (OutOrDealt id.lease)
          (λ named. let both = stays r good early es em out named sub.config.exactly_once refl in
          inl (ap (λ b. is_out id.lease (cond b (if sub.config.exactly_once then r.mark else Ahead (failures_of r.mark)) (Done Acknowledged))) both.1 ∙ ap (λ b. is_out id.lease (cond b r.mark (Ahead (failures_of r.mark)))) both.0 ∙ out))
          (λ _. inl out)
