-- What changed deadlines leave.
use Rattle.std.proofs.Common.{ℕ, ◌≡◌, ◌≢◌, ◌+◌, ◌-◌, ◌*◌, ◌<◌, ◌≤◌, ◌&&◌, Bool, true, false, cond, nat_eq, nat_lt, is_some, List, [], ◌∷◌, Option, Some, None, map, filter, length, refl, sym, ◌∙◌, ap, subst, arith, if◌then◌else◌}
use Rattle.std.specs.List.{AllByRecursion, list_any}
use Rattle.std.specs.Str.{bytes_eq}
use Rattle.std.proofs.lemmas.Bool.{cond_both, and_parts, or_parts, eqb-true, eqb-false, eq-eqb, ltb-false, and_left}
use Rattle.ps_base.specs.declared.ack_id.AckId.{AckId}
use Rattle.ps_model.specs.declared.mark.Mark.{Mark}
use Rattle.ps_model.specs.declared.mark.Mark.TheVariants.{Backlog, Leased, Ahead, Done, Gone}
use Rattle.ps_model.specs.declared.mark.Slot.{Slot}
use Rattle.ps_model.specs.declared.mark.Ticket.{Ticket}
use Rattle.ps_model.specs.declared.world.World.{World}
use Rattle.ps_model.specs.declared.world.SubRow.{SubRow}
use Rattle.ps_model.specs.declared.world.MarkRow.{MarkRow}
use Rattle.ps_model.specs.Slots.{is_gone, is_leased, is_backlog, is_earlier}
use Rattle.ps_model.specs.Lists.{tally}
use Rattle.ps_model.specs.Failing.{mark_after_failing, dead_letter, dead_letters}
use Rattle.ps_model.specs.Modifying.{names, seconds_for, set_deadline, extended_by, extended_mark, extended, is_given_up, modify_dead}
use Rattle.ps_model.specs.Worlds.{sub_named, sub_numbered, new_mark, remark_row, remark_at, slot_of, slots_of}
use Rattle.ps_model.specs.Answering.{ticket_of, items_of}
use Rattle.ps_model.specs.Checks.{has_long_deadline}
use Rattle.ps_model.specs.Forwarding.{Letter, letters_of, dead_topic, forward as forward_letters}
use Rattle.ps_model.specs.Settling.{expunge_world}
use Rattle.ps_model.specs.Sound.{MarkFits, FitsAt, leases_alive}
use Rattle.ps_base.proofs.Lists.{each-always, each-map, each-left, found-passes}
use Rattle.ps_sound.proofs.worlds.Lists.{found-numbered}
use Rattle.ps_sound.proofs.worlds.Counts.{tally-less}
use Rattle.ps_sound.proofs.worlds.Earlier.{from-none-earlier}
use Rattle.ps_sound.proofs.worlds.Underway.{IsUnderway, IsFinished}
use Rattle.ps_sound.proofs.phases.Settled.{leaves-finished}
use Rattle.ps_sound.proofs.worlds.Marked.{marked, at_sub, remark_at-marked, IsMild, marked-fewer, marked-underway, calm-underway}
use Rattle.ps_sound.proofs.worlds.Slotted.{slots-at}
use Rattle.ps_sound.proofs.phases.Ending.{failing_mark, failing-same, dies, dies_at, failing-room, failing-mild, failing-in_order}
use Rattle.ps_sound.proofs.phases.Letters.{letters-few, letters-listed}

-- at most 600 seconds, where there are any
abbrev IsShort : Option ℕ → Type 0
IsShort None = Unit {0}
IsShort (Some seconds) = seconds ≤ 600

seconds-short : (items : List (Ticket × ℕ)) (s : Slot) (found : Option ℕ) → AllByRecursion (λ (x : Ticket × ℕ). x.1 ≤ 600) items → IsShort found → IsShort (seconds_for items s found)
seconds-short [] s found h short = short
seconds-short (x ∷ xs) s found h short = seconds-short xs s (if names x.0 s then Some x.1 else found) h.1 (cond_both (names x.0 s) (Some x.1) found IsShort (λ _. h.0) (λ _. short))

pub items-short : (items : List (AckId × ℕ)) → list_any has_long_deadline items ≡ false → AllByRecursion (λ (x : AckId × ℕ). x.1 ≤ 600) items
items-short [] e = tt
items-short (x ∷ xs) e = let p = or_parts (nat_lt 600 x.1) (list_any has_long_deadline xs) e in (ltb-false 600 x.1 p.0, items-short xs p.1)

tickets-short : (sub : SubRow) (items : List (AckId × ℕ)) → AllByRecursion (λ (x : AckId × ℕ). x.1 ≤ 600) items → AllByRecursion (λ (x : Ticket × ℕ). x.1 ≤ 600) (items_of sub items)
tickets-short sub items h = each-map (λ (x : AckId × ℕ). x.1 ≤ 600) (λ (x : Ticket × ℕ). x.1 ≤ 600) (λ (x : AckId × ℕ). (ticket_of x.0, x.1)) (filter (λ (x : AckId × ℕ). nat_eq x.0.sub sub.number) items) (λ x e. e)
    (each-left (λ (x : AckId × ℕ). x.1 ≤ 600) (λ (x : AckId × ℕ). nat_eq x.0.sub sub.number) items h)

-- a fact of the new mark that holds of each that it may be
extended-is : (P : Mark → Type 0) (t : ℕ) (mark : Mark) (o : Option ℕ) → P mark → ((seconds : ℕ) → o ≡ Some seconds → (seconds ≡ 0 → ⊥) → P (set_deadline (t + 1000 * seconds) mark)) → P (extended_by t mark o)
extended-is P t mark None same set = same
extended-is P t mark (Some seconds) same set = cond_both (nat_eq seconds 0) mark (set_deadline (t + 1000 * seconds) mark) P (λ _. same) (λ e. set seconds refl (eqb-false seconds 0 e))

set-fits : (t next deadline : ℕ) (mark : Mark) → t < deadline → deadline ≤ t + 600000 → MarkFits t next mark → MarkFits t next (set_deadline deadline mark)
set-fits t next deadline (Backlog f u l) up near h = h
set-fits t next deadline (Leased f l d) up near h = record { lent = h.lent; lives = up; near = near }
set-fits t next deadline (Ahead f) up near h = tt
set-fits t next deadline (Done c) up near h = tt
set-fits t next deadline (Gone c) up near h = tt

set-gone : (deadline : ℕ) (mark : Mark) → is_gone (set_deadline deadline mark) ≡ false → is_gone mark ≡ false
set-gone deadline (Backlog f u l) e = e
set-gone deadline (Leased f l d) e = e
set-gone deadline (Ahead f) e = e
set-gone deadline (Done c) e = e
set-gone deadline (Gone c) e = e

set-leased : (deadline : ℕ) (mark : Mark) → is_leased (set_deadline deadline mark) ≡ true → is_leased mark ≡ true
set-leased deadline (Backlog f u l) e = e
set-leased deadline (Leased f l d) e = e
set-leased deadline (Ahead f) e = e
set-leased deadline (Done c) e = e
set-leased deadline (Gone c) e = e

set-backlog : (deadline : ℕ) (mark : Mark) → is_backlog (set_deadline deadline mark) ≡ true → is_backlog mark ≡ true
set-backlog deadline (Backlog f u l) e = e
set-backlog deadline (Leased f l d) e = e
set-backlog deadline (Ahead f) e = e
set-backlog deadline (Done c) e = e
set-backlog deadline (Gone c) e = e

module _ (t count : ℕ) (w : World) (name : List ℕ) (sub : SubRow) (given : List (AckId × ℕ)) (found : sub_named w name ≡ Some sub) (short : AllByRecursion (λ (x : AckId × ℕ). x.1 ≤ 600) given) (h : IsUnderway t count w) where
  abbrev items : List (Ticket × ℕ)
  items = items_of sub given

  abbrev forward : Bool
  forward = is_some (dead_topic w sub)

  -- the deadlines are set first
  abbrev new : MarkRow → Mark
  new = at_sub sub.number (extended_mark t items) w.messages

  abbrev later : World
  later = marked new w

  new-is : (P : Mark → Type 0) (r : MarkRow) → P r.mark → ((seconds : ℕ) → seconds ≤ 600 → (seconds ≡ 0 → ⊥) → P (set_deadline (t + 1000 * seconds) r.mark)) → P (new r)
  new-is P r same set = cond_both (nat_eq r.sub sub.number) (extended_mark t items (slot_of w.messages r)) r.mark P
      (λ _. extended-is P t r.mark (seconds_for items (slot_of w.messages r) None) same (λ seconds e some. set seconds (subst IsShort e (seconds-short items (slot_of w.messages r) None (tickets-short sub given short) tt)) some)) (λ _. same)

  later-mild : IsMild t t w new
  later-mild = record {
    fits = λ r p. new-is (FitsAt t (sub_numbered w r.sub)) r p (λ seconds most some. fits r (sub_numbered w r.sub) seconds most some p);
    revives_none = λ r. new-is (λ mark. is_gone mark ≡ false → is_gone r.mark ≡ false) r (λ e. e) (λ seconds _ _. set-gone (t + 1000 * seconds) r.mark);
    lends_none = λ r. new-is (λ mark. is_leased mark ≡ true → is_leased r.mark ≡ true) r (λ e. e) (λ seconds _ _. set-leased (t + 1000 * seconds) r.mark);
  }
    where
      fits : (r : MarkRow) (o : Option SubRow) (seconds : ℕ) → seconds ≤ 600 → (seconds ≡ 0 → ⊥) → FitsAt t o r.mark → FitsAt t o (set_deadline (t + 1000 * seconds) r.mark)
      fits r None seconds most some p = p
      fits r (Some q) seconds most some p = let above : seconds ≢ 0 = some in set-fits t q.next_lease (t + 1000 * seconds) r.mark (omega arith) (omega arith) p

  later-underway : IsUnderway t count later
  later-underway = calm-underway t count new w later-mild (λ r. new-is (λ mark. is_backlog mark ≡ true → is_backlog r.mark ≡ true) r (λ e. e) (λ seconds _ _. set-backlog (t + 1000 * seconds) r.mark)) h

  own : sub_numbered w sub.number ≡ Some sub
  own = found-numbered (λ (r : SubRow). r.number) (λ (r : SubRow). bytes_eq r.name name) w.subs sub h.subs.ascend found

  later-slots : slots_of later sub.number ≡ extended t items (slots_of w sub.number)
  later-slots = ap (λ v. slots_of v sub.number) (sym (remark_at-marked sub.number (extended_mark t items) w)) ∙ slots-at (extended_mark t items) w sub.number

  -- then those that are given up fail, on this subscription alone
  abbrev fails : SubRow → Slot → Bool
  fails q s = nat_eq q.number sub.number && is_given_up items s

  abbrev forwards : SubRow → Bool
  forwards q = forward

  abbrev rule : Slot → Mark
  rule = mark_after_failing (is_given_up items) t forward sub.config (extended t items (slots_of w sub.number))

  abbrev failing : MarkRow → Mark
  failing = failing_mark t later fails forwards

  failing-is-at : (r : MarkRow) → at_sub sub.number rule later.messages r ≡ failing r
  failing-is-at r = at (nat_eq r.sub sub.number) refl (sub_numbered w r.sub) refl
    where
      at : (b : Bool) → nat_eq r.sub sub.number ≡ b → (o : Option SubRow) → sub_numbered w r.sub ≡ o
          → cond b (rule (slot_of w.messages r)) r.mark ≡ new_mark (λ q. mark_after_failing (fails q) t forward q.config) later r o
      at true eb None eo = absurd (cc (own, eo, eqb-true r.sub sub.number eb))
      at true eb (Some q) eo =
          let same : sub ≡ q = cc (own, eo, eqb-true r.sub sub.number eb) in
          let its : true ≡ nat_eq sub.number sub.number = sym (eq-eqb sub.number sub.number refl) in
          subst (λ (x : SubRow). rule (slot_of w.messages r) ≡ mark_after_failing (fails x) t forward x.config (slots_of later x.number) (slot_of w.messages r)) same
          (λ i. mark_after_failing (λ s. its i && is_given_up items s) t forward sub.config (sym later-slots i) (slot_of w.messages r))
      at false eb None eo = refl
      at false eb (Some q) eo =
          let other : nat_eq q.number sub.number ≡ false = ap (λ n. nat_eq n sub.number) (eqb-true q.number r.sub (found-passes (λ (x : SubRow). nat_eq x.number r.sub) w.subs q eo)) ∙ eb in
          sym (failing-same (fails q) t forward q.config (slots_of later q.number) (slot_of w.messages r) (and_left (nat_eq q.number sub.number) (is_given_up items (slot_of w.messages r)) other)
          (from-none-earlier q.config.ordering (fails q) (slot_of w.messages r) (slots_of later q.number) (each-always (λ (e : Slot). is_earlier q.config.ordering e (slot_of w.messages r) ≡ true → fails q e ≡ false) (slots_of later q.number)
          (λ e _. and_left (nat_eq q.number sub.number) (is_given_up items e) other))))

  abbrev final : World
  final = marked failing later

  final-same : remark_at sub.number rule (remark_at sub.number (extended_mark t items) w) ≡ final
  final-same = ap (remark_at sub.number rule) (remark_at-marked sub.number (extended_mark t items) w) ∙ remark_at-marked sub.number rule later ∙ (λ i. record later { marks = map (λ (r : MarkRow). remark_row r (failing-is-at r i)) later.marks })

  final-underway : IsUnderway t count final
  final-underway = marked-underway t count failing later (failing-mild t later fails forwards t (omega arith) h.subs.settings (λ q s _ p. p)) (failing-in_order t later fails forwards later-underway.marks.in_order) later-underway

  abbrev letters : List Letter
  letters = letters_of w sub (modify_dead t forward sub.config items (slots_of w sub.number))

  few : length letters ≤ tally (λ (r : MarkRow). nat_eq r.sub sub.number && is_some (dead_letter (is_given_up items) forward sub.config r.mark (slot_of w.messages r))) later.marks
  few = subst (λ slots. length (letters_of w sub (dead_letters (is_given_up items) forward sub.config slots)) ≤ tally (λ (r : MarkRow). nat_eq r.sub sub.number && is_some (dead_letter (is_given_up items) forward sub.config r.mark (slot_of w.messages r))) later.marks) later-slots
      (letters-few w later sub (is_given_up items) forward)

  die : tally (λ (r : MarkRow). nat_eq r.sub sub.number && is_some (dead_letter (is_given_up items) forward sub.config r.mark (slot_of w.messages r))) later.marks ≤ tally (dies t later fails forwards) later.marks
  die = tally-less (λ (r : MarkRow). nat_eq r.sub sub.number && is_some (dead_letter (is_given_up items) forward sub.config r.mark (slot_of w.messages r))) (dies t later fails forwards) later.marks at
    where
      at : (r : MarkRow) → (nat_eq r.sub sub.number && is_some (dead_letter (is_given_up items) forward sub.config r.mark (slot_of w.messages r))) ≡ true → dies t later fails forwards r ≡ true
      at r e =
          let p = and_parts (nat_eq r.sub sub.number) (is_some (dead_letter (is_given_up items) forward sub.config r.mark (slot_of w.messages r))) e in
          ap (λ o. dies_at t later fails forwards o r) (ap (λ n. sub_numbered w n) (eqb-true r.sub sub.number p.0) ∙ own)
          ∙ ap (λ b. is_some (dead_letter (λ s. b && is_given_up items s) forward sub.config r.mark (slot_of w.messages r))) (eq-eqb sub.number sub.number refl) ∙ p.1

  spent : leases_alive final + tally (dies t later fails forwards) later.marks ≤ leases_alive later
  spent = failing-room t later fails forwards

  fewer : leases_alive later ≤ leases_alive w
  fewer = marked-fewer new w later-mild.lends_none

  room : (w.next_message - 1) + (leases_alive final + length letters) ≤ 1000 * count
  room = omega (arith, h.marks.few, few, die, spent, fewer)

  -- What is left of changed deadlines, with their dead letters and what is expunged.
  pub modify-finished : IsFinished t count (expunge_world t (forward_letters t letters (remark_at sub.number rule (remark_at sub.number (extended_mark t items) w))))
  modify-finished = subst (λ v. IsFinished t count (expunge_world t (forward_letters t letters v))) (sym final-same) (leaves-finished t count final letters (letters-listed w w.next_topic sub (modify_dead t forward sub.config items (slots_of w sub.number)) h.topics.below) room final-underway)
