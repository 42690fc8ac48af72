-- What leases that fail together leave.
use Rattle.std.proofs.Common.{ℕ, ◌≡◌, ◌+◌, ◌≤◌, ◌&&◌, Bool, true, false, cond, nat_eq, is_some, List, Option, Some, None, refl, sym, ◌∙◌, ap, subst, arith, if◌then◌else◌}
use Rattle.std.specs.List.{AllByRecursion}
use Rattle.std.proofs.lemmas.Bool.{leb-false, cond_both, both_ways, eqb-true}
use Rattle.ps_model.specs.declared.mark.Mark.{Mark}
use Rattle.ps_model.specs.declared.mark.Mark.TheVariants.{Backlog, Leased, Ahead, Done, Gone}
use Rattle.ps_model.specs.declared.mark.DoneCause.TheVariants.{Dead}
use Rattle.ps_model.specs.declared.mark.DeadLetter.{DeadLetter}
use Rattle.ps_model.specs.declared.mark.Slot.{Slot}
use Rattle.ps_config.specs.declared.config.SubConfig.{SubConfig}
use Rattle.ps_config.specs.declared.config.RetryPolicy.{RetryPolicy}
use Rattle.ps_model.specs.declared.world.World.{World}
use Rattle.ps_model.specs.declared.world.SubRow.{SubRow}
use Rattle.ps_model.specs.declared.world.MarkRow.{MarkRow}
use Rattle.ps_model.specs.Slots.{any_earlier, is_earlier, is_gone, is_leased, is_backlog}
use Rattle.ps_model.specs.Failing.{failed, fallen, mark_after_failing, dead_letter, is_over, retry_at, is_dead, one_more}
use Rattle.ps_model.specs.Worlds.{new_mark, remark_row, sub_numbered, slot_of, slots_of}
use Rattle.ps_model.specs.Checks.{new_sub_fault}
use Rattle.ps_model.specs.Sound.{MarkFits, FitsAt, leases_alive}
use Rattle.ps_base.proofs.Lists.{each-always, each-then, each-both, each-map, each-found, found-passes}
use Rattle.ps_sound.proofs.worlds.Counts.{one, tally-map-both}
use Rattle.ps_sound.proofs.worlds.Earlier.{each-earlier, from-none-earlier, none-earlier-on, rows-of-slots}
use Rattle.ps_sound.proofs.worlds.Underway.{ordering_of, InOrder, AllInOrder}
use Rattle.ps_sound.proofs.worlds.Marked.{marked, IsMild}
use Rattle.ps_sound.proofs.worlds.Settings.{IsShortRetry, short-retry}
use Rattle.ps_model.specs.Lists.{tally}

retry-near : (retry : Option RetryPolicy) (t failures : ℕ) → IsShortRetry retry → retry_at retry t failures ≤ t + 600000
retry-near None t failures h = omega arith
retry-near (Some retry) t failures h = omega (arith, h)

failed-fits : (now t next : ℕ) (forward : Bool) (config : SubConfig) (mark : Mark) → now ≤ t → IsShortRetry config.retry → MarkFits now next mark → MarkFits t next (failed t forward config mark)
failed-fits now t next forward config (Leased f lease deadline) e short h =
    cond_both (is_dead config.dead_letter forward (one_more f)) (Done Dead) (Backlog (one_more f) (retry_at config.retry t (one_more f)) (Some lease)) (MarkFits t next)
    (λ _. tt) (λ _. record { near = retry-near config.retry t (one_more f) short; lent = h.lent })
failed-fits now t next forward config (Backlog f u l) e short h = record { near = omega (arith, h.near); lent = h.lent }
failed-fits now t next forward config (Ahead f) e short h = tt
failed-fits now t next forward config (Done c) e short h = tt
failed-fits now t next forward config (Gone c) e short h = tt

fallen-fits : (now t next : ℕ) (mark : Mark) → now ≤ t → MarkFits now next mark → MarkFits t next (fallen mark)
fallen-fits now t next (Leased f lease deadline) e h = record { near = omega arith; lent = h.lent }
fallen-fits now t next (Backlog f u l) e h = record { near = omega (arith, h.near); lent = h.lent }
fallen-fits now t next (Ahead f) e h = record { near = omega arith; lent = tt }
fallen-fits now t next (Done c) e h = tt
fallen-fits now t next (Gone c) e h = tt

pub later-fits : (now t next : ℕ) (mark : Mark) → now ≤ t → MarkFits now next mark → is_over t mark ≡ false → MarkFits t next mark
later-fits now t next (Leased f lease deadline) e h over = record { lent = h.lent; lives = leb-false deadline t over; near = omega (arith, h.near) }
later-fits now t next (Backlog f u l) e h over = record { near = omega (arith, h.near); lent = h.lent }
later-fits now t next (Ahead f) e h over = tt
later-fits now t next (Done c) e h over = tt
later-fits now t next (Gone c) e h over = tt

-- moments and leases, where a mark that neither fails nor falls back still fits
pub failing-fits : (now t : ℕ) (fails : Slot → Bool) (forward : Bool) (sub : SubRow) (slots : List Slot) (s : Slot) → now ≤ t → IsShortRetry sub.config.retry → (fails s ≡ false → MarkFits now sub.next_lease s.mark → MarkFits t sub.next_lease s.mark) → MarkFits now sub.next_lease s.mark
    → MarkFits t sub.next_lease (mark_after_failing fails t forward sub.config slots s)
failing-fits now t fails forward sub slots s e short stays h =
    cond_both (fails s) (failed t forward sub.config s.mark) (if any_earlier sub.config.ordering fails slots s then fallen s.mark else s.mark) (MarkFits t sub.next_lease)
    (λ _. failed-fits now t sub.next_lease forward sub.config s.mark e short h)
    (λ over. cond_both (any_earlier sub.config.ordering fails slots s) (fallen s.mark) s.mark (MarkFits t sub.next_lease)
    (λ _. fallen-fits now t sub.next_lease s.mark e h) (λ _. stays over h))

-- a fact of the new mark that holds of each that it may be
pub failing-is : (P : Mark → Type 0) (fails : Slot → Bool) (t : ℕ) (forward : Bool) (config : SubConfig) (slots : List Slot) (s : Slot) → P (failed t forward config s.mark) → P (fallen s.mark) → P s.mark → P (mark_after_failing fails t forward config slots s)
failing-is P fails t forward config slots s a b c =
    cond_both (fails s) (failed t forward config s.mark) (if any_earlier config.ordering fails slots s then fallen s.mark else s.mark) P (λ _. a)
    (λ _. cond_both (any_earlier config.ordering fails slots s) (fallen s.mark) s.mark P (λ _. b) (λ _. c))

failed-gone : (t : ℕ) (forward : Bool) (config : SubConfig) (mark : Mark) → is_gone (failed t forward config mark) ≡ false → is_gone mark ≡ false
failed-gone t forward config (Leased f l d) e = refl
failed-gone t forward config (Backlog f u l) e = e
failed-gone t forward config (Ahead f) e = e
failed-gone t forward config (Done c) e = e
failed-gone t forward config (Gone c) e = e

fallen-gone : (mark : Mark) → is_gone (fallen mark) ≡ false → is_gone mark ≡ false
fallen-gone (Leased f l d) e = refl
fallen-gone (Backlog f u l) e = e
fallen-gone (Ahead f) e = refl
fallen-gone (Done c) e = e
fallen-gone (Gone c) e = e

failed-leased : (t : ℕ) (forward : Bool) (config : SubConfig) (mark : Mark) → is_leased (failed t forward config mark) ≡ true → is_leased mark ≡ true
failed-leased t forward config (Leased f l d) e = refl
failed-leased t forward config (Backlog f u l) e = e
failed-leased t forward config (Ahead f) e = e
failed-leased t forward config (Done c) e = e
failed-leased t forward config (Gone c) e = e

fallen-leased : (mark : Mark) → is_leased (fallen mark) ≡ true → is_leased mark ≡ true
fallen-leased (Leased f l d) e = refl
fallen-leased (Backlog f u l) e = e
fallen-leased (Ahead f) e = absurd (cc (e))
fallen-leased (Done c) e = e
fallen-leased (Gone c) e = e

-- no lease outlives its failing
failed-not-leased : (t : ℕ) (forward : Bool) (config : SubConfig) (mark : Mark) → is_leased (failed t forward config mark) ≡ false
failed-not-leased t forward config (Leased f l d) = cond_both (is_dead config.dead_letter forward (one_more f)) (Done Dead) (Backlog (one_more f) (retry_at config.retry t (one_more f)) (Some l)) (λ mark. is_leased mark ≡ false) (λ _. refl) (λ _. refl)
failed-not-leased t forward config (Backlog f u l) = refl
failed-not-leased t forward config (Ahead f) = refl
failed-not-leased t forward config (Done c) = refl
failed-not-leased t forward config (Gone c) = refl

fallen-not-leased : (mark : Mark) → is_leased (fallen mark) ≡ false
fallen-not-leased (Leased f l d) = refl
fallen-not-leased (Backlog f u l) = refl
fallen-not-leased (Ahead f) = refl
fallen-not-leased (Done c) = refl
fallen-not-leased (Gone c) = refl

-- what is out afterwards neither failed nor fell back, and was out
leased-after : (fails : Slot → Bool) (t : ℕ) (forward : Bool) (config : SubConfig) (slots : List Slot) (s : Slot) → is_leased (mark_after_failing fails t forward config slots s) ≡ true
    → (fails s ≡ false) × (any_earlier config.ordering fails slots s ≡ false) × (is_leased s.mark ≡ true)
leased-after fails t forward config slots s = cases (fails s) (any_earlier config.ordering fails slots s)
  where
    cases : (a b : Bool) → is_leased (cond a (failed t forward config s.mark) (cond b (fallen s.mark) s.mark)) ≡ true → (a ≡ false) × (b ≡ false) × (is_leased s.mark ≡ true)
    cases true b e = absurd (both_ways (is_leased (failed t forward config s.mark)) (failed-not-leased t forward config s.mark) e)
    cases false true e = absurd (both_ways (is_leased (fallen s.mark)) (fallen-not-leased s.mark) e)
    cases false false e = (refl, refl, e)

-- a mark that neither fails nor falls back is as it was
pub failing-same : (fails : Slot → Bool) (t : ℕ) (forward : Bool) (config : SubConfig) (slots : List Slot) (s : Slot) → fails s ≡ false → any_earlier config.ordering fails slots s ≡ false → mark_after_failing fails t forward config slots s ≡ s.mark
failing-same fails t forward config slots s a b = ap (λ x. cond x (failed t forward config s.mark) (if any_earlier config.ordering fails slots s then fallen s.mark else s.mark)) a ∙ ap (λ x. cond x (fallen s.mark) s.mark) b

-- a lease that dies was out, and is no more
dying-leased : (fails : Slot → Bool) (t : ℕ) (forward : Bool) (config : SubConfig) (slots : List Slot) (s : Slot)
    → one (is_leased (mark_after_failing fails t forward config slots s)) + one (is_some (dead_letter fails forward config s.mark s)) ≤ one (is_leased s.mark)
dying-leased fails t forward config slots s = at s.mark
  where
    leased : (a b : Bool) (lost : DeadLetter) (f l d : ℕ) → one (is_leased (cond a (failed t forward config (Leased f l d)) (cond (any_earlier config.ordering fails slots s) (fallen (Leased f l d)) (Leased f l d)))) + one (is_some (cond (a && b) (Some lost) None)) ≤ 1
    leased true true lost f l d = rw (failed-not-leased t forward config (Leased f l d)) (omega arith)
    leased true false lost f l d = rw (failed-not-leased t forward config (Leased f l d)) (omega arith)
    leased false b lost f l d = below (is_leased (cond (any_earlier config.ordering fails slots s) (fallen (Leased f l d)) (Leased f l d)))
      where
        below : (c : Bool) → one c + 0 ≤ 1
        below true = omega arith
        below false = omega arith

    other : (mark : Mark) → is_leased mark ≡ false → one (is_leased (cond (fails s) (failed t forward config mark) (cond (any_earlier config.ordering fails slots s) (fallen mark) mark))) + 0 ≤ one (is_leased mark)
    other mark e = rw (none, e) (omega arith)
      where
        none : is_leased (cond (fails s) (failed t forward config mark) (cond (any_earlier config.ordering fails slots s) (fallen mark) mark)) ≡ false
        none = cond_both (fails s) (failed t forward config mark) (cond (any_earlier config.ordering fails slots s) (fallen mark) mark) (λ m. is_leased m ≡ false) (λ _. failed-not-leased t forward config mark)
            (λ _. cond_both (any_earlier config.ordering fails slots s) (fallen mark) mark (λ m. is_leased m ≡ false) (λ _. fallen-not-leased mark) (λ _. e))

    at : (mark : Mark) → one (is_leased (cond (fails s) (failed t forward config mark) (cond (any_earlier config.ordering fails slots s) (fallen mark) mark))) + one (is_some (dead_letter fails forward config mark s)) ≤ one (is_leased mark)
    at (Leased f l d) = leased (fails s) (is_dead config.dead_letter forward (one_more f)) (record { number = s.item.number; failures = one_more f }) f l d
    at (Backlog f u l) = other (Backlog f u l) refl
    at (Ahead f) = other (Ahead f) refl
    at (Done c) = other (Done c) refl
    at (Gone c) = other (Gone c) refl

-- what fails, and whether dead letters are forwarded, for each subscription
module _ (t : ℕ) (w : World) (fails : SubRow → Slot → Bool) (forward : SubRow → Bool) where
  abbrev pub failing_rule : SubRow → List Slot → Slot → Mark
  failing_rule sub = mark_after_failing (fails sub) t (forward sub) sub.config

  -- the new mark of a row
  abbrev pub failing_mark : MarkRow → Mark
  failing_mark r = new_mark failing_rule w r (sub_numbered w r.sub)

  abbrev pub dies_at : Option SubRow → MarkRow → Bool
  dies_at None r = false
  dies_at (Some sub) r = is_some (dead_letter (fails sub) (forward sub) sub.config r.mark (slot_of w.messages r))

  -- the row's lease dies
  abbrev pub dies : MarkRow → Bool
  dies r = dies_at (sub_numbered w r.sub) r

  -- each dead letter takes up a lease
  pub failing-room : leases_alive (marked failing_mark w) + tally dies w.marks ≤ leases_alive w
  failing-room = tally-map-both (λ (r : MarkRow). is_leased r.mark) dies (λ (r : MarkRow). is_leased r.mark) (λ (r : MarkRow). remark_row r (failing_mark r)) w.marks (λ r. at r (sub_numbered w r.sub))
    where
      at : (r : MarkRow) (o : Option SubRow) → one (is_leased (new_mark failing_rule w r o)) + one (dies_at o r) ≤ one (is_leased r.mark)
      at r None = omega arith
      at r (Some sub) = dying-leased (fails sub) t (forward sub) sub.config (slots_of w sub.number) (slot_of w.messages r)

  pub failing-mild : (now : ℕ) → now ≤ t → AllByRecursion (λ (r : SubRow). new_sub_fault r.config ≡ None) w.subs
      → ((sub : SubRow) (s : Slot) → fails sub s ≡ false → MarkFits now sub.next_lease s.mark → MarkFits t sub.next_lease s.mark) → IsMild now t w failing_mark
  failing-mild now later settings stays = record {
    fits = λ r. fits r (sub_numbered w r.sub) refl;
    revives_none = λ r. gone r (sub_numbered w r.sub);
    lends_none = λ r. leased r (sub_numbered w r.sub);
  }
    where
      fits : (r : MarkRow) (o : Option SubRow) → sub_numbered w r.sub ≡ o → FitsAt now o r.mark → FitsAt t o (new_mark failing_rule w r o)
      fits r None e h = h
      fits r (Some sub) e h =
          let short : IsShortRetry sub.config.retry = short-retry sub.config (each-found (λ (r : SubRow). new_sub_fault r.config ≡ None) (λ (x : SubRow). nat_eq x.number r.sub) w.subs sub e settings) in
          failing-fits now t (fails sub) (forward sub) sub (slots_of w sub.number) (slot_of w.messages r) later short (stays sub (slot_of w.messages r)) h

      gone : (r : MarkRow) (o : Option SubRow) → is_gone (new_mark failing_rule w r o) ≡ false → is_gone r.mark ≡ false
      gone r None e = e
      gone r (Some sub) e = failing-is (λ mark. is_gone mark ≡ false → is_gone r.mark ≡ false) (fails sub) t (forward sub) sub.config (slots_of w sub.number) (slot_of w.messages r)
          (failed-gone t (forward sub) sub.config r.mark) (fallen-gone r.mark) (λ e. e) e

      leased : (r : MarkRow) (o : Option SubRow) → is_leased (new_mark failing_rule w r o) ≡ true → is_leased r.mark ≡ true
      leased r None e = e
      leased r (Some sub) e = (leased-after (fails sub) t (forward sub) sub.config (slots_of w sub.number) (slot_of w.messages r) e).2

  -- failing keeps the order: what brings a message back brings the later ones of its key back
  pub failing-in_order : AllInOrder w → AllInOrder (marked failing_mark w)
  failing-in_order h = each-map (λ (r : MarkRow). AllByRecursion (λ (e : MarkRow). InOrder w e r) w.marks) (λ (r : MarkRow). AllByRecursion (λ (e : MarkRow). InOrder (marked failing_mark w) e r) (marked failing_mark w).marks) f w.marks
      (λ r p. row r (sub_numbered w r.sub) refl p) h
    where
      f : MarkRow → MarkRow
      f r = remark_row r (failing_mark r)

      -- at a row of a subscription that is there, each other row of it
      InOrderAt : MarkRow → Option SubRow → MarkRow → Type 0
      InOrderAt r o e = e.sub ≡ r.sub → is_earlier (ordering_of o) (slot_of w.messages e) (slot_of w.messages r) ≡ true → is_leased (new_mark failing_rule w r o) ≡ true → is_backlog (failing_mark e) ≡ false

      pair : (r e : MarkRow) (sub : SubRow) → sub_numbered w r.sub ≡ Some sub → InOrder w e r
          → (e.sub ≡ sub.number → is_earlier sub.config.ordering (slot_of w.messages e) (slot_of w.messages r) ≡ true → any_earlier sub.config.ordering (fails sub) (slots_of w sub.number) (slot_of w.messages r) ≡ false → fails sub (slot_of w.messages e) ≡ false)
          → InOrderAt r (Some sub) e
      pair r e sub own q none same early leased =
          let after = leased-after (fails sub) t (forward sub) sub.config (slots_of w sub.number) (slot_of w.messages r) leased in
          let number : sub.number ≡ r.sub = eqb-true sub.number r.sub (found-passes (λ (x : SubRow). nat_eq x.number r.sub) w.subs sub own) in
          let mine : sub_numbered w e.sub ≡ Some sub = ap (λ n. sub_numbered w n) same ∙ own in
          let not_failing : fails sub (slot_of w.messages e) ≡ false = none (same ∙ sym number) early after.1 in
          let none_before : any_earlier sub.config.ordering (fails sub) (slots_of w sub.number) (slot_of w.messages e) ≡ false =
          from-none-earlier sub.config.ordering (fails sub) (slot_of w.messages e) (slots_of w sub.number) (none-earlier-on sub.config.ordering (fails sub) (slot_of w.messages e) (slot_of w.messages r) (slots_of w sub.number) early
          (each-earlier sub.config.ordering (fails sub) (slot_of w.messages r) (slots_of w sub.number) after.1)) in
          let waits : is_backlog e.mark ≡ false = q same (ap (λ o. is_earlier (ordering_of o) (slot_of w.messages e) (slot_of w.messages r)) own ∙ early) after.2 in
          ap is_backlog (ap (λ o. new_mark failing_rule w e o) mine ∙ failing-same (fails sub) t (forward sub) sub.config (slots_of w sub.number) (slot_of w.messages e) not_failing none_before) ∙ waits

      -- none of the rows before it fails, where none of its slots does
      none-fails : (r : MarkRow) (sub : SubRow) → AllByRecursion (λ (e : MarkRow). e.sub ≡ sub.number → is_earlier sub.config.ordering (slot_of w.messages e) (slot_of w.messages r) ≡ true
          → any_earlier sub.config.ordering (fails sub) (slots_of w sub.number) (slot_of w.messages r) ≡ false → fails sub (slot_of w.messages e) ≡ false) w.marks
      none-fails r sub = cases (any_earlier sub.config.ordering (fails sub) (slots_of w sub.number) (slot_of w.messages r)) refl
        where
          cases : (b : Bool) → any_earlier sub.config.ordering (fails sub) (slots_of w sub.number) (slot_of w.messages r) ≡ b → AllByRecursion (λ (e : MarkRow). e.sub ≡ sub.number → is_earlier sub.config.ordering (slot_of w.messages e) (slot_of w.messages r) ≡ true
              → any_earlier sub.config.ordering (fails sub) (slots_of w sub.number) (slot_of w.messages r) ≡ false → fails sub (slot_of w.messages e) ≡ false) w.marks
          cases true eb = each-always _ w.marks (λ e same early none. absurd (both_ways (any_earlier sub.config.ordering (fails sub) (slots_of w sub.number) (slot_of w.messages r)) none eb))
          cases false eb = each-then (λ (e : MarkRow). e.sub ≡ sub.number → is_earlier sub.config.ordering (slot_of w.messages e) (slot_of w.messages r) ≡ true → fails sub (slot_of w.messages e) ≡ false) _ w.marks (λ e k same early _. k same early)
              (rows-of-slots (λ (s : Slot). is_earlier sub.config.ordering s (slot_of w.messages r) ≡ true → fails sub s ≡ false) w sub.number (each-earlier sub.config.ordering (fails sub) (slot_of w.messages r) (slots_of w sub.number) eb))

      row : (r : MarkRow) (o : Option SubRow) → sub_numbered w r.sub ≡ o → AllByRecursion (λ (e : MarkRow). InOrder w e r) w.marks → AllByRecursion (λ (e : MarkRow). InOrder (marked failing_mark w) e (f r)) (marked failing_mark w).marks
      row r None eo p = each-map (λ (e : MarkRow). InOrder w e r) (λ (e : MarkRow). InOrder (marked failing_mark w) e (f r)) f w.marks
          (λ e q same early leased. absurd (cc (ap (λ o. is_earlier (ordering_of o) (slot_of w.messages e) (slot_of w.messages r)) (sym eo) ∙ early))) p
      row r (Some sub) eo p = each-map
          (λ (e : MarkRow). InOrder w e r × (e.sub ≡ sub.number → is_earlier sub.config.ordering (slot_of w.messages e) (slot_of w.messages r) ≡ true
          → any_earlier sub.config.ordering (fails sub) (slots_of w sub.number) (slot_of w.messages r) ≡ false → fails sub (slot_of w.messages e) ≡ false))
          (λ (e : MarkRow). InOrder (marked failing_mark w) e (f r)) f w.marks
          (λ e q. subst (λ o. InOrderAt r o e) (sym eo) (pair r e sub eo q.0 q.1))
          (each-both (λ (e : MarkRow). InOrder w e r) (λ (e : MarkRow). e.sub ≡ sub.number → is_earlier sub.config.ordering (slot_of w.messages e) (slot_of w.messages r) ≡ true
          → any_earlier sub.config.ordering (fails sub) (slots_of w sub.number) (slot_of w.messages r) ≡ false → fails sub (slot_of w.messages e) ≡ false) w.marks p (none-fails r sub))
