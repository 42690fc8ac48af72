-- What expunging leaves.
use Rattle.std.proofs.Common.{ℕ, ◌≡◌, true, false, ◌&&◌, ◌||◌, not, List, Option, Some, None, refl, sym, ◌∙◌, subst, inl, inr}
use Rattle.std.proofs.Common.{◌⊎◌}
use Rattle.std.specs.List.{AllByRecursion}
use Rattle.std.proofs.lemmas.Bool.{cond_both, both_ways, and_parts, and_cases, or_cases, not-false}
use Rattle.ps_model.specs.declared.mark.Mark.{Mark}
use Rattle.ps_model.specs.declared.mark.Mark.TheVariants.{Backlog, Leased, Ahead, Done, Gone}
use Rattle.ps_model.specs.declared.mark.Slot.{Slot}
use Rattle.ps_config.specs.declared.config.SubConfig.{SubConfig}
use Rattle.ps_model.specs.declared.hold.Holds.{Holds}
use Rattle.ps_model.specs.declared.world.World.{World}
use Rattle.ps_model.specs.declared.world.SubRow.{SubRow}
use Rattle.ps_model.specs.declared.world.MarkRow.{MarkRow}
use Rattle.ps_model.specs.Slots.{is_gone, is_done, is_leased, is_backlog, is_ahead, is_unacked, remark, remarked}
use Rattle.ps_model.specs.Retention.{holds, lapsed, expired_mark, caught_up_as, caught_up_mark, released_mark}
use Rattle.ps_model.specs.Worlds.{remark_all, remark_row, new_mark, sub_numbered, slot_of, slots_of, holds_of}
use Rattle.ps_model.specs.Settling.{expire, catch_up, release, expunge_world}
use Rattle.ps_model.specs.Sound.{MarkFits, FitsAt, OnEachSlot, IsAheadOfOne}
use Rattle.ps_base.proofs.Lists.{each-always, each-then, each-both, each-map}
use Rattle.ps_sound.proofs.worlds.Lists.{found-own, Ascending}
use Rattle.ps_sound.proofs.worlds.Marks.{lapsed-gone, gone-fits, gone-not-leased, gone-not-backlog, gone-not-ahead, gone-not-unacked, done-not-unacked}
use Rattle.ps_sound.proofs.worlds.Underway.{IsUnderway, IsFinished, AllHeld, IsHeldAt}
use Rattle.ps_sound.proofs.worlds.Marked.{IsMild, calm-underway}
use Rattle.ps_sound.proofs.worlds.Slotted.{slots-remarked, any-remarked, caught-up-ahead}
use Rattle.ps_sound.proofs.phases.LettingGo.{let_go-finished}
use Rattle.ps_sound.proofs.phases.CatchingUp.{catch_up-underway, caught-is}

-- a rule by which each mark stays as it is or lapses
abbrev IsLapsing : (SubRow → List Slot → Slot → Mark) → Type 1
IsLapsing rule = (P : Mark → Type 0) (sub : SubRow) (slots : List Slot) (s : Slot) → P s.mark → P (lapsed s.mark) → P (rule sub slots s)

lapse-underway : (rule : SubRow → List Slot → Slot → Mark) (t count : ℕ) (w : World) → IsLapsing rule → IsUnderway t count w → IsUnderway t count (remark_all rule w)
lapse-underway rule t count w k h = calm-underway t count new w mild (λ r. backlog r (sub_numbered w r.sub)) h
  where
    new : MarkRow → Mark
    new r = new_mark rule w r (sub_numbered w r.sub)

    fits : (r : MarkRow) (o : Option SubRow) → FitsAt t o r.mark → FitsAt t o (new_mark rule w r o)
    fits r None p = p
    fits r (Some sub) p = k (MarkFits t sub.next_lease) sub (slots_of w sub.number) (slot_of w.messages r) p (gone-fits t sub.next_lease (lapsed r.mark) (lapsed-gone r.mark))

    gone : (r : MarkRow) (o : Option SubRow) → is_gone (new_mark rule w r o) ≡ false → is_gone r.mark ≡ false
    gone r None = λ e. e
    gone r (Some sub) = k (λ mark. is_gone mark ≡ false → is_gone r.mark ≡ false) sub (slots_of w sub.number) (slot_of w.messages r) (λ e. e) (λ e. absurd (both_ways (is_gone (lapsed r.mark)) e (lapsed-gone r.mark)))

    leased : (r : MarkRow) (o : Option SubRow) → is_leased (new_mark rule w r o) ≡ true → is_leased r.mark ≡ true
    leased r None = λ e. e
    leased r (Some sub) = k (λ mark. is_leased mark ≡ true → is_leased r.mark ≡ true) sub (slots_of w sub.number) (slot_of w.messages r) (λ e. e)
        (λ e. absurd (both_ways (is_leased (lapsed r.mark)) (gone-not-leased (lapsed r.mark) (lapsed-gone r.mark)) e))

    backlog : (r : MarkRow) (o : Option SubRow) → is_backlog (new_mark rule w r o) ≡ true → is_backlog r.mark ≡ true
    backlog r None = λ e. e
    backlog r (Some sub) = k (λ mark. is_backlog mark ≡ true → is_backlog r.mark ≡ true) sub (slots_of w sub.number) (slot_of w.messages r) (λ e. e)
        (λ e. absurd (both_ways (is_backlog (lapsed r.mark)) (gone-not-backlog (lapsed r.mark) (lapsed-gone r.mark)) e))

    mild : IsMild t t w new
    mild = record { fits = λ r. fits r (sub_numbered w r.sub); revives_none = λ r. gone r (sub_numbered w r.sub); lends_none = λ r. leased r (sub_numbered w r.sub) }

-- a fact of the new mark that holds of each that it may be
pub expired-is : (P : Mark → Type 0) (t : ℕ) (config : SubConfig) (held : Holds) (s : Slot) → ((is_done s.mark || holds t config held s) ≡ true → P s.mark) → P (lapsed s.mark) → P (expired_mark t config held s)
expired-is P t config held s a b = cond_both (is_done s.mark || holds t config held s) s.mark (lapsed s.mark) P a (λ _. b)

pub released-is : (P : Mark → Type 0) (t : ℕ) (config : SubConfig) (held : Holds) (s : Slot) → ((is_done s.mark && not (holds t config held s)) ≡ false → P s.mark) → (is_done s.mark ≡ true → P (lapsed s.mark)) → P (released_mark t config held s)
released-is P t config held s a b = cond_both (is_done s.mark && not (holds t config held s)) (lapsed s.mark) s.mark P (λ e. b (and_parts (is_done s.mark) (not (holds t config held s)) e).0) a

expire-underway : (t count : ℕ) (w : World) → IsUnderway t count w → IsUnderway t count (expire t w)
expire-underway t count w = lapse-underway (λ sub slots. expired_mark t sub.config (holds_of w sub.topic)) t count w (λ P sub slots s a b. expired-is P t sub.config (holds_of w sub.topic) s (λ _. a) b)

release-underway : (t count : ℕ) (w : World) → IsUnderway t count w → IsUnderway t count (release t w)
release-underway t count w = lapse-underway (λ sub slots. released_mark t sub.config (holds_of w sub.topic)) t count w (λ P sub slots s a b. released-is P t sub.config (holds_of w sub.topic) s (λ _. a) (λ _. b))

-- What the parts make of a slot, one after the other: what isn't gone is dealt with or held, still so, and held.
abbrev DoneOrHeld : ℕ → SubConfig → Holds → Slot → Mark → Type 0
DoneOrHeld t config held s mark = is_gone mark ≡ false → (is_done mark || holds t config held (remark s mark)) ≡ true

expired-held : (t : ℕ) (config : SubConfig) (held : Holds) (s : Slot) → DoneOrHeld t config held s (expired_mark t config held s)
expired-held t config held s = expired-is (DoneOrHeld t config held s) t config held s (λ e lives. e) (λ lives. absurd (both_ways (is_gone (lapsed s.mark)) lives (lapsed-gone s.mark)))

caught-held : (t : ℕ) (config : SubConfig) (held : Holds) (slots : List Slot) (s : Slot) → DoneOrHeld t config held s s.mark → DoneOrHeld t config held s (caught_up_mark config.ordering slots s)
caught-held t config held slots s h = caught-is (DoneOrHeld t config held s) config.ordering slots s h (at s.mark h)
  where
    at : (mark : Mark) → DoneOrHeld t config held s mark → DoneOrHeld t config held s (caught_up_as mark)
    at (Backlog f u l) p = p
    at (Leased f l d) p = p
    at (Ahead f) p = λ lives. refl
    at (Done c) p = p
    at (Gone c) p = p

released-held : (t : ℕ) (config : SubConfig) (held : Holds) (s : Slot) → DoneOrHeld t config held s s.mark → is_gone (released_mark t config held s) ≡ false → holds t config held (remark s (released_mark t config held s)) ≡ true
released-held t config held s h = released-is (λ mark. is_gone mark ≡ false → holds t config held (remark s mark) ≡ true) t config held s (λ e lives. at e (or_cases (is_done s.mark) (holds t config held s) (h lives)))
    (λ _ lives. absurd (both_ways (is_gone (lapsed s.mark)) lives (lapsed-gone s.mark)))
  where
    at : (is_done s.mark && not (holds t config held s)) ≡ false → (is_done s.mark ≡ true) ⊎ (holds t config held s ≡ true) → holds t config held s ≡ true
    at e (inr it_is) = it_is
    at e (inl done) = either (and_cases (is_done s.mark) (not (holds t config held s)) e)
      where
        either : (is_done s.mark ≡ false) ⊎ (not (holds t config held s) ≡ false) → holds t config held s ≡ true
        either (inl not_done) = absurd (both_ways (is_done s.mark) not_done done)
        either (inr not_not) = not-false (holds t config held s) not_not

-- at each row
abbrev RowDoneOrHeld : ℕ → World → MarkRow → Type 0
RowDoneOrHeld t w r = (sub : SubRow) → sub_numbered w r.sub ≡ Some sub → DoneOrHeld t sub.config (holds_of w sub.topic) (slot_of w.messages r) r.mark

expunged-held : (t : ℕ) (w : World) → AllHeld t (release t (catch_up (expire t w)))
expunged-held t w =
    each-map (RowDoneOrHeld t w) (IsHeldAt t w) (λ (r : MarkRow). remark_row r (new_mark releasing caught r (sub_numbered w r.sub))) caught.marks
    (λ r k sub own. subst (λ o. is_gone (new_mark releasing caught r o) ≡ false → holds t sub.config (holds_of w sub.topic) (remark (slot_of w.messages r) (new_mark releasing caught r o)) ≡ true) (sym own)
    (released-held t sub.config (holds_of w sub.topic) (slot_of w.messages r) (k sub own)))
    (each-map (RowDoneOrHeld t w) (RowDoneOrHeld t w) (λ (r : MarkRow). remark_row r (new_mark catching expired r (sub_numbered w r.sub))) expired.marks
    (λ r k sub own. subst (λ o. DoneOrHeld t sub.config (holds_of w sub.topic) (slot_of w.messages r) (new_mark catching expired r o)) (sym own)
    (caught-held t sub.config (holds_of w sub.topic) (slots_of expired sub.number) (slot_of w.messages r) (k sub own)))
    (each-map (λ (r : MarkRow). Unit {0}) (RowDoneOrHeld t w) (λ (r : MarkRow). remark_row r (new_mark expiring w r (sub_numbered w r.sub))) w.marks
    (λ r _ sub own. subst (λ o. DoneOrHeld t sub.config (holds_of w sub.topic) (slot_of w.messages r) (new_mark expiring w r o)) (sym own)
    (expired-held t sub.config (holds_of w sub.topic) (slot_of w.messages r)))
    (each-always (λ (r : MarkRow). Unit {0}) w.marks (λ r. tt))))
  where
    expiring : SubRow → List Slot → Slot → Mark
    expiring sub slots = expired_mark t sub.config (holds_of w sub.topic)

    expired : World
    expired = expire t w

    catching : SubRow → List Slot → Slot → Mark
    catching sub = caught_up_mark sub.config.ordering

    caught : World
    caught = catch_up expired

    releasing : SubRow → List Slot → Slot → Mark
    releasing sub slots = released_mark t sub.config (holds_of w sub.topic)

-- what is ahead stays behind what it is behind
released-ahead : (t : ℕ) (w : World) → Ascending (λ (r : SubRow). r.number) w.subs → OnEachSlot w IsAheadOfOne → OnEachSlot (release t w) IsAheadOfOne
released-ahead t w ascend h = each-then (λ sub. (sub_numbered w sub.number ≡ Some sub) × AllByRecursion (IsAheadOfOne sub (slots_of w sub.number)) (slots_of w sub.number))
    (λ (sub : SubRow). AllByRecursion (IsAheadOfOne sub (slots_of (release t w) sub.number)) (slots_of (release t w) sub.number)) w.subs
    (λ sub p. subst (λ slots. AllByRecursion (IsAheadOfOne sub slots) slots) (sym (slots-remarked (λ x slots. released_mark t x.config (holds_of w x.topic)) w sub p.0)) (each sub (slots_of w sub.number) p.1))
    (each-both (λ (sub : SubRow). sub_numbered w sub.number ≡ Some sub) (λ (sub : SubRow). AllByRecursion (IsAheadOfOne sub (slots_of w sub.number)) (slots_of w sub.number)) w.subs (found-own (λ (r : SubRow). r.number) w.subs ascend) h)
  where
    still : (sub : SubRow) (s : Slot) → is_ahead (released_mark t sub.config (holds_of w sub.topic) s) ≡ true → is_ahead s.mark ≡ true
    still sub s = released-is (λ mark. is_ahead mark ≡ true → is_ahead s.mark ≡ true) t sub.config (holds_of w sub.topic) s (λ _ e. e) (λ _ e. absurd (both_ways (is_ahead (lapsed s.mark)) (gone-not-ahead (lapsed s.mark) (lapsed-gone s.mark)) e))

    unacked : (sub : SubRow) (s : Slot) → is_unacked (released_mark t sub.config (holds_of w sub.topic) s) ≡ is_unacked s.mark
    unacked sub s = released-is (λ mark. is_unacked mark ≡ is_unacked s.mark) t sub.config (holds_of w sub.topic) s (λ _. refl) (λ done. gone-not-unacked (lapsed s.mark) (lapsed-gone s.mark) ∙ sym (done-not-unacked s.mark done))

    each : (sub : SubRow) (slots : List Slot) → AllByRecursion (IsAheadOfOne sub slots) slots → AllByRecursion (IsAheadOfOne sub (remarked (released_mark t sub.config (holds_of w sub.topic)) slots)) (remarked (released_mark t sub.config (holds_of w sub.topic)) slots)
    each sub slots p = each-map (IsAheadOfOne sub slots) (IsAheadOfOne sub (remarked (released_mark t sub.config (holds_of w sub.topic)) slots)) (λ s. remark s (released_mark t sub.config (holds_of w sub.topic) s)) slots
        (λ s k ahead. any-remarked sub.config.ordering is_unacked (released_mark t sub.config (holds_of w sub.topic)) slots s (released_mark t sub.config (holds_of w sub.topic) s) (unacked sub) ∙ k (still sub s ahead)) p

-- Expunging finishes a world, whatever is held.
pub expunge-finished : (t count : ℕ) (w : World) → IsUnderway t count w → IsFinished t count (expunge_world t w)
expunge-finished t count w h =
    let caught : World = catch_up (expire t w) in
    let a = catch_up-underway t count (expire t w) (expire-underway t count w h) in
    let_go-finished t count (release t caught) (release-underway t count caught a) (released-ahead t caught h.subs.ascend (caught-up-ahead (expire t w) h.subs.ascend)) (expunged-held t w)
