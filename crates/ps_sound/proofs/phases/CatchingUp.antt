-- What catching up leaves.
use Rattle.std.proofs.Common.{ℕ, ◌≡◌, Bool, true, false, List, Option, Some, None, refl}
use Rattle.std.proofs.lemmas.Bool.{cond_both}
use Rattle.ps_model.specs.declared.mark.Mark.{Mark}
use Rattle.ps_model.specs.declared.mark.Mark.TheVariants.{Backlog, Leased, Ahead, Done, Gone}
use Rattle.ps_model.specs.declared.mark.Slot.{Slot}
use Rattle.ps_model.specs.declared.world.World.{World}
use Rattle.ps_model.specs.declared.world.SubRow.{SubRow}
use Rattle.ps_model.specs.declared.world.MarkRow.{MarkRow}
use Rattle.ps_model.specs.Slots.{is_gone, is_leased, is_backlog, is_unacked, any_earlier}
use Rattle.ps_model.specs.Retention.{caught_up_as, caught_up_mark}
use Rattle.ps_model.specs.Worlds.{new_mark, sub_numbered, slot_of, slots_of}
use Rattle.ps_model.specs.Settling.{catch_up}
use Rattle.ps_model.specs.Sound.{MarkFits, FitsAt}
use Rattle.ps_sound.proofs.worlds.Underway.{IsUnderway}
use Rattle.ps_sound.proofs.worlds.Marked.{IsMild, calm-underway}

as-fits : (t next : ℕ) (mark : Mark) → MarkFits t next mark → MarkFits t next (caught_up_as mark)
as-fits t next (Backlog f u l) h = h
as-fits t next (Leased f l d) h = h
as-fits t next (Ahead f) h = tt
as-fits t next (Done c) h = tt
as-fits t next (Gone c) h = tt

as-gone : (mark : Mark) → is_gone (caught_up_as mark) ≡ false → is_gone mark ≡ false
as-gone (Backlog f u l) e = e
as-gone (Leased f l d) e = e
as-gone (Ahead f) e = refl
as-gone (Done c) e = e
as-gone (Gone c) e = e

as-leased : (mark : Mark) → is_leased (caught_up_as mark) ≡ true → is_leased mark ≡ true
as-leased (Backlog f u l) e = e
as-leased (Leased f l d) e = e
as-leased (Ahead f) e = e
as-leased (Done c) e = e
as-leased (Gone c) e = e

as-backlog : (mark : Mark) → is_backlog (caught_up_as mark) ≡ true → is_backlog mark ≡ true
as-backlog (Backlog f u l) e = e
as-backlog (Leased f l d) e = e
as-backlog (Ahead f) e = e
as-backlog (Done c) e = e
as-backlog (Gone c) e = e

-- the new mark of a row where what was ahead catches up
abbrev pub caught_mark : World → MarkRow → Mark
caught_mark w r = new_mark (λ sub. caught_up_mark sub.config.ordering) w r (sub_numbered w r.sub)

-- a fact of the new mark that holds of each that it may be
pub caught-is : (P : Mark → Type 0) (ordering : Bool) (slots : List Slot) (s : Slot) → P s.mark → P (caught_up_as s.mark) → P (caught_up_mark ordering slots s)
caught-is P ordering slots s a b = cond_both (any_earlier ordering (λ e. is_unacked e.mark) slots s) s.mark (caught_up_as s.mark) P (λ _. a) (λ _. b)

pub catching-up-mild : (t : ℕ) (w : World) → IsMild t t w (caught_mark w)
catching-up-mild t w = record {
  fits = λ r. fits r (sub_numbered w r.sub);
  revives_none = λ r. gone r (sub_numbered w r.sub);
  lends_none = λ r. leased r (sub_numbered w r.sub);
}
  where
    rule : SubRow → List Slot → Slot → Mark
    rule sub = caught_up_mark sub.config.ordering

    fits : (r : MarkRow) (o : Option SubRow) → FitsAt t o r.mark → FitsAt t o (new_mark rule w r o)
    fits r None h = h
    fits r (Some sub) h = caught-is (MarkFits t sub.next_lease) sub.config.ordering (slots_of w sub.number) (slot_of w.messages r) h (as-fits t sub.next_lease r.mark h)

    gone : (r : MarkRow) (o : Option SubRow) → is_gone (new_mark rule w r o) ≡ false → is_gone r.mark ≡ false
    gone r None e = e
    gone r (Some sub) e = caught-is (λ mark. is_gone mark ≡ false → is_gone r.mark ≡ false) sub.config.ordering (slots_of w sub.number) (slot_of w.messages r) (λ e. e) (as-gone r.mark) e

    leased : (r : MarkRow) (o : Option SubRow) → is_leased (new_mark rule w r o) ≡ true → is_leased r.mark ≡ true
    leased r None e = e
    leased r (Some sub) e = caught-is (λ mark. is_leased mark ≡ true → is_leased r.mark ≡ true) sub.config.ordering (slots_of w sub.number) (slot_of w.messages r) (λ e. e) (as-leased r.mark) e

catching-up-waits : (w : World) (r : MarkRow) (o : Option SubRow) → is_backlog (new_mark (λ sub. caught_up_mark sub.config.ordering) w r o) ≡ true → is_backlog r.mark ≡ true
catching-up-waits w r None e = e
catching-up-waits w r (Some sub) e = caught-is (λ mark. is_backlog mark ≡ true → is_backlog r.mark ≡ true) sub.config.ordering (slots_of w sub.number) (slot_of w.messages r) (λ e. e) (as-backlog r.mark) e

pub catch_up-underway : (t count : ℕ) (w : World) → IsUnderway t count w → IsUnderway t count (catch_up w)
catch_up-underway t count w h = calm-underway t count (caught_mark w) w (catching-up-mild t w) (λ r. catching-up-waits w r (sub_numbered w r.sub)) h
