-- What a seek to a time leaves.
use Rattle.std.proofs.Common.{ℕ, ◌≡◌, ◌+◌, Bool, true, false, cond, nat_eq, nat_lt, refl, sym, ap, subst, arith, if◌then◌else◌}
use Rattle.std.proofs.lemmas.Bool.{cond_both, both_ways}
use Rattle.ps_model.specs.declared.mark.Mark.{Mark}
use Rattle.ps_model.specs.declared.mark.Mark.TheVariants.{Done}
use Rattle.ps_model.specs.declared.mark.DoneCause.TheVariants.{Acknowledged}
use Rattle.ps_model.specs.declared.mark.Slot.{Slot}
use Rattle.ps_model.specs.declared.world.World.{World}
use Rattle.ps_model.specs.declared.world.SubRow.{SubRow}
use Rattle.ps_model.specs.declared.world.MarkRow.{MarkRow}
use Rattle.ps_model.specs.Slots.{is_gone, is_leased, is_backlog}
use Rattle.ps_model.specs.Seeking.{fresh, sought_mark}
use Rattle.ps_model.specs.Worlds.{sub_numbered, remark_row, remark_at, slot_of}
use Rattle.ps_model.specs.Sound.{MarkFits, FitsAt}
use Rattle.ps_sound.proofs.worlds.Marks.{gone-not-leased}
use Rattle.ps_sound.proofs.worlds.Underway.{InOrder, IsUnderway, underway-more}
use Rattle.ps_sound.proofs.worlds.Marked.{marked, at_sub, remark_at-marked, IsMild, marked-in_order, marked-underway}
use Rattle.ps_sound.proofs.commands.Acknowledged.{resting-fits}

-- a fact of the new mark that holds of each that it may be
sought-is : (P : Mark → Type 0) (time : ℕ) (s : Slot) → (is_gone s.mark ≡ true → P s.mark) → (is_gone s.mark ≡ false → P (Done Acknowledged)) → (is_gone s.mark ≡ false → P fresh) → P (sought_mark time s)
sought-is P time s same done open_again =
    cond_both (is_gone s.mark) s.mark (if nat_lt s.item.publish time then Done Acknowledged else fresh) P same
    (λ lives. cond_both (nat_lt s.item.publish time) (Done Acknowledged) fresh P (λ _. done lives) (λ _. open_again lives))

sought-not-leased : (time : ℕ) (s : Slot) → is_leased (sought_mark time s) ≡ false
sought-not-leased time s = sought-is (λ mark. is_leased mark ≡ false) time s (gone-not-leased s.mark) (λ _. refl) (λ _. refl)

pub seek_time-underway : (t count : ℕ) (w : World) (sub : SubRow) (time : ℕ) → IsUnderway t count w → IsUnderway t (count + 1) (remark_at sub.number (sought_mark time) w)
seek_time-underway t count w sub time h =
    subst (IsUnderway t (count + 1)) (sym (remark_at-marked sub.number (sought_mark time) w)) (underway-more t count (count + 1) (marked new w) (omega arith) (marked-underway t count new w mild (marked-in_order new w pair h.marks.in_order) h))
  where
    new : MarkRow → Mark
    new = at_sub sub.number (sought_mark time) w.messages

    fresh-fits : (next : ℕ) → MarkFits t next fresh
    fresh-fits next = record { near = omega arith; lent = tt }

    mild : IsMild t t w new
    mild = record {
      fits = λ r p. cond_both (nat_eq r.sub sub.number) (sought_mark time (slot_of w.messages r)) r.mark (FitsAt t (sub_numbered w r.sub))
          (λ _. sought-is (FitsAt t (sub_numbered w r.sub)) time (slot_of w.messages r) (λ _. p) (λ _. resting-fits t (sub_numbered w r.sub) r.mark (Done Acknowledged) (λ next. tt) p) (λ _. resting-fits t (sub_numbered w r.sub) r.mark fresh fresh-fits p)) (λ _. p);
      revives_none = λ r. cond_both (nat_eq r.sub sub.number) (sought_mark time (slot_of w.messages r)) r.mark (λ mark. is_gone mark ≡ false → is_gone r.mark ≡ false)
          (λ _. sought-is (λ mark. is_gone mark ≡ false → is_gone r.mark ≡ false) time (slot_of w.messages r) (λ _ e. e) (λ lives _. lives) (λ lives _. lives)) (λ _ e. e);
      lends_none = λ r. cond_both (nat_eq r.sub sub.number) (sought_mark time (slot_of w.messages r)) r.mark (λ mark. is_leased mark ≡ true → is_leased r.mark ≡ true)
          (λ _ e. absurd (both_ways (is_leased (sought_mark time (slot_of w.messages r))) (sought-not-leased time (slot_of w.messages r)) e)) (λ _ e. e);
    }

    pair : (e r : MarkRow) → InOrder w e r → InOrder (marked new w) (remark_row e (new e)) (remark_row r (new r))
    pair e r q same early leased = cases (nat_eq r.sub sub.number) (nat_eq e.sub sub.number) (ap (λ n. nat_eq n sub.number) same) leased
      where
        cases : (b c : Bool) → c ≡ b → is_leased (cond b (sought_mark time (slot_of w.messages r)) r.mark) ≡ true → is_backlog (cond c (sought_mark time (slot_of w.messages e)) e.mark) ≡ false
        cases true c eb l = absurd (both_ways (is_leased (sought_mark time (slot_of w.messages r))) (sought-not-leased time (slot_of w.messages r)) l)
        cases false false eb l = q same early l
        cases false true eb l = absurd (cc (eb))
