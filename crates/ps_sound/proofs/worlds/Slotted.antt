-- The slots of a subscription after a change of the marks, and what catching up leaves of them.
use Rattle.std.proofs.Common.{ℕ, ◌≡◌, Bool, true, false, cond, ◌&&◌, ◌||◌, nat_eq, List, [], ◌∷◌, Some, map, refl, sym, ◌∙◌, ap, subst}
use Rattle.std.specs.List.{AllByRecursion}
use Rattle.std.proofs.lemmas.Bool.{eqb-true, eq-eqb, cond_both, both_ways}
use Rattle.ps_model.specs.declared.mark.Mark.{Mark}
use Rattle.ps_model.specs.declared.mark.Mark.TheVariants.{Backlog, Leased, Ahead, Done, Gone}
use Rattle.ps_model.specs.declared.mark.Slot.{Slot}
use Rattle.ps_model.specs.declared.world.World.{World}
use Rattle.ps_model.specs.declared.world.SubRow.{SubRow}
use Rattle.ps_model.specs.declared.world.MarkRow.{MarkRow}
use Rattle.ps_model.specs.Slots.{remark, remarked, is_ahead, is_unacked, is_earlier, any_earlier}
use Rattle.ps_model.specs.Retention.{caught_up_as, caught_up_mark}
use Rattle.ps_model.specs.Worlds.{remark_all, remark_at, remark_row, new_mark, sub_numbered, rows_of, slot_of, slots_of}
use Rattle.ps_model.specs.Settling.{catch_up}
use Rattle.ps_model.specs.Sound.{OnEachSlot, IsAheadOfOne}
use Rattle.ps_base.proofs.Lists.{each-always, each-then, each-map, each-filter}
use Rattle.ps_sound.proofs.worlds.Lists.{found-own, Ascending}
use Rattle.ps_sound.proofs.worlds.Marked.{marked, at_sub, remark_at-marked}

pub rows-marked : (new : MarkRow → Mark) (n : ℕ) (rows : List MarkRow) → rows_of (map (λ (r : MarkRow). remark_row r (new r)) rows) n ≡ map (λ (r : MarkRow). remark_row r (new r)) (rows_of rows n)
rows-marked new n [] = refl
rows-marked new n (r ∷ rows) = cases (nat_eq r.sub n) (rows-marked new n rows)
  where
    f : MarkRow → MarkRow
    f x = remark_row x (new x)

    cases : (b : Bool) → rows_of (map f rows) n ≡ map f (rows_of rows n) → cond b (f r ∷ rows_of (map f rows) n) (rows_of (map f rows) n) ≡ map f (cond b (r ∷ rows_of rows n) (rows_of rows n))
    cases true ih = ap (λ xs. f r ∷ xs) ih
    cases false ih = ih

map-map-same : {A B C D : Type 0} (g : B → D) (f : A → B) (h : C → D) (k : A → C) (xs : List A) → AllByRecursion (λ x. g (f x) ≡ h (k x)) xs → map g (map f xs) ≡ map h (map k xs)
map-map-same g f h k [] e = refl
map-map-same g f h k (x ∷ xs) e = λ i. e.0 i ∷ map-map-same g f h k xs e.1 i

-- where each row of the subscription has the mark that a rule gives its slot, so have its slots
pub slots-marked : (new : MarkRow → Mark) (rule : Slot → Mark) (w : World) (n : ℕ) → ((r : MarkRow) → r.sub ≡ n → new r ≡ rule (slot_of w.messages r)) → slots_of (marked new w) n ≡ remarked rule (slots_of w n)
slots-marked new rule w n k =
    ap (map (slot_of w.messages)) (rows-marked new n w.marks)
    ∙ map-map-same (slot_of w.messages) (λ (r : MarkRow). remark_row r (new r)) (λ s. remark s (rule s)) (slot_of w.messages) (rows_of w.marks n)
    (each-filter (λ (r : MarkRow). Unit {0}) (λ (r : MarkRow). slot_of w.messages (remark_row r (new r)) ≡ remark (slot_of w.messages r) (rule (slot_of w.messages r))) (λ (r : MarkRow). nat_eq r.sub n) w.marks
    (λ r e _. ap (remark (slot_of w.messages r)) (k r (eqb-true r.sub n e))) (each-always (λ (r : MarkRow). Unit {0}) w.marks (λ r. tt)))

-- after a pass
pub slots-remarked : (rule : SubRow → List Slot → Slot → Mark) (w : World) (sub : SubRow) → sub_numbered w sub.number ≡ Some sub → slots_of (remark_all rule w) sub.number ≡ remarked (rule sub (slots_of w sub.number)) (slots_of w sub.number)
slots-remarked rule w sub own = slots-marked (λ (r : MarkRow). new_mark rule w r (sub_numbered w r.sub)) (rule sub (slots_of w sub.number)) w sub.number (λ r e. ap (λ o. new_mark rule w r o) (ap (λ n. sub_numbered w n) e ∙ own))

-- after a change of one subscription
pub slots-at : (rule : Slot → Mark) (w : World) (n : ℕ) → slots_of (remark_at n rule w) n ≡ remarked rule (slots_of w n)
slots-at rule w n = ap (λ v. slots_of v n) (remark_at-marked n rule w) ∙ slots-marked (at_sub n rule w.messages) rule w n (λ r e. ap (λ b. cond b (rule (slot_of w.messages r)) r.mark) (eq-eqb r.sub n e))

-- catching up acknowledges nothing that wasn't
caught-unacked : (ordering : Bool) (slots : List Slot) (s : Slot) → is_unacked (caught_up_mark ordering slots s) ≡ is_unacked s.mark
caught-unacked ordering slots s = cond_both (any_earlier ordering (λ e. is_unacked e.mark) slots s) s.mark (caught_up_as s.mark) (λ mark. is_unacked mark ≡ is_unacked s.mark) (λ _. refl) (λ _. caught s.mark)
  where
    caught : (mark : Mark) → is_unacked (caught_up_as mark) ≡ is_unacked mark
    caught (Backlog f u l) = refl
    caught (Leased f l d) = refl
    caught (Ahead f) = refl
    caught (Done c) = refl
    caught (Gone c) = refl

caught-ahead : (ordering : Bool) (slots : List Slot) (s : Slot) → is_ahead (caught_up_mark ordering slots s) ≡ true → any_earlier ordering (λ e. is_unacked e.mark) slots s ≡ true
caught-ahead ordering slots s = cases (any_earlier ordering (λ e. is_unacked e.mark) slots s)
  where
    never : (mark : Mark) → is_ahead (caught_up_as mark) ≡ false
    never (Backlog f u l) = refl
    never (Leased f l d) = refl
    never (Ahead f) = refl
    never (Done c) = refl
    never (Gone c) = refl

    cases : (b : Bool) → is_ahead (cond b s.mark (caught_up_as s.mark)) ≡ true → b ≡ true
    cases true e = refl
    cases false e = absurd (both_ways (is_ahead (caught_up_as s.mark)) (never s.mark) e)

-- whether something earlier passes, where a rule leaves what the test reads
pub any-remarked : (ordering : Bool) (test : Mark → Bool) (rule : Slot → Mark) (slots : List Slot) (s : Slot) (mark : Mark) → ((e : Slot) → test (rule e) ≡ test e.mark)
    → any_earlier ordering (λ e. test e.mark) (remarked rule slots) (remark s mark) ≡ any_earlier ordering (λ e. test e.mark) slots s
any-remarked ordering test rule [] s mark k = refl
any-remarked ordering test rule (e ∷ slots) s mark k = λ i. (is_earlier ordering e s && k e i) || any-remarked ordering test rule slots s mark k i

-- what is ahead after catching up is behind something
pub caught-up-ahead : (w : World) → Ascending (λ (r : SubRow). r.number) w.subs → OnEachSlot (catch_up w) IsAheadOfOne
caught-up-ahead w ascend = each-then (λ (sub : SubRow). sub_numbered w sub.number ≡ Some sub) (λ (sub : SubRow). AllByRecursion (IsAheadOfOne sub (slots_of (catch_up w) sub.number)) (slots_of (catch_up w) sub.number)) w.subs
    (λ sub own. subst (λ slots. AllByRecursion (IsAheadOfOne sub slots) slots) (sym (slots-remarked (λ x. caught_up_mark x.config.ordering) w sub own)) (each sub (slots_of w sub.number)))
    (found-own (λ (r : SubRow). r.number) w.subs ascend)
  where
    each : (sub : SubRow) (slots : List Slot) → AllByRecursion (IsAheadOfOne sub (remarked (caught_up_mark sub.config.ordering slots) slots)) (remarked (caught_up_mark sub.config.ordering slots) slots)
    each sub slots = each-map (λ s. Unit {0}) (IsAheadOfOne sub (remarked (caught_up_mark sub.config.ordering slots) slots)) (λ s. remark s (caught_up_mark sub.config.ordering slots s)) slots
        (λ s _ ahead. any-remarked sub.config.ordering is_unacked (caught_up_mark sub.config.ordering slots) slots s (caught_up_mark sub.config.ordering slots s) (caught-unacked sub.config.ordering slots) ∙ caught-ahead sub.config.ordering slots s ahead)
        (each-always (λ s. Unit {0}) slots (λ s. tt))
