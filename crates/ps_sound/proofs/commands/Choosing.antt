-- The choice of a pull is a front of what is deliverable, so it takes what is earlier first.
use Rattle.std.proofs.Common.{ℕ, ◌≡◌, ◌≢◌, ◌+◌, ◌-◌, ◌<◌, Bool, true, false, cond, ◌||◌, not, nat_eq, is_some, List, [], ◌∷◌, Some, refl, sym, ◌∙◌, ap, arith, inl, inr}
use Rattle.std.specs.List.{AllByRecursion}
use Rattle.std.proofs.lemmas.Bool.{eqb-true, ne_eqb, eq-eqb, le-leb, ltb-false, cond_both, and_parts, not-true}
use Rattle.ps_model.specs.declared.mark.Mark.{Mark}
use Rattle.ps_model.specs.declared.mark.Mark.TheVariants.{Backlog, Leased, Ahead, Done, Gone}
use Rattle.ps_model.specs.declared.mark.Slot.{Slot}
use Rattle.ps_model.specs.declared.world.World.{World}
use Rattle.ps_model.specs.declared.world.MarkRow.{MarkRow}
use Rattle.ps_model.specs.Slots.{is_backlog, any_earlier}
use Rattle.ps_model.specs.Seeking.{fresh}
use Rattle.ps_model.specs.Choice.{is_ready, is_waiting, is_deliverable, deliverable, first_of_them, choice, handed, lease_in}
use Rattle.ps_model.specs.Worlds.{item_at, message_at, rows_of, slot_of, slots_of}
use Rattle.ps_model.specs.Sound.{Ordered, Precedes}
use Rattle.ps_base.proofs.Lists.{each-always, each-then, each-both, each-map, each-filter, each-of-filter}
use Rattle.ps_sound.proofs.worlds.Lists.{ordered-map, ordered-filter}
use Rattle.ps_sound.proofs.worlds.Earlier.{NoneEarlier, each-earlier, rows-of-slots}
use Rattle.ps_sound.proofs.commands.Lending.{each-chosen, handed-one}

rows-ascend : (n : ℕ) (rows : List MarkRow) → Ordered Precedes rows → Ordered (λ (a b : MarkRow). a.message < b.message) (rows_of rows n)
rows-ascend n [] h = tt
rows-ascend n (r ∷ rows) h =
    cond_both (nat_eq r.sub n) (r ∷ rows_of rows n) (rows_of rows n) (Ordered (λ (a b : MarkRow). a.message < b.message))
    (λ e. (each-filter (Precedes r) (λ (b : MarkRow). r.message < b.message) (λ (x : MarkRow). nat_eq x.sub n) rows (λ b eb p. up b (eqb-true r.sub n e) (eqb-true b.sub n eb) p) h.0, rows-ascend n rows h.1)) (λ _. rows-ascend n rows h.1)
  where
    up : (b : MarkRow) → r.sub ≡ n → b.sub ≡ n → Precedes r b → r.message < b.message
    up b same also (inl p) = absurd (omega arith)
    up b same also (inr p) = p.1

-- the slots of a subscription stand by number
pub slots-ascend : (w : World) (n : ℕ) → Ordered Precedes w.marks → Ordered (λ (a b : Slot). a.item.number < b.item.number) (slots_of w n)
slots-ascend w n h = ordered-map (λ (a b : MarkRow). a.message < b.message) (λ (a b : Slot). a.item.number < b.item.number) (slot_of w.messages) (rows_of w.marks n) (λ a b e. e) (rows-ascend n w.marks h)

-- what is before something that is handed out is handed out
abbrev pub IsInFront : ℕ → List Slot → Slot → Type 0
IsInFront lease taken s = (k : ℕ) → s.item.number < k → is_some (lease_in (handed lease taken) k) ≡ true → is_some (lease_in (handed lease taken) s.item.number) ≡ true

first-in-front : (lease most budget : ℕ) (xs : List Slot) → Ordered (λ (a b : Slot). a.item.number < b.item.number) xs → AllByRecursion (IsInFront lease (first_of_them most budget xs)) xs
first-in-front lease most budget [] h = tt
first-in-front lease most budget (s ∷ ss) h =
    cond_both (nat_eq most 0 || nat_eq budget 0) [] (s ∷ taken) (λ ys. AllByRecursion (IsInFront lease ys) (s ∷ ss))
    (λ _. each-always (IsInFront lease []) (s ∷ ss) (λ x k up e. absurd (cc (e))))
    (λ _. (
      λ k up e. rw (eq-eqb s.item.number s.item.number refl) refl,
      each-then (λ x. (s.item.number < x.item.number) × IsInFront (lease + 1) taken x) (IsInFront lease (s ∷ taken)) ss (λ x p. behind x p.0 p.1)
          (each-both (λ (x : Slot). s.item.number < x.item.number) (IsInFront (lease + 1) taken) ss h.0 (first-in-front (lease + 1) (most - 1) (budget - s.item.size) ss h.1)),
    ))
  where
    taken : List Slot
    taken = first_of_them (most - 1) (budget - s.item.size) ss

    other : (k : ℕ) → s.item.number < k → nat_eq s.item.number k ≡ false
    other k up = let ne : s.item.number ≢ k = omega arith in ne_eqb s.item.number k ne

    behind : (x : Slot) → s.item.number < x.item.number → IsInFront (lease + 1) taken x → IsInFront lease (s ∷ taken) x
    behind x above k' k up e =
        let rest : is_some (lease_in (handed (lease + 1) taken) k) ≡ true = ap (λ b. is_some (cond b (Some lease) (lease_in (handed (lease + 1) taken) k))) (sym (other k (omega arith))) ∙ e in
        ap (λ b. is_some (cond b (Some lease) (lease_in (handed (lease + 1) taken) x.item.number))) (other x.item.number above) ∙ k' k up rest

pub waiting-or-ready : (t : ℕ) (mark : Mark) → is_backlog mark ≡ true → is_waiting t mark ≡ false → is_ready t mark ≡ true
waiting-or-ready t (Backlog f u l) e w = le-leb u t (ltb-false t u w)
waiting-or-ready t (Leased f l d) e w = absurd (cc (e))
waiting-or-ready t (Ahead f) e w = absurd (cc (e))
waiting-or-ready t (Done c) e w = absurd (cc (e))
waiting-or-ready t (Gone c) e w = absurd (cc (e))

module _ (w : World) (n t lease most budget : ℕ) (ordering : Bool) (order : Ordered Precedes w.marks) where
  abbrev chosen : List Slot
  chosen = choice t ordering most budget (slots_of w n)

  -- each row that is deliverable and before something that is handed out
  pub rows-in-front : AllByRecursion (λ (e : MarkRow). e.sub ≡ n → is_deliverable t ordering (slots_of w n) (slot_of w.messages e) ≡ true → IsInFront lease chosen (slot_of w.messages e)) w.marks
  rows-in-front = rows-of-slots (λ (s : Slot). is_deliverable t ordering (slots_of w n) s ≡ true → IsInFront lease chosen s) w n
      (each-of-filter (IsInFront lease chosen) (is_deliverable t ordering (slots_of w n)) (slots_of w n)
      (first-in-front lease most budget (deliverable t ordering (slots_of w n)) (ordered-filter (λ (a b : Slot). a.item.number < b.item.number) (is_deliverable t ordering (slots_of w n)) (slots_of w n) (slots-ascend w n order))))

  -- none before something that is handed out waits
  pub chosen-none-waits : (k : ℕ) → is_some (lease_in (handed lease chosen) k) ≡ true → NoneEarlier ordering (λ e. is_waiting t e.mark) (record { item = item_at k (message_at w.messages k); mark = fresh }) (slots_of w n)
  chosen-none-waits k some = handed-one NoneWaits lease chosen k (each-chosen NoneWaits t ordering most budget (slots_of w n)
      (each-map (λ (r : MarkRow). Unit {0}) (λ (s : Slot). is_deliverable t ordering (slots_of w n) s ≡ true → NoneWaits s.item.number) (slot_of w.messages) (rows_of w.marks n)
      (λ r _ e. each-earlier ordering (λ x. is_waiting t x.mark) (slot_of w.messages r) (slots_of w n) (not-true (any_earlier ordering (λ x. is_waiting t x.mark) (slots_of w n) (slot_of w.messages r)) (and_parts (is_ready t r.mark) (not (any_earlier ordering (λ x. is_waiting t x.mark) (slots_of w n) (slot_of w.messages r))) e).1))
      (each-always (λ (r : MarkRow). Unit {0}) (rows_of w.marks n) (λ r. tt)))) some
    where
      NoneWaits : ℕ → Type 0
      NoneWaits k = NoneEarlier ordering (λ e. is_waiting t e.mark) (record { item = item_at k (message_at w.messages k); mark = fresh }) (slots_of w n)
