-- A seek to a snapshot, in a world and in its live part.
use Rattle.std.proofs.Common.{ℕ, ◌≡◌, ◌<◌, ◌≤◌, Bool, true, false, cond, ◌&&◌, nat_eq, nat_lt, List, [], ◌∷◌, ◌++◌, Option, Some, None, map, filter, refl, sym, ◌∙◌, ap, arith, if◌then◌else◌}
use Rattle.std.specs.List.{AllByRecursion}
use Rattle.std.specs.Str.{bytes_eq}
use Rattle.std.proofs.lemmas.Bool.{cond_both, and_parts, eqb-true, ltb-true, lt-ltb, not-false, both_ways}
use Rattle.ps_base.specs.declared.reason.Reason.TheVariants.{Detached, SnapshotTopic}
use Rattle.ps_base.specs.declared.refusal.Refusal.TheVariants.{FailedPrecondition}
use Rattle.ps_filter.specs.Filters.{meets}
use Rattle.ps_model.specs.declared.mark.Item.{Item}
use Rattle.ps_model.specs.declared.mark.Mark.TheVariants.{Done}
use Rattle.ps_model.specs.declared.mark.DoneCause.TheVariants.{Acknowledged}
use Rattle.ps_model.specs.declared.mark.Slot.{Slot}
use Rattle.ps_model.specs.declared.reply.Reply.TheVariants.{Empty}
use Rattle.ps_model.specs.declared.world.World.{World}
use Rattle.ps_model.specs.declared.world.SubRow.{SubRow}
use Rattle.ps_model.specs.declared.world.SnapRow.{SnapRow}
use Rattle.ps_model.specs.declared.world.MarkRow.{MarkRow}
use Rattle.ps_model.specs.declared.world.MessageRow.{MessageRow}
use Rattle.ps_model.specs.Slots.{is_gone, remark}
use Rattle.ps_model.specs.Seeking.{fresh}
use Rattle.ps_model.specs.Retention.{is_held_by}
use Rattle.ps_model.specs.Worlds.{sub_named, snap_named, item_at, row_of, slots_of, with_slots_at, hold_of}
use Rattle.ps_model.specs.Outcomes.{Outcome, answers, refuses}
use Rattle.ps_model.specs.Replaying.{bring_back, put_aside, bring_all, seek_list, held_items, seek_snap_in, seek_snap_at}
use Rattle.ps_model.specs.Live.{live}
use Rattle.ps_model.specs.Sound.{Ordered, KeepsWhatItHolds}
use Rattle.ps_base.proofs.Lists.{each-always, each-then, each-left, each-found}
use Rattle.ps_sound.proofs.worlds.Lists.{ordered-map, ordered-filter}
use Rattle.ps_sound.proofs.worlds.Underway.{IsUnderway}
use Rattle.ps_sound.proofs.commands.Choosing.{slots-ascend}
use Rattle.ps_sound.proofs.commands.Replayed.{Comes, brought-ordered, seek_snapshot-underway}
use Rattle.ps_sound.proofs.living.Filters.{filter-again, filter-either, filter-append, filter-map, filter-map-two}
use Rattle.ps_sound.proofs.living.Slotwise.{row_lives, slot_lives, live_slots, AllKept, slots-live}
use Rattle.ps_sound.proofs.living.Standing.{wanted-kept, live-underway}
use Rattle.ps_sound.proofs.living.Following.{Follows, answers-follow}

abbrev pub brought : Item → Slot
brought item = record { item = item; mark = fresh }

-- before slots of later messages
bring-first : (item : Item) (slots : List Slot) → AllByRecursion (λ (s : Slot). item.number < s.item.number) slots → bring_back item slots ≡ brought item ∷ slots
bring-first item [] h = refl
bring-first item (s ∷ ss) h = ap (λ b. cond b (brought item ∷ (s ∷ ss)) (if nat_eq item.number s.item.number then brought item ∷ ss else s ∷ bring_back item ss)) (lt-ltb item.number s.item.number h.0)

bring-live : (item : Item) (slots : List Slot) → Ordered Comes slots → live_slots (bring_back item slots) ≡ bring_back item (live_slots slots)
bring-live item [] h = refl
bring-live item (s ∷ ss) h = cases (nat_lt item.number s.item.number) refl (nat_eq item.number s.item.number) refl (slot_lives s) refl (bring-live item ss h.1)
  where
    rest : List Slot
    rest = live_slots ss

    later : (b : ℕ) → b ≤ s.item.number → AllByRecursion (λ (x : Slot). b < x.item.number) ss
    later b e = each-then (Comes s) (λ (x : Slot). b < x.item.number) ss (λ x p. omega (arith, e, p)) h.0

    cases : (b : Bool) → nat_lt item.number s.item.number ≡ b → (c : Bool) → nat_eq item.number s.item.number ≡ c → (d : Bool) → slot_lives s ≡ d → live_slots (bring_back item ss) ≡ bring_back item rest
        → live_slots (cond b (brought item ∷ (s ∷ ss)) (cond c (brought item ∷ ss) (s ∷ bring_back item ss))) ≡ bring_back item (cond (slot_lives s) (s ∷ rest) rest)
    cases true eb c ec d ed ih =
        let up : item.number < s.item.number = ltb-true item.number s.item.number eb in
        sym (bring-first item (live_slots (s ∷ ss)) (each-left (λ (x : Slot). item.number < x.item.number) slot_lives (s ∷ ss) (up, later item.number (omega (arith, up)))))
    cases false eb true ec true ed ih =
        sym (ap (λ x. bring_back item (cond x (s ∷ rest) rest)) ed ∙ (λ i. cond (eb i) (brought item ∷ (s ∷ rest)) (cond (ec i) (brought item ∷ rest) (s ∷ bring_back item rest))))
    cases false eb true ec false ed ih =
        let same : item.number ≡ s.item.number = eqb-true item.number s.item.number ec in
        sym (ap (λ x. bring_back item (cond x (s ∷ rest) rest)) ed ∙ bring-first item rest (each-left (λ (x : Slot). item.number < x.item.number) slot_lives ss (later item.number (omega (arith, same)))))
    cases false eb false ec true ed ih =
        ap (λ x. cond x (s ∷ live_slots (bring_back item ss)) (live_slots (bring_back item ss))) ed ∙ ap (λ ys. s ∷ ys) ih
        ∙ sym (ap (λ x. bring_back item (cond x (s ∷ rest) rest)) ed ∙ (λ i. cond (eb i) (brought item ∷ (s ∷ rest)) (cond (ec i) (brought item ∷ rest) (s ∷ bring_back item rest))))
    cases false eb false ec false ed ih =
        ap (λ x. cond x (s ∷ live_slots (bring_back item ss)) (live_slots (bring_back item ss))) ed ∙ ih
        ∙ sym (ap (λ x. bring_back item (cond x (s ∷ rest) rest)) ed)

bring_all-live : (items : List Item) (slots : List Slot) → Ordered Comes slots → live_slots (bring_all items slots) ≡ bring_all items (live_slots slots)
bring_all-live [] slots h = refl
bring_all-live (item ∷ items) slots h = bring_all-live items (bring_back item slots) (brought-ordered item slots h) ∙ ap (bring_all items) (bring-live item slots h)

aside-ordered : (slots : List Slot) → Ordered Comes slots → Ordered Comes (map put_aside slots)
aside-ordered slots h = ordered-map Comes Comes put_aside slots aside h
  where
    number : (s : Slot) → (put_aside s).item.number ≡ s.item.number
    number s = cond_both (is_gone s.mark) s (remark s (Done Acknowledged)) (λ x. x.item.number ≡ s.item.number) (λ _. refl) (λ _. refl)

    aside : (a b : Slot) → Comes a b → Comes (put_aside a) (put_aside b)
    aside a b e = omega (arith, e, number a, number b)

pub aside-gone : (s : Slot) → is_gone s.mark ≡ true → put_aside s ≡ s
aside-gone s e = ap (λ b. if b then s else remark s (Done Acknowledged)) e

-- what a seek to a list leaves of the slots that aren't gone
pub seek-live : (items : List Item) (slots : List Slot) → Ordered Comes slots → live_slots (seek_list items (live_slots slots)) ≡ live_slots (seek_list items slots)
seek-live items slots h =
    bring_all-live items (map put_aside (live_slots slots)) (aside-ordered (live_slots slots) (ordered-filter Comes slot_lives slots h))
    ∙ ap (bring_all items) aside
    ∙ sym (bring_all-live items (map put_aside slots) (aside-ordered slots h))
  where
    aside : live_slots (map put_aside (live_slots slots)) ≡ live_slots (map put_aside slots)
    aside = filter-map-two slot_lives slot_lives put_aside put_aside slots
        (each-always (λ (s : Slot). slot_lives s ≡ false → slot_lives (put_aside s) ≡ false) slots (λ s e. ap slot_lives (aside-gone s (not-false (is_gone s.mark) e)) ∙ e))
        (each-always (λ (s : Slot). slot_lives s ≡ true → put_aside s ≡ put_aside s) slots (λ s _. refl))

-- a test on what another leaves, where each member that passes it passes the other
within-each : {A : Type 0} (p q : A → Bool) (xs : List A) → AllByRecursion (λ (x : A). p x ≡ true → q x ≡ true) xs → filter p (filter q xs) ≡ filter p xs
within-each p q [] h = refl
within-each p q (x ∷ xs) h = cases (p x) refl (q x) refl (within-each p q xs h.1)
  where
    cases : (b : Bool) → p x ≡ b → (c : Bool) → q x ≡ c → filter p (filter q xs) ≡ filter p xs → filter p (cond c (x ∷ filter q xs) (filter q xs)) ≡ cond b (x ∷ filter p xs) (filter p xs)
    cases b eb true ec ih = λ i. cond (eb i) (x ∷ ih i) (ih i)
    cases true eb false ec ih = absurd (both_ways (q x) ec (h.0 eb))
    cases false eb false ec ih = ih

module _ (t count : ℕ) (v : World) (name snapshot : List ℕ) (sub : SubRow) (snap : SnapRow) (found : sub_named v name ≡ Some sub) (taken : snap_named v snapshot ≡ Some snap) (u : IsUnderway t count v) where
  abbrev n : ℕ
  n = sub.number

  -- the snapshot holds kept messages alone
  held-live : held_items (live v) sub snap ≡ held_items v sub snap
  held-live = ap (map (λ (r : MessageRow). item_at r.number r)) (within-each holds (λ (r : MessageRow). r.kept) v.messages
      (each-then (KeepsWhatItHolds snap) (λ (m : MessageRow). holds m ≡ true → m.kept ≡ true) v.messages each
      (each-found (λ (r : SnapRow). AllByRecursion (KeepsWhatItHolds r) v.messages) (λ (r : SnapRow). bytes_eq r.name snapshot) v.snaps snap taken u.snaps.held)))
    where
      holds : MessageRow → Bool
      holds r = nat_eq r.topic snap.topic && (is_held_by r.number (hold_of snap) && meets sub.config.filter r.message)

      each : (m : MessageRow) → KeepsWhatItHolds snap m → holds m ≡ true → m.kept ≡ true
      each m k e =
          let a = and_parts (nat_eq m.topic snap.topic) (is_held_by m.number (hold_of snap) && meets sub.config.filter m.message) e in
          k (eqb-true m.topic snap.topic a.0) (and_parts (is_held_by m.number (hold_of snap)) (meets sub.config.filter m.message) a.1).0

  abbrev slots : World → List Slot
  slots w = seek_list (held_items w sub snap) (slots_of w n)

  kept : AllKept v
  kept = wanted-kept v u.marks.wanted

  same-slots : live_slots (slots (live v)) ≡ live_slots (slots v)
  same-slots = (λ i. live_slots (seek_list (held-live i) (slots-live v n kept i))) ∙ seek-live (held_items v sub snap) (slots_of v n) (slots-ascend v n u.marks.ascend)

  same-marks : filter row_lives (with_slots_at n (slots (live v)) (live v)).marks ≡ filter row_lives (with_slots_at n (slots v) v).marks
  same-marks = parts (live v) ∙ (λ i. side below i ++ (map (row_of n) (same-slots i) ++ side above i)) ∙ sym (parts v)
    where
      below : MarkRow → Bool
      below r = nat_lt r.sub n

      above : MarkRow → Bool
      above r = nat_lt n r.sub

      side : (test : MarkRow → Bool) → filter row_lives (filter test (filter row_lives v.marks)) ≡ filter row_lives (filter test v.marks)
      side test = ap (filter row_lives) (filter-either test row_lives v.marks) ∙ filter-again row_lives (filter test v.marks)

      parts : (w : World) → filter row_lives (with_slots_at n (slots w) w).marks ≡ filter row_lives (filter below w.marks) ++ (map (row_of n) (live_slots (slots w)) ++ filter row_lives (filter above w.marks))
      parts w =
          filter-append row_lives (filter below w.marks) (map (row_of n) (slots w) ++ filter above w.marks)
          ∙ ap (λ rows. filter row_lives (filter below w.marks) ++ rows) (filter-append row_lives (map (row_of n) (slots w)) (filter above w.marks))
          ∙ ap (λ rows. filter row_lives (filter below w.marks) ++ (rows ++ filter row_lives (filter above w.marks))) (filter-map row_lives (row_of n) (slots w))

  if-by : (b : Bool) (o o' p p' : Outcome) → (b ≡ true → Follows t o o') → (b ≡ false → Follows t p p') → Follows t (if b then o else p) (if b then o' else p')
  if-by true o o' p p' h k = h refl
  if-by false o o' p p' h k = k refl

  pub seek_snap-in-follows : Follows t (seek_snap_in (live v) sub snap) (seek_snap_in v sub snap)
  seek_snap-in-follows =
      if-by sub.detached (refuses (live v) (FailedPrecondition Detached)) (refuses v (FailedPrecondition Detached)) _ _ (λ _. refl)
      (λ attached. if-by (nat_eq snap.topic sub.topic) (answers (with_slots_at n (slots (live v)) (live v)) Empty) (answers (with_slots_at n (slots v) v) Empty) (refuses (live v) (FailedPrecondition SnapshotTopic)) (refuses v (FailedPrecondition SnapshotTopic))
      (λ same. answers-follow t (with_slots_at n (slots (live v)) (live v)) (with_slots_at n (slots v) v) Empty Empty (record {
        same = λ i. record v { messages = filter-again (λ (r : MessageRow). r.kept) v.messages i; marks = same-marks i };
        first = wanted-kept (with_slots_at n (slots (live v)) (live v)) (seek_snapshot-underway t count (live v) name snapshot sub snap found taken attached (eqb-true snap.topic sub.topic same) (live-underway t count v u)).marks.wanted;
        second = wanted-kept (with_slots_at n (slots v) v) (seek_snapshot-underway t count v name snapshot sub snap found taken attached (eqb-true snap.topic sub.topic same) u).marks.wanted;
      }) refl) (λ _. refl))

pub seek_snap-follows : (t count : ℕ) (v : World) → IsUnderway t count v → (name snapshot : List ℕ) (o : Option SubRow) (q : Option SnapRow) → sub_named v name ≡ o → snap_named v snapshot ≡ q
    → Follows t (seek_snap_at (live v) name snapshot o q) (seek_snap_at v name snapshot o q)
seek_snap-follows t count v u name snapshot None q eo eq = refl
seek_snap-follows t count v u name snapshot (Some sub) None eo eq = refl
seek_snap-follows t count v u name snapshot (Some sub) (Some snap) eo eq = seek_snap-in-follows t count v name snapshot sub snap eo eq u
