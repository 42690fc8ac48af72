-- What a seek to a snapshot changes is seen in the live part of what it leaves.
use Rattle.std.proofs.Common.{ℕ, ◌≡◌, ◌<◌, ◌≤◌, Bool, true, false, cond, ◌&&◌, nat_eq, nat_lt, List, [], ◌∷◌, ◌++◌, Option, Some, None, map, filter, refl, sym, ◌∙◌, ap, subst, arith, inl, inr, ◌⊎◌, if◌then◌else◌}
use Rattle.std.specs.List.{AllByRecursion, list_any}
use Rattle.std.specs.Str.{bytes_eq}
use Rattle.std.proofs.lemmas.Bool.{cond_both, and_parts, eq-eqb, eqb-true, ne_eqb, lt-ltb, le-ltb, not-false, both_ways, cases_order}
use Rattle.ps_base.specs.declared.reason.Reason.TheVariants.{Detached, SnapshotTopic}
use Rattle.ps_base.specs.declared.refusal.Refusal.TheVariants.{FailedPrecondition}
use Rattle.ps_filter.specs.Filters.{meets}
use Rattle.ps_config.specs.declared.config.SubConfig.{SubConfig}
use Rattle.ps_model.specs.declared.hold.Holds.{Holds}
use Rattle.ps_model.specs.declared.mark.Item.{Item}
use Rattle.ps_model.specs.declared.mark.Mark.{Mark}
use Rattle.ps_model.specs.declared.mark.Mark.TheVariants.{Done}
use Rattle.ps_model.specs.declared.mark.DoneCause.TheVariants.{Acknowledged}
use Rattle.ps_model.specs.declared.mark.Slot.{Slot}
use Rattle.ps_model.specs.declared.reply.Reply.TheVariants.{Empty}
use Rattle.ps_model.specs.declared.world.World.{World}
use Rattle.ps_model.specs.declared.world.SubRow.{SubRow}
use Rattle.ps_model.specs.declared.world.SnapRow.{SnapRow}
use Rattle.ps_model.specs.declared.world.MarkRow.{MarkRow}
use Rattle.ps_model.specs.declared.world.MessageRow.{MessageRow}
use Rattle.ps_model.specs.Slots.{is_gone, is_unacked, any_earlier, remark}
use Rattle.ps_model.specs.Same.{world_parts}
use Rattle.ps_model.specs.Seeking.{fresh}
use Rattle.ps_model.specs.Retention.{is_held_by, holds, lapsed, caught_up_as}
use Rattle.ps_model.specs.Worlds.{sub_named, snap_named, sub_numbered, item_at, slot_of, rows_of, row_of, slots_of, with_slots_at, hold_of, holds_of, new_mark, remark_row}
use Rattle.ps_model.specs.Settling.{expire, catch_up, expunge_world}
use Rattle.ps_model.specs.Outcomes.{Outcome, answers, refuses}
use Rattle.ps_model.specs.Replaying.{bring_back, put_aside, bring_all, seek_list, held_items, seek_snap_at}
use Rattle.ps_model.specs.Step.{finished}
use Rattle.ps_model.specs.Sound.{Ordered, Precedes}
use Rattle.ps_base.proofs.Lists.{each-always, each-then, each-map, each-filter, each-left, each-found, filter-none}
use Rattle.ps_sound.proofs.worlds.Lists.{found-numbered}
use Rattle.ps_sound.proofs.worlds.Underway.{IsUnderway}
use Rattle.ps_sound.proofs.phases.Resting.{forward-none}
use Rattle.ps_sound.proofs.phases.LettingGo.{held-any}
use Rattle.ps_sound.proofs.commands.Replayed.{seek_snapshot-underway}
use Rattle.ps_sound.proofs.living.Filters.{fading-seen}
use Rattle.ps_sound.proofs.living.Slotwise.{row_lives}
use Rattle.ps_sound.proofs.living.Passes.{LeavesGone, newly, pass-leaves, expiring, expiring-leaves, catching, catching-leaves, releasing, releasing-leaves}
use Rattle.ps_sound.proofs.living.Growing.{BySub, by-sub}
use Rattle.ps_sound.proofs.living.Seen.{SeenIn, expunge-fades}
use Rattle.ps_sound.proofs.living.Bringing.{brought, aside-gone}

-- of the same subscription and message
pub record SameKey (a b : MarkRow) : Type 0 where
  pub sub : a.sub ≡ b.sub
  pub message : a.message ≡ b.message

precedes-key : (a b c : MarkRow) → SameKey b c → Precedes a c → Precedes a b
precedes-key a b c k (inl p) = inl (omega (arith, k.sub, p))
precedes-key a b c k (inr p) = inr (p.0 ∙ sym k.sub, omega (arith, k.message, p.1))

precedes-other : (a b : MarkRow) → SameKey a b → Precedes a b → ⊥
precedes-other a b k (inl p) = absurd (omega (arith, k.sub, p))
precedes-other a b k (inr p) = absurd (omega (arith, k.message, p.1))

-- The second list has a row for each of the first, in its place. It is left where the first is gone, unless it is new, and there may be more rows that are new.
module _ {B : Type 0} (New : MarkRow → Type 0) (row : B → MarkRow) where
  abbrev pub Merges : List MarkRow → List B → Type 0
  Merges [] [] = Unit {0}
  Merges [] (y ∷ ys) = New (row y) × Merges [] ys
  Merges (x ∷ xs) [] = ⊥
  Merges (x ∷ xs) (y ∷ ys) = (SameKey x (row y) × (is_gone x.mark ≡ true → (x ≡ row y) ⊎ New (row y)) × Merges xs ys) ⊎ (New (row y) × Merges (x ∷ xs) ys)

-- a row itself
abbrev itself : MarkRow → MarkRow
itself r = r

module _ (New : MarkRow → Type 0) where
  merges-same : (xs : List MarkRow) → Merges New itself xs xs
  merges-same [] = tt
  merges-same (x ∷ xs) = inl (record { sub = refl; message = refl }, λ _. inl refl, merges-same xs)

  -- behind new rows
  merges-new : (y : MarkRow) (xs ys : List MarkRow) → New y → Merges New itself xs ys → Merges New itself xs (y ∷ ys)
  merges-new y [] ys new h = (new, h)
  merges-new y (x ∷ xs) ys new h = inr (new, h)

  merges-append : (xs ys us vs : List MarkRow) → Merges New itself xs ys → Merges New itself us vs → Merges New itself (xs ++ us) (ys ++ vs)
  merges-append [] [] us vs h k = k
  merges-append [] (y ∷ ys) us vs h k = merges-new y us (ys ++ vs) h.0 (merges-append [] ys us vs h.1 k)
  merges-append (x ∷ xs) [] us vs h k = absurd h
  merges-append (x ∷ xs) (y ∷ ys) us vs (inl h) k = inl (h.0, h.1, merges-append xs ys us vs h.2 k)
  merges-append (x ∷ xs) (y ∷ ys) us vs (inr h) k = inr (h.0, merges-append (x ∷ xs) ys us vs h.1 k)

  merges-rows : (n : ℕ) (xs : List MarkRow) (slots : List Slot) → Merges New (row_of n) xs slots → Merges New itself xs (map (row_of n) slots)
  merges-rows n [] [] h = tt
  merges-rows n [] (s ∷ ss) h = (h.0, merges-rows n [] ss h.1)
  merges-rows n (x ∷ xs) [] h = absurd h
  merges-rows n (x ∷ xs) (s ∷ ss) (inl h) = inl (h.0, h.1, merges-rows n xs ss h.2)
  merges-rows n (x ∷ xs) (s ∷ ss) (inr h) = inr (h.0, merges-rows n (x ∷ xs) ss h.1)

  merges-aside : (n : ℕ) (messages : List MessageRow) (rows : List MarkRow) → AllByRecursion (λ (r : MarkRow). r.sub ≡ n) rows → Merges New (row_of n) rows (map put_aside (map (slot_of messages) rows))
  merges-aside n messages [] h = tt
  merges-aside n messages (r ∷ rs) h = inl (record { sub = h.0; message = number }, λ e. inl ((λ i. record r { sub = h.0 i }) ∙ ap (row_of n) (sym (aside-gone (slot_of messages r) e))), merges-aside n messages rs h.1)
    where
      number : r.message ≡ (put_aside (slot_of messages r)).item.number
      number = cond_both (is_gone r.mark) (slot_of messages r) (remark (slot_of messages r) (Done Acknowledged)) (λ s. r.message ≡ s.item.number) (λ _. refl) (λ _. refl)

  -- where a new slot is brought in
  merges-brought : (n : ℕ) (item : Item) (xs : List MarkRow) (slots : List Slot) → New (row_of n (brought item)) → Merges New (row_of n) xs slots → Merges New (row_of n) xs (bring_back item slots)
  merges-brought n item [] [] new h = (new, tt)
  merges-brought n item [] (s ∷ ss) new h =
      cond_both (nat_lt item.number s.item.number) (brought item ∷ (s ∷ ss)) (if nat_eq item.number s.item.number then brought item ∷ ss else s ∷ bring_back item ss) (Merges New (row_of n) []) (λ _. (new, h))
      (λ _. cond_both (nat_eq item.number s.item.number) (brought item ∷ ss) (s ∷ bring_back item ss) (Merges New (row_of n) []) (λ _. (new, h.1)) (λ _. (h.0, merges-brought n item [] ss new h.1)))
  merges-brought n item (x ∷ xs) [] new h = absurd h
  merges-brought n item (x ∷ xs) (s ∷ ss) new h =
      cond_both (nat_lt item.number s.item.number) (brought item ∷ (s ∷ ss)) (if nat_eq item.number s.item.number then brought item ∷ ss else s ∷ bring_back item ss) (Merges New (row_of n) (x ∷ xs)) (λ _. inr (new, h))
      (λ _. cond_both (nat_eq item.number s.item.number) (brought item ∷ ss) (s ∷ bring_back item ss) (Merges New (row_of n) (x ∷ xs)) (λ e. in_place (eqb-true item.number s.item.number e) h) (λ _. behind h (λ k. merges-brought n item xs ss new k) (λ k. merges-brought n item (x ∷ xs) ss new k)))
    where
      in_place : item.number ≡ s.item.number → Merges New (row_of n) (x ∷ xs) (s ∷ ss) → Merges New (row_of n) (x ∷ xs) (brought item ∷ ss)
      in_place same (inl p) = inl (record { sub = p.0.sub; message = p.0.message ∙ sym same }, λ _. inr new, p.2)
      in_place same (inr p) = inr (new, p.1)

      behind : Merges New (row_of n) (x ∷ xs) (s ∷ ss) → (Merges New (row_of n) xs ss → Merges New (row_of n) xs (bring_back item ss)) → (Merges New (row_of n) (x ∷ xs) ss → Merges New (row_of n) (x ∷ xs) (bring_back item ss))
          → Merges New (row_of n) (x ∷ xs) (s ∷ bring_back item ss)
      behind (inl p) rest again = inl (p.0, p.1, rest p.2)
      behind (inr p) rest again = inr (p.0, again p.1)

  merges-all-brought : (n : ℕ) (items : List Item) (xs : List MarkRow) (slots : List Slot) → AllByRecursion (λ (item : Item). New (row_of n (brought item))) items → Merges New (row_of n) xs slots → Merges New (row_of n) xs (bring_all items slots)
  merges-all-brought n [] xs slots new h = h
  merges-all-brought n (item ∷ items) xs slots new h = merges-all-brought n items xs (bring_back item slots) new.1 (merges-brought n item xs slots new.0 h)

  -- what holds of each row of the second list by its key, holds of each of the first
  merges-each : (P : MarkRow → Type 0) (xs ys : List MarkRow) → ((x y : MarkRow) → SameKey x y → P y → P x) → Merges New itself xs ys → AllByRecursion P ys → AllByRecursion P xs
  merges-each P [] ys k h p = tt
  merges-each P (x ∷ xs) [] k h p = absurd h
  merges-each P (x ∷ xs) (y ∷ ys) k (inl h) p = (k x y h.0 p.0, merges-each P xs ys k h.2 p.1)
  merges-each P (x ∷ xs) (y ∷ ys) k (inr h) p = merges-each P (x ∷ xs) ys k h.1 p.1

-- Where the rows are changed once more, leaving what is gone and none of the new ones gone: a change of it all that isn't seen among those that live is none.
module _ (f : MarkRow → MarkRow) (keys : (r : MarkRow) → SameKey r (f r)) (leaves : (r : MarkRow) → is_gone r.mark ≡ true → f r ≡ r) where
  abbrev pub StaysLive : MarkRow → Type 0
  StaysLive r = row_lives (f r) ≡ true

  first-left : (P : MarkRow → Type 0) (xs : List MarkRow) (z : MarkRow) (zs : List MarkRow) → AllByRecursion P xs → filter row_lives xs ≡ z ∷ zs → P z
  first-left P xs z zs h e = (subst (AllByRecursion P) e (each-left P row_lives xs h)).0

  image : (y : MarkRow) (ys : List MarkRow) → AllByRecursion (Precedes y) ys → AllByRecursion (Precedes y) (map f ys)
  image y ys h = each-map (Precedes y) (Precedes y) f ys (λ r p. precedes-key y (f r) r (record { sub = sym (keys r).sub; message = sym (keys r).message }) p) h

  pub merges-seen : (xs ys : List MarkRow) → Ordered Precedes xs → Ordered Precedes ys → Merges StaysLive itself xs ys → filter row_lives xs ≡ filter row_lives (map f ys) → xs ≡ map f ys
  merges-seen [] [] ox oy h e = refl
  merges-seen [] (y ∷ ys) ox oy h e =
      let none : [] ≡ f y ∷ filter row_lives (map f ys) = e ∙ ap (λ b. cond b (f y ∷ filter row_lives (map f ys)) (filter row_lives (map f ys))) h.0 in
      absurd (cc (none))
  merges-seen (x ∷ xs) [] ox oy h e = absurd h
  merges-seen (x ∷ xs) (y ∷ ys) ox oy (inr h) e =
      let some : filter row_lives (x ∷ xs) ≡ f y ∷ filter row_lives (map f ys) = e ∙ ap (λ b. cond b (f y ∷ filter row_lives (map f ys)) (filter row_lives (map f ys))) h.0 in
      absurd (precedes-other y (f y) (keys y) (first-left (Precedes y) (x ∷ xs) (f y) (filter row_lives (map f ys)) (merges-each StaysLive (Precedes y) (x ∷ xs) ys (λ a b k p. precedes-key y a b k p) h.1 oy.0) some))
  merges-seen (x ∷ xs) (y ∷ ys) ox oy (inl h) e = cases (row_lives x) refl (row_lives (f y)) refl e (merges-seen xs ys ox.1 oy.1 h.2)
    where
      left : List MarkRow
      left = filter row_lives xs

      right : List MarkRow
      right = filter row_lives (map f ys)

      key : SameKey x (f y)
      key = record { sub = h.0.sub ∙ (keys y).sub; message = h.0.message ∙ (keys y).message }

      rests : row_lives x ≡ false → row_lives (f y) ≡ false → (x ≡ y) ⊎ StaysLive y → x ≡ f y
      rests ex ey (inl same) = same ∙ sym (leaves y (ap (λ (r : MarkRow). is_gone r.mark) (sym same) ∙ not-false (is_gone x.mark) ex))
      rests ex ey (inr lives) = absurd (both_ways (row_lives (f y)) ey lives)

      cases : (b : Bool) → row_lives x ≡ b → (c : Bool) → row_lives (f y) ≡ c → cond b (x ∷ left) left ≡ cond c (f y ∷ right) right → (left ≡ right → xs ≡ map f ys) → (x ∷ xs) ≡ (f y ∷ map f ys)
      cases true eb true ec e' ih =
          let head : x ≡ f y = cc (e') in
          let tails : left ≡ right = cc (e') in
          λ i. head i ∷ ih tails i
      cases true eb false ec e' ih = absurd (precedes-other y x (record { sub = sym h.0.sub; message = sym h.0.message }) (first-left (Precedes y) (map f ys) x left (image y ys oy.0) (sym e')))
      cases false eb true ec e' ih = absurd (precedes-other x (f y) key (first-left (Precedes x) xs (f y) right ox.0 e'))
      cases false eb false ec e' ih = λ i. rests eb ec (h.1 (not-false (is_gone x.mark) eb)) i ∷ ih e' i

-- a list in order of subscription, as the rows before one, its own, and those behind it
split : (n : ℕ) (xs : List MarkRow) → BySub xs → xs ≡ filter (λ (r : MarkRow). nat_lt r.sub n) xs ++ (rows_of xs n ++ filter (λ (r : MarkRow). nat_lt n r.sub) xs)
split n [] h = refl
split n (x ∷ xs) h = cases (cases_order x.sub n) (split n xs h.1)
  where
    below : MarkRow → Bool
    below r = nat_lt r.sub n

    above : MarkRow → Bool
    above r = nat_lt n r.sub

    none-below : n ≤ x.sub → filter below xs ≡ []
    none-below e = filter-none below xs (each-then (λ (r : MarkRow). x.sub ≤ r.sub) (λ (r : MarkRow). below r ≡ false) xs (λ r p. le-ltb r.sub n (omega (arith, e, p))) h.0)

    none-own : n < x.sub → rows_of xs n ≡ []
    none-own e = filter-none (λ (r : MarkRow). nat_eq r.sub n) xs (each-then (λ (r : MarkRow). x.sub ≤ r.sub) (λ (r : MarkRow). nat_eq r.sub n ≡ false) xs (λ r p. ne_eqb r.sub n (λ same. absurd (omega (arith, e, p, same)))) h.0)

    cases : (x.sub ≡ n) ⊎ ((x.sub < n) ⊎ (n < x.sub)) → xs ≡ filter below xs ++ (rows_of xs n ++ filter above xs)
        → x ∷ xs ≡ cond (below x) (x ∷ filter below xs) (filter below xs) ++ (cond (nat_eq x.sub n) (x ∷ rows_of xs n) (rows_of xs n) ++ cond (above x) (x ∷ filter above xs) (filter above xs))
    cases (inl same) ih =
        let rest : xs ≡ rows_of xs n ++ filter above xs = ih ∙ ap (λ ys. ys ++ (rows_of xs n ++ filter above xs)) (none-below (omega (arith, same))) in
        ap (λ ys. x ∷ ys) rest
        ∙ sym ((λ i. cond (le-ltb x.sub n (omega (arith, same)) i) (x ∷ filter below xs) (none-below (omega (arith, same)) i) ++ (cond (eq-eqb x.sub n same i) (x ∷ rows_of xs n) (rows_of xs n) ++ cond (le-ltb n x.sub (omega (arith, same)) i) (x ∷ filter above xs) (filter above xs))))
    cases (inr (inl less)) ih =
        ap (λ ys. x ∷ ys) ih
        ∙ sym ((λ i. cond (lt-ltb x.sub n less i) (x ∷ filter below xs) (filter below xs) ++ (cond (ne_eqb x.sub n (λ same. absurd (omega (arith, less, same))) i) (x ∷ rows_of xs n) (rows_of xs n) ++ cond (le-ltb n x.sub (omega (arith, less)) i) (x ∷ filter above xs) (filter above xs))))
    cases (inr (inr more)) ih =
        let rest : xs ≡ filter above xs = ih ∙ (λ i. none-below (omega (arith, more)) i ++ (none-own more i ++ filter above xs)) in
        ap (λ ys. x ∷ ys) rest
        ∙ sym ((λ i. cond (le-ltb x.sub n (omega (arith, more)) i) (x ∷ filter below xs) (none-below (omega (arith, more)) i) ++ (cond (ne_eqb x.sub n (λ same. absurd (omega (arith, more, same))) i) (x ∷ rows_of xs n) (none-own more i) ++ cond (lt-ltb n x.sub more i) (x ∷ filter above xs) (filter above xs))))

-- What a snapshot holds is held. This is all that is used here of what holds a message.
holds-snapped : (t : ℕ) (config : SubConfig) (held : Holds) (s : Slot) → list_any (is_held_by s.item.number) held.snapshots ≡ true → holds t config held s ≡ true
holds-snapped t config held s e = refl

map-thrice : (f g h : MarkRow → MarkRow) (xs : List MarkRow) → map h (map g (map f xs)) ≡ map (λ r. h (g (f r))) xs
map-thrice f g h [] = refl
map-thrice f g h (x ∷ xs) = λ i. h (g (f x)) ∷ map-thrice f g h xs i

module _ (t count : ℕ) (v : World) (name snapshot : List ℕ) (sub : SubRow) (snap : SnapRow) (found : sub_named v name ≡ Some sub) (taken : snap_named v snapshot ≡ Some snap) (attached : sub.detached ≡ false) (topic : snap.topic ≡ sub.topic) (u : IsUnderway t count v) where
  abbrev n : ℕ
  n = sub.number

  abbrev items : List Item
  items = held_items v sub snap

  abbrev made : World
  made = with_slots_at n (seek_list items (slots_of v n)) v

  abbrev first : World
  first = expire t made

  abbrev second : World
  second = catch_up first

  -- the three parts of expunging on a row
  abbrev expires : MarkRow → MarkRow
  expires r = remark_row r (newly (expiring t made) made r)

  abbrev catches : MarkRow → MarkRow
  catches r = remark_row r (newly catching first r)

  abbrev releases : MarkRow → MarkRow
  releases r = remark_row r (newly (releasing t second) second r)

  abbrev all : MarkRow → MarkRow
  all r = releases (catches (expires r))

  leaving : (rule : SubRow → List Slot → Slot → Mark) (w : World) → LeavesGone rule → (r : MarkRow) → is_gone r.mark ≡ true → remark_row r (newly rule w r) ≡ r
  leaving rule w k r e = ap (remark_row r) (pass-leaves rule w k r e)

  all-leaves : (r : MarkRow) → is_gone r.mark ≡ true → all r ≡ r
  all-leaves r e =
      ap (λ x. releases (catches x)) (leaving (expiring t made) made (expiring-leaves t made) r e)
      ∙ ap releases (leaving catching first catching-leaves r e)
      ∙ leaving (releasing t second) second (releasing-leaves t second) r e

  own : sub_numbered v n ≡ Some sub
  own = found-numbered (λ (r : SubRow). r.number) (λ (r : SubRow). bytes_eq r.name name) v.subs sub u.subs.ascend found

  -- what is brought back stays
  brought-stays : (item : Item) → is_held_by item.number (hold_of snap) ≡ true → all (row_of n (brought item)) ≡ row_of n (brought item)
  brought-stays item held = ap (λ x. releases (catches x)) (ap (remark_row row) expired) ∙ ap releases (ap (remark_row row) (caught (sub_numbered first n))) ∙ ap (remark_row row) (released (sub_numbered second n))
    where
      row : MarkRow
      row = row_of n (brought item)

      snapped : list_any (is_held_by item.number) (holds_of made sub.topic).snapshots ≡ true
      snapped = each-found (λ (r : SnapRow). (of number : ℕ) → nat_eq r.topic of ≡ true → is_held_by number (hold_of r) ≡ true → list_any (is_held_by number) (map hold_of (filter (λ (x : SnapRow). nat_eq x.topic of) v.snaps)) ≡ true) (λ (r : SnapRow). bytes_eq r.name snapshot) v.snaps snap taken (held-any v.snaps)
          sub.topic item.number (eq-eqb snap.topic sub.topic topic) held

      expired : newly (expiring t made) made row ≡ fresh
      expired = ap (new_mark (expiring t made) made row) own
          ∙ ap (λ b. cond b fresh (lapsed fresh)) (holds-snapped t sub.config (holds_of made sub.topic) (slot_of made.messages row) snapped)

      caught : (o : Option SubRow) → new_mark catching first row o ≡ fresh
      caught None = refl
      caught (Some q) = cond_both (any_earlier q.config.ordering (λ e. is_unacked e.mark) (slots_of first q.number) (slot_of first.messages row)) fresh (caught_up_as fresh) (λ mark. mark ≡ fresh) (λ _. refl) (λ _. refl)

      released : (o : Option SubRow) → new_mark (releasing t second) second row o ≡ fresh
      released None = refl
      released (Some q) = refl

  items-stay : AllByRecursion (λ (item : Item). row_lives (all (row_of n (brought item))) ≡ true) items
  items-stay = each-map (λ (m : MessageRow). is_held_by m.number (hold_of snap) ≡ true) (λ (item : Item). row_lives (all (row_of n (brought item))) ≡ true) (λ (r : MessageRow). item_at r.number r) (filter takes v.messages)
      (λ m held. ap row_lives (brought-stays (item_at m.number m) held))
      (each-filter (λ (m : MessageRow). Unit {0}) (λ (m : MessageRow). is_held_by m.number (hold_of snap) ≡ true) takes v.messages
      (λ m e _. (and_parts (is_held_by m.number (hold_of snap)) (meets sub.config.filter m.message) (and_parts (nat_eq m.topic snap.topic) (is_held_by m.number (hold_of snap) && meets sub.config.filter m.message) e).1).0) (each-always (λ (m : MessageRow). Unit {0}) v.messages (λ m. tt)))
    where
      takes : MessageRow → Bool
      takes r = nat_eq r.topic snap.topic && (is_held_by r.number (hold_of snap) && meets sub.config.filter r.message)

  abbrev New : MarkRow → Type 0
  New r = row_lives (all r) ≡ true

  merged : Merges New itself v.marks made.marks
  merged = subst (λ xs. Merges New itself xs made.marks) (sym (split n v.marks (by-sub v.marks u.marks.ascend)))
      (merges-append New below below (rows_of v.marks n ++ above) (map (row_of n) (seek_list items (slots_of v n)) ++ above) (merges-same New below)
      (merges-append New (rows_of v.marks n) (map (row_of n) (seek_list items (slots_of v n))) above above
      (merges-rows New n (rows_of v.marks n) (seek_list items (slots_of v n))
      (merges-all-brought New n items (rows_of v.marks n) (map put_aside (slots_of v n)) items-stay
      (merges-aside New n v.messages (rows_of v.marks n)
      (each-filter (λ (r : MarkRow). Unit {0}) (λ (r : MarkRow). r.sub ≡ n) (λ (r : MarkRow). nat_eq r.sub n) v.marks (λ r e _. eqb-true r.sub n e) (each-always (λ (r : MarkRow). Unit {0}) v.marks (λ r. tt))))))
      (merges-same New above)))
    where
      below : List MarkRow
      below = filter (λ (r : MarkRow). nat_lt r.sub n) v.marks

      above : List MarkRow
      above = filter (λ (r : MarkRow). nat_lt n r.sub) v.marks

  seen : SeenIn v (expunge_world t made)
  seen e = λ i. ((e i).0, ((e i).1.0, ((e i).1.1.0, ((e i).1.1.1.0, ((e i).1.1.1.1.0, ((e i).1.1.1.1.1.0, ((e i).1.1.1.1.1.1.0, (messages i, marks i))))))))
    where
      messages : v.messages ≡ (expunge_world t made).messages
      messages = fading-seen (λ (r : MessageRow). r.kept) v.messages (expunge_world t made).messages (expunge-fades t made).messages (λ i. (e i).1.1.1.1.1.1.1.0)

      as-one : (expunge_world t made).marks ≡ map all made.marks
      as-one = map-thrice expires catches releases made.marks

      marks : v.marks ≡ (expunge_world t made).marks
      marks =
          merges-seen all (λ r. record { sub = refl; message = refl }) all-leaves v.marks made.marks u.marks.ascend (seek_snapshot-underway t count v name snapshot sub snap found taken attached topic u).marks.ascend merged
          ((λ i. (e i).1.1.1.1.1.1.1.1) ∙ ap (filter row_lives) as-one)
          ∙ sym as-one

pub seek_snap-changes : (t count : ℕ) (v : World) → IsUnderway t count v → (name snapshot : List ℕ) (o : Option SubRow) (q : Option SnapRow) → sub_named v name ≡ o → snap_named v snapshot ≡ q → SeenIn v (finished t v (seek_snap_at v name snapshot o q))
seek_snap-changes t count v u name snapshot None q eo eq = λ e i. world_parts v
seek_snap-changes t count v u name snapshot (Some sub) None eo eq = λ e i. world_parts v
seek_snap-changes t count v u name snapshot (Some sub) (Some snap) eo eq =
    cond_both sub.detached (refuses v (FailedPrecondition Detached)) (if nat_eq snap.topic sub.topic then sought else refuses v (FailedPrecondition SnapshotTopic)) (λ o. SeenIn v (finished t v o)) (λ _ e i. world_parts v)
    (λ attached. cond_both (nat_eq snap.topic sub.topic) sought (refuses v (FailedPrecondition SnapshotTopic)) (λ o. SeenIn v (finished t v o))
    (λ same. subst (λ w. SeenIn v (expunge_world t w)) (sym (forward-none t (with_slots_at sub.number (seek_list (held_items v sub snap) (slots_of v sub.number)) v))) (seen t count v name snapshot sub snap eo eq attached (eqb-true snap.topic sub.topic same) u)) (λ _ e i. world_parts v))
  where
    sought : Outcome
    sought = answers (with_slots_at sub.number (seek_list (held_items v sub snap) (slots_of v sub.number)) v) Empty
