-- What a seek to a snapshot leaves.
use Rattle.std.proofs.Common.{ℕ, ◌≡◌, ◌≢◌, ◌+◌, ◌-◌, ◌*◌, ◌<◌, ◌≤◌, ◌&&◌, Bool, true, false, nat_eq, nat_lt, is_some, List, [], ◌∷◌, ◌++◌, Option, Some, None, unwrap_or, map, filter, refl, sym, ◌∙◌, ap, subst, arith, inl, inr, if◌then◌else◌}
use Rattle.std.specs.List.{AllByRecursion}
use Rattle.std.specs.Str.{bytes_eq}
use Rattle.std.proofs.lemmas.Bool.{cond_both, eqb-true, eqb-false, ltb-true, ltb-false, le-ltb, and_parts, both_ways}
use Rattle.ps_model.specs.declared.mark.Mark.{Mark}
use Rattle.ps_model.specs.declared.mark.Mark.TheVariants.{Backlog, Leased, Ahead, Done, Gone}
use Rattle.ps_model.specs.declared.mark.DoneCause.TheVariants.{Acknowledged}
use Rattle.ps_model.specs.declared.mark.Slot.{Slot}
use Rattle.ps_model.specs.declared.mark.Item.{Item}
use Rattle.ps_model.specs.declared.world.World.{World}
use Rattle.ps_model.specs.declared.world.SubRow.{SubRow}
use Rattle.ps_model.specs.declared.world.SnapRow.{SnapRow}
use Rattle.ps_model.specs.declared.world.MarkRow.{MarkRow}
use Rattle.ps_model.specs.declared.world.MessageRow.{MessageRow}
use Rattle.ps_filter.specs.Filters.{meets}
use Rattle.ps_model.specs.Slots.{is_gone, is_leased, remark}
use Rattle.ps_model.specs.Seeking.{fresh}
use Rattle.ps_model.specs.Retention.{is_held_by}
use Rattle.ps_model.specs.Worlds.{sub_named, snap_named, sub_numbered, message_numbered, message_at, no_message, item_at, hold_of, slot_of, slots_of, row_of, with_slots_at}
use Rattle.ps_model.specs.Replaying.{bring_back, bring_all, put_aside, seek_list, held_items}
use Rattle.ps_model.specs.Sound.{Ordered, Precedes, IsNamed, WantedAt, IsWanted, KeepsWhatItHolds, MarkFits, FitsAt, leases_alive}
use Rattle.ps_base.proofs.Lists.{each-then, each-both, each-map, each-filter, each-left, each-append, each-found}
use Rattle.ps_sound.proofs.worlds.Lists.{found-own, found-numbered, ordered-map, ordered-filter, ordered-append}
use Rattle.ps_sound.proofs.worlds.Counts.{tally-append, tally-none, tally-two-filters}
use Rattle.ps_sound.proofs.worlds.Earlier.{slots-of-rows}
use Rattle.ps_sound.proofs.worlds.Marks.{gone-not-leased}
use Rattle.ps_sound.proofs.worlds.Underway.{InOrder, AllInOrder, IsGoneAt, IsUnderway, topics-more, subs-more, snaps-beside}
use Rattle.ps_sound.proofs.commands.Choosing.{slots-ascend}

-- by number
abbrev pub Comes : Slot → Slot → Type 0
Comes a b = a.item.number < b.item.number

each-brought : (P : Slot → Type 0) (item : Item) (slots : List Slot) → P (record { item = item; mark = fresh }) → AllByRecursion P slots → AllByRecursion P (bring_back item slots)
each-brought P item [] p h = (p, tt)
each-brought P item (s ∷ ss) p h =
    cond_both (nat_lt item.number s.item.number) (record { item = item; mark = fresh } ∷ (s ∷ ss)) (if nat_eq item.number s.item.number then record { item = item; mark = fresh } ∷ ss else s ∷ bring_back item ss) (AllByRecursion P) (λ _. (p, h))
    (λ _. cond_both (nat_eq item.number s.item.number) (record { item = item; mark = fresh } ∷ ss) (s ∷ bring_back item ss) (AllByRecursion P) (λ _. (p, h.1)) (λ _. (h.0, each-brought P item ss p h.1)))

pub brought-ordered : (item : Item) (slots : List Slot) → Ordered Comes slots → Ordered Comes (bring_back item slots)
brought-ordered item [] h = (tt, tt)
brought-ordered item (s ∷ ss) h =
    cond_both (nat_lt item.number s.item.number) (record { item = item; mark = fresh } ∷ (s ∷ ss)) (if nat_eq item.number s.item.number then record { item = item; mark = fresh } ∷ ss else s ∷ bring_back item ss) (Ordered Comes)
    (λ e. let up : item.number < s.item.number = ltb-true item.number s.item.number e in ((up, each-then (Comes s) (λ (x : Slot). item.number < x.item.number) ss (λ x p. omega (arith, p, up)) h.0), h))
    (λ e. cond_both (nat_eq item.number s.item.number) (record { item = item; mark = fresh } ∷ ss) (s ∷ bring_back item ss) (Ordered Comes)
    (λ same. (each-then (Comes s) (λ (x : Slot). item.number < x.item.number) ss (λ x p. omega (arith, p, eqb-true item.number s.item.number same)) h.0, h.1))
    (λ other. (each-brought (Comes s) item ss (between (ltb-false item.number s.item.number e) (eqb-false item.number s.item.number other)) h.0, brought-ordered item ss h.1)))
  where
    between : s.item.number ≤ item.number → (item.number ≡ s.item.number → ⊥) → s.item.number < item.number
    between a b = let ne : item.number ≢ s.item.number = b in omega arith

pub each-all-brought : (P : Slot → Type 0) (items : List Item) (slots : List Slot) → AllByRecursion (λ (item : Item). P (record { item = item; mark = fresh })) items → AllByRecursion P slots → AllByRecursion P (bring_all items slots)
each-all-brought P [] slots k h = h
each-all-brought P (item ∷ items) slots k h = each-all-brought P items (bring_back item slots) k.1 (each-brought P item slots k.0 h)

pub all-brought-ordered : (items : List Item) (slots : List Slot) → Ordered Comes slots → Ordered Comes (bring_all items slots)
all-brought-ordered [] slots h = h
all-brought-ordered (item ∷ items) slots h = all-brought-ordered items (bring_back item slots) (brought-ordered item slots h)

-- what a slot has to be, to be put on the subscription
record IsFine (t : ℕ) (w : World) (sub : SubRow) (s : Slot) : Type 0 where
  there : is_some (message_numbered w.messages s.item.number) ≡ true
  fit : MarkFits t sub.next_lease s.mark
  wanted : WantedAt w (message_at w.messages s.item.number) (Some sub) s.mark
  none_leased : is_leased s.mark ≡ false

module _ (t count : ℕ) (w : World) (name snapshot : List ℕ) (sub : SubRow) (snap : SnapRow) (found : sub_named w name ≡ Some sub) (taken : snap_named w snapshot ≡ Some snap) (attached : sub.detached ≡ false) (topic : snap.topic ≡ sub.topic) (h : IsUnderway t count w) where
  abbrev n : ℕ
  n = sub.number

  abbrev slots : List Slot
  slots = seek_list (held_items w sub snap) (slots_of w n)

  abbrev below : MarkRow → Bool
  below r = nat_lt r.sub n

  abbrev above : MarkRow → Bool
  above r = nat_lt n r.sub

  abbrev rows : List MarkRow
  rows = map (row_of n) slots

  abbrev made : World
  made = record w { marks = filter below w.marks ++ (rows ++ filter above w.marks) }

  own : sub_numbered w n ≡ Some sub
  own = found-numbered (λ (r : SubRow). r.number) (λ (r : SubRow). bytes_eq r.name name) w.subs sub h.subs.ascend found

  slots-ordered : Ordered Comes slots
  slots-ordered = all-brought-ordered (held_items w sub snap) (map put_aside (slots_of w n)) (ordered-map Comes Comes put_aside (slots_of w n) aside (slots-ascend w n h.marks.ascend))
    where
      number : (s : Slot) → (put_aside s).item.number ≡ s.item.number
      number s = cond_both (is_gone s.mark) s (remark s (Done Acknowledged)) (λ x. x.item.number ≡ s.item.number) (λ _. refl) (λ _. refl)

      aside : (a b : Slot) → Comes a b → Comes (put_aside a) (put_aside b)
      aside a b e = omega (arith, e, number a, number b)

  aside-fine : AllByRecursion (IsFine t w sub) (map put_aside (slots_of w n))
  aside-fine = each-map (λ (s : Slot). Old s) (IsFine t w sub) put_aside (slots_of w n) each (slots-of-rows Old w n
      (each-then (λ r. IsNamed w r × IsWanted w r) (λ (r : MarkRow). r.sub ≡ n → Old (slot_of w.messages r)) w.marks
      (λ r p same. (p.0.1, subst (λ o. WantedAt w (message_at w.messages r.message) o r.mark) (ap (λ k. sub_numbered w k) same ∙ own) p.1)) (each-both (IsNamed w) (IsWanted w) w.marks h.marks.named h.marks.wanted)))
    where
      Old : Slot → Type 0
      Old s = (is_some (message_numbered w.messages s.item.number) ≡ true) × WantedAt w (message_at w.messages s.item.number) (Some sub) s.mark

      gone-fits : (mark : Mark) → is_gone mark ≡ true → MarkFits t sub.next_lease mark
      gone-fits (Backlog f u l) e = absurd (cc (e))
      gone-fits (Leased f l d) e = absurd (cc (e))
      gone-fits (Ahead f) e = tt
      gone-fits (Done c) e = tt
      gone-fits (Gone c) e = tt

      each : (s : Slot) → Old s → IsFine t w sub (put_aside s)
      each s p = cond_both (is_gone s.mark) s (remark s (Done Acknowledged)) (IsFine t w sub)
          (λ e. record { there = p.0; fit = gone-fits s.mark e; wanted = p.1; none_leased = gone-not-leased s.mark e })
          (λ e. record { there = p.0; fit = tt; wanted = λ _. p.1 e; none_leased = refl })

  items-fine : AllByRecursion (λ (item : Item). IsFine t w sub (record { item = item; mark = fresh })) (held_items w sub snap)
  items-fine = each-map Held (λ (item : Item). IsFine t w sub (record { item = item; mark = fresh })) (λ (r : MessageRow). item_at r.number r) (filter holds w.messages) each
      (each-filter (λ (m : MessageRow). (message_numbered w.messages m.number ≡ Some m) × KeepsWhatItHolds snap m) Held holds w.messages (λ m e p. (e, p))
      (each-both (λ (m : MessageRow). message_numbered w.messages m.number ≡ Some m) (KeepsWhatItHolds snap) w.messages (found-own (λ (m : MessageRow). m.number) w.messages h.messages.ascend)
      (each-found (λ (r : SnapRow). AllByRecursion (KeepsWhatItHolds r) w.messages) (λ (r : SnapRow). bytes_eq r.name snapshot) w.snaps snap taken h.snaps.held)))
    where
      holds : MessageRow → Bool
      holds r = nat_eq r.topic snap.topic && (is_held_by r.number (hold_of snap) && meets sub.config.filter r.message)

      Held : MessageRow → Type 0
      Held m = (holds m ≡ true) × ((message_numbered w.messages m.number ≡ Some m) × KeepsWhatItHolds snap m)

      each : (m : MessageRow) → Held m → IsFine t w sub (record { item = item_at m.number m; mark = fresh })
      each m p =
          let a = and_parts (nat_eq m.topic snap.topic) (is_held_by m.number (hold_of snap) && meets sub.config.filter m.message) p.0 in
          let b = and_parts (is_held_by m.number (hold_of snap)) (meets sub.config.filter m.message) a.1 in
          let its : m.topic ≡ snap.topic = eqb-true m.topic snap.topic a.0 in
          record {
            there = ap is_some p.1.0;
            fit = record { near = omega arith; lent = tt };
            wanted = subst (λ (x : MessageRow). WantedAt w x (Some sub) fresh) (sym (ap (λ o. unwrap_or o (no_message m.number)) p.1.0)) (λ _. record { kept = p.1.1 its b.0; topic = its ∙ topic; met = b.1 });
            none_leased = refl;
          }

  slots-fine : AllByRecursion (IsFine t w sub) slots
  slots-fine = each-all-brought (IsFine t w sub) (held_items w sub snap) (map put_aside (slots_of w n)) items-fine aside-fine

  -- a fact of the old rows that are left and of the new ones
  parts : (P : MarkRow → Type 0) → AllByRecursion P w.marks → ((s : Slot) → IsFine t w sub s → P (row_of n s)) → AllByRecursion P made.marks
  parts P old new = each-append P (filter below w.marks) (rows ++ filter above w.marks) (each-left P below w.marks old)
      (each-append P rows (filter above w.marks) (each-map (IsFine t w sub) P (row_of n) slots new slots-fine) (each-left P above w.marks old))

  in_order : AllInOrder made
  in_order = each-append (λ (r : MarkRow). AllByRecursion (λ (e : MarkRow). InOrder made e r) made.marks) (filter below w.marks) (rows ++ filter above w.marks)
      (each-filter (λ (r : MarkRow). AllByRecursion (λ (e : MarkRow). InOrder w e r) w.marks) (λ (r : MarkRow). AllByRecursion (λ (e : MarkRow). InOrder made e r) made.marks) below w.marks
      (λ r e p. parts (λ (x : MarkRow). InOrder made x r) p (λ s _ same. absurd (omega (arith, ltb-true r.sub n e)))) h.marks.in_order)
      (each-append (λ (r : MarkRow). AllByRecursion (λ (e : MarkRow). InOrder made e r) made.marks) rows (filter above w.marks)
      (each-map (IsFine t w sub) (λ (r : MarkRow). AllByRecursion (λ (e : MarkRow). InOrder made e r) made.marks) (row_of n) slots (λ s fine. every s fine made.marks) slots-fine)
      (each-filter (λ (r : MarkRow). AllByRecursion (λ (e : MarkRow). InOrder w e r) w.marks) (λ (r : MarkRow). AllByRecursion (λ (e : MarkRow). InOrder made e r) made.marks) above w.marks
      (λ r e p. parts (λ (x : MarkRow). InOrder made x r) p (λ s _ same. absurd (omega (arith, ltb-true n r.sub e)))) h.marks.in_order))
    where
      every : (s : Slot) → IsFine t w sub s → (xs : List MarkRow) → AllByRecursion (λ (e : MarkRow). InOrder made e (row_of n s)) xs
      every s fine [] = tt
      every s fine (x ∷ xs) = (λ same early leased. absurd (both_ways (is_leased s.mark) fine.none_leased leased), every s fine xs)

  ascend : Ordered Precedes made.marks
  ascend = ordered-append Precedes (filter below w.marks) (rows ++ filter above w.marks)
      (each-filter (λ (r : MarkRow). Unit {0}) (λ (a : MarkRow). AllByRecursion (Precedes a) (rows ++ filter above w.marks)) below w.marks
      (λ a e _. let up : a.sub < n = ltb-true a.sub n e in
      each-append (Precedes a) rows (filter above w.marks) (each-map (IsFine t w sub) (Precedes a) (row_of n) slots (λ s _. inl up) slots-fine)
      (each-filter (λ (r : MarkRow). Unit {0}) (Precedes a) above w.marks (λ b eb _. inl (omega (arith, up, ltb-true n b.sub eb))) (any w.marks))) (any w.marks))
      (ordered-filter Precedes below w.marks h.marks.ascend)
      (ordered-append Precedes rows (filter above w.marks)
      (each-map (IsFine t w sub) (λ (a : MarkRow). AllByRecursion (Precedes a) (filter above w.marks)) (row_of n) slots
      (λ s _. each-filter (λ (r : MarkRow). Unit {0}) (Precedes (row_of n s)) above w.marks (λ b eb _. inl (ltb-true n b.sub eb)) (any w.marks)) slots-fine)
      (ordered-map Comes Precedes (row_of n) slots (λ a b e. inr (refl, e)) slots-ordered)
      (ordered-filter Precedes above w.marks h.marks.ascend))
    where
      any : (xs : List MarkRow) → AllByRecursion (λ (r : MarkRow). Unit {0}) xs
      any [] = tt
      any (x ∷ xs) = (tt, any xs)

  same : (r : MarkRow) (m : MessageRow) (o : Option SubRow) → WantedAt w m o r.mark → WantedAt made m o r.mark
  same r m None p = p
  same r m (Some q) p = p

  leases : leases_alive made ≤ leases_alive w
  leases = omega (
    arith,
    tally-append leased (filter below w.marks) (rows ++ filter above w.marks),
    tally-append leased rows (filter above w.marks),
    tally-none leased rows (each-map (IsFine t w sub) (λ (r : MarkRow). is_leased r.mark ≡ false) (row_of n) slots (λ s fine. fine.none_leased) slots-fine),
    tally-two-filters leased below above w.marks (λ r e. le-ltb n r.sub (omega (arith, ltb-true r.sub n e))),
  )
    where
      leased : MarkRow → Bool
      leased r = is_leased r.mark

  few : (w.next_message - 1) + leases_alive made ≤ 1000 * (count + 1)
  few = omega (arith, h.marks.few, leases)

  pub seek_snapshot-underway : IsUnderway t (count + 1) (with_slots_at n slots w)
  seek_snapshot-underway = record {
    moment = h.moment;
    topics = topics-more count (count + 1) w.next_topic w.topics (omega arith) h.topics;
    subs = subs-more count (count + 1) w.next_sub w.next_topic w.subs (omega arith) h.subs;
    snaps = snaps-beside t count (count + 1) w w.next_topic w.next_sub w.now w.count w.topics w.subs made.marks (omega arith) (omega arith) h.snaps;
    messages = h.messages;
    marks = record {
      ascend = ascend;
      named = parts (IsNamed w) h.marks.named (λ s fine. (ap is_some own, fine.there));
      fit = parts (λ (r : MarkRow). FitsAt t (sub_numbered w r.sub) r.mark) h.marks.fit (λ s fine. subst (λ (o : Option SubRow). FitsAt t o s.mark) (sym own) fine.fit);
      wanted = parts (IsWanted made) (each-then (IsWanted w) (IsWanted made) w.marks (λ r p. same r (message_at w.messages r.message) (sub_numbered w r.sub) p) h.marks.wanted)
          (λ s fine. subst (λ (o : Option SubRow). WantedAt made (message_at w.messages s.item.number) o s.mark) (sym own) fine.wanted);
      in_order = in_order;
      gone = parts (λ (r : MarkRow). IsGoneAt (sub_numbered w r.sub) r.mark) h.marks.gone (λ s fine. subst (λ (o : Option SubRow). IsGoneAt o s.mark) (sym own) (λ detached. absurd (both_ways sub.detached attached detached)));
      few = few;
    };
  }
