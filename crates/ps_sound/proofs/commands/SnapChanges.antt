-- What changes of snapshots leave.
use Rattle.std.proofs.Common.{ℕ, ◌≡◌, ◌≢◌, ◌+◌, ◌-◌, ◌<◌, ◌≤◌, ◌||◌, Bool, true, false, not, nat_eq, nat_lt, is_some, List, [], ◌∷◌, ◌++◌, Option, Some, None, unwrap_or, map, filter, refl, sym, ◌∙◌, ap, subst, arith, if◌then◌else◌}
use Rattle.std.specs.List.{AllByRecursion, list_any}
use Rattle.std.specs.Str.{bytes_eq}
use Rattle.std.proofs.lemmas.Bool.{cond_both, eqb-true, le-ltb, ltb-false}
use Rattle.ps_model.specs.declared.mark.Mark.{Mark}
use Rattle.ps_model.specs.declared.mark.Mark.TheVariants.{Backlog, Leased, Ahead, Done, Gone}
use Rattle.ps_model.specs.declared.mark.Slot.{Slot}
use Rattle.ps_model.specs.declared.world.World.{World}
use Rattle.ps_model.specs.declared.world.SubRow.{SubRow}
use Rattle.ps_model.specs.declared.world.SnapRow.{SnapRow}
use Rattle.ps_model.specs.declared.world.MarkRow.{MarkRow}
use Rattle.ps_model.specs.declared.world.MessageRow.{MessageRow}
use Rattle.ps_config.specs.Limits.{labels_fault}
use Rattle.ps_model.specs.Slots.{is_gone, is_unacked}
use Rattle.ps_model.specs.Worlds.{sub_named, snap_named, sub_numbered, message_numbered, message_at, no_message, slot_of, slots_of}
use Rattle.ps_model.specs.Snapshots.{open_slots, oldest, new_snap}
use Rattle.ps_model.specs.Sound.{Ordered, IsNamed, WantedAt, IsWanted, IsListedIn, KeepsWhatItHolds}
use Rattle.ps_base.proofs.Lists.{each-then, each-both, each-map, each-filter, each-left, each-behind, each-found, from-any}
use Rattle.ps_sound.proofs.worlds.Lists.{found-own, found-numbered, other-names, ordered-map, ordered-filter, ordered-behind, put-same}
use Rattle.ps_sound.proofs.worlds.Earlier.{slots-of-rows}
use Rattle.ps_sound.proofs.worlds.Underway.{SnapsStand, IsUnderway, topics-more, subs-more, marks-beside}
use Rattle.ps_sound.proofs.commands.Choosing.{slots-ascend}

-- other snapshots, in a world that stands beside them
resnapped : (t count next : ℕ) (w : World) (snaps : List SnapRow) → SnapsStand t (count + 1) (record w { next_snap = next; snaps = snaps }) → IsUnderway t count w → IsUnderway t (count + 1) (record w { next_snap = next; snaps = snaps })
resnapped t count next w snaps stand h = record {
  moment = h.moment;
  topics = topics-more count (count + 1) w.next_topic w.topics (omega arith) h.topics;
  subs = subs-more count (count + 1) w.next_sub w.next_topic w.subs (omega arith) h.subs;
  snaps = stand;
  messages = h.messages;
  marks = marks-beside t count (count + 1) w w.next_topic w.next_sub next w.now w.count w.topics snaps (omega arith) h.marks;
}

pub delete_snap-underway : (t count : ℕ) (w : World) (row : SnapRow) → IsUnderway t count w → IsUnderway t (count + 1) (record w { snaps = filter (λ (r : SnapRow). not (nat_eq r.number row.number)) w.snaps })
delete_snap-underway t count w row h = resnapped t count w.next_snap w (filter others w.snaps) stand h
  where
    others : SnapRow → Bool
    others r = not (nat_eq r.number row.number)

    stand : SnapsStand t (count + 1) (record w { snaps = filter others w.snaps })
    stand = record {
      ascend = ordered-filter (λ (a b : SnapRow). a.number < b.number) others w.snaps h.snaps.ascend;
      below = each-left (λ (r : SnapRow). r.number < w.next_snap) others w.snaps h.snaps.below;
      names = ordered-filter (λ (a b : SnapRow). a.name ≢ b.name) others w.snaps h.snaps.names;
      labels = each-left (λ (r : SnapRow). labels_fault r.labels ≡ None) others w.snaps h.snaps.labels;
      lists = each-left (λ (r : SnapRow). Ordered (λ (a b : ℕ). a < b) r.listed) others w.snaps h.snaps.lists;
      bounds = each-left (λ (r : SnapRow). r.bound < w.next_message) others w.snaps h.snaps.bounds;
      topics = each-left (λ (r : SnapRow). r.topic < w.next_topic) others w.snaps h.snaps.topics;
      listed = each-left (λ (r : SnapRow). AllByRecursion (IsListedIn w r) r.listed) others w.snaps h.snaps.listed;
      held = each-left (λ (r : SnapRow). AllByRecursion (KeepsWhatItHolds r) w.messages) others w.snaps h.snaps.held;
      live = each-left (λ (r : SnapRow). t < r.expiry) others w.snaps h.snaps.live;
      near = each-left (λ (r : SnapRow). r.expiry ≤ t + 604800000) others w.snaps h.snaps.near;
      from = h.snaps.from;
      few = omega (arith, h.snaps.few);
    }

pub update_snap-underway : (t count : ℕ) (w : World) (name : List ℕ) (old : SnapRow) (labels : List (List ℕ × List ℕ)) → snap_named w name ≡ Some old → labels_fault labels ≡ None → IsUnderway t count w
    → IsUnderway t (count + 1) (record w { snaps = map (λ (r : SnapRow). if nat_eq r.number old.number then record old { labels = labels } else r) w.snaps })
update_snap-underway t count w name old labels found checked h =
    subst (λ snaps. IsUnderway t (count + 1) (record w { snaps = snaps })) (sym (put-same (λ (r : SnapRow). r.number) w.snaps old (record old { labels = labels }) change h.snaps.ascend
    (found-numbered (λ (r : SnapRow). r.number) (λ (r : SnapRow). bytes_eq r.name name) w.snaps old h.snaps.ascend found) refl (λ r. refl)))
    (resnapped t count w.next_snap w (map changed w.snaps) stand h)
  where
    change : Bool → SnapRow → SnapRow
    change b r = record r { labels = if b then labels else r.labels }

    changed : SnapRow → SnapRow
    changed r = change (nat_eq r.number old.number) r

    stand : SnapsStand t (count + 1) (record w { snaps = map changed w.snaps })
    stand = record {
      ascend = ordered-map (λ (a b : SnapRow). a.number < b.number) (λ (a b : SnapRow). a.number < b.number) changed w.snaps (λ a b e. e) h.snaps.ascend;
      below = each-map (λ (r : SnapRow). r.number < w.next_snap) (λ (r : SnapRow). r.number < w.next_snap) changed w.snaps (λ r e. e) h.snaps.below;
      names = ordered-map (λ (a b : SnapRow). a.name ≢ b.name) (λ (a b : SnapRow). a.name ≢ b.name) changed w.snaps (λ a b e. e) h.snaps.names;
      labels = each-map (λ (r : SnapRow). labels_fault r.labels ≡ None) (λ (r : SnapRow). labels_fault r.labels ≡ None) changed w.snaps
          (λ r e. cond_both (nat_eq r.number old.number) labels r.labels (λ l. labels_fault l ≡ None) (λ _. checked) (λ _. e)) h.snaps.labels;
      lists = each-map (λ (r : SnapRow). Ordered (λ (a b : ℕ). a < b) r.listed) (λ (r : SnapRow). Ordered (λ (a b : ℕ). a < b) r.listed) changed w.snaps (λ r e. e) h.snaps.lists;
      bounds = each-map (λ (r : SnapRow). r.bound < w.next_message) (λ (r : SnapRow). r.bound < w.next_message) changed w.snaps (λ r e. e) h.snaps.bounds;
      topics = each-map (λ (r : SnapRow). r.topic < w.next_topic) (λ (r : SnapRow). r.topic < w.next_topic) changed w.snaps (λ r e. e) h.snaps.topics;
      listed = each-map (λ (r : SnapRow). AllByRecursion (IsListedIn w r) r.listed) (λ (r : SnapRow). AllByRecursion (IsListedIn w r) r.listed) changed w.snaps (λ r e. e) h.snaps.listed;
      held = each-map (λ (r : SnapRow). AllByRecursion (KeepsWhatItHolds r) w.messages) (λ (r : SnapRow). AllByRecursion (KeepsWhatItHolds r) w.messages) changed w.snaps (λ r e. e) h.snaps.held;
      live = each-map (λ (r : SnapRow). t < r.expiry) (λ (r : SnapRow). t < r.expiry) changed w.snaps (λ r e. e) h.snaps.live;
      near = each-map (λ (r : SnapRow). r.expiry ≤ t + 604800000) (λ (r : SnapRow). r.expiry ≤ t + 604800000) changed w.snaps (λ r e. e) h.snaps.near;
      from = h.snaps.from;
      few = omega (arith, h.snaps.few);
    }

oldest-past : (t : ℕ) (slots : List Slot) → AllByRecursion (λ (s : Slot). s.item.publish ≤ t) slots → oldest t slots ≤ t
oldest-past t [] h = omega arith
oldest-past t (s ∷ []) h = h.0
oldest-past t (s ∷ r ∷ ss) h = omega (arith, h.0)

unacked-lives : (mark : Mark) → is_unacked mark ≡ true → is_gone mark ≡ false
unacked-lives (Backlog f u l) e = refl
unacked-lives (Leased f l d) e = refl
unacked-lives (Ahead f) e = refl
unacked-lives (Done c) e = refl
unacked-lives (Gone c) e = absurd (cc (e))

module _ (t count : ℕ) (w : World) (name subscription : List ℕ) (sub : SubRow) (labels : List (List ℕ × List ℕ)) (found : sub_named w subscription ≡ Some sub) (free : snap_named w name ≡ None) (checked : labels_fault labels ≡ None)
    (lives : nat_lt (new_snap w t name sub labels).expiry (t + 3600000) ≡ false) (h : IsUnderway t count w) where
  abbrev row : SnapRow
  row = new_snap w t name sub labels

  abbrev made : World
  made = record w { next_snap = w.next_snap + 1; snaps = w.snaps ++ row ∷ [] }

  own : sub_numbered w sub.number ≡ Some sub
  own = found-numbered (λ (r : SubRow). r.number) (λ (r : SubRow). bytes_eq r.name subscription) w.subs sub h.subs.ascend found

  -- what an open message is
  record IsOpen (s : Slot) : Type 0 where
    listed : IsListedIn made row s.item.number
    past : s.item.publish ≤ t

  open-rows : AllByRecursion (λ (r : MarkRow). r.sub ≡ sub.number → is_unacked r.mark ≡ true → IsOpen (slot_of w.messages r)) w.marks
  open-rows = each-then (λ r. IsNamed w r × IsWanted w r) (λ (r : MarkRow). r.sub ≡ sub.number → is_unacked r.mark ≡ true → IsOpen (slot_of w.messages r)) w.marks each (each-both (IsNamed w) (IsWanted w) w.marks h.marks.named h.marks.wanted)
    where
      each : (r : MarkRow) → IsNamed w r × IsWanted w r → r.sub ≡ sub.number → is_unacked r.mark ≡ true → IsOpen (slot_of w.messages r)
      each r p same unacked =
          let wanted : WantedAt w (message_at w.messages r.message) (Some sub) r.mark = subst (λ o. WantedAt w (message_at w.messages r.message) o r.mark) (ap (λ n. sub_numbered w n) same ∙ own) p.1 in
          let lives = unacked-lives r.mark unacked in
          record {
            listed = record { there = p.0.1; topic = (wanted lives).topic; kept = (wanted lives).kept };
            past = at (message_numbered w.messages r.message) refl p.0.1;
          }
        where
          at : (o : Option MessageRow) → message_numbered w.messages r.message ≡ o → is_some o ≡ true → (unwrap_or (message_numbered w.messages r.message) (no_message r.message)).publish ≤ t
          at None e some = absurd (cc (some))
          at (Some m) e some = subst (λ (o : Option MessageRow). (unwrap_or o (no_message r.message)).publish ≤ t) (sym e) (each-found (λ (x : MessageRow). x.publish ≤ t) (λ (x : MessageRow). nat_eq x.number r.message) w.messages m e h.messages.past)

  open-slots : AllByRecursion IsOpen (open_slots w sub)
  open-slots = each-filter (λ (s : Slot). is_unacked s.mark ≡ true → IsOpen s) IsOpen (λ (s : Slot). is_unacked s.mark) (slots_of w sub.number) (λ s e k. k e)
      (slots-of-rows (λ (s : Slot). is_unacked s.mark ≡ true → IsOpen s) w sub.number open-rows)

  row-listed : AllByRecursion (IsListedIn made row) row.listed
  row-listed = each-map IsOpen (IsListedIn made row) (λ (s : Slot). s.item.number) (open_slots w sub) (λ s p. p.listed) open-slots

  row-held : AllByRecursion (KeepsWhatItHolds row) w.messages
  row-held = each-then (λ (m : MessageRow). (m.number < w.next_message) × (message_numbered w.messages m.number ≡ Some m)) (KeepsWhatItHolds row) w.messages each
      (each-both (λ (m : MessageRow). m.number < w.next_message) (λ (m : MessageRow). message_numbered w.messages m.number ≡ Some m) w.messages h.messages.below (found-own (λ (m : MessageRow). m.number) w.messages h.messages.ascend))
    where
      each : (m : MessageRow) → (m.number < w.next_message) × (message_numbered w.messages m.number ≡ Some m) → KeepsWhatItHolds row m
      each m p topic held =
          let old : nat_lt (w.next_message - 1) m.number ≡ false = le-ltb (w.next_message - 1) m.number (omega (arith, p.0)) in
          let listed : list_any (nat_eq m.number) row.listed ≡ true = ap (λ b. b || list_any (nat_eq m.number) row.listed) (sym old) ∙ held in
          from-any (m.kept ≡ true) (nat_eq m.number) row.listed listed (each-then (IsListedIn made row) (λ n. nat_eq m.number n ≡ true → m.kept ≡ true) row.listed
          (λ n q same. ap (λ (o : Option MessageRow). (unwrap_or o (no_message m.number)).kept) (sym p.1) ∙ ap (λ k. (message_at w.messages k).kept) (eqb-true m.number n same) ∙ q.kept) row-listed)

  stand : SnapsStand t (count + 1) made
  stand = record {
    ascend = ordered-behind (λ (a b : SnapRow). a.number < b.number) w.snaps row h.snaps.below h.snaps.ascend;
    below = each-behind (λ (r : SnapRow). r.number < w.next_snap + 1) w.snaps row (each-then (λ (r : SnapRow). r.number < w.next_snap) (λ (r : SnapRow). r.number < w.next_snap + 1) w.snaps (λ r e. omega (arith, e)) h.snaps.below) (omega arith);
    names = ordered-behind (λ (a b : SnapRow). a.name ≢ b.name) w.snaps row (other-names (λ (r : SnapRow). r.name) w.snaps name free) h.snaps.names;
    labels = each-behind (λ (r : SnapRow). labels_fault r.labels ≡ None) w.snaps row h.snaps.labels checked;
    lists = each-behind (λ (r : SnapRow). Ordered (λ (a b : ℕ). a < b) r.listed) w.snaps row h.snaps.lists
        (ordered-map (λ (a b : Slot). a.item.number < b.item.number) (λ (a b : ℕ). a < b) (λ (s : Slot). s.item.number) (open_slots w sub) (λ a b e. e)
        (ordered-filter (λ (a b : Slot). a.item.number < b.item.number) (λ (s : Slot). is_unacked s.mark) (slots_of w sub.number) (slots-ascend w sub.number h.marks.ascend)));
    bounds = each-behind (λ (r : SnapRow). r.bound < w.next_message) w.snaps row h.snaps.bounds (omega (arith, h.messages.from));
    topics = each-behind (λ (r : SnapRow). r.topic < w.next_topic) w.snaps row h.snaps.topics (each-found (λ (r : SubRow). r.topic < w.next_topic) (λ (r : SubRow). bytes_eq r.name subscription) w.subs sub found h.subs.topics);
    listed = each-behind (λ (r : SnapRow). AllByRecursion (IsListedIn made r) r.listed) w.snaps row h.snaps.listed row-listed;
    held = each-behind (λ (r : SnapRow). AllByRecursion (KeepsWhatItHolds r) w.messages) w.snaps row h.snaps.held row-held;
    live = each-behind (λ (r : SnapRow). t < r.expiry) w.snaps row h.snaps.live (omega (arith, ltb-false row.expiry (t + 3600000) lives));
    near = each-behind (λ (r : SnapRow). r.expiry ≤ t + 604800000) w.snaps row h.snaps.near (omega (arith, oldest-past t (open_slots w sub) (each-then IsOpen (λ (s : Slot). s.item.publish ≤ t) (open_slots w sub) (λ s p. p.past) open-slots)));
    from = omega arith;
    few = omega (arith, h.snaps.few);
  }

  pub create_snap-underway : IsUnderway t (count + 1) made
  create_snap-underway = resnapped t count (w.next_snap + 1) w (w.snaps ++ row ∷ []) stand h
