-- The parts of soundness, as they are proved phase by phase, and back.
use Rattle.std.proofs.Common.{ℕ, ◌≡◌, ◌^◌, ◌≤◌, Bool, true, false, nat_eq, List, [], ◌∷◌, Option, Some, None, refl, sym, ◌∙◌, ap, subst, arith}
use Rattle.std.specs.List.{AllByRecursion}
use Rattle.std.proofs.lemmas.Bool.{both_ways, eqb-true}
use Rattle.ps_model.specs.declared.mark.Slot.{Slot}
use Rattle.ps_model.specs.declared.world.World.{World}
use Rattle.ps_model.specs.declared.world.SubRow.{SubRow}
use Rattle.ps_model.specs.declared.world.MarkRow.{MarkRow}
use Rattle.ps_model.specs.declared.world.MessageRow.{MessageRow}
use Rattle.ps_model.specs.Slots.{is_gone, is_leased, is_backlog, is_earlier}
use Rattle.ps_model.specs.Retention.{holds}
use Rattle.ps_model.specs.Worlds.{sub_numbered, message_at, slot_of, slots_of, holds_of}
use Rattle.ps_model.specs.Sound.{WantedAt, IsWanted, OnEachSlot, IsLeasedInOrder, IsHeldWhere, IsHeldOrGone, IsSound}
use Rattle.ps_base.proofs.Lists.{each-always, each-then, each-both, each-found, found-passes}
use Rattle.ps_sound.proofs.worlds.Lists.{found-own}
use Rattle.ps_sound.proofs.worlds.Earlier.{each-earlier, from-none-earlier, rows-of-slots, slots-of-rows}
use Rattle.ps_sound.proofs.worlds.Underway.{TopicsStand, SubsStand, SnapsStand, MessagesStand, MarksStand, IsFinished, ordering_of, InOrder, AllInOrder, IsGoneAt, IsHeldAt, AllHeld}

-- the world at this moment, with so many entries
abbrev pub stamped : ℕ → ℕ → World → World
stamped t count w = record w { now = t; count = count }

-- a fact of each slot of each subscription, at each row
pub rows-of-each : (P : SubRow → List Slot → Slot → Type 0) (w : World) → OnEachSlot w P → AllByRecursion (λ (r : MarkRow). (sub : SubRow) → sub_numbered w r.sub ≡ Some sub → P sub (slots_of w sub.number) (slot_of w.messages r)) w.marks
rows-of-each P w h = each w.marks (λ sub n e. each-found (λ (sub : SubRow). AllByRecursion (λ (r : MarkRow). r.sub ≡ sub.number → P sub (slots_of w sub.number) (slot_of w.messages r)) w.marks) (λ (x : SubRow). nat_eq x.number n) w.subs sub e all)
  where
    all : AllByRecursion (λ (sub : SubRow). AllByRecursion (λ (r : MarkRow). r.sub ≡ sub.number → P sub (slots_of w sub.number) (slot_of w.messages r)) w.marks) w.subs
    all = each-then (λ (sub : SubRow). AllByRecursion (P sub (slots_of w sub.number)) (slots_of w sub.number)) (λ (sub : SubRow). AllByRecursion (λ (r : MarkRow). r.sub ≡ sub.number → P sub (slots_of w sub.number) (slot_of w.messages r)) w.marks) w.subs
        (λ sub p. rows-of-slots (P sub (slots_of w sub.number)) w sub.number p) h

    each : (xs : List MarkRow) → ((sub : SubRow) (n : ℕ) → sub_numbered w n ≡ Some sub → AllByRecursion (λ (r : MarkRow). r.sub ≡ sub.number → P sub (slots_of w sub.number) (slot_of w.messages r)) xs)
        → AllByRecursion (λ (r : MarkRow). (sub : SubRow) → sub_numbered w r.sub ≡ Some sub → P sub (slots_of w sub.number) (slot_of w.messages r)) xs
    each [] k = tt
    each (r ∷ xs) k = (λ sub e. (k sub r.sub e).0 (sym (eqb-true sub.number r.sub (found-passes (λ (x : SubRow). nat_eq x.number r.sub) w.subs sub e))), each xs (λ sub n e. (k sub n e).1))

-- and back, where each subscription is found under its number
each-of-rows : (P : SubRow → List Slot → Slot → Type 0) (w : World) → AllByRecursion (λ (sub : SubRow). sub_numbered w sub.number ≡ Some sub) w.subs → AllByRecursion (λ (r : MarkRow). (sub : SubRow) → sub_numbered w r.sub ≡ Some sub → P sub (slots_of w sub.number) (slot_of w.messages r)) w.marks → OnEachSlot w P
each-of-rows P w own h = each-then (λ (sub : SubRow). sub_numbered w sub.number ≡ Some sub) (λ (sub : SubRow). AllByRecursion (P sub (slots_of w sub.number)) (slots_of w sub.number)) w.subs
    (λ sub e. slots-of-rows (P sub (slots_of w sub.number)) w sub.number
    (each-then (λ (r : MarkRow). (q : SubRow) → sub_numbered w r.sub ≡ Some q → P q (slots_of w q.number) (slot_of w.messages r)) (λ (r : MarkRow). r.sub ≡ sub.number → P sub (slots_of w sub.number) (slot_of w.messages r)) w.marks
    (λ r k same. k sub (ap (λ n. sub_numbered w n) same ∙ e)) h)) own

-- leased in order, as pairs of rows
pub pairs-in-order : (w : World) → OnEachSlot w IsLeasedInOrder → AllInOrder w
pairs-in-order w h = each-then (λ (r : MarkRow). (sub : SubRow) → sub_numbered w r.sub ≡ Some sub → IsLeasedInOrder sub (slots_of w sub.number) (slot_of w.messages r)) (λ (r : MarkRow). AllByRecursion (λ (e : MarkRow). InOrder w e r) w.marks) w.marks
    (λ r k. row r (sub_numbered w r.sub) refl k (is_leased r.mark) refl) (rows-of-each IsLeasedInOrder w h)
  where
    row : (r : MarkRow) (o : Option SubRow) → sub_numbered w r.sub ≡ o → ((sub : SubRow) → sub_numbered w r.sub ≡ Some sub → IsLeasedInOrder sub (slots_of w sub.number) (slot_of w.messages r)) → (b : Bool) → is_leased r.mark ≡ b → AllByRecursion (λ (e : MarkRow). InOrder w e r) w.marks
    row r o eo k false eb = each-always (λ (e : MarkRow). InOrder w e r) w.marks (λ e same early leased. absurd (both_ways (is_leased r.mark) eb leased))
    row r None eo k true eb = each-always (λ (e : MarkRow). InOrder w e r) w.marks (λ e same early leased. absurd (cc (ap (λ o. is_earlier (ordering_of o) (slot_of w.messages e) (slot_of w.messages r)) (sym eo) ∙ early)))
    row r (Some sub) eo k true eb =
        each-then (λ (e : MarkRow). e.sub ≡ sub.number → is_earlier sub.config.ordering (slot_of w.messages e) (slot_of w.messages r) ≡ true → is_backlog e.mark ≡ false) (λ (e : MarkRow). InOrder w e r) w.marks
        (λ e q same early leased. q (same ∙ sym (eqb-true sub.number r.sub (found-passes (λ (x : SubRow). nat_eq x.number r.sub) w.subs sub eo))) (ap (λ o. is_earlier (ordering_of o) (slot_of w.messages e) (slot_of w.messages r)) (sym eo) ∙ early))
        (rows-of-slots (λ (s : Slot). is_earlier sub.config.ordering s (slot_of w.messages r) ≡ true → is_backlog s.mark ≡ false) w sub.number
        (each-earlier sub.config.ordering (λ e. is_backlog e.mark) (slot_of w.messages r) (slots_of w sub.number) (k sub eo eb)))

-- and back
pub leased-in-order : (w : World) → AllByRecursion (λ (sub : SubRow). sub_numbered w sub.number ≡ Some sub) w.subs → AllInOrder w → OnEachSlot w IsLeasedInOrder
leased-in-order w own h = each-of-rows IsLeasedInOrder w own (each-then (λ (r : MarkRow). AllByRecursion (λ (e : MarkRow). InOrder w e r) w.marks) (λ (r : MarkRow). (sub : SubRow) → sub_numbered w r.sub ≡ Some sub → IsLeasedInOrder sub (slots_of w sub.number) (slot_of w.messages r)) w.marks
    (λ r p sub eo leased. from-none-earlier sub.config.ordering (λ e. is_backlog e.mark) (slot_of w.messages r) (slots_of w sub.number)
    (slots-of-rows (λ (s : Slot). is_earlier sub.config.ordering s (slot_of w.messages r) ≡ true → is_backlog s.mark ≡ false) w sub.number
    (each-then (λ (e : MarkRow). InOrder w e r) (λ (e : MarkRow). e.sub ≡ sub.number → is_earlier sub.config.ordering (slot_of w.messages e) (slot_of w.messages r) ≡ true → is_backlog e.mark ≡ false) w.marks
    (λ e q same early. q (same ∙ eqb-true sub.number r.sub (found-passes (λ (x : SubRow). nat_eq x.number r.sub) w.subs sub eo)) (ap (λ o. is_earlier (ordering_of o) (slot_of w.messages e) (slot_of w.messages r)) eo ∙ early) leased) p))) h)

-- gone where detached, at each row
pub rows-gone : (w : World) → OnEachSlot w (λ sub slots. IsHeldOrGone w sub) → AllByRecursion (λ (r : MarkRow). IsGoneAt (sub_numbered w r.sub) r.mark) w.marks
rows-gone w h = each-then (λ (r : MarkRow). (sub : SubRow) → sub_numbered w r.sub ≡ Some sub → IsHeldOrGone w sub (slot_of w.messages r)) (λ (r : MarkRow). IsGoneAt (sub_numbered w r.sub) r.mark) w.marks (λ r k. at r (sub_numbered w r.sub) k) (rows-of-each (λ sub slots. IsHeldOrGone w sub) w h)
  where
    gone : (r : MarkRow) (sub : SubRow) (b : Bool) → IsHeldWhere b w sub (slot_of w.messages r) → b ≡ true → is_gone r.mark ≡ true
    gone r sub true p e = p
    gone r sub false p e = absurd (cc (e))

    at : (r : MarkRow) (o : Option SubRow) → ((sub : SubRow) → o ≡ Some sub → IsHeldOrGone w sub (slot_of w.messages r)) → IsGoneAt o r.mark
    at r None k = tt
    at r (Some sub) k = λ detached. gone r sub sub.detached (k sub refl) detached

-- and back
pub held-or-gone : (t count : ℕ) (w : World) → AllByRecursion (λ (sub : SubRow). sub_numbered w sub.number ≡ Some sub) w.subs → AllByRecursion (λ (r : MarkRow). IsGoneAt (sub_numbered w r.sub) r.mark) w.marks → AllHeld t w → OnEachSlot (stamped t count w) (λ sub slots. IsHeldOrGone (stamped t count w) sub)
held-or-gone t count w own gone held = each-of-rows (λ sub slots. IsHeldOrGone (stamped t count w) sub) (stamped t count w) own
    (each-then (λ r. IsGoneAt (sub_numbered w r.sub) r.mark × IsHeldAt t w r) (λ (r : MarkRow). (sub : SubRow) → sub_numbered w r.sub ≡ Some sub → IsHeldOrGone (stamped t count w) sub (slot_of w.messages r)) w.marks
    (λ r p sub eo. at r sub sub.detached (subst (λ o. IsGoneAt o r.mark) eo p.0) (p.1 sub eo)) (each-both (λ (r : MarkRow). IsGoneAt (sub_numbered w r.sub) r.mark) (IsHeldAt t w) w.marks gone held))
  where
    at : (r : MarkRow) (sub : SubRow) (b : Bool) → (b ≡ true → is_gone r.mark ≡ true) → (is_gone r.mark ≡ false → holds t sub.config (holds_of w sub.topic) (slot_of w.messages r) ≡ true) → IsHeldWhere b (stamped t count w) sub (slot_of w.messages r)
    at r sub true k held = k refl
    at r sub false k held = held

pub sound-topics : (w : World) → IsSound w → TopicsStand w.count w.next_topic w.topics
sound-topics w h = record {
  ascend = h.ordered.topics;
  below = h.ordered.topics_below;
  names = h.ordered.topic_names;
  settings = h.ordered.topic_settings;
  from = h.ordered.topics_from;
  few = h.within_count.topics;
}

pub sound-subs : (w : World) → IsSound w → SubsStand w.count w.next_sub w.next_topic w.subs
sound-subs w h = record {
  ascend = h.ordered.subs;
  below = h.ordered.subs_below;
  names = h.ordered.sub_names;
  settings = h.ordered.sub_settings;
  topics = h.keeping.sub_topics;
  leases_from = h.ordered.leases_from;
  leases_few = h.within_count.leases;
  from = h.ordered.subs_from;
  few = h.within_count.subs;
}

pub sound-snaps : (w : World) → IsSound w → SnapsStand w.now w.count w
sound-snaps w h = record {
  ascend = h.ordered.snaps;
  below = h.ordered.snaps_below;
  names = h.ordered.snap_names;
  labels = h.ordered.snap_labels;
  lists = h.ordered.snap_lists;
  bounds = h.ordered.snap_bounds;
  topics = h.keeping.snap_topics;
  listed = h.keeping.listed;
  held = h.keeping.held;
  live = h.near.snaps_live;
  near = h.near.snaps_near;
  from = h.ordered.snaps_from;
  few = h.within_count.snaps;
}

-- at this moment or a later one
pub sound-messages : (t : ℕ) (w : World) → w.now ≤ t → IsSound w → MessagesStand t w.next_message w.next_topic w.messages
sound-messages t w later h = record {
  ascend = h.ordered.messages;
  below = h.ordered.messages_below;
  publishes = h.in_time.publishes;
  past = each-then (λ (r : MessageRow). r.publish ≤ w.now) (λ (r : MessageRow). r.publish ≤ t) w.messages (λ r e. omega (arith, e)) h.in_time.past;
  topics = h.keeping.message_topics;
  from = h.ordered.messages_from;
}

pub sound-marks : (w : World) → IsSound w → MarksStand w.now w.count w
sound-marks w h = record {
  ascend = h.ordered.marks;
  named = h.ordered.named;
  fit = h.near.marks;
  wanted = h.keeping.marks;
  in_order = pairs-in-order w h.leased_in_order;
  gone = rows-gone w h.held_or_gone;
  few = h.within_count.messages;
}

-- A finished world is sound at its moment and count.
pub finished-sound : (t count : ℕ) (w : World) → count ≤ 2 ^ 50 → IsFinished t count w → IsSound (stamped t count w)
finished-sound t count w room h = let u = h.underway in record {
  ordered = record {
    topics = u.topics.ascend;
    topics_below = u.topics.below;
    topic_names = u.topics.names;
    topic_settings = u.topics.settings;
    subs = u.subs.ascend;
    subs_below = u.subs.below;
    sub_names = u.subs.names;
    sub_settings = u.subs.settings;
    snaps = u.snaps.ascend;
    snaps_below = u.snaps.below;
    snap_names = u.snaps.names;
    snap_labels = u.snaps.labels;
    snap_lists = u.snaps.lists;
    snap_bounds = u.snaps.bounds;
    messages = u.messages.ascend;
    messages_below = u.messages.below;
    marks = u.marks.ascend;
    named = u.marks.named;
    topics_from = u.topics.from;
    subs_from = u.subs.from;
    snaps_from = u.snaps.from;
    messages_from = u.messages.from;
    leases_from = u.subs.leases_from;
    count = room;
  };
  in_time = record { now = u.moment; publishes = u.messages.publishes; past = u.messages.past };
  keeping = record {
    marks = each-then (IsWanted w) (IsWanted (stamped t count w)) w.marks (λ r p. same r (sub_numbered w r.sub) p) u.marks.wanted;
    listed = u.snaps.listed;
    held = u.snaps.held;
    wanted = h.asked;
    sub_topics = u.subs.topics;
    snap_topics = u.snaps.topics;
    message_topics = u.messages.topics;
  };
  leased_in_order = leased-in-order w own u.marks.in_order;
  ahead_of_one = h.ahead_of_one;
  near = record { marks = u.marks.fit; snaps_live = u.snaps.live; snaps_near = u.snaps.near };
  within_count = record { messages = u.marks.few; leases = u.subs.leases_few; topics = u.topics.few; subs = u.subs.few; snaps = u.snaps.few };
  held_or_gone = held-or-gone t count w own u.marks.gone h.held;
}
  where
    own : AllByRecursion (λ (sub : SubRow). sub_numbered w sub.number ≡ Some sub) w.subs
    own = found-own (λ (sub : SubRow). sub.number) w.subs h.underway.subs.ascend

    same : (r : MarkRow) (o : Option SubRow) → WantedAt w (message_at w.messages r.message) o r.mark → WantedAt (stamped t count w) (message_at w.messages r.message) o r.mark
    same r None p = p
    same r (Some sub) p = p
