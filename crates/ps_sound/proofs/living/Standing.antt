-- The live part of a world stands as the world does.
use Rattle.std.proofs.Common.{ℕ, ◌≡◌, ◌+◌, ◌-◌, ◌*◌, ◌<◌, ◌≤◌, true, is_some, List, Option, Some, None, sym, ◌∙◌, ap, subst, arith}
use Rattle.std.specs.List.{AllByRecursion}
use Rattle.std.proofs.lemmas.Bool.{not-true}
use Rattle.ps_model.specs.declared.world.World.{World}
use Rattle.ps_model.specs.declared.world.SubRow.{SubRow}
use Rattle.ps_model.specs.declared.world.SnapRow.{SnapRow}
use Rattle.ps_model.specs.declared.world.MarkRow.{MarkRow}
use Rattle.ps_model.specs.declared.world.MessageRow.{MessageRow}
use Rattle.ps_model.specs.Slots.{is_gone, is_leased, is_earlier}
use Rattle.ps_model.specs.Worlds.{sub_numbered, message_at}
use Rattle.ps_model.specs.Live.{live}
use Rattle.ps_model.specs.Sound.{Precedes, IsNamed, WantedAt, IsWanted, IsListedIn, KeepsWhatItHolds, FitsAt, leases_alive}
use Rattle.ps_base.proofs.Lists.{each-then, each-both, each-filter, each-left}
use Rattle.ps_sound.proofs.worlds.Lists.{ordered-filter}
use Rattle.ps_sound.proofs.worlds.Counts.{tally-filter}
use Rattle.ps_sound.proofs.worlds.Underway.{ordering_of, InOrder, IsGoneAt, SnapsStand, MessagesStand, MarksStand, IsUnderway}
use Rattle.ps_sound.proofs.living.Slotwise.{row_lives, kept_messages, KeptAt, AllKept, numbered-live, message_at-live, slot_of-live}

-- what a mark that isn't gone names is kept
pub wanted-kept : (w : World) → AllByRecursion (IsWanted w) w.marks → AllKept w
wanted-kept w h = each-then (IsWanted w) (KeptAt w.messages) w.marks (λ r p. at r (sub_numbered w r.sub) p) h
  where
    at : (r : MarkRow) (o : Option SubRow) → WantedAt w (message_at w.messages r.message) o r.mark → KeptAt w.messages r
    at r None p = absurd p
    at r (Some sub) p = λ lives. (p lives).kept

pub live-messages : (t next next_topic : ℕ) (messages : List MessageRow) → MessagesStand t next next_topic messages → MessagesStand t next next_topic (kept_messages messages)
live-messages t next next_topic messages h = record {
  ascend = ordered-filter (λ (a b : MessageRow). a.number < b.number) (λ (r : MessageRow). r.kept) messages h.ascend;
  below = each-left (λ (r : MessageRow). r.number < next) (λ (r : MessageRow). r.kept) messages h.below;
  publishes = ordered-filter (λ (a b : MessageRow). a.publish ≤ b.publish) (λ (r : MessageRow). r.kept) messages h.publishes;
  past = each-left (λ (r : MessageRow). r.publish ≤ t) (λ (r : MessageRow). r.kept) messages h.past;
  topics = each-left (λ (r : MessageRow). r.topic < next_topic) (λ (r : MessageRow). r.kept) messages h.topics;
  from = h.from;
}

pub live-snaps : (t count : ℕ) (w : World) → SnapsStand t count w → SnapsStand t count (live w)
live-snaps t count w h = record {
  ascend = h.ascend;
  below = h.below;
  names = h.names;
  labels = h.labels;
  lists = h.lists;
  bounds = h.bounds;
  topics = h.topics;
  listed = each-then (λ (r : SnapRow). AllByRecursion (IsListedIn w r) r.listed) (λ (r : SnapRow). AllByRecursion (IsListedIn (live w) r) r.listed) w.snaps
      (λ r p. each-then (IsListedIn w r) (IsListedIn (live w) r) r.listed (λ n q. listed r n q) p) h.listed;
  held = each-then (λ (r : SnapRow). AllByRecursion (KeepsWhatItHolds r) w.messages) (λ (r : SnapRow). AllByRecursion (KeepsWhatItHolds r) (kept_messages w.messages)) w.snaps
      (λ r p. each-left (KeepsWhatItHolds r) (λ (m : MessageRow). m.kept) w.messages p) h.held;
  live = h.live;
  near = h.near;
  from = h.from;
  few = h.few;
}
  where
    listed : (r : SnapRow) (n : ℕ) → IsListedIn w r n → IsListedIn (live w) r n
    listed r n q =
        let at : message_at (kept_messages w.messages) n ≡ message_at w.messages n = message_at-live w.messages n q.kept in
        record { there = ap is_some (numbered-live w.messages n q.kept) ∙ q.there; topic = ap (λ (m : MessageRow). m.topic) at ∙ q.topic; kept = ap (λ (m : MessageRow). m.kept) at ∙ q.kept }

pub live-marks : (t count : ℕ) (w : World) → MarksStand t count w → MarksStand t count (live w)
live-marks t count w h = record {
  ascend = ordered-filter Precedes row_lives w.marks h.ascend;
  named = left (IsNamed w) (IsNamed (live w)) (λ r lives k p. (p.0, ap is_some (numbered-live w.messages r.message (k (not-true (is_gone r.mark) lives))) ∙ p.1)) h.named;
  fit = each-left (λ (r : MarkRow). FitsAt t (sub_numbered w r.sub) r.mark) row_lives w.marks h.fit;
  wanted = left (IsWanted w) (IsWanted (live w))
      (λ r lives k p. subst (λ (m : MessageRow). WantedAt (live w) m (sub_numbered w r.sub) r.mark) (sym (message_at-live w.messages r.message (k (not-true (is_gone r.mark) lives)))) (same r (message_at w.messages r.message) (sub_numbered w r.sub) p)) h.wanted;
  in_order = left (λ (r : MarkRow). AllByRecursion (λ (e : MarkRow). InOrder w e r) w.marks) (λ (r : MarkRow). AllByRecursion (λ (e : MarkRow). InOrder (live w) e r) (live w).marks)
      (λ r lives k p. left (λ (e : MarkRow). InOrder w e r) (λ (e : MarkRow). InOrder (live w) e r)
      (λ e alive ke q same early. q same ((λ i. is_earlier (ordering_of (sub_numbered w r.sub)) (sym (slot_of-live w.messages e ke alive) i) (sym (slot_of-live w.messages r k lives) i)) ∙ early)) p) h.in_order;
  gone = each-left (λ (r : MarkRow). IsGoneAt (sub_numbered w r.sub) r.mark) row_lives w.marks h.gone;
  few = few;
}
  where
    -- a fact of each mark that isn't gone
    left : (P Q : MarkRow → Type 0) → ((r : MarkRow) → row_lives r ≡ true → KeptAt w.messages r → P r → Q r) → AllByRecursion P w.marks → AllByRecursion Q (live w).marks
    left P Q k p = each-filter (λ (r : MarkRow). KeptAt w.messages r × P r) Q row_lives w.marks (λ r lives q. k r lives q.0 q.1) (each-both (KeptAt w.messages) P w.marks (wanted-kept w h.wanted) p)

    same : (r : MarkRow) (m : MessageRow) (o : Option SubRow) → WantedAt w m o r.mark → WantedAt (live w) m o r.mark
    same r m None p = p
    same r m (Some sub) p = p

    fewer : leases_alive (live w) ≤ leases_alive w
    fewer = tally-filter (λ (r : MarkRow). is_leased r.mark) row_lives w.marks

    few : (w.next_message - 1) + leases_alive (live w) ≤ 1000 * count
    few = omega (arith, h.few, fewer)

pub live-underway : (t count : ℕ) (w : World) → IsUnderway t count w → IsUnderway t count (live w)
live-underway t count w h = record {
  moment = h.moment;
  topics = h.topics;
  subs = h.subs;
  snaps = live-snaps t count w h.snaps;
  messages = live-messages t w.next_message w.next_topic w.messages h.messages;
  marks = live-marks t count w h.marks;
}
