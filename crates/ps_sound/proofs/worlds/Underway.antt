-- What holds of the world between the phases of a call.
use Rattle.std.proofs.Common.{ℕ, ◌≡◌, ◌≢◌, ◌+◌, ◌-◌, ◌*◌, ◌<◌, ◌≤◌, Bool, true, false, List, Option, Some, None, arith}
use Rattle.std.specs.List.{AllByRecursion}
use Rattle.ps_base.specs.Moments.{last_moment}
use Rattle.ps_model.specs.declared.mark.Mark.{Mark}
use Rattle.ps_model.specs.declared.world.World.{World}
use Rattle.ps_model.specs.declared.world.TopicRow.{TopicRow}
use Rattle.ps_model.specs.declared.world.SubRow.{SubRow}
use Rattle.ps_model.specs.declared.world.SnapRow.{SnapRow}
use Rattle.ps_model.specs.declared.world.MessageRow.{MessageRow}
use Rattle.ps_model.specs.declared.world.MarkRow.{MarkRow}
use Rattle.ps_model.specs.Slots.{is_gone, is_leased, is_backlog, is_earlier}
use Rattle.ps_config.specs.Masks.{whole_mask}
use Rattle.ps_config.specs.Limits.{topic_fault, labels_fault}
use Rattle.ps_model.specs.Checks.{new_sub_fault}
use Rattle.ps_model.specs.Retention.{holds}
use Rattle.ps_model.specs.Worlds.{sub_numbered, message_at, slot_of, holds_of}
use Rattle.ps_model.specs.Settling.{is_wanted}
use Rattle.ps_model.specs.Sound.{Ordered, Precedes, IsNamed, WantedAt, IsWanted, IsListedIn, KeepsWhatItHolds, FitsAt, OnEachSlot, IsAheadOfOne, leases_alive}
use Rattle.ps_base.proofs.Lists.{each-then}

-- topics below the next number, which so many entries made
pub record TopicsStand (count next : ℕ) (topics : List TopicRow) : Type 0 where
  pub ascend : Ordered (λ (a b : TopicRow). a.number < b.number) topics
  pub below : AllByRecursion (λ (r : TopicRow). r.number < next) topics
  pub names : Ordered (λ (a b : TopicRow). a.name ≢ b.name) topics
  pub settings : AllByRecursion (λ (r : TopicRow). topic_fault whole_mask r.config ≡ None) topics
  pub from : 1 ≤ next
  pub few : next ≤ count + 1

-- subscriptions below the next number, of topics below theirs, which so many entries made and lent from
pub record SubsStand (count next next_topic : ℕ) (subs : List SubRow) : Type 0 where
  pub ascend : Ordered (λ (a b : SubRow). a.number < b.number) subs
  pub below : AllByRecursion (λ (r : SubRow). r.number < next) subs
  pub names : Ordered (λ (a b : SubRow). a.name ≢ b.name) subs
  pub settings : AllByRecursion (λ (r : SubRow). new_sub_fault r.config ≡ None) subs
  pub topics : AllByRecursion (λ (r : SubRow). r.topic < next_topic) subs
  pub leases_from : AllByRecursion (λ (r : SubRow). 1 ≤ r.next_lease) subs
  pub leases_few : AllByRecursion (λ (r : SubRow). r.next_lease - 1 ≤ 1000 * count) subs
  pub from : 1 ≤ next
  pub few : next ≤ count + 1

-- snapshots below the next number, whose messages are there and kept, which live at t and which so many entries made
pub record SnapsStand (t count : ℕ) (w : World) : Type 0 where
  pub ascend : Ordered (λ (a b : SnapRow). a.number < b.number) w.snaps
  pub below : AllByRecursion (λ (r : SnapRow). r.number < w.next_snap) w.snaps
  pub names : Ordered (λ (a b : SnapRow). a.name ≢ b.name) w.snaps
  pub labels : AllByRecursion (λ (r : SnapRow). labels_fault r.labels ≡ None) w.snaps
  pub lists : AllByRecursion (λ (r : SnapRow). Ordered (λ (a b : ℕ). a < b) r.listed) w.snaps
  pub bounds : AllByRecursion (λ (r : SnapRow). r.bound < w.next_message) w.snaps
  pub topics : AllByRecursion (λ (r : SnapRow). r.topic < w.next_topic) w.snaps
  pub listed : AllByRecursion (λ (r : SnapRow). AllByRecursion (IsListedIn w r) r.listed) w.snaps
  pub held : AllByRecursion (λ (r : SnapRow). AllByRecursion (KeepsWhatItHolds r) w.messages) w.snaps
  pub live : AllByRecursion (λ (r : SnapRow). t < r.expiry) w.snaps
  pub near : AllByRecursion (λ (r : SnapRow). r.expiry ≤ t + 604800000) w.snaps
  pub from : 1 ≤ w.next_snap
  pub few : w.next_snap ≤ count + 1

-- messages below the next number, of topics below theirs, published by the moment t in order
pub record MessagesStand (t next next_topic : ℕ) (messages : List MessageRow) : Type 0 where
  pub ascend : Ordered (λ (a b : MessageRow). a.number < b.number) messages
  pub below : AllByRecursion (λ (r : MessageRow). r.number < next) messages
  pub publishes : Ordered (λ (a b : MessageRow). a.publish ≤ b.publish) messages
  pub past : AllByRecursion (λ (r : MessageRow). r.publish ≤ t) messages
  pub topics : AllByRecursion (λ (r : MessageRow). r.topic < next_topic) messages
  pub from : 1 ≤ next

-- whether a subscription that is there is ordered
abbrev pub ordering_of : Option SubRow → Bool
ordering_of None = false
ordering_of (Some sub) = sub.config.ordering

-- where the first is an earlier one of its key on its subscription, the first doesn't wait while the second is out
abbrev pub InOrder : World → MarkRow → MarkRow → Type 0
InOrder w e r = e.sub ≡ r.sub → is_earlier (ordering_of (sub_numbered w r.sub)) (slot_of w.messages e) (slot_of w.messages r) ≡ true → is_leased r.mark ≡ true → is_backlog e.mark ≡ false

-- each pair of rows
abbrev pub AllInOrder : World → Type 0
AllInOrder w = AllByRecursion (λ (r : MarkRow). AllByRecursion (λ (e : MarkRow). InOrder w e r) w.marks) w.marks

-- on a detached subscription the mark is gone
abbrev pub IsGoneAt : Option SubRow → Mark → Type 0
IsGoneAt None mark = Unit {0}
IsGoneAt (Some sub) mark = sub.detached ≡ true → is_gone mark ≡ true

-- marks in order, each of what is listed and as it may be at t, with no more messages and leases than so many entries make
pub record MarksStand (t count : ℕ) (w : World) : Type 0 where
  pub ascend : Ordered Precedes w.marks
  pub named : AllByRecursion (IsNamed w) w.marks
  pub fit : AllByRecursion (λ (r : MarkRow). FitsAt t (sub_numbered w r.sub) r.mark) w.marks
  pub wanted : AllByRecursion (IsWanted w) w.marks
  pub in_order : AllInOrder w
  pub gone : AllByRecursion (λ (r : MarkRow). IsGoneAt (sub_numbered w r.sub) r.mark) w.marks
  pub few : (w.next_message - 1) + leases_alive w ≤ 1000 * count

-- the world of a call at t, with no more in it than so many entries make
pub record IsUnderway (t count : ℕ) (w : World) : Type 0 where
  pub moment : t ≤ last_moment
  pub topics : TopicsStand count w.next_topic w.topics
  pub subs : SubsStand count w.next_sub w.next_topic w.subs
  pub snaps : SnapsStand t count w
  pub messages : MessagesStand t w.next_message w.next_topic w.messages
  pub marks : MarksStand t count w

-- what isn't gone is held
abbrev pub IsHeldAt : ℕ → World → MarkRow → Type 0
IsHeldAt t w r = (sub : SubRow) → sub_numbered w r.sub ≡ Some sub → is_gone r.mark ≡ false → holds t sub.config (holds_of w sub.topic) (slot_of w.messages r) ≡ true

abbrev pub AllHeld : ℕ → World → Type 0
AllHeld t w = AllByRecursion (IsHeldAt t w) w.marks

-- and what is kept is asked for, what is ahead is behind something, and what isn't gone is held
pub record IsFinished (t count : ℕ) (w : World) : Type 0 where
  pub underway : IsUnderway t count w
  pub asked : AllByRecursion (λ (m : MessageRow). m.kept ≡ true → is_wanted t w.marks (holds_of w m.topic) m ≡ true) w.messages
  pub ahead_of_one : OnEachSlot w IsAheadOfOne
  pub held : AllHeld t w

pub topics-more : (count more next : ℕ) (topics : List TopicRow) → count ≤ more → TopicsStand count next topics → TopicsStand more next topics
topics-more count more next topics e h = record { ascend = h.ascend; below = h.below; names = h.names; settings = h.settings; from = h.from; few = omega (arith, h.few) }

pub subs-more : (count more next next_topic : ℕ) (subs : List SubRow) → count ≤ more → SubsStand count next next_topic subs → SubsStand more next next_topic subs
subs-more count more next next_topic subs e h = record {
  ascend = h.ascend;
  below = h.below;
  names = h.names;
  settings = h.settings;
  topics = h.topics;
  leases_from = h.leases_from;
  leases_few = each-then (λ (r : SubRow). r.next_lease - 1 ≤ 1000 * count) (λ (r : SubRow). r.next_lease - 1 ≤ 1000 * more) subs (λ r p. omega (arith, e, p)) h.leases_few;
  from = h.from;
  few = omega (arith, h.few);
}

-- with other topics, or more of them
pub subs-beside : (count next next_topic more : ℕ) (subs : List SubRow) → next_topic ≤ more → SubsStand count next next_topic subs → SubsStand count next more subs
subs-beside count next next_topic more subs e h = record {
  ascend = h.ascend;
  below = h.below;
  names = h.names;
  settings = h.settings;
  topics = each-then (λ (r : SubRow). r.topic < next_topic) (λ (r : SubRow). r.topic < more) subs (λ r p. omega (arith, e, p)) h.topics;
  leases_from = h.leases_from;
  leases_few = h.leases_few;
  from = h.from;
  few = h.few;
}

pub messages-beside : (t next next_topic more : ℕ) (messages : List MessageRow) → next_topic ≤ more → MessagesStand t next next_topic messages → MessagesStand t next more messages
messages-beside t next next_topic more messages e h = record {
  ascend = h.ascend;
  below = h.below;
  publishes = h.publishes;
  past = h.past;
  topics = each-then (λ (r : MessageRow). r.topic < next_topic) (λ (r : MessageRow). r.topic < more) messages (λ r p. omega (arith, e, p)) h.topics;
  from = h.from;
}

-- the same snapshots beside other topics, subscriptions and marks
pub snaps-beside : (t count more : ℕ) (w : World) (next_topic next_sub now entries : ℕ) (topics : List TopicRow) (subs : List SubRow) (marks : List MarkRow) → count ≤ more → w.next_topic ≤ next_topic → SnapsStand t count w
    → SnapsStand t more (record w { now = now; count = entries; next_topic = next_topic; next_sub = next_sub; topics = topics; subs = subs; marks = marks })
snaps-beside t count more w next_topic next_sub now entries topics subs marks e up h = record {
  ascend = h.ascend;
  below = h.below;
  names = h.names;
  labels = h.labels;
  lists = h.lists;
  bounds = h.bounds;
  topics = each-then (λ (r : SnapRow). r.topic < w.next_topic) (λ (r : SnapRow). r.topic < next_topic) w.snaps (λ r p. omega (arith, up, p)) h.topics;
  listed = h.listed;
  held = h.held;
  live = h.live;
  near = h.near;
  from = h.from;
  few = omega (arith, h.few);
}

-- the same marks beside other topics and snapshots, and other next numbers of them
pub marks-beside : (t count more : ℕ) (w : World) (next_topic next_sub next_snap now entries : ℕ) (topics : List TopicRow) (snaps : List SnapRow) → count ≤ more → MarksStand t count w
    → MarksStand t more (record w { now = now; count = entries; next_topic = next_topic; next_sub = next_sub; next_snap = next_snap; topics = topics; snaps = snaps })
marks-beside t count more w next_topic next_sub next_snap now entries topics snaps e h = record {
  ascend = h.ascend;
  named = h.named;
  fit = h.fit;
  wanted = each-then (IsWanted w) (IsWanted made) w.marks (λ r p. same r (sub_numbered w r.sub) p) h.wanted;
  in_order = h.in_order;
  gone = h.gone;
  few = omega (arith, h.few);
}
  where
    made : World
    made = record w { now = now; count = entries; next_topic = next_topic; next_sub = next_sub; next_snap = next_snap; topics = topics; snaps = snaps }

    same : (r : MarkRow) (o : Option SubRow) → WantedAt w (message_at w.messages r.message) o r.mark → WantedAt made (message_at w.messages r.message) o r.mark
    same r None p = p
    same r (Some sub) p = p

-- more entries leave more room
pub underway-more : (t count more : ℕ) (w : World) → count ≤ more → IsUnderway t count w → IsUnderway t more w
underway-more t count more w e h = record {
  moment = h.moment;
  topics = topics-more count more w.next_topic w.topics e h.topics;
  subs = subs-more count more w.next_sub w.next_topic w.subs e h.subs;
  snaps = snaps-beside t count more w w.next_topic w.next_sub w.now w.count w.topics w.subs w.marks e (omega arith) h.snaps;
  messages = h.messages;
  marks = marks-beside t count more w w.next_topic w.next_sub w.next_snap w.now w.count w.topics w.snaps e h.marks;
}

pub finished-more : (t count more : ℕ) (w : World) → count ≤ more → IsFinished t count w → IsFinished t more w
finished-more t count more w e h = record { underway = underway-more t count more w e h.underway; asked = h.asked; ahead_of_one = h.ahead_of_one; held = h.held }
