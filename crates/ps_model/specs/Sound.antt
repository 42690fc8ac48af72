-- What holds in every world that a history reaches, in eight parts.
use Rattle.std.specs.Prelude.{ℕ, ◌≡◌, ◌≢◌, ◌+◌, ◌-◌, ◌*◌, ◌^◌, ◌<◌, ◌≤◌, ◌⊎◌, Bool, true, false, IfSome, List, [], ◌∷◌, Option, Some, None, is_some}
use Rattle.std.specs.List.{AllByRecursion}
use Rattle.ps_base.specs.Moments.{last_moment}
use Rattle.ps_model.specs.declared.mark.Mark.{Mark}
use Rattle.ps_model.specs.declared.mark.Mark.TheVariants.{Backlog, Leased, Ahead, Done, Gone}
use Rattle.ps_model.specs.declared.mark.Slot.{Slot}
use Rattle.ps_model.specs.declared.world.World.{World}
use Rattle.ps_model.specs.declared.world.TopicRow.{TopicRow}
use Rattle.ps_model.specs.declared.world.SubRow.{SubRow}
use Rattle.ps_model.specs.declared.world.SnapRow.{SnapRow}
use Rattle.ps_model.specs.declared.world.MessageRow.{MessageRow}
use Rattle.ps_model.specs.declared.world.MarkRow.{MarkRow}
use Rattle.ps_model.specs.Slots.{is_gone, is_leased, is_backlog, is_ahead, is_unacked, any_earlier}
use Rattle.ps_model.specs.Lists.{tally}
use Rattle.ps_filter.specs.Filters.{meets}
use Rattle.ps_model.specs.Retention.{is_held_by, holds}
use Rattle.ps_config.specs.Masks.{whole_mask}
use Rattle.ps_model.specs.Worlds.{sub_numbered, message_numbered, message_at, slots_of, hold_of, holds_of}
use Rattle.ps_model.specs.Settling.{is_wanted}
use Rattle.ps_config.specs.Limits.{topic_fault, labels_fault}
use Rattle.ps_model.specs.Checks.{new_sub_fault}

-- each item is in this relation to each later one
abbrev pub Ordered : {A : Type 0} → (A → A → Type 0) → List A → Type 0
Ordered R [] = Unit {0}
Ordered R (x ∷ xs) = AllByRecursion (R x) xs × Ordered R xs

-- by subscription, then by message
abbrev pub Precedes : MarkRow → MarkRow → Type 0
Precedes a b = (a.sub < b.sub) ⊎ ((a.sub ≡ b.sub) × (a.message < b.message))

-- the mark names a listed subscription and a listed message
abbrev pub IsNamed : World → MarkRow → Type 0
IsNamed w r = (is_some (sub_numbered w r.sub) ≡ true) × (is_some (message_numbered w.messages r.message) ≡ true)

-- First: numbers ascend and are below the next ones, names are distinct, settings pass their checks, and marks are in order, at most one for each pair of a listed subscription and a listed message.
pub record IsOrdered (w : World) : Type 0 where
  pub topics : Ordered (λ (a b : TopicRow). a.number < b.number) w.topics
  pub topics_below : AllByRecursion (λ (r : TopicRow). r.number < w.next_topic) w.topics
  pub topic_names : Ordered (λ (a b : TopicRow). a.name ≢ b.name) w.topics
  pub topic_settings : AllByRecursion (λ (r : TopicRow). topic_fault whole_mask r.config ≡ None) w.topics
  pub subs : Ordered (λ (a b : SubRow). a.number < b.number) w.subs
  pub subs_below : AllByRecursion (λ (r : SubRow). r.number < w.next_sub) w.subs
  pub sub_names : Ordered (λ (a b : SubRow). a.name ≢ b.name) w.subs
  pub sub_settings : AllByRecursion (λ (r : SubRow). new_sub_fault r.config ≡ None) w.subs
  pub snaps : Ordered (λ (a b : SnapRow). a.number < b.number) w.snaps
  pub snaps_below : AllByRecursion (λ (r : SnapRow). r.number < w.next_snap) w.snaps
  pub snap_names : Ordered (λ (a b : SnapRow). a.name ≢ b.name) w.snaps
  pub snap_labels : AllByRecursion (λ (r : SnapRow). labels_fault r.labels ≡ None) w.snaps
  pub snap_lists : AllByRecursion (λ (r : SnapRow). Ordered (λ (a b : ℕ). a < b) r.listed) w.snaps
  pub snap_bounds : AllByRecursion (λ (r : SnapRow). r.bound < w.next_message) w.snaps
  pub messages : Ordered (λ (a b : MessageRow). a.number < b.number) w.messages
  pub messages_below : AllByRecursion (λ (r : MessageRow). r.number < w.next_message) w.messages
  pub marks : Ordered Precedes w.marks
  pub named : AllByRecursion (IsNamed w) w.marks
  pub topics_from : 1 ≤ w.next_topic
  pub subs_from : 1 ≤ w.next_sub
  pub snaps_from : 1 ≤ w.next_snap
  pub messages_from : 1 ≤ w.next_message
  pub leases_from : AllByRecursion (λ (r : SubRow). 1 ≤ r.next_lease) w.subs
  pub count : w.count ≤ 2 ^ 50

-- Second: publish moments don't decrease with the number, and none is in the future.
pub record IsInTime (w : World) : Type 0 where
  pub now : w.now ≤ last_moment
  pub publishes : Ordered (λ (a b : MessageRow). a.publish ≤ b.publish) w.messages
  pub past : AllByRecursion (λ (r : MessageRow). r.publish ≤ w.now) w.messages

-- a message that a subscription still has is kept, belongs to the subscription's topic and matches its filter
abbrev pub WantedAt : World → MessageRow → Option SubRow → Mark → Type 0
WantedAt w m None mark = ⊥
WantedAt w m (Some sub) mark = is_gone mark ≡ false → record { kept : m.kept ≡ true; topic : m.topic ≡ sub.topic; met : meets sub.config.filter m.message ≡ true }

abbrev pub IsWanted : World → MarkRow → Type 0
IsWanted w r = WantedAt w (message_at w.messages r.message) (sub_numbered w r.sub) r.mark

-- a listed message exists, belongs to the snapshot's topic and is kept
abbrev pub IsListedIn : World → SnapRow → ℕ → Type 0
IsListedIn w snap number = record {
  there : is_some (message_numbered w.messages number) ≡ true;
  topic : (message_at w.messages number).topic ≡ snap.topic;
  kept : (message_at w.messages number).kept ≡ true;
}

-- a message that the snapshot holds is kept
abbrev pub KeepsWhatItHolds : SnapRow → MessageRow → Type 0
KeepsWhatItHolds snap m = m.topic ≡ snap.topic → is_held_by m.number (hold_of snap) ≡ true → m.kept ≡ true

-- Third: what a mark or a snapshot needs is kept, and what is kept is needed.
pub record IsKeeping (w : World) : Type 0 where
  pub marks : AllByRecursion (IsWanted w) w.marks
  pub listed : AllByRecursion (λ (r : SnapRow). AllByRecursion (IsListedIn w r) r.listed) w.snaps
  pub held : AllByRecursion (λ (r : SnapRow). AllByRecursion (KeepsWhatItHolds r) w.messages) w.snaps
  pub wanted : AllByRecursion (λ (m : MessageRow). m.kept ≡ true → is_wanted w.now w.marks (holds_of w m.topic) m ≡ true) w.messages
  pub sub_topics : AllByRecursion (λ (r : SubRow). r.topic < w.next_topic) w.subs
  pub snap_topics : AllByRecursion (λ (r : SnapRow). r.topic < w.next_topic) w.snaps
  pub message_topics : AllByRecursion (λ (r : MessageRow). r.topic < w.next_topic) w.messages

-- each message of each subscription passes the test
abbrev pub OnEachSlot : World → (SubRow → List Slot → Slot → Type 0) → Type 0
OnEachSlot w P = AllByRecursion (λ (sub : SubRow). AllByRecursion (P sub (slots_of w sub.number)) (slots_of w sub.number)) w.subs

-- Fourth: on an ordered subscription, no message of the backlog is earlier than a leased one of its key, so the leased messages of a key are a prefix of its unacknowledged ones.
abbrev pub IsLeasedInOrder : SubRow → List Slot → Slot → Type 0
IsLeasedInOrder sub slots s = is_leased s.mark ≡ true → any_earlier sub.config.ordering (λ e. is_backlog e.mark) slots s ≡ false

-- Fifth: a message that is ahead is on an ordered subscription and has an earlier unacknowledged message of its key.
abbrev pub IsAheadOfOne : SubRow → List Slot → Slot → Type 0
IsAheadOfOne sub slots s = is_ahead s.mark ≡ true → any_earlier sub.config.ordering (λ e. is_unacked e.mark) slots s ≡ true

-- the moments and the lease of a mark fit, on a subscription whose next lease is this
abbrev pub MarkFits : ℕ → ℕ → Mark → Type 0
MarkFits now next (Leased failures lease deadline) = record { lent : lease < next; lives : now < deadline; near : deadline ≤ now + 600000 }
MarkFits now next (Backlog failures until last) = record { near : until ≤ now + 600000; lent : IfSome last (λ lease. lease < next) }
MarkFits now next (Ahead failures) = Unit {0}
MarkFits now next (Done cause) = Unit {0}
MarkFits now next (Gone cause) = Unit {0}

abbrev pub FitsAt : ℕ → Option SubRow → Mark → Type 0
FitsAt now None mark = ⊥
FitsAt now (Some sub) mark = MarkFits now sub.next_lease mark

abbrev pub RowFits : World → MarkRow → Type 0
RowFits w r = FitsAt w.now (sub_numbered w r.sub) r.mark

-- Sixth: each lease was issued, and nothing that ends has ended already or ends too far ahead.
pub record IsNear (w : World) : Type 0 where
  pub marks : AllByRecursion (RowFits w) w.marks
  pub snaps_live : AllByRecursion (λ (r : SnapRow). w.now < r.expiry) w.snaps
  pub snaps_near : AllByRecursion (λ (r : SnapRow). r.expiry ≤ w.now + 604800000) w.snaps

abbrev pub leases_alive : World → ℕ
leases_alive w = tally (λ (r : MarkRow). is_leased r.mark) w.marks

-- Seventh: an entry makes at most 1,000 messages or leases, and at most one of anything else.
pub record IsWithinCount (w : World) : Type 0 where
  pub messages : (w.next_message - 1) + leases_alive w ≤ 1000 * w.count
  pub leases : AllByRecursion (λ (r : SubRow). r.next_lease - 1 ≤ 1000 * w.count) w.subs
  pub topics : w.next_topic ≤ w.count + 1
  pub subs : w.next_sub ≤ w.count + 1
  pub snaps : w.next_snap ≤ w.count + 1

-- Eighth: what isn't gone is held, and on a detached subscription everything is gone.
abbrev pub IsHeldWhere : Bool → World → SubRow → Slot → Type 0
IsHeldWhere true w sub s = is_gone s.mark ≡ true
IsHeldWhere false w sub s = is_gone s.mark ≡ false → holds w.now sub.config (holds_of w sub.topic) s ≡ true

abbrev pub IsHeldOrGone : World → SubRow → Slot → Type 0
IsHeldOrGone w sub s = IsHeldWhere sub.detached w sub s

-- What the types guarantee isn't repeated here: names are in the grammar, keys of labels and attributes ascend, and numbers fit their widths.
pub record IsSound (w : World) : Type 0 where
  pub ordered : IsOrdered w
  pub in_time : IsInTime w
  pub keeping : IsKeeping w
  pub leased_in_order : OnEachSlot w IsLeasedInOrder
  pub ahead_of_one : OnEachSlot w IsAheadOfOne
  pub near : IsNear w
  pub within_count : IsWithinCount w
  pub held_or_gone : OnEachSlot w (λ sub slots. IsHeldOrGone w sub)
