-- What is gone never matters.
use Rattle.std.proofs.Common.{ℕ, ◌≡◌, ◌+◌, ◌≤◌, Bool, true, false, Option, Some, None, refl, sym, ◌∙◌, ap, arith, if◌then◌else◌}
use Rattle.std.proofs.lemmas.Bool.{both_ways, cond_both}
use Rattle.ps_base.specs.Moments.{last_moment}
use Rattle.ps_base.specs.declared.reason.Reason.{Reason}
use Rattle.ps_base.specs.declared.refusal.Refusal.TheVariants.{Exhausted}
use Rattle.ps_model.specs.declared.command.Command.{Command}
use Rattle.ps_model.specs.declared.command.Command.TheVariants.{Tick, CreateTopic, UpdateTopic, GetTopic, DeleteTopic, ListTopics, ListTopicSubscriptions, ListTopicSnapshots, Publish, CreateSubscription, UpdateSubscription, GetSubscription, DeleteSubscription, ListSubscriptions, Pull, Acknowledge, ModifyAckDeadline, SeekTime, SeekSnapshot, Detach, CreateSnapshot, UpdateSnapshot, GetSnapshot, DeleteSnapshot, ListSnapshots}
use Rattle.ps_model.specs.declared.world.World.{World}
use Rattle.ps_model.specs.Same.{world_parts, same_world}
use Rattle.ps_model.specs.Worlds.{topic_named, sub_named, snap_named}
use Rattle.ps_model.specs.Settling.{settle}
use Rattle.ps_model.specs.Checks.{argument_fault, as_read}
use Rattle.ps_model.specs.Outcomes.{Outcome, Shows, Leaves, refuses, reply_in}
use Rattle.ps_model.specs.Commands.{carried, is_full, checked, outcome}
use Rattle.ps_model.specs.Forwarding.{forward}
use Rattle.ps_model.specs.Step.{moment, settled, finished, carried_out, entry_at}
use Rattle.ps_model.specs.Live.{live}
use Rattle.ps_model.specs.Sound.{IsSound}
use Rattle.ps_model.specs.Laws.{GoneNeverMatters}
use Rattle.ps_sound.proofs.worlds.Underway.{IsUnderway}
use Rattle.ps_sound.proofs.worlds.Parts.{sound-topics, sound-subs, sound-snaps, sound-messages, sound-marks}
use Rattle.ps_sound.proofs.phases.Settled.{settle-finished}
use Rattle.ps_sound.proofs.living.Slotwise.{AllKept}
use Rattle.ps_sound.proofs.living.Standing.{wanted-kept, live-snaps, live-messages, live-marks}
use Rattle.ps_sound.proofs.living.Passes.{Like, live-again, like-live, expunge-like}
use Rattle.ps_sound.proofs.living.Growing.{by-sub, IsReady, settle-like}
use Rattle.ps_sound.proofs.living.Seen.{SeenIn, same-seen, settle-seen}
use Rattle.ps_sound.proofs.living.Following.{Follows, follows-told, create_topic-follows, update_topic-follows, get_topic-follows, delete_topic-follows, list_topic_subs-follows, list_topic_snaps-follows, publish-follows, create_sub-follows, update_sub-follows, get_sub-follows, delete_sub-follows, detach-follows, pull-follows, acknowledge-follows, modify-follows, seek_time-follows, create_snap-follows, update_snap-follows, get_snap-follows, delete_snap-follows}
use Rattle.ps_sound.proofs.living.Changing.{shows, create_topic-changes, update_topic-changes, get_topic-changes, delete_topic-changes, list_topic_subs-changes, list_topic_snaps-changes, publish-changes, create_sub-changes, update_sub-changes, get_sub-changes, delete_sub-changes, detach-changes, pull-changes, acknowledge-changes, modify-changes, seek_time-changes, create_snap-changes, update_snap-changes, get_snap-changes, delete_snap-changes}
use Rattle.ps_sound.proofs.living.Bringing.{seek_snap-follows}
use Rattle.ps_sound.proofs.living.Merging.{seek_snap-changes}

module _ (t count : ℕ) (v : World) (u : IsUnderway t count v) where
  pub carried-follows : (c : Command) → Follows t (carried (live v) t c) (carried v t c)
  carried-follows Tick = refl
  carried-follows (CreateTopic topic config) = create_topic-follows t count v u topic config (topic_named v topic)
  carried-follows (UpdateTopic topic mask config) = update_topic-follows t count v u topic mask config (topic_named v topic)
  carried-follows (GetTopic topic) = get_topic-follows t count v u topic (topic_named v topic)
  carried-follows (DeleteTopic topic) = delete_topic-follows t count v u topic (topic_named v topic)
  carried-follows (ListTopics project paging) = refl
  carried-follows (ListTopicSubscriptions topic paging) = list_topic_subs-follows t count v u paging topic (topic_named v topic)
  carried-follows (ListTopicSnapshots topic paging) = list_topic_snaps-follows t count v u paging topic (topic_named v topic)
  carried-follows (Publish topic messages) = publish-follows t count v u topic messages (topic_named v topic)
  carried-follows (CreateSubscription subscription topic config) = create_sub-follows t count v u subscription topic config (topic_named v topic)
  carried-follows (UpdateSubscription subscription mask config) = update_sub-follows t count v u subscription mask config (sub_named v subscription)
  carried-follows (GetSubscription subscription) = get_sub-follows t count v u subscription (sub_named v subscription)
  carried-follows (DeleteSubscription subscription) = delete_sub-follows t count v u subscription (sub_named v subscription)
  carried-follows (ListSubscriptions project paging) = refl
  carried-follows (Pull subscription most budget seconds) = pull-follows t count v u subscription most budget seconds (sub_named v subscription)
  carried-follows (Acknowledge subscription ids) = acknowledge-follows t count v u subscription ids (sub_named v subscription)
  carried-follows (ModifyAckDeadline subscription items) = modify-follows t count v u subscription items (sub_named v subscription)
  carried-follows (SeekTime subscription time) = seek_time-follows t count v u subscription time (sub_named v subscription)
  carried-follows (SeekSnapshot subscription snapshot) = seek_snap-follows t count v u subscription snapshot (sub_named v subscription) (snap_named v snapshot) refl refl
  carried-follows (Detach subscription) = detach-follows t count v u subscription (sub_named v subscription)
  carried-follows (CreateSnapshot snapshot subscription labels) = create_snap-follows t count v u snapshot subscription labels (sub_named v subscription) (snap_named v snapshot)
  carried-follows (UpdateSnapshot snapshot labels) = update_snap-follows t count v u snapshot labels (snap_named v snapshot)
  carried-follows (GetSnapshot snapshot) = get_snap-follows t count v u snapshot (snap_named v snapshot)
  carried-follows (DeleteSnapshot snapshot) = delete_snap-follows t count v u snapshot (snap_named v snapshot)
  carried-follows (ListSnapshots project paging) = refl

  carried-changes : (c : Command) → SeenIn v (finished t v (carried v t c))
  carried-changes Tick = shows t v u.marks.ascend
  carried-changes (CreateTopic topic config) = create_topic-changes t v u.marks.ascend topic config (topic_named v topic)
  carried-changes (UpdateTopic topic mask config) = update_topic-changes t v u.marks.ascend topic mask config (topic_named v topic)
  carried-changes (GetTopic topic) = get_topic-changes t v u.marks.ascend topic (topic_named v topic)
  carried-changes (DeleteTopic topic) = delete_topic-changes t v u.marks.ascend topic (topic_named v topic)
  carried-changes (ListTopics project paging) = shows t v u.marks.ascend
  carried-changes (ListTopicSubscriptions topic paging) = list_topic_subs-changes t v u.marks.ascend paging topic (topic_named v topic)
  carried-changes (ListTopicSnapshots topic paging) = list_topic_snaps-changes t v u.marks.ascend paging topic (topic_named v topic)
  carried-changes (Publish topic messages) = publish-changes t v u.marks.ascend topic messages (topic_named v topic)
  carried-changes (CreateSubscription subscription topic config) = create_sub-changes t v u.marks.ascend subscription topic config (topic_named v topic)
  carried-changes (UpdateSubscription subscription mask config) = update_sub-changes t v u.marks.ascend subscription mask config (sub_named v subscription)
  carried-changes (GetSubscription subscription) = get_sub-changes t v u.marks.ascend subscription (sub_named v subscription)
  carried-changes (DeleteSubscription subscription) = delete_sub-changes t v u.marks.ascend subscription (sub_named v subscription) refl
  carried-changes (ListSubscriptions project paging) = shows t v u.marks.ascend
  carried-changes (Pull subscription most budget seconds) = pull-changes t v u.marks.ascend subscription most budget seconds (sub_named v subscription)
  carried-changes (Acknowledge subscription ids) = acknowledge-changes t v u.marks.ascend subscription ids (sub_named v subscription)
  carried-changes (ModifyAckDeadline subscription items) = modify-changes t v u.marks.ascend subscription items (sub_named v subscription)
  carried-changes (SeekTime subscription time) = seek_time-changes t v u.marks.ascend subscription time (sub_named v subscription)
  carried-changes (SeekSnapshot subscription snapshot) = seek_snap-changes t count v u subscription snapshot (sub_named v subscription) (snap_named v snapshot) refl refl
  carried-changes (Detach subscription) = detach-changes t v u.marks.ascend subscription (sub_named v subscription)
  carried-changes (CreateSnapshot snapshot subscription labels) = create_snap-changes t v u.marks.ascend snapshot subscription labels (sub_named v subscription) (snap_named v snapshot)
  carried-changes (UpdateSnapshot snapshot labels) = update_snap-changes t v u.marks.ascend snapshot labels (snap_named v snapshot)
  carried-changes (GetSnapshot snapshot) = get_snap-changes t v u.marks.ascend snapshot (snap_named v snapshot)
  carried-changes (DeleteSnapshot snapshot) = delete_snap-changes t v u.marks.ascend snapshot (snap_named v snapshot)
  carried-changes (ListSnapshots project paging) = shows t v u.marks.ascend

-- a full record is closed, and otherwise the world is underway
module _ (t count : ℕ) (v : World) (underway : is_full v ≡ false → IsUnderway t count v) where
  checked-follows : (c : Command) (fault : Option Reason) → Follows t (checked (live v) t c fault) (checked v t c fault)
  checked-follows c (Some reason) = refl
  checked-follows c None = by (is_full v) refl
    where
      by : (full : Bool) → is_full v ≡ full → Follows t (if full then refuses (live v) Exhausted else carried (live v) t c) (if full then refuses v Exhausted else carried v t c)
      by true e = refl
      by false e = carried-follows t count v (underway e) c

  outcome-follows : (c : Command) → Follows t (outcome (live v) t c) (outcome v t c)
  outcome-follows c = checked-follows c (argument_fault c)

  checked-changes : (c : Command) (fault : Option Reason) → SeenIn v (finished t v (checked v t c fault))
  checked-changes c (Some reason) = λ e i. world_parts v
  checked-changes c None = cond_both (is_full v) (refuses v Exhausted) (carried v t c) (λ o. SeenIn v (finished t v o)) (λ _ e i. world_parts v) (λ room. carried-changes t count v (underway room) c)

  outcome-changes : (c : Command) → SeenIn v (finished t v (outcome v t c))
  outcome-changes c = checked-changes c (argument_fault c)

  finished-follows : (o p : Outcome) → AllKept v → Follows t o p → live (finished t (live v) o) ≡ live (finished t v p)
  finished-follows (Shows a) (Shows b) kept h = live-again v
  finished-follows (Leaves m letters a) (Leaves n others b) kept h = (expunge-like t (forward t letters m) (forward t others n) h.0).same
  finished-follows (Shows a) (Leaves n others b) kept h = absurd h
  finished-follows (Leaves m letters a) (Shows b) kept h = absurd h

-- the world after a command at t, in a world that was settled
abbrev over : ℕ → Command → World → World
over t c v = finished t v (outcome v t c)

-- Settled worlds alike are told the same and leave worlds of the same live part.
module _ (t count : ℕ) (v w : World) (like : Like v w) (first : is_full v ≡ false → IsUnderway t count v) (second : is_full w ≡ false → IsUnderway t count w) (c : Command) where
  over-alike : live (over t c v) ≡ live (over t c w)
  over-alike =
      sym (finished-follows t count v first (outcome (live v) t c) (outcome v t c) like.first (outcome-follows t count v first c))
      ∙ ap (λ x. live (over t c x)) like.same
      ∙ finished-follows t count w second (outcome (live w) t c) (outcome w t c) like.second (outcome-follows t count w second c)

  told-alike : reply_in (outcome v t c) ≡ reply_in (outcome w t c)
  told-alike =
      sym (follows-told t (outcome (live v) t c) (outcome v t c) (outcome-follows t count v first c))
      ∙ ap (λ x. reply_in (outcome x t c)) like.same
      ∙ follows-told t (outcome (live w) t c) (outcome w t c) (outcome-follows t count w second c)

module _ (w : World) (t : ℕ) (later : w.now ≤ t) (last : t ≤ last_moment) (h : IsSound w) where
  kept : AllKept w
  kept = wanted-kept w h.keeping.marks

  ready : IsReady w
  ready = record { marks = by-sub w.marks h.ordered.marks; below = h.ordered.messages_below }

  settled-like : Like (settled t (live w)) (settled t w)
  settled-like = by (is_full w)
    where
      by : (full : Bool) → Like (if full then live w else settle t (live w)) (if full then w else settle t w)
      by true = like-live w kept
      by false = settle-like t w ready kept

  live-settled : IsUnderway t w.count (settle t (live w))
  live-settled = (settle-finished t (live w) later last (sound-topics w h) (sound-subs w h) (live-snaps w.now w.count w (sound-snaps w h)) (live-messages t w.next_message w.next_topic w.messages (sound-messages t w later h)) (live-marks w.now w.count w (sound-marks w h))).underway

  all-settled : IsUnderway t w.count (settle t w)
  all-settled = (settle-finished t w later last (sound-topics w h) (sound-subs w h) (sound-snaps w h) (sound-messages t w later h) (sound-marks w h)).underway

  -- where the record isn't full
  with-room : (v : World) → IsUnderway t w.count (settle t v) → is_full (settled t v) ≡ false → IsUnderway t w.count (settled t v)
  with-room v u = by (is_full v) refl
    where
      by : (full : Bool) → is_full v ≡ full → is_full (if full then v else settle t v) ≡ false → IsUnderway t w.count (if full then v else settle t v)
      by true e room = absurd (both_ways (is_full v) room e)
      by false e room = u

  settled-seen : (v : World) → SeenIn v (settled t v)
  settled-seen v = by (is_full v)
    where
      by : (full : Bool) → SeenIn v (if full then v else settle t v)
      by true = λ e i. world_parts v
      by false = settle-seen t v

  module _ (c : Command) where
    carried-alike : live (carried_out (live w) t c) ≡ live (carried_out w t c)
    carried-alike = over-alike t w.count (settled t (live w)) (settled t w) settled-like (with-room (live w) live-settled) (with-room w all-settled) (as_read c)

    reply-alike : reply_in (outcome (settled t (live w)) t (as_read c)) ≡ reply_in (outcome (settled t w) t (as_read c))
    reply-alike = told-alike t w.count (settled t (live w)) (settled t w) settled-like (with-room (live w) live-settled) (with-room w all-settled) (as_read c)

    command-seen : same_world (settled t (live w)) (carried_out (live w) t c) ≡ same_world (settled t w) (carried_out w t c)
    command-seen = same-seen (settled t (live w)) (carried_out (live w) t c) (settled t w) (carried_out w t c) settled-like.same carried-alike
        (outcome-changes t w.count (settled t (live w)) (with-room (live w) live-settled) (as_read c)) (outcome-changes t w.count (settled t w) (with-room w all-settled) (as_read c))

    moment-seen : same_world (live w) (settled t (live w)) ≡ same_world w (settled t w)
    moment-seen = same-seen (live w) (settled t (live w)) w (settled t w) (live-again w) settled-like.same (settled-seen (live w)) (settled-seen w)

    entry-alike : entry_at (live w) t c ≡ entry_at w t c
    entry-alike = λ i. if command-seen i then if moment-seen i then None else Some (record { now = t; command = Tick }) else Some (record { now = t; command = as_read c })

pub gone_never_matters : GoneNeverMatters
gone_never_matters w at c h = record {
  replies = reply-alike w t later last h c;
  records = ap (λ o. if is_full w then None else o) (entry-alike w t later last h c);
  leaves = ap (λ (x : World). record x { now = t; count = w.count + 1 }) (carried-alike w t later last h c);
}
  where
    t : ℕ
    t = moment w at

    later : w.now ≤ t
    later = omega (arith, h.in_time.now)

    last : t ≤ last_moment
    last = omega arith
