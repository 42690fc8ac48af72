-- What settling leaves.
use Rattle.std.proofs.Common.{ℕ, ◌≡◌, ◌≢◌, ◌+◌, ◌-◌, ◌*◌, ◌<◌, ◌≤◌, Bool, true, not, ◌&&◌, nat_eq, nat_le, is_some, List, [], Option, Some, None, length, refl, arith}
use Rattle.std.specs.List.{AllByRecursion}
use Rattle.std.proofs.lemmas.Bool.{leb-false, not-true}
use Rattle.ps_base.specs.Moments.{last_moment}
use Rattle.ps_model.specs.declared.mark.Slot.{Slot}
use Rattle.ps_model.specs.declared.world.World.{World}
use Rattle.ps_model.specs.declared.world.SubRow.{SubRow}
use Rattle.ps_model.specs.declared.world.SnapRow.{SnapRow}
use Rattle.ps_model.specs.declared.world.MessageRow.{MessageRow}
use Rattle.ps_model.specs.declared.world.MarkRow.{MarkRow}
use Rattle.ps_model.specs.Lists.{tally}
use Rattle.ps_model.specs.Failing.{dead_letter, dead_letters, is_due}
use Rattle.ps_config.specs.Limits.{labels_fault}
use Rattle.ps_model.specs.Worlds.{sub_numbered, slot_of, slots_of}
use Rattle.ps_model.specs.Forwarding.{Letter, letter_rows, letters_of, dead_topic, forward}
use Rattle.ps_model.specs.Settling.{drop_snapshots, end_leases, ended_letters, expunge_world, settle}
use Rattle.ps_model.specs.Sound.{Ordered, IsListedIn, KeepsWhatItHolds, leases_alive}
use Rattle.ps_base.proofs.Lists.{each-always, each-filter, each-flat_map}
use Rattle.ps_sound.proofs.worlds.Lists.{ordered-filter}
use Rattle.ps_sound.proofs.worlds.Counts.{tally-less}
use Rattle.ps_sound.proofs.worlds.Underway.{TopicsStand, SubsStand, SnapsStand, MessagesStand, MarksStand, IsUnderway, IsFinished, snaps-beside, marks-beside}
use Rattle.ps_sound.proofs.worlds.Marked.{marked-stand}
use Rattle.ps_sound.proofs.phases.Ending.{later-fits, failing_mark, dies_at, dies, failing-room, failing-mild, failing-in_order}
use Rattle.ps_sound.proofs.phases.Letters.{letters-few, test_at, sum-few, letters-listed, letter-rows-each, letter-rows-ascend, letter-rows-publishes, letter-rows-length}
use Rattle.ps_sound.proofs.phases.Adding.{IsNewMessage, add-underway}
use Rattle.ps_sound.proofs.phases.Expunging.{expunge-finished}

-- letters to topics that there are, where there is room for them
pub forward-underway : (t count : ℕ) (w : World) (letters : List Letter) → AllByRecursion (λ (l : Letter). l.topic.number < w.next_topic) letters → (w.next_message - 1) + (leases_alive w + length letters) ≤ 1000 * count → IsUnderway t count w → IsUnderway t count (forward t letters w)
forward-underway t count w letters listed room h =
    add-underway t count w rows h (letter-rows-ascend w.next_message t letters) (letter-rows-publishes w.next_message t letters)
    (letter-rows-each (IsNewMessage t w.next_message (w.next_message + length rows) w.next_topic) (λ (l : Letter). l.topic.number < w.next_topic) w.next_message t letters
    (λ k l from below to. record { from = from; below = omega (arith, below, same); now = refl; topic = to; kept = refl }) listed)
    (omega (arith, room, same))
  where
    rows : List MessageRow
    rows = letter_rows w.next_message t letters

    same : length rows ≡ length letters
    same = letter-rows-length w.next_message t letters

-- what a command leaves, its letters forwarded and expunged
pub leaves-finished : (t count : ℕ) (w : World) (letters : List Letter) → AllByRecursion (λ (l : Letter). l.topic.number < w.next_topic) letters → (w.next_message - 1) + (leases_alive w + length letters) ≤ 1000 * count → IsUnderway t count w
    → IsFinished t count (expunge_world t (forward t letters w))
leaves-finished t count w letters listed room h = expunge-finished t count (forward t letters w) (forward-underway t count w letters listed room h)

pub answers-finished : (t count : ℕ) (w : World) → IsUnderway t count w → IsFinished t count (expunge_world t (forward t [] w))
answers-finished t count w h = leaves-finished t count w [] tt (omega (arith, h.marks.few)) h

-- the snapshots that live on
dropped-stand : (t count : ℕ) (w : World) → w.now ≤ t → SnapsStand w.now count w → SnapsStand t count (drop_snapshots t w)
dropped-stand t count w later h = record {
  ascend = ordered-filter (λ (a b : SnapRow). a.number < b.number) lives w.snaps h.ascend;
  below = each-filter (λ (r : SnapRow). r.number < w.next_snap) (λ (r : SnapRow). r.number < w.next_snap) lives w.snaps (λ r _ p. p) h.below;
  names = ordered-filter (λ (a b : SnapRow). a.name ≢ b.name) lives w.snaps h.names;
  labels = each-filter (λ (r : SnapRow). labels_fault r.labels ≡ None) (λ (r : SnapRow). labels_fault r.labels ≡ None) lives w.snaps (λ r _ p. p) h.labels;
  lists = each-filter (λ (r : SnapRow). Ordered (λ (a b : ℕ). a < b) r.listed) (λ (r : SnapRow). Ordered (λ (a b : ℕ). a < b) r.listed) lives w.snaps (λ r _ p. p) h.lists;
  bounds = each-filter (λ (r : SnapRow). r.bound < w.next_message) (λ (r : SnapRow). r.bound < w.next_message) lives w.snaps (λ r _ p. p) h.bounds;
  topics = each-filter (λ (r : SnapRow). r.topic < w.next_topic) (λ (r : SnapRow). r.topic < w.next_topic) lives w.snaps (λ r _ p. p) h.topics;
  listed = each-filter (λ (r : SnapRow). AllByRecursion (IsListedIn w r) r.listed) (λ (r : SnapRow). AllByRecursion (IsListedIn w r) r.listed) lives w.snaps (λ r _ p. p) h.listed;
  held = each-filter (λ (r : SnapRow). AllByRecursion (KeepsWhatItHolds r) w.messages) (λ (r : SnapRow). AllByRecursion (KeepsWhatItHolds r) w.messages) lives w.snaps (λ r _ p. p) h.held;
  live = each-filter (λ (r : SnapRow). w.now < r.expiry) (λ (r : SnapRow). t < r.expiry) lives w.snaps (λ r e _. leb-false r.expiry t (not-true (nat_le r.expiry t) e)) h.live;
  near = each-filter (λ (r : SnapRow). r.expiry ≤ w.now + 604800000) (λ (r : SnapRow). r.expiry ≤ t + 604800000) lives w.snaps (λ r _ p. omega (arith, p)) h.near;
  from = h.from;
  few = h.few;
}
  where
    lives : SnapRow → Bool
    lives r = not (nat_le r.expiry t)

-- A world that stands at its own moment, settled at this or a later one.
pub settle-finished : (t : ℕ) (w : World) → w.now ≤ t → t ≤ last_moment → TopicsStand w.count w.next_topic w.topics → SubsStand w.count w.next_sub w.next_topic w.subs → SnapsStand w.now w.count w → MessagesStand t w.next_message w.next_topic w.messages
    → MarksStand w.now w.count w → IsFinished t w.count (settle t w)
settle-finished t w later last topics subs snaps messages marks =
    leaves-finished t w.count (end_leases t shown) (ended_letters t shown) listed room underway
  where
    shown : World
    shown = drop_snapshots t w

    fails : SubRow → Slot → Bool
    fails sub = is_due t

    forwards : SubRow → Bool
    forwards sub = is_some (dead_topic shown sub)

    standing : MarksStand w.now w.count shown
    standing = marks-beside w.now w.count w.count w w.next_topic w.next_sub w.next_snap w.now w.count w.topics shown.snaps (omega arith) marks

    ended : MarksStand t w.count (end_leases t shown)
    ended = marked-stand w.now t w.count (failing_mark t shown fails forwards) shown
        (failing-mild t shown fails forwards w.now later subs.settings (λ sub s over h. later-fits w.now t sub.next_lease s.mark later h over)) (failing-in_order t shown fails forwards standing.in_order) standing

    underway : IsUnderway t w.count (end_leases t shown)
    underway = record {
      moment = last;
      topics = topics;
      subs = subs;
      snaps = snaps-beside t w.count w.count shown w.next_topic w.next_sub w.now w.count w.topics w.subs (end_leases t shown).marks (omega arith) (omega arith) (dropped-stand t w.count w later snaps);
      messages = messages;
      marks = ended;
    }

    listed : AllByRecursion (λ (l : Letter). l.topic.number < w.next_topic) (ended_letters t shown)
    listed = each-flat_map (λ (sub : SubRow). Unit {0}) (λ (l : Letter). l.topic.number < w.next_topic) (λ (sub : SubRow). letters_of shown sub (dead_letters (is_due t) (is_some (dead_topic shown sub)) sub.config (slots_of shown sub.number))) w.subs
        (λ sub _. letters-listed shown w.next_topic sub (dead_letters (is_due t) (is_some (dead_topic shown sub)) sub.config (slots_of shown sub.number)) topics.below) (each-always (λ (sub : SubRow). Unit {0}) w.subs (λ sub. tt))

    dying : SubRow → MarkRow → Bool
    dying sub r = is_some (dead_letter (is_due t) (is_some (dead_topic shown sub)) sub.config r.mark (slot_of shown.messages r))

    made : SubRow → List Letter
    made sub = letters_of shown sub (dead_letters (is_due t) (is_some (dead_topic shown sub)) sub.config (slots_of shown sub.number))

    few : (sub : SubRow) → length (made sub) ≤ tally (λ (r : MarkRow). nat_eq r.sub sub.number && dying sub r) shown.marks
    few sub = letters-few shown shown sub (is_due t) (is_some (dead_topic shown sub))

    letters : length (ended_letters t shown) ≤ tally (λ (r : MarkRow). test_at w.marks dying made few (sub_numbered shown r.sub) r) w.marks
    letters = sum-few w.marks dying made few w.subs subs.ascend

    die : tally (λ (r : MarkRow). test_at w.marks dying made few (sub_numbered shown r.sub) r) w.marks ≤ tally (dies t shown fails forwards) w.marks
    die = tally-less (λ (r : MarkRow). test_at w.marks dying made few (sub_numbered shown r.sub) r) (dies t shown fails forwards) w.marks (λ r. at r (sub_numbered shown r.sub))
      where
        at : (r : MarkRow) (o : Option SubRow) → test_at w.marks dying made few o r ≡ true → dies_at t shown fails forwards o r ≡ true
        at r None e = absurd (cc (e))
        at r (Some sub) e = e

    spent : leases_alive (end_leases t shown) + tally (dies t shown fails forwards) w.marks ≤ leases_alive w
    spent = failing-room t shown fails forwards

    room : (w.next_message - 1) + (leases_alive (end_leases t shown) + length (ended_letters t shown)) ≤ 1000 * w.count
    room = omega (arith, marks.few, letters, die, spent)
