-- What the moment alone changes, in four phases: snapshots that expire, leases that end, dead letters, and what nothing holds any more (Pub/Sub documentation, "Lease management", "Dead-letter topics", "Replay and purge messages with Seek"; the order of the phases, and that a lease ends exactly at its deadline, are this project's own).
use Rattle.std.specs.Prelude.{ℕ, Bool, ◌&&◌, ◌||◌, not, nat_eq, nat_le, List, map, filter, flat_map, is_some}
use Rattle.std.specs.List.{list_any}
use Rattle.ps_model.specs.declared.world.World.{World}
use Rattle.ps_model.specs.declared.world.SubRow.{SubRow}
use Rattle.ps_model.specs.declared.world.SnapRow.{SnapRow}
use Rattle.ps_model.specs.declared.world.MessageRow.{MessageRow}
use Rattle.ps_model.specs.declared.world.MarkRow.{MarkRow}
use Rattle.ps_model.specs.Slots.{is_gone}
use Rattle.ps_model.specs.Failing.{mark_after_failing, dead_letters, is_due}
use Rattle.ps_model.specs.declared.hold.Holds.{Holds}
use Rattle.ps_model.specs.Retention.{expired_mark, caught_up_mark, released_mark, is_within, is_held_by}
use Rattle.ps_model.specs.Worlds.{slots_of, remark_all, holds_of}
use Rattle.ps_model.specs.Forwarding.{Letter, letters_of, dead_topic, forward}

-- snapshots go at the moment of their expiry
abbrev pub drop_snapshots : ℕ → World → World
drop_snapshots t w = record w { snaps = filter (λ (r : SnapRow). not (nat_le r.expiry t)) w.snaps }

-- on each subscription the leases that are over fail together
abbrev pub end_leases : ℕ → World → World
end_leases t w = remark_all (λ sub. mark_after_failing (is_due t) t (is_some (dead_topic w sub)) sub.config) w

-- the dead letters among them, in order of subscription, then of message
abbrev pub ended_letters : ℕ → World → List Letter
ended_letters t w = flat_map (λ (sub : SubRow). letters_of w sub (dead_letters (is_due t) (is_some (dead_topic w sub)) sub.config (slots_of w sub.number))) w.subs

abbrev pub expire : ℕ → World → World
expire t w = remark_all (λ sub slots. expired_mark t sub.config (holds_of w sub.topic)) w

abbrev pub catch_up : World → World
catch_up w = remark_all (λ sub. caught_up_mark sub.config.ordering) w

abbrev pub release : ℕ → World → World
release t w = remark_all (λ sub slots. released_mark t sub.config (holds_of w sub.topic)) w

-- some mark of the message isn't gone, or the message is within its topic's window, or a snapshot holds it
abbrev pub is_wanted : ℕ → List MarkRow → Holds → MessageRow → Bool
is_wanted t marks holds r =
    list_any (λ (m : MarkRow). nat_eq m.message r.number && not (is_gone m.mark)) marks
    || (is_within t r.publish holds.topic_window || list_any (is_held_by r.number) holds.snapshots)

abbrev pub let_go : ℕ → World → MessageRow → MessageRow
let_go t w r = record r { kept = r.kept && is_wanted t w.marks (holds_of w r.topic) r }

-- the three parts on every subscription, then the messages that nothing needs
abbrev pub expunge_world : ℕ → World → World
expunge_world t w =
    let gone = release t (catch_up (expire t w)) in
    record gone { messages = map (let_go t gone) gone.messages }

-- the four phases
abbrev pub settle : ℕ → World → World
settle t w =
    let shown = drop_snapshots t w in
    expunge_world t (forward t (ended_letters t shown) (end_leases t shown))
