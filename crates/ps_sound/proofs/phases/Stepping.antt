-- One entry, and a history of them.
use Rattle.std.proofs.Common.{ℕ, ◌≡◌, ◌+◌, ◌^◌, ◌≤◌, ◌≢◌, Bool, true, false, cond, List, [], ◌∷◌, Option, Some, None, refl, sym, subst, arith}
use Rattle.std.proofs.lemmas.Bool.{eqb-false}
use Rattle.ps_base.specs.Moments.{last_moment}
use Rattle.ps_model.specs.declared.command.Command.{Command}
use Rattle.ps_model.specs.declared.command.Entry.{Entry}
use Rattle.ps_model.specs.declared.world.World.{World}
use Rattle.ps_model.specs.Settling.{settle}
use Rattle.ps_model.specs.Checks.{as_read}
use Rattle.ps_model.specs.Commands.{is_full, outcome}
use Rattle.ps_model.specs.Step.{empty_world, moment, finished, carried_out, step, entry_at}
use Rattle.ps_model.specs.History.{IsAccepted, IsHistory, after}
use Rattle.ps_model.specs.Sound.{IsSound}
use Rattle.ps_model.specs.Laws.{StaysSound}
use Rattle.ps_sound.specs.Histories.{SoundAfterHistories}
use Rattle.ps_sound.proofs.worlds.Underway.{IsFinished}
use Rattle.ps_sound.proofs.phases.Settled.{settle-finished}
use Rattle.ps_sound.proofs.commands.Carrying.{outcome-finished}
use Rattle.ps_sound.proofs.worlds.Parts.{sound-topics, sound-subs, sound-snaps, sound-messages, sound-marks, finished-sound}

-- nothing is accepted by a full record
pub accepted-room : (w : World) (e : Entry) → IsAccepted w e → is_full w ≡ false
accepted-room w e h = at (is_full w) (entry_at w (moment w e.now) e.command) h
  where
    at : (full : Bool) (o : Option Entry) → cond full None o ≡ Some e → full ≡ false
    at true o h = absurd (cc (h))
    at false o h = refl

-- the settled world
pub sound-settled : (t : ℕ) (w : World) → w.now ≤ t → t ≤ last_moment → IsSound w → IsFinished t w.count (settle t w)
sound-settled t w later last h = settle-finished t w later last (sound-topics w h) (sound-subs w h) (sound-snaps w h) (sound-messages t w later h) (sound-marks w h)

-- what a command leaves of a sound world, its settling included
pub carried_out-finished : (w : World) (t : ℕ) (c : Command) → w.now ≤ t → t ≤ last_moment → is_full w ≡ false → IsSound w → IsFinished t (w.count + 1) (carried_out w t c)
carried_out-finished w t c later last room h =
    subst (λ full. IsFinished t (w.count + 1) (finished t (cond full w (settle t w)) (outcome (cond full w (settle t w)) t (as_read c)))) (sym room)
    (outcome-finished t w.count (settle t w) (sound-settled t w later last h) c)

pub stays_sound : StaysSound
stays_sound w e h accepted = finished-sound (moment w e.now) (w.count + 1) (carried_out w (moment w e.now) e.command) (more room) (carried_out-finished w (moment w e.now) e.command later last room h)
  where
    room : is_full w ≡ false
    room = accepted-room w e accepted

    later : w.now ≤ moment w e.now
    later = omega (arith, h.in_time.now)

    last : moment w e.now ≤ last_moment
    last = omega arith

    more : is_full w ≡ false → w.count + 1 ≤ 2 ^ 50
    more room = let other : w.count ≢ 2 ^ 50 = eqb-false w.count (2 ^ 50) room in omega (arith, h.ordered.count)

empty-finished : IsFinished 0 0 empty_world
empty-finished = record {
  underway = record {
    moment = omega arith;
    topics = record { ascend = tt; below = tt; names = tt; settings = tt; from = omega arith; few = omega arith };
    subs = record { ascend = tt; below = tt; names = tt; settings = tt; topics = tt; leases_from = tt; leases_few = tt; from = omega arith; few = omega arith };
    snaps = record { ascend = tt; below = tt; names = tt; labels = tt; lists = tt; bounds = tt; topics = tt; listed = tt; held = tt; live = tt; near = tt; from = omega arith; few = omega arith };
    messages = record { ascend = tt; below = tt; publishes = tt; past = tt; topics = tt; from = omega arith };
    marks = record { ascend = tt; named = tt; fit = tt; wanted = tt; in_order = tt; gone = tt; few = omega arith };
  };
  asked = tt;
  ahead_of_one = tt;
  held = tt;
}

pub starts-sound : IsSound empty_world
starts-sound = finished-sound 0 0 empty_world (omega arith) empty-finished

pub history-sound : (w : World) (es : List Entry) → IsSound w → IsHistory w es → IsSound (after w es)
history-sound w [] h history = h
history-sound w (e ∷ es) h history = history-sound (step w e) es (stays_sound w e h history.0) history.1

pub sound_after_histories : SoundAfterHistories
sound_after_histories es history = history-sound empty_world es starts-sound history
