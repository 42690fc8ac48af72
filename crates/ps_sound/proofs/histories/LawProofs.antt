-- Laws that follow from soundness.
use Rattle.std.proofs.Common.{ℕ, ◌≡◌, ◌≤◌, Bool, true, false, cond, arith}
use Rattle.ps_base.specs.Moments.{last_moment}
use Rattle.ps_model.specs.declared.world.World.{World}
use Rattle.ps_model.specs.Settling.{settle}
use Rattle.ps_model.specs.Checks.{as_read}
use Rattle.ps_model.specs.Commands.{is_full, outcome}
use Rattle.ps_model.specs.Step.{moment, settled, step}
use Rattle.ps_model.specs.Sound.{Ordered, Precedes, IsSound}
use Rattle.ps_model.specs.Worlds.{message_numbered}
use Rattle.ps_model.specs.Laws.{is_lost, LeasedInOrder, HandedOutInOrder, NeverKeptAgain, SettledAtNow, SettledAfterStep}
use Rattle.ps_sound.proofs.phases.Resting.{sound-rests}
use Rattle.ps_sound.proofs.commands.Outcomes.{lost-settled, InNumberOrder, handed-in-order, outcome-keeps, lost-finished}
use Rattle.ps_sound.proofs.phases.Stepping.{sound-settled, stays_sound, history-sound}

pub leased_in_order : LeasedInOrder
leased_in_order w es h history = (history-sound w es h history).leased_in_order

pub settled_at_now : SettledAtNow
settled_at_now = sound-rests

pub settled_after_step : SettledAfterStep
settled_after_step w e h accepted = sound-rests (step w e) (stays_sound w e h accepted)

-- marks stand in order also where a full record isn't settled
settled-order : (w : World) (at : ℕ) → IsSound w → Ordered Precedes (settled (moment w at) w).marks
settled-order w at h = either (is_full w)
  where
    later : w.now ≤ moment w at
    later = omega (arith, h.in_time.now)

    last : moment w at ≤ last_moment
    last = omega arith

    either : (full : Bool) → Ordered Precedes (cond full w (settle (moment w at) w)).marks
    either true = h.ordered.marks
    either false = (sound-settled (moment w at) w later last h).underway.marks.ascend

pub handed_out_in_order : HandedOutInOrder
handed_out_in_order w at c h = (outcome-keeps (moment w at) (settled (moment w at) w) InNumberOrder tt (as_read c) (λ _. handed-in-order (moment w at) (settled (moment w at) w) (settled-order w at h))).1

pub never_kept_again : NeverKeptAgain
never_kept_again w e number h accepted lost =
    let t = moment w e.now in
    let v = settled t w in
    let order : Ordered Precedes v.marks = settled-order w e.now h in
    lost-finished t v InNumberOrder tt (outcome v t (as_read e.command)) (outcome-keeps t v InNumberOrder tt (as_read e.command) (λ _. handed-in-order t v order)).0 number (either (is_full w) t)
  where
    either : (full : Bool) (t : ℕ) → is_lost (message_numbered (cond full w (settle t w)).messages number) ≡ true
    either true t = lost
    either false t = lost-settled t w number lost
