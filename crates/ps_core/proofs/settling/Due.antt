-- Where settling would change the world.
use Rattle.std.proofs.Common.{◌≡◌, ℕ, Bool, true, false, not, refl, ap, ◌∙◌, if◌then◌else◌}
use Rattle.std.proofs.Math.Bool.{not-not}
use Rattle.ps_model.specs.Commands.{is_full}
use Rattle.ps_model.specs.Same.{same_world}
use Rattle.ps_model.specs.Settling.{settle}
use Rattle.ps_model.specs.Step as rules
use Rattle.ps_model.proofs.SameLemmas.{world-same}
use Rattle.ps_core.specs.Effects.{is_any_due}
use Rattle.ps_core.specs.State.{State, seen}
use Rattle.ps_core.specs.Steady.{IsSteady}
use Rattle.ps_core.proofs.judging.Refused.{room_left}
use Rattle.ps_core.proofs.judging.Settled.{settled-moves}

-- a full record is closed, so settling changes nothing
pub full-rests : (at : ℕ) (s : State) → is_full (seen s) ≡ true → not (same_world (seen s) (rules.settled at (seen s))) ≡ false
full-rests at s full = ap (λ (b : Bool). not (same_world (seen s) (if b then seen s else settle at (seen s)))) full ∙ ap not (world-same (seen s) (seen s) refl)

-- where there is room, settling changes the world where a lease is over
pub open-moves : (at : ℕ) (s : State) → IsSteady s → is_full (seen s) ≡ false → not (same_world (seen s) (rules.settled at (seen s))) ≡ is_any_due at s
open-moves at s steady is_open = ap not (settled-moves at s steady (room_left s steady is_open)) ∙ not-not (is_any_due at s)
