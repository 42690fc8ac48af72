-- A call that leaves the settled world.
use Rattle.std.proofs.Common.{◌≡◌, ◌<◌, ◌+◌, ◌^◌, ℕ, Bool, true, false, not, ◌&&◌, Option, Some, None, if◌then◌else◌, refl, sym, ap, subst, ◌∙◌}
use Rattle.ps_base.specs.declared.refusal.Refusal.TheVariants.{Exhausted}
use Rattle.ps_model.specs.declared.command.Command.{Command}
use Rattle.ps_model.specs.declared.command.Command.TheVariants.{Tick}
use Rattle.ps_model.specs.declared.command.Entry.{Entry}
use Rattle.ps_model.specs.declared.reply.Reply.{Reply}
use Rattle.ps_model.specs.declared.reply.Reply.TheVariants.{Empty}
use Rattle.ps_model.specs.declared.world.World.{World}
use Rattle.ps_model.specs.Checks.{as_read}
use Rattle.ps_model.specs.Commands.{carried, is_full}
use Rattle.ps_model.specs.Live.{live}
use Rattle.ps_model.specs.Outcomes.{Shows, refuses}
use Rattle.ps_model.specs.Same.{same_world}
use Rattle.ps_model.specs.Step as rules
use Rattle.ps_model.proofs.SameLemmas.{world-same}
use Rattle.ps_core.specs.Built.{unbuilt}
use Rattle.ps_core.specs.State.{State, seen}
use Rattle.ps_core.specs.Steady.{IsSteady}
use Rattle.ps_core.specs.Effects.{settle_state, is_any_due, recorded_at}
use Rattle.ps_core.specs.Carrying.{IsCarried}
use Rattle.ps_core.specs.Calls.{is_step, next, IsTicked, IsJudged}
use Rattle.ps_core.proofs.carrying.Living.{live-seen}
use Rattle.ps_core.proofs.settling.Ending.{settle-steady}
use Rattle.ps_core.proofs.judging.Changed.{accepted, entry-open, test-seen, told-seen}
use Rattle.ps_core.proofs.judging.Settled.{moment-again, not_full, settled-moves, settled-seen}
use Rattle.ps_core.proofs.settling.Moving.{settle-rests}

-- where settling changed something
abbrev tick_at : World → ℕ → Bool → Option Entry
tick_at w at due = if not due then None else Some (record { now = at; command = Tick })

-- the entry of a call that leaves the settled world
pub rests-entry : (s : State) (now : ℕ) (c : Command) → IsSteady s → s.count < 2 ^ 50 → same_world (rules.settled (rules.moment (seen s) now) (seen s)) (rules.carried_out (seen s) (rules.moment (seen s) now) c) ≡ true
    → rules.entry_at (seen s) (rules.moment (seen s) now) c ≡ tick_at (seen s) (rules.moment (seen s) now) (is_any_due (rules.moment (seen s) now) s)
rests-entry s now c steady room same =
    ap (λ (b : Bool). if b then (if same_world (seen s) (rules.settled at (seen s)) then None else Some (record { now = at; command = Tick })) else Some (record { now = at; command = as_read c })) same
    ∙ ap (λ (b : Bool). if b then None else Some (record { now = at; command = Tick })) (settled-moves at s steady room)
  where
    at : ℕ
    at = rules.moment (seen s) now

pub tick-same : (s : State) (at : ℕ) → IsSteady s → s.count < 2 ^ 50 → same_world (rules.settled at (seen s)) (rules.carried_out (seen s) at Tick) ≡ true
tick-same s at steady room = ap (λ (w : World). same_world (rules.settled at (seen s)) w) (shown (is_full (rules.settled at (seen s)))) ∙ world-same (rules.settled at (seen s)) (rules.settled at (seen s)) refl
  where
    shown : (full : Bool) → rules.finished at (rules.settled at (seen s)) (if full then refuses (rules.settled at (seen s)) Exhausted else Shows Empty) ≡ rules.settled at (seen s)
    shown true = refl
    shown false = refl

-- a Tick is recorded where a lease was over, and makes the settled world with one entry more
tick-accepted : (s : State) (at : ℕ) → IsSteady s → s.count < 2 ^ 50 → rules.moment (seen s) at ≡ at → is_any_due at s ≡ true → (made : State) → seen made ≡ seen (settle_state at s)
    → next (seen s) (record { now = at; command = Tick }) ≡ Some (seen (recorded_at at made))
tick-accepted s at steady room moment due made is =
    accepted (seen s) at Tick (not_full s room) moment refl goes ∙ ap Some left
  where
    goes : is_step (seen s) at Tick ≡ true
    goes =
        ap (λ (b : Bool). if b then true && not (same_world (seen s) (rules.settled at (seen s))) else true) (tick-same s at steady room)
        ∙ ap (λ (b : Bool). true && not b) (settled-moves at s steady room ∙ ap not due)

    shown : (full : Bool) → rules.finished at (rules.settled at (seen s)) (if full then refuses (rules.settled at (seen s)) Exhausted else Shows Empty) ≡ rules.settled at (seen s)
    shown true = refl
    shown false = refl

    left : live (record (rules.carried_out (seen s) at Tick) { now = at; count = s.count + 1 }) ≡ seen (recorded_at at made)
    left =
        ap (λ (w : World). live (record w { now = at; count = s.count + 1 })) (shown (is_full (rules.settled at (seen s))) ∙ settled-seen at s steady room)
        ∙ ap (λ (w : World). record w { now = at; count = s.count + 1 }) (live-seen (settle_state at s) (settle-steady at s steady) ∙ sym is)
        ∙ ap (λ (n : ℕ). record (seen made) { now = at; count = n + 1 }) (sym (ap (λ (w : World). w.count) is))

-- nothing is recorded, and the world is as it was
rests-same : (s : State) (at : ℕ) → IsSteady s → is_any_due at s ≡ false → (made : State) → seen made ≡ seen (settle_state at s) → seen made ≡ seen s
rests-same s at steady none made is = is ∙ ap seen (settle-rests at s steady none)

unchanged : (at : ℕ) (c : Command) (s made : State) (told : Reply) → IsCarried at c s made told false → seen made ≡ seen s
unchanged at c s made told carried = carried.after

-- the command changed nothing, and settling did
pub judged-moved : (s made : State) (now : ℕ) (c : Command) (told : Reply) → IsSteady s → s.count < 2 ^ 50 → unbuilt c ≡ None → (at : ℕ) → at ≡ rules.moment (seen s) now → IsCarried at (as_read c) (settle_state at s) made told false → is_any_due at s ≡ true
    → IsJudged (seen s) now c told (Some (record { now = at; command = Tick })) (seen (recorded_at at made))
judged-moved s made now c told steady room built at is = subst (λ (at : ℕ). IsCarried at (as_read c) (settle_state at s) made told false → is_any_due at s ≡ true → IsJudged (seen s) now c told (Some (record { now = at; command = Tick })) (seen (recorded_at at made))) (sym is) (λ carried due. record {
  told_is = carried.told ∙ sym (told-seen s now c steady room built);
  entry_is = sym (entry-open s now c room built ∙ rests-entry s now c steady room (test-seen (rules.moment (seen s) now) s c steady room ∙ carried.moved) ∙ ap (tick_at (seen s) (rules.moment (seen s) now)) due);
  after = tick-accepted s (rules.moment (seen s) now) steady room (moment-again (seen s) now steady.now) due made carried.after;
  written = refl;
})

-- neither changed anything
pub judged-still : (s made : State) (now : ℕ) (c : Command) (told : Reply) → IsSteady s → s.count < 2 ^ 50 → unbuilt c ≡ None → (at : ℕ) → at ≡ rules.moment (seen s) now → IsCarried at (as_read c) (settle_state at s) made told false → is_any_due at s ≡ false
    → IsJudged (seen s) now c told None (seen made)
judged-still s made now c told steady room built at is = subst (λ (at : ℕ). IsCarried at (as_read c) (settle_state at s) made told false → is_any_due at s ≡ false → IsJudged (seen s) now c told None (seen made)) (sym is) (λ carried none. record {
  told_is = carried.told ∙ sym (told-seen s now c steady room built);
  entry_is = sym (entry-open s now c room built ∙ rests-entry s now c steady room (test-seen (rules.moment (seen s) now) s c steady room ∙ carried.moved) ∙ ap (tick_at (seen s) (rules.moment (seen s) now)) none);
  after = rests-same s (rules.moment (seen s) now) steady none made carried.after;
  written = tt;
})

-- ---- settling alone

pub ticked-moved : (s : State) (now : ℕ) → IsSteady s → s.count < 2 ^ 50 → (at : ℕ) → at ≡ rules.moment (seen s) now → is_any_due at s ≡ true → IsTicked (seen s) now (Some (record { now = at; command = Tick })) (seen (recorded_at at (settle_state at s)))
ticked-moved s now steady room at is = subst (λ (at : ℕ). is_any_due at s ≡ true → IsTicked (seen s) now (Some (record { now = at; command = Tick })) (seen (recorded_at at (settle_state at s)))) (sym is) (λ due. record {
  entry_is = sym (entry-open s now Tick room refl ∙ rests-entry s now Tick steady room (tick-same s (rules.moment (seen s) now) steady room) ∙ ap (tick_at (seen s) (rules.moment (seen s) now)) due);
  after = tick-accepted s (rules.moment (seen s) now) steady room (moment-again (seen s) now steady.now) due (settle_state (rules.moment (seen s) now) s) refl;
  written = refl;
})

pub ticked-still : (s : State) (now : ℕ) → IsSteady s → s.count < 2 ^ 50 → (at : ℕ) → at ≡ rules.moment (seen s) now → is_any_due at s ≡ false → IsTicked (seen s) now None (seen (settle_state at s))
ticked-still s now steady room at is = subst (λ (at : ℕ). is_any_due at s ≡ false → IsTicked (seen s) now None (seen (settle_state at s))) (sym is) (λ none. record {
  entry_is = sym (entry-open s now Tick room refl ∙ rests-entry s now Tick steady room (tick-same s (rules.moment (seen s) now) steady room) ∙ ap (tick_at (seen s) (rules.moment (seen s) now)) none);
  after = ap seen (settle-rests (rules.moment (seen s) now) s steady none);
  written = tt;
})

-- and whether or not it did something
pub ticked-any : (s new : State) (now : ℕ) → IsSteady s → s.count < 2 ^ 50 → (at : ℕ) → at ≡ rules.moment (seen s) now → (moved : Bool) (entry : Option Entry) → moved ≡ is_any_due at s
    → (moved ≡ true → (entry ≡ Some (record { now = at; command = Tick })) × (new ≡ recorded_at at (settle_state at s))) → (moved ≡ false → (entry ≡ None) × (new ≡ settle_state at s)) → IsTicked (seen s) now entry (seen new)
ticked-any s new now steady room at is true entry due one none = let it = one refl in rw (it.0, it.1) (ticked-moved s now steady room at is (sym due))
ticked-any s new now steady room at is false entry due one none = let it = none refl in rw (it.0, it.1) (ticked-still s now steady room at is (sym due))

-- a full record is closed
pub ticked-full : (s : State) (now : ℕ) → is_full (seen s) ≡ true → IsTicked (seen s) now None (seen s)
ticked-full s now full = record {
  entry_is = sym (ap (λ (b : Bool). if b then None else rules.entry_at (seen s) (rules.moment (seen s) now) Tick) full);
  after = refl;
  written = tt;
}
