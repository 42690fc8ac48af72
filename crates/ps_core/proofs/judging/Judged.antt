-- What judging comes to, from what settling and the command came to.
use Rattle.std.proofs.Common.{◌≡◌, ◌<◌, ◌^◌, ℕ, Bool, true, false, Option, Some, None, refl, sym, ap, subst, arith}
use Rattle.std.specs.Prelude.{IfOk, Result, Ok, Err}
use Rattle.ps_base.specs.declared.refusal.Refusal.{Refusal}
use Rattle.ps_model.specs.declared.command.Command.{Command}
use Rattle.ps_model.specs.declared.command.Entry.{Entry}
use Rattle.ps_model.specs.declared.reply.Reply.{Reply}
use Rattle.ps_model.specs.declared.reply.Reply.TheVariants.{Refused}
use Rattle.ps_model.specs.declared.world.World.{World}
use Rattle.ps_model.specs.Checks.{argument_fault, as_read}
use Rattle.ps_model.specs.Commands.{carried}
use Rattle.ps_model.specs.Step as rules
use Rattle.ps_core.specs.Built.{unbuilt}
use Rattle.ps_core.specs.State.{State, seen}
use Rattle.ps_core.specs.Steady.{IsSteady}
use Rattle.ps_core.specs.Effects.{settle_state, is_any_due}
use Rattle.ps_core.specs.Carrying.{CanRecord, IsCarried, IsEntryFor}
use Rattle.ps_core.specs.Calls.{refusal_of, IsTicked, IsJudged}
use Rattle.ps_core.proofs.judging.Changed.{judged-changed}
use Rattle.ps_core.proofs.judging.Refused.{judged-refused}
use Rattle.ps_core.proofs.judging.Rests.{judged-moved, judged-still}

pub judged-any : (s made new : State) (now : ℕ) (c : Command) (told : Reply) (entry : Option Entry) (moved changed : Bool) → IsSteady s → s.count < 2 ^ 50 → unbuilt c ≡ None → argument_fault (as_read c) ≡ None → (at : ℕ) → at ≡ rules.moment (seen s) now → IsCarried at (as_read c) (settle_state at s) made told changed
    → moved ≡ is_any_due at s → IsEntryFor at (as_read c) moved changed made new entry → IsJudged (seen s) now c told entry (seen new)
judged-any s made new now c told entry moved true steady room built good at is carried due for =
    let one = for.changed_one refl in
    rw (one.0, one.1) (judged-changed s made now c told steady room built good at is carried)
judged-any s made new now c told entry true false steady room built good at is carried due for =
    let one = for.moved_one refl refl in
    rw (one.0, one.1) (judged-moved s made now c told steady room built at is carried (sym due))
judged-any s made new now c told entry false false steady room built good at is carried due for =
    let one = for.still_one refl refl in
    rw (one.0, one.1) (judged-still s made now c told steady room built at is carried (sym due))

-- a command that changed nothing leaves room for a Tick
pub can-still : (at : ℕ) (c : Command) (s made : State) (told : Reply) (changed : Bool) → IsCarried at c s made told changed → CanRecord at s → changed ≡ false → CanRecord at made
can-still at c s made told true carried can still = absurd (cc)
can-still at c s made told false carried can still =
    let count : made.count ≡ s.count = ap (λ (w : World). w.count) carried.after in
    let now : made.now ≡ s.now = ap (λ (w : World). w.now) carried.after in
    record { room = omega (arith, count, can.room); later = omega (arith, now, can.later) }

pub judged-refused-all : {V E : Type 0} (told : V → Reply) (entry : V → Option Entry) (s : State) (now : ℕ) (c : Command) (r : Refusal) (new : World) → IsSteady s → refusal_of (seen s) c ≡ Some r → (result : Result V E)
    → IfOk result (λ v. IsTicked (seen s) now (entry v) new) → IfOk result (λ v. told v ≡ Refused r) → IfOk result (λ v. IsJudged (seen s) now c (told v) (entry v) new)
judged-refused-all told entry s now c r new steady refused (Err fault) ticked same = tt
judged-refused-all told entry s now c r new steady refused (Ok v) ticked same = subst (λ (x : Reply). IsJudged (seen s) now c x (entry v) new) (sym same) (judged-refused s now c r steady refused (entry v) new ticked)
