-- When a command was carried out as the rules say.
use Rattle.std.proofs.Common.{◌≡◌, ◌<◌, ◌+◌, ◌^◌, ℕ, Bool, true, false, None, List, Result, Ok, Err, IfOk, if◌then◌else◌, refl, sym, ap, subst, ◌∙◌, arith}
use Rattle.std.proofs.lemmas.Bool.{ne_eqb}
use Rattle.ps_model.specs.declared.command.Command.{Command}
use Rattle.ps_model.specs.declared.command.Command.TheVariants.{Tick}
use Rattle.ps_model.specs.declared.reply.Reply.{Reply}
use Rattle.ps_model.specs.declared.reply.Reply.TheVariants.{Empty, Refused}
use Rattle.ps_model.specs.declared.world.World.{World}
use Rattle.ps_model.specs.Checks.{argument_fault}
use Rattle.ps_model.specs.Commands.{carried, checked, outcome}
use Rattle.ps_model.specs.Outcomes.{Outcome, Shows, answers, refuses, reply_in}
use Rattle.ps_base.specs.declared.refusal.Refusal.TheVariants.{AlreadyExists, Exhausted, NotFound}
use Rattle.ps_model.specs.Live.{live}
use Rattle.ps_model.specs.Same.{same_world}
use Rattle.ps_model.specs.Settling.{catch_up, expunge_world}
use Rattle.ps_model.specs.Step.{finished}
use Rattle.ps_model.proofs.SameLemmas.{world-same}
use Rattle.ps_core.specs.declared.service.outcome.Outcome.{Outcome as CarriedOut}
use Rattle.ps_core.specs.State.{State, seen}
use Rattle.ps_core.specs.Steady.{IsSteady}
use Rattle.ps_core.specs.Effects.{let_go, recorded_at}
use Rattle.ps_core.specs.Carrying.{CanRecord, one_entry_more, IsCarried}
use Rattle.ps_core.proofs.settling.Ending.{forward-none}
use Rattle.ps_core.proofs.carrying.Living.{expunge-live, live-left, moves-live}
use Rattle.ps_core.proofs.settling.Expunging.{expunge-seen, IsPlain}

-- a record that isn't full, and no bad argument
pub outcome-open : (s : State) (at : ℕ) (c : Command) → s.count < 2 ^ 50 → argument_fault c ≡ None → outcome (seen s) at c ≡ carried (seen s) at c
outcome-open s at c room none =
    ap (checked (seen s) at c) none ∙ ap (λ (full : Bool). if full then refuses (seen s) Exhausted else carried (seen s) at c) (ne_eqb s.count (2 ^ 50) (λ e. omega (arith, e, room)))

-- it only showed something
pub carried-shown : (at : ℕ) (c : Command) (s : State) (reply : Reply) → outcome (seen s) at c ≡ Shows reply → IsCarried at c s s reply false
carried-shown at c s reply is = record {
  told = sym (ap reply_in is);
  moved = ap (λ (o : Outcome). same_world (seen s) (finished at (seen s) o)) is ∙ world-same (seen s) (seen s) refl;
  after = refl;
}

-- a Tick shows nothing
pub tick-carried : (at : ℕ) (s : State) → CanRecord at s → IsCarried at Tick s s Empty false
tick-carried at s can = carried-shown at Tick s Empty (outcome-open s at Tick can.room refl)

-- what a world comes to that a steady state stands for
pub finished-seen : (at : ℕ) (w : World) (s : State) (reply : Reply) → IsSteady s → finished at w (answers (seen s) reply) ≡ seen s
finished-seen at w s reply steady = ap (expunge_world at) (forward-none at (seen s)) ∙ expunge-seen at s steady

-- What a command made of the settled world stands for a state but for what is gone; the messages go that no subscription has, and what is left differs.
pub carried-made : (at : ℕ) (c : Command) (s made : State) (reply : Reply) (w : World) → IsSteady s → IsPlain made → outcome (seen s) at c ≡ answers w reply → live w ≡ seen made → catch_up w ≡ w
    → same_world (seen s) (seen (let_go made)) ≡ false → made.count ≡ s.count → IsCarried at c s (recorded_at at (let_go made)) reply true
carried-made at c s made reply w steady plain is stands caught moves count =
    let left : live (finished at (seen s) (answers w reply)) ≡ seen (let_go made) = ap (λ (v : World). live (expunge_world at v)) (forward-none at w) ∙ expunge-live at w made plain stands caught in
    record {
      told = sym (ap reply_in is);
      moved = ap (λ (o : Outcome). same_world (seen s) (finished at (seen s) o)) is ∙ moves-live s (let_go made) (finished at (seen s) (answers w reply)) steady left moves;
      after = (λ i. record (seen (let_go made)) { now = at; count = count i + 1 }) ∙ ap (one_entry_more at (seen s)) (sym (ap (λ (o : Outcome). live (finished at (seen s) o)) is ∙ left));
    }

-- what a world comes to that stands for a state which is steady with one entry more
pub finished-made : (at now : ℕ) (w : World) (made : State) (reply : Reply) → IsSteady (recorded_at now made) → finished at w (answers (seen made) reply) ≡ seen made
finished-made at now w made reply steady =
    ap (expunge_world at) (forward-none at (seen made)) ∙ ap (λ (v : World). record v { now = made.now; count = made.count }) (expunge-seen at (recorded_at now made) steady)

-- what a command makes is finished, and differs
pub carried-finished : (at : ℕ) (c : Command) (s made : State) (reply : Reply) (o : Outcome) → IsSteady (recorded_at at made) → outcome (seen s) at c ≡ o → reply ≡ reply_in o → finished at (seen s) o ≡ seen made
    → same_world (seen s) (seen made) ≡ false → made.count ≡ s.count → IsCarried at c s (recorded_at at made) reply true
carried-finished at c s made reply o after is told left moves count =
    let made-left : finished at (seen s) (outcome (seen s) at c) ≡ seen made = ap (finished at (seen s)) is ∙ left in
    record {
      told = told ∙ sym (ap reply_in is);
      moved = ap (same_world (seen s)) made-left ∙ moves;
      after = (λ i. record (seen made) { now = at; count = count i + 1 }) ∙ ap (one_entry_more at (seen s)) (sym (ap live made-left ∙ live-left at made after));
    }

-- the same of a command that leaves a steady state
pub carried-left : (at : ℕ) (c : Command) (s made : State) (reply : Reply) (w : World) → IsSteady (recorded_at at made) → outcome (seen s) at c ≡ answers w reply → w ≡ seen made → same_world (seen s) (seen made) ≡ false
    → made.count ≡ s.count → IsCarried at c s (recorded_at at made) reply true
carried-left at c s made reply w after is stands moves count =
    carried-finished at c s made reply (answers w reply) after is refl (ap (λ (v : World). finished at (seen s) (answers v reply)) stands ∙ finished-made at at (seen s) made reply after) moves count

-- it left the world as it was
pub carried-rests : (at : ℕ) (c : Command) (s : State) (reply : Reply) (o : Outcome) → outcome (seen s) at c ≡ o → reply ≡ reply_in o → finished at (seen s) o ≡ seen s → IsCarried at c s s reply false
carried-rests at c s reply o is told left = record {
  told = told ∙ sym (ap reply_in is);
  moved = ap (λ (w : World). same_world (seen s) w) (ap (finished at (seen s)) is ∙ left) ∙ world-same (seen s) (seen s) refl;
  after = refl;
}

-- a name is taken, if that is the rule's answer
pub taken-carried : {E : Type 0} (at : ℕ) (c : Command) (s : State) (text name : List ℕ) (result : Result CarriedOut E) → IfOk result (λ made. made.reply ≡ Refused (AlreadyExists text)) → IfOk result (λ made. made.changed ≡ false)
    → text ≡ name → IsCarried at c s s (Refused (AlreadyExists name)) false → IfOk result (λ made. IsCarried at c s s made.reply made.changed)
taken-carried at c s text name (Ok made) reply same told is =
    rw (reply ∙ ap (λ (n : List ℕ). Refused (AlreadyExists n)) told, same) is
taken-carried at c s text name (Err error) reply same told is = tt

-- nothing has this name, if that is the rule's answer
pub missing-carried : {E : Type 0} (at : ℕ) (c : Command) (s : State) (text name : List ℕ) (result : Result CarriedOut E) → IfOk result (λ made. made.reply ≡ Refused (NotFound text)) → IfOk result (λ made. made.changed ≡ false)
    → text ≡ name → IsCarried at c s s (Refused (NotFound name)) false → IfOk result (λ made. IsCarried at c s s made.reply made.changed)
missing-carried at c s text name (Ok made) reply same told is =
    rw (reply ∙ ap (λ (n : List ℕ). Refused (NotFound n)) told, same) is
missing-carried at c s text name (Err error) reply same told is = tt
