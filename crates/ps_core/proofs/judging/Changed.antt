-- A command that changed the settled world.
use Rattle.std.proofs.Common.{◌≡◌, ◌<◌, ◌+◌, ◌^◌, ℕ, Bool, true, false, not, ◌&&◌, nat_eq, List, Option, Some, None, if◌then◌else◌, sym, ap, subst, ◌∙◌}
use Rattle.std.specs.Prelude.{is_none}
use Rattle.std.proofs.lemmas.Bool.{eq-eqb, and_from}
use Rattle.ps_model.specs.declared.command.Command.{Command}
use Rattle.ps_model.specs.declared.command.Command.TheVariants.{Tick}
use Rattle.ps_model.specs.declared.command.Entry.{Entry}
use Rattle.ps_model.specs.declared.reply.Reply.{Reply}
use Rattle.ps_model.specs.declared.world.World.{World}
use Rattle.ps_model.specs.Checks.{argument_fault, as_read, is_normal}
use Rattle.ps_model.specs.Commands.{carried, is_full, outcome}
use Rattle.ps_model.specs.Live.{live}
use Rattle.ps_model.specs.Outcomes.{reply_in}
use Rattle.ps_model.specs.Same.{same_world}
use Rattle.ps_model.specs.Step as rules
use Rattle.ps_model.proofs.NormalForms.{read-normal, read-twice}
use Rattle.ps_core.specs.Built.{unbuilt}
use Rattle.ps_core.specs.State.{State, seen}
use Rattle.ps_core.specs.Steady.{IsSteady}
use Rattle.ps_core.specs.Effects.{settle_state}
use Rattle.ps_core.specs.Carrying.{left_by, IsCarried}
use Rattle.ps_core.specs.Calls.{reply_built, reply, as_built, entry_of, is_tick, is_step, is_accepted, next, IsJudged}
use Rattle.ps_core.proofs.judging.Reading.{changes}
use Rattle.ps_core.proofs.judging.Settled.{moment-again, not_full, read-built, read-spelled, settled-seen}

entry_at_moment : ℕ → Command → Entry
entry_at_moment at c = record { now = at; command = c }

pub accepted : (w : World) (at : ℕ) (c : Command) → is_full w ≡ false → rules.moment w at ≡ at → unbuilt c ≡ None → is_step w at c ≡ true → next w (record { now = at; command = c }) ≡ Some (live (record (rules.carried_out w at c) { now = at; count = w.count + 1 }))
accepted w at c full moment built goes =
    ap (λ (b : Bool). if b then Some (live (rules.step w (record { now = at; command = c }))) else None) test
    ∙ ap (λ (u : ℕ). Some (live (record (rules.carried_out w u c) { now = u; count = w.count + 1 }))) moment
  where
    test : is_accepted w (record { now = at; command = c }) ≡ true
    test =
        and_from (not (is_full w)) (nat_eq (rules.moment w at) at && (is_none (unbuilt c) && is_step w at c)) (ap not full)
        (and_from (nat_eq (rules.moment w at) at) (is_none (unbuilt c) && is_step w at c) (eq-eqb (rules.moment w at) at moment)
        (and_from (is_none (unbuilt c)) (is_step w at c) (ap is_none built) goes))

-- what a call leaves of the settled world
carried_out-seen : (at : ℕ) (s : State) (c : Command) → IsSteady s → s.count < 2 ^ 50 → rules.carried_out (seen s) at c ≡ left_by at (as_read c) (seen (settle_state at s))
carried_out-seen at s c steady room = ap (λ (w : World). rules.finished at w (outcome w at (as_read c))) (settled-seen at s steady room)

-- whether the command changes the settled world
pub test-seen : (at : ℕ) (s : State) (c : Command) → IsSteady s → s.count < 2 ^ 50 → same_world (rules.settled at (seen s)) (rules.carried_out (seen s) at c) ≡ same_world (seen (settle_state at s)) (left_by at (as_read c) (seen (settle_state at s)))
test-seen at s c steady room = λ i. same_world (settled-seen at s steady room i) (carried_out-seen at s c steady room i)

pub told-seen : (s : State) (now : ℕ) (c : Command) → IsSteady s → s.count < 2 ^ 50 → unbuilt c ≡ None → reply (seen s) now c ≡ reply_in (outcome (seen (settle_state (rules.moment (seen s) now) s)) (rules.moment (seen s) now) (as_read c))
told-seen s now c steady room built =
    let at = rules.moment (seen s) now in
    ap (reply_built (seen s) now c) built ∙ ap (λ (w : World). reply_in (outcome w at (as_read c))) (settled-seen at s steady room)

pub entry-open : (s : State) (now : ℕ) (c : Command) → s.count < 2 ^ 50 → unbuilt c ≡ None → entry_of (seen s) now c ≡ rules.entry_at (seen s) (rules.moment (seen s) now) c
entry-open s now c room built =
    ap (λ (o : Option (List ℕ)). rules.entry_of (seen s) now (as_built c o)) built ∙ ap (λ (full : Bool). if full then None else rules.entry_at (seen s) (rules.moment (seen s) now) c) (not_full s room)

-- the command changed the settled world
pub judged-changed : (s made : State) (now : ℕ) (c : Command) (told : Reply) → IsSteady s → s.count < 2 ^ 50 → unbuilt c ≡ None → argument_fault (as_read c) ≡ None → (at : ℕ) → at ≡ rules.moment (seen s) now → IsCarried at (as_read c) (settle_state at s) made told true
    → IsJudged (seen s) now c told (Some (record { now = at; command = as_read c })) (seen made)
judged-changed s made now c told steady room built good at is = subst (λ (at : ℕ). IsCarried at (as_read c) (settle_state at s) made told true → IsJudged (seen s) now c told (Some (record { now = at; command = as_read c })) (seen made)) (sym is) (λ carried. record {
  told_is = carried.told ∙ sym (told-seen s now c steady room built);
  entry_is = sym (entry-open s now c room built ∙ ap (chosen now) (test-seen (rules.moment (seen s) now) s c steady room ∙ carried.moved));
  after = accepted (seen s) (rules.moment (seen s) now) (as_read c) (not_full s room) (moment-again (seen s) now steady.now) (read-built c built) (goes carried) ∙ ap Some (left carried);
  written = read-spelled c built good (changes _ (as_read c) (settle_state _ s) made told carried);
})
  where
    t0 : ℕ
    t0 = rules.moment (seen s) now

    chosen : ℕ → Bool → Option Entry
    chosen now same = if same then (if same_world (seen s) (rules.settled (rules.moment (seen s) now) (seen s)) then None else Some (record { now = rules.moment (seen s) now; command = Tick })) else Some (record { now = rules.moment (seen s) now; command = as_read c })

    again : rules.carried_out (seen s) t0 (as_read c) ≡ left_by t0 (as_read c) (seen (settle_state t0 s))
    again = carried_out-seen t0 s (as_read c) steady room ∙ ap (λ (x : Command). left_by t0 x (seen (settle_state t0 s))) (read-twice c)

    goes : IsCarried t0 (as_read c) (settle_state t0 s) made told true → is_step (seen s) t0 (as_read c) ≡ true
    goes carried =
        ap (λ (same : Bool). if same then is_tick (as_read c) && not (same_world (seen s) (rules.settled t0 (seen s))) else is_normal (as_read c))
        ((λ i. same_world (settled-seen t0 s steady room i) (again i)) ∙ carried.moved)
        ∙ read-normal c

    left : IsCarried t0 (as_read c) (settle_state t0 s) made told true → live (record (rules.carried_out (seen s) t0 (as_read c)) { now = t0; count = s.count + 1 }) ≡ seen made
    left carried = ap (λ (w : World). live (record w { now = t0; count = s.count + 1 })) again ∙ sym carried.after
