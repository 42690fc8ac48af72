-- When an entry is accepted.
use Rattle.std.proofs.Common.{◌≡◌, ◌<◌, ◌^◌, ℕ, Bool, true, false, not, ◌&&◌, nat_eq, List, Option, Some, None, if◌then◌else◌, refl, sym, ap, subst, ◌∙◌}
use Rattle.std.specs.Prelude.{is_none, is_some, MatchOption}
use Rattle.std.proofs.lemmas.Bool.{ne_eqb, eqb-true, eqb-false, and_parts}
use Rattle.std.proofs.Math.Bool.{and-false}
use Rattle.ps_base.specs.declared.reason.Reason.{Reason}
use Rattle.ps_base.specs.declared.refusal.Refusal.{Refusal}
use Rattle.ps_model.specs.declared.command.Command.{Command}
use Rattle.ps_model.specs.declared.command.Command.TheVariants.{Tick}
use Rattle.ps_model.specs.declared.command.Entry.{Entry}
use Rattle.ps_model.specs.declared.reply.Reply.{Reply}
use Rattle.ps_model.specs.declared.world.World.{World}
use Rattle.ps_model.specs.Checks.{argument_fault, as_read, is_normal}
use Rattle.ps_model.specs.Commands.{is_full}
use Rattle.ps_model.specs.Live.{live}
use Rattle.ps_model.specs.Outcomes.{Outcome}
use Rattle.ps_model.specs.Same.{same_world}
use Rattle.ps_model.specs.Step as rules
use Rattle.ps_model.proofs.SameLemmas.{world-same}
use Rattle.ps_model.proofs.NormalForms.{normal-read}
use Rattle.ps_core.specs.Built.{unbuilt}
use Rattle.ps_core.specs.State.{State, seen}
use Rattle.ps_core.specs.Steady.{IsSteady}
use Rattle.ps_core.specs.Effects.{settle_state, is_any_due, recorded_at}
use Rattle.ps_core.specs.Carrying.{IsCarried}
use Rattle.ps_core.specs.Applying.{Applies}
use Rattle.ps_core.specs.Calls.{is_tick, is_step, is_accepted, next, refusal_by, refusal_of}
use Rattle.ps_tables.proofs.lists.Options.{none-of}
use Rattle.ps_core.proofs.judging.Changed.{judged-changed, test-seen}
use Rattle.ps_core.proofs.judging.Refused.{no_refusal, refused-outcome, room_left}
use Rattle.ps_core.proofs.judging.Rests.{judged-moved}
use Rattle.ps_core.proofs.judging.Settled.{settled-moves}

pub applies-not : (w : World) (e : Entry) (new : World) → is_accepted w e ≡ false → Applies w e false new
applies-not w e new test = by (is_accepted w e) test
  where
    by : (b : Bool) → b ≡ false → MatchOption (if b then Some (live (rules.step w e)) else None) (◌≡◌ {A = Bool} false false) (λ v. (◌≡◌ {A = Bool} false true) × (new ≡ v))
    by true is = absurd (cc)
    by false is = refl

pub applies : (w : World) (e : Entry) (new : World) → next w e ≡ Some new → Applies w e true new
applies w e new is = subst (λ (o : Option World). MatchOption o (◌≡◌ {A = Bool} true false) (λ v. (◌≡◌ {A = Bool} true true) × (new ≡ v))) (sym is) (refl, refl)

-- ---- what isn't accepted

none-step : (w : World) (at : ℕ) (c : Command) → is_step w at c ≡ false → is_accepted w (record { now = at; command = c }) ≡ false
none-step w at c none =
    ap (λ (b : Bool). not (is_full w) && (nat_eq (rules.moment w at) at && (is_none (unbuilt c) && b))) none
    ∙ ap (λ (b : Bool). not (is_full w) && (nat_eq (rules.moment w at) at && b)) (and-false (is_none (unbuilt c)))
    ∙ ap (λ (b : Bool). not (is_full w) && b) (and-false (nat_eq (rules.moment w at) at)) ∙ and-false (not (is_full w))

pub not-at-moment : (w : World) (at : ℕ) (c : Command) → (rules.moment w at ≡ at → ⊥) → is_accepted w (record { now = at; command = c }) ≡ false
not-at-moment w at c other = ap (λ (b : Bool). not (is_full w) && (b && (is_none (unbuilt c) && is_step w at c))) (ne_eqb (rules.moment w at) at other) ∙ and-false (not (is_full w))

tick-normal : (c : Command) → is_normal c ≡ false → is_tick c ≡ false
tick-normal Tick normal = absurd (cc)
tick-normal _ normal = refl

pub not-normal : (w : World) (at : ℕ) (c : Command) → is_normal c ≡ false → is_accepted w (record { now = at; command = c }) ≡ false
not-normal w at c other = none-step w at c (by (same_world (rules.settled at w) (rules.carried_out w at c)))
  where
    by : (same : Bool) → (if same then is_tick c && not (same_world w (rules.settled at w)) else is_normal c) ≡ false
    by true = ap (λ (b : Bool). b && not (same_world w (rules.settled at w))) (tick-normal c other)
    by false = other

tick-good : (c : Command) (reason : Reason) → argument_fault (as_read c) ≡ Some reason → is_tick c ≡ false
tick-good Tick reason fault = absurd (cc)
tick-good _ reason fault = refl

pub not-refused : (s : State) (at : ℕ) (c : Command) (r : Refusal) → IsSteady s → rules.moment (seen s) at ≡ at → refusal_of (seen s) c ≡ Some r → is_accepted (seen s) (record { now = at; command = c }) ≡ false
not-refused s at c r steady moment refused = by (unbuilt c) refl (argument_fault (as_read c)) refl (is_full (seen s)) refl refused
  where
    by : (missing : Option (List ℕ)) → unbuilt c ≡ missing → (fault : Option Reason) → argument_fault (as_read c) ≡ fault → (full : Bool) → is_full (seen s) ≡ full → refusal_by missing fault full ≡ Some r
        → is_accepted (seen s) (record { now = at; command = c }) ≡ false
    by (Some missing) is fault bad full closed refused =
        ap (λ (o : Option (List ℕ)). not (is_full (seen s)) && (nat_eq (rules.moment (seen s) at) at && (is_none o && is_step (seen s) at c))) is
        ∙ ap (λ (b : Bool). not (is_full (seen s)) && b) (and-false (nat_eq (rules.moment (seen s) at) at)) ∙ and-false (not (is_full (seen s)))
    by None is fault bad true closed refused = ap (λ (b : Bool). not b && (nat_eq (rules.moment (seen s) at) at && (is_none (unbuilt c) && is_step (seen s) at c))) closed
    by None is (Some reason) bad false closed refused =
        let shows = refused-outcome (rules.settled at (seen s)) at (as_read c) (argument_fault (as_read c)) r (ap (λ (o : Option Reason). refusal_by None o (is_full (rules.settled at (seen s)))) bad ∙ refused) in
        none-step (seen s) at c
        (ap (λ (b : Bool). if b then is_tick c && not (same_world (seen s) (rules.settled at (seen s))) else is_normal c)
        (ap (λ (o : Outcome). same_world (rules.settled at (seen s)) (rules.finished at (rules.settled at (seen s)) o)) shows ∙ world-same (rules.settled at (seen s)) (rules.settled at (seen s)) refl)
        ∙ ap (λ (b : Bool). b && not (same_world (seen s) (rules.settled at (seen s)))) (tick-good c reason bad))
    by None is None bad false closed refused = absurd (cc)

-- the command changed nothing, and isn't a Tick that something was due for
pub not-changed : (s made : State) (at : ℕ) (c : Command) (told : Reply) → IsSteady s → s.count < 2 ^ 50 → IsCarried at (as_read c) (settle_state at s) made told false → (is_tick c && is_any_due at s) ≡ false
    → is_accepted (seen s) (record { now = at; command = c }) ≡ false
not-changed s made at c told steady room carried none =
    none-step (seen s) at c
    (ap (λ (b : Bool). if b then is_tick c && not (same_world (seen s) (rules.settled at (seen s))) else is_normal c) (test-seen at s c steady room ∙ carried.moved)
    ∙ ap (λ (b : Bool). is_tick c && not b) (settled-moves at s steady room) ∙ by (is_any_due at s) none)
  where
    by : (due : Bool) → (is_tick c && due) ≡ false → (is_tick c && not (not due)) ≡ false
    by true h = h
    by false h = h

-- ---- what is accepted

pub taken-changed : (s made : State) (at : ℕ) (c : Command) (told : Reply) → IsSteady s → s.count < 2 ^ 50 → unbuilt c ≡ None → argument_fault (as_read c) ≡ None → is_normal c ≡ true → rules.moment (seen s) at ≡ at → IsCarried at (as_read c) (settle_state at s) made told true
    → next (seen s) (record { now = at; command = c }) ≡ Some (seen made)
taken-changed s made at c told steady room built good normal moment carried =
    ap (λ (x : Command). next (seen s) (record { now = at; command = x })) (sym (normal-read c normal)) ∙ (judged-changed s made at c told steady room built good at (sym moment) carried).after

pub tick-is : (c : Command) → is_tick c ≡ true → c ≡ Tick
tick-is Tick is = refl
tick-is _ is = absurd (cc)

pub taken-moved : (s made : State) (at : ℕ) (c : Command) (told : Reply) → IsSteady s → s.count < 2 ^ 50 → unbuilt c ≡ None → rules.moment (seen s) at ≡ at → IsCarried at (as_read c) (settle_state at s) made told false → (is_tick c && is_any_due at s) ≡ true
    → next (seen s) (record { now = at; command = c }) ≡ Some (seen (recorded_at at made))
taken-moved s made at c told steady room built moment carried both =
    let parts = and_parts (is_tick c) (is_any_due at s) both in
    ap (λ (x : Command). next (seen s) (record { now = at; command = x })) (tick-is c parts.0) ∙ (judged-moved s made at c told steady room built at (sym moment) carried parts.1).after

-- ---- as the machine finds it

pub refused-not : (s : State) (at : ℕ) (c : Command) → IsSteady s → is_some (refusal_of (seen s) c) ≡ true → is_accepted (seen s) (record { now = at; command = c }) ≡ false
refused-not s at c steady some = by (nat_eq (rules.moment (seen s) at) at) refl (refusal_of (seen s) c) refl some
  where
    by : (here : Bool) → nat_eq (rules.moment (seen s) at) at ≡ here → (o : Option Refusal) → refusal_of (seen s) c ≡ o → is_some o ≡ true → is_accepted (seen s) (record { now = at; command = c }) ≡ false
    by false tested o is some = not-at-moment (seen s) at c (eqb-false (rules.moment (seen s) at) at tested)
    by true tested None is some = absurd (cc)
    by true tested (Some r) is some = not-refused s at c r steady (eqb-true (rules.moment (seen s) at) at tested) is

-- what is known of an entry whose command was carried out
pub record IsTried (s made : State) (at : ℕ) (c : Command) (moved changed : Bool) : Type 0 where
  pub steady : IsSteady s
  pub good : is_some (refusal_of (seen s) c) ≡ false
  pub normal : is_normal c ≡ true
  pub moment : rules.moment (seen s) at ≡ at
  pub due : moved ≡ is_any_due at s
  pub told : Reply
  pub carried : IsCarried at c (settle_state at s) made told changed

-- what an entry that nothing refuses brings to carry it out: room, and a command that is built and has no fault
pub can-carry : (s : State) (c : Command) → IsSteady s → is_some (refusal_of (seen s) c) ≡ false → is_normal c ≡ true → (s.count < 2 ^ 50) × ((unbuilt c ≡ None) × (argument_fault c ≡ None))
can-carry s c steady good normal =
    let open_command = no_refusal (seen s) c (none-of (refusal_of (seen s) c) good) in
    (room_left s steady open_command.1.1, (open_command.0, ap argument_fault (sym (normal-read c normal)) ∙ open_command.1.0))

-- the moment is the entry's own
pub tried-at : (s made : State) (moment at : ℕ) (c : Command) (moved changed : Bool) → moment ≡ at → IsTried s made moment c moved changed → IsTried s made at c moved changed
tried-at s made moment at c moved changed same tried = subst (λ (u : ℕ). IsTried s made u c moved changed) same tried

-- as a command that was read, which it is
tried-read : (s made : State) (at : ℕ) (c : Command) (moved changed : Bool) → (tried : IsTried s made at c moved changed) → unbuilt c ≡ None → IsCarried at (as_read c) (settle_state at s) made tried.told changed
tried-read s made at c moved changed tried built = subst (λ (x : Command). IsCarried at x (settle_state at s) made tried.told changed) (sym (normal-read c tried.normal)) tried.carried

pub tried-changed : (s made : State) (at : ℕ) (c : Command) (moved : Bool) → IsTried s made at c moved true → Applies (seen s) (record { now = at; command = c }) true (seen made)
tried-changed s made at c moved tried =
    let open_command = no_refusal (seen s) c (none-of (refusal_of (seen s) c) tried.good) in
    let room = room_left s tried.steady open_command.1.1 in
    applies (seen s) (record { now = at; command = c }) (seen made) (taken-changed s made at c tried.told tried.steady room open_command.0 open_command.1.0 tried.normal tried.moment (tried-read s made at c moved true tried open_command.0))

pub tried-not : (s made : State) (new : World) (at : ℕ) (c : Command) (moved : Bool) → IsTried s made at c moved false → (is_tick c && moved) ≡ false → Applies (seen s) (record { now = at; command = c }) false new
tried-not s made new at c moved tried none =
    let open_command = no_refusal (seen s) c (none-of (refusal_of (seen s) c) tried.good) in
    let room = room_left s tried.steady open_command.1.1 in
    applies-not (seen s) (record { now = at; command = c }) new (not-changed s made at c tried.told tried.steady room (tried-read s made at c moved false tried open_command.0) (ap (λ (b : Bool). is_tick c && b) (sym tried.due) ∙ none))

pub tried-moved : (s made : State) (at : ℕ) (c : Command) (moved : Bool) → IsTried s made at c moved false → (is_tick c && moved) ≡ true → Applies (seen s) (record { now = at; command = c }) true (seen (recorded_at at made))
tried-moved s made at c moved tried both =
    let open_command = no_refusal (seen s) c (none-of (refusal_of (seen s) c) tried.good) in
    let room = room_left s tried.steady open_command.1.1 in
    applies (seen s) (record { now = at; command = c }) (seen (recorded_at at made)) (taken-moved s made at c tried.told tried.steady room open_command.0 tried.moment (tried-read s made at c moved false tried open_command.0) (ap (λ (b : Bool). is_tick c && b) (sym tried.due) ∙ both))
