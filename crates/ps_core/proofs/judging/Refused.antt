-- A command that is refused before anything is looked at.
use Rattle.std.proofs.Common.{◌≡◌, ◌<◌, ◌≤◌, ◌^◌, ℕ, Bool, true, false, ◌⊎◌, inl, inr, List, Option, Some, None, if◌then◌else◌, refl, sym, ap, ◌∙◌, arith}
use Rattle.std.proofs.lemmas.Bool.{cases_lt, eqb-false}
use Rattle.ps_base.specs.declared.reason.Reason.{Reason}
use Rattle.ps_base.specs.declared.refusal.Refusal.{Refusal}
use Rattle.ps_base.specs.declared.refusal.Refusal.TheVariants.{Unimplemented, InvalidArgument, Exhausted}
use Rattle.ps_model.specs.declared.command.Command.{Command}
use Rattle.ps_model.specs.declared.command.Command.TheVariants.{Tick}
use Rattle.ps_model.specs.declared.command.Entry.{Entry}
use Rattle.ps_model.specs.declared.reply.Reply.TheVariants.{Refused}
use Rattle.ps_model.specs.declared.world.World.{World}
use Rattle.ps_model.specs.Checks.{argument_fault, as_read}
use Rattle.ps_model.specs.Commands.{carried, checked, is_full, outcome}
use Rattle.ps_model.specs.Outcomes.{Outcome, Shows, refuses, reply_in}
use Rattle.ps_model.specs.Same.{same_world}
use Rattle.ps_model.specs.Settling.{settle}
use Rattle.ps_model.specs.Step as rules
use Rattle.ps_model.proofs.SameLemmas.{world-same}
use Rattle.ps_core.specs.Built.{unbuilt}
use Rattle.ps_core.specs.State.{State, seen}
use Rattle.ps_core.specs.Steady.{IsSteady}
use Rattle.ps_core.specs.Calls.{reply_built, as_built, refusal_by, refusal_of, IsTicked, IsJudged}
use Rattle.ps_core.proofs.judging.Rests.{rests-entry, tick-same}
use Rattle.ps_core.proofs.settling.Ending.{settle-seen}

pub refused-outcome : (w : World) (at : ℕ) (c : Command) (fault : Option Reason) (r : Refusal) → refusal_by None fault (is_full w) ≡ Some r → checked w at c fault ≡ Shows (Refused r)
refused-outcome w at c (Some reason) r is = let same : InvalidArgument reason ≡ r = cc in ap (λ (x : Refusal). Shows (Refused x)) same
refused-outcome w at c None r is = by (is_full w) is
  where
    by : (full : Bool) → (if full then Some Exhausted else None) ≡ Some r → (if full then refuses w Exhausted else carried w at c) ≡ Shows (Refused r)
    by true is = let same : Exhausted ≡ r = cc in ap (λ (x : Refusal). Shows (Refused x)) same
    by false is = absurd (cc)

pub room_left : (s : State) → IsSteady s → is_full (seen s) ≡ false → s.count < 2 ^ 50
room_left s steady is_open = by (cases_lt s.count (2 ^ 50))
  where
    by : (s.count < 2 ^ 50) ⊎ (2 ^ 50 ≤ s.count) → s.count < 2 ^ 50
    by (inl lt) = lt
    by (inr ge) = absurd (eqb-false s.count (2 ^ 50) is_open (omega (arith, ge, steady.count)))

-- settling counts nothing
pub full-settled : (at : ℕ) (s : State) → IsSteady s → is_full (rules.settled at (seen s)) ≡ is_full (seen s)
full-settled at s steady = by (is_full (seen s)) refl
  where
    by : (full : Bool) → is_full (seen s) ≡ full → is_full (if full then seen s else settle at (seen s)) ≡ is_full (seen s)
    by true is = refl
    by false is = ap is_full (settle-seen at s steady)

refused-entry : (s : State) (now : ℕ) (c : Command) (r : Refusal) → IsSteady s → outcome (rules.settled (rules.moment (seen s) now) (seen s)) (rules.moment (seen s) now) (as_read c) ≡ Shows (Refused r)
    → rules.entry_of (seen s) now c ≡ rules.entry_of (seen s) now Tick
refused-entry s now c r steady shows = by (is_full (seen s)) refl
  where
    at : ℕ
    at = rules.moment (seen s) now

    by : (full : Bool) → is_full (seen s) ≡ full → (if full then None else rules.entry_at (seen s) at c) ≡ (if full then None else rules.entry_at (seen s) at Tick)
    by true is = refl
    by false is =
        let room = room_left s steady is in
        let same : same_world (rules.settled at (seen s)) (rules.carried_out (seen s) at c) ≡ true =
        ap (λ (o : Outcome). same_world (rules.settled at (seen s)) (rules.finished at (rules.settled at (seen s)) o)) shows ∙ world-same (rules.settled at (seen s)) (rules.settled at (seen s)) refl in
        rests-entry s now c steady room same ∙ sym (rests-entry s now Tick steady room (tick-same s at steady room))

pub judged-refused : (s : State) (now : ℕ) (c : Command) (r : Refusal) → IsSteady s → refusal_of (seen s) c ≡ Some r → (entry : Option Entry) (new : World) → IsTicked (seen s) now entry new → IsJudged (seen s) now c (Refused r) entry new
judged-refused s now c r steady refused entry new ticked = by (unbuilt c) refl refused
  where
    at : ℕ
    at = rules.moment (seen s) now

    by : (missing : Option (List ℕ)) → unbuilt c ≡ missing → refusal_by missing (argument_fault (as_read c)) (is_full (seen s)) ≡ Some r → IsJudged (seen s) now c (Refused r) entry new
    by (Some missing) is refused =
        let same : Unimplemented missing ≡ r = cc in
        record {
          told_is = ap (λ (x : Refusal). Refused x) (sym same) ∙ sym (ap (reply_built (seen s) now c) is);
          entry_is = ticked.entry_is ∙ sym (ap (λ (o : Option (List ℕ)). rules.entry_of (seen s) now (as_built c o)) is);
          after = ticked.after;
          written = ticked.written;
        }
    by None is refused =
        let shows = refused-outcome (rules.settled at (seen s)) at (as_read c) (argument_fault (as_read c)) r (ap (refusal_by None (argument_fault (as_read c))) (full-settled at s steady) ∙ refused) in
        record {
          told_is = sym (ap (reply_built (seen s) now c) is ∙ ap reply_in shows);
          entry_is = ticked.entry_is ∙ sym (refused-entry s now c r steady shows) ∙ sym (ap (λ (o : Option (List ℕ)). rules.entry_of (seen s) now (as_built c o)) is);
          after = ticked.after;
          written = ticked.written;
        }

pub no_refusal : (w : World) (c : Command) → refusal_of w c ≡ None → (unbuilt c ≡ None) × ((argument_fault (as_read c) ≡ None) × (is_full w ≡ false))
no_refusal w c none = by (unbuilt c) (argument_fault (as_read c)) (is_full w) none
  where
    by : (missing : Option (List ℕ)) (fault : Option Reason) (full : Bool) → refusal_by missing fault full ≡ None → (missing ≡ None) × ((fault ≡ None) × (full ≡ false))
    by (Some missing) fault full none = absurd (cc)
    by None (Some reason) full none = absurd (cc)
    by None None true none = absurd (cc)
    by None None false none = (refl, (refl, refl))
