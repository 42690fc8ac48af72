-- The world after a call that wasn't refused is what its command left of the settled world.
use Rattle.std.proofs.Common.{ℕ, ◌≡◌, Bool, true, false, cond, Option, Some, None, refl, sym, ◌∙◌, ap}
use Rattle.std.proofs.lemmas.Bool.{both_ways}
use Rattle.ps_base.specs.declared.reason.Reason.{Reason}
use Rattle.ps_base.specs.declared.refusal.Refusal.TheVariants.{Exhausted}
use Rattle.ps_model.specs.declared.command.Command.{Command}
use Rattle.ps_model.specs.declared.command.Command.TheVariants.{Tick}
use Rattle.ps_model.specs.declared.command.Entry.{Entry}
use Rattle.ps_model.specs.declared.reply.Reply.{Reply}
use Rattle.ps_model.specs.declared.world.World.{World}
use Rattle.ps_model.specs.Same.{world_parts, same_world}
use Rattle.ps_model.specs.Checks.{argument_fault, as_read}
use Rattle.ps_model.specs.Outcomes.{refuses, reply_in}
use Rattle.ps_model.specs.Commands.{carried, is_full, checked, outcome}
use Rattle.ps_model.specs.Settling.{settle}
use Rattle.ps_model.specs.Step.{moment, settled, finished, carried_out, reply, entry_at}
use Rattle.ps_model.specs.History.{recorded, called}
use Rattle.ps_model.proofs.SameLemmas.{same-world}
use Rattle.ps_sound.proofs.commands.Refused.{is_refused}
use Rattle.ps_model.proofs.NormalForms.{read-twice}
use Rattle.ps_sound.proofs.histories.Recording.{settled_if, moment-twice, ticked}

-- the world after a call is what its command left, but for the moment and the count
called-parts : (w : World) (at : ℕ) (c : Command) → is_full w ≡ false → world_parts (called w (at, c)) ≡ world_parts (carried_out w (moment w at) c)
called-parts w at c room =
    ap (λ full. world_parts (recorded w (cond full None (entry_at w (moment w at) c)))) room
    ∙ by_test (same_world (settled (moment w at) w) (carried_out w (moment w at) c)) refl (same_world w (settled (moment w at) w)) refl
  where
    tick : Entry
    tick = record { now = moment w at; command = Tick }

    own : Entry
    own = record { now = moment w at; command = as_read c }

    by_test : (b : Bool) → same_world (settled (moment w at) w) (carried_out w (moment w at) c) ≡ b → (q : Bool) → same_world w (settled (moment w at) w) ≡ q
        → world_parts (recorded w (cond b (cond q None (Some tick)) (Some own))) ≡ world_parts (carried_out w (moment w at) c)
    by_test true stays true rests = same-world w (settled (moment w at) w) rests ∙ same-world (settled (moment w at) w) (carried_out w (moment w at) c) stays
    by_test true stays false moves =
        ap (λ s. world_parts (carried_out w s Tick)) (moment-twice w at) ∙ ap world_parts (ticked (moment w at) w)
        ∙ same-world (settled (moment w at) w) (carried_out w (moment w at) c) stays
    by_test false moves q _ =
        ap (λ s. world_parts (carried_out w s (as_read c))) (moment-twice w at)
        ∙ ap (λ d. world_parts (finished (moment w at) (settled (moment w at) w) (outcome (settled (moment w at) w) (moment w at) d))) (read-twice c)

module _ (w : World) (at : ℕ) (c : Command) (r : Reply) (told : reply w at c ≡ r) (fine : is_refused r ≡ false) where
  abbrev before : World
  before = settle (moment w at) w

  -- a full record refuses all
  pub told-room : is_full w ≡ false
  told-room = by (is_full w) refl
    where
      refused : is_full w ≡ true → (fault : Option Reason) → is_refused (reply_in (checked w (moment w at) (as_read c) fault)) ≡ true
      refused closed (Some reason) = refl
      refused closed None = ap (λ full. is_refused (reply_in (cond full (refuses w Exhausted) (carried w (moment w at) (as_read c))))) closed

      by : (full : Bool) → is_full w ≡ full → full ≡ false
      by false room = refl
      by true closed = absurd (both_ways (is_refused r) fine (ap is_refused (sym told)
          ∙ ap (λ full. is_refused (reply_in (outcome (settled_if full (moment w at) w) (moment w at) (as_read c)))) closed ∙ refused closed (argument_fault (as_read c))))

  pub settled-is : settled (moment w at) w ≡ before
  settled-is = ap (λ full. settled_if full (moment w at) w) told-room

  -- no check broke
  outcome-is : outcome before (moment w at) (as_read c) ≡ carried before (moment w at) (as_read c)
  outcome-is = by (argument_fault (as_read c)) refl
    where
      by : (fault : Option Reason) → argument_fault (as_read c) ≡ fault → checked before (moment w at) (as_read c) fault ≡ carried before (moment w at) (as_read c)
      by None passed = ap (λ full. cond full (refuses before Exhausted) (carried before (moment w at) (as_read c))) told-room
      by (Some reason) broken = absurd (both_ways (is_refused r) fine (ap is_refused (sym told)
          ∙ ap (λ v. is_refused (reply_in (outcome v (moment w at) (as_read c)))) settled-is ∙ ap (λ fault. is_refused (reply_in (checked before (moment w at) (as_read c) fault))) broken))

  pub told-carried : reply_in (carried before (moment w at) (as_read c)) ≡ r
  told-carried = ap reply_in (sym outcome-is) ∙ ap (λ v. reply_in (outcome v (moment w at) (as_read c))) (sym settled-is) ∙ told

  pub told-left : world_parts (called w (at, c)) ≡ world_parts (finished (moment w at) before (carried before (moment w at) (as_read c)))
  told-left =
      called-parts w at c told-room ∙ ap (λ v. world_parts (finished (moment w at) v (outcome v (moment w at) (as_read c)))) settled-is
      ∙ ap (λ o. world_parts (finished (moment w at) before o)) outcome-is
