-- The settled world, and the form in which a command is recorded.
use Rattle.std.proofs.Common.{◌≡◌, ◌<◌, ◌≤◌, ◌^◌, ℕ, Bool, true, false, not, [], ◌∷◌, Option, Some, None, if◌then◌else◌, refl, ap, ◌∙◌, arith}
use Rattle.std.proofs.lemmas.Bool.{ne_eqb, and_from}
use Rattle.ps_base.specs.Moments.{last_moment}
use Rattle.ps_base.specs.declared.reason.Reason.{Reason}
use Rattle.ps_base.specs.declared.reason.Reason.TheVariants.{UpdateMask}
use Rattle.ps_config.specs.declared.mask.Mask.{Mask}
use Rattle.ps_config.specs.Limits.{sub_fault, topic_fault}
use Rattle.ps_config.specs.Masks.{default_sub, default_topic, is_mask, masked_sub, masked_topic}
use Rattle.ps_message.specs.Lists.{first_of}
use Rattle.ps_message.specs.Messages.{broken}
use Rattle.ps_entry.specs.Commands.{has_spelling, has_tag}
use Rattle.ps_model.specs.declared.command.Command.{Command}
use Rattle.ps_model.specs.declared.command.Command.TheVariants.{Pull, UpdateSubscription, UpdateTopic}
use Rattle.ps_model.specs.declared.world.World.{World}
use Rattle.ps_model.specs.Checks.{argument_fault, as_read, is_normal}
use Rattle.ps_model.specs.Commands.{is_full}
use Rattle.ps_model.specs.Same.{same_world}
use Rattle.ps_model.specs.Settling.{settle}
use Rattle.ps_model.specs.Step as rules
use Rattle.ps_model.proofs.NormalForms.{read-normal}
use Rattle.ps_model.proofs.SameLemmas.{world-same}
use Rattle.ps_core.specs.Built.{unbuilt}
use Rattle.ps_core.specs.State.{State, seen}
use Rattle.ps_core.specs.Steady.{IsSteady}
use Rattle.ps_core.specs.Effects.{settle_state, is_any_due}
use Rattle.ps_core.proofs.judging.Reading.{is_reading}
use Rattle.ps_core.proofs.settling.Ending.{settle-seen}
use Rattle.ps_core.proofs.settling.Moving.{settle-moves, settle-rests}

pub moment-again : (w : World) (now : ℕ) → w.now ≤ last_moment → rules.moment w (rules.moment w now) ≡ rules.moment w now
moment-again w now past = omega (arith, past)

pub not_full : (s : State) → s.count < 2 ^ 50 → is_full (seen s) ≡ false
not_full s room = ne_eqb s.count (2 ^ 50) (λ e. omega (arith, e, room))

pub settled-seen : (at : ℕ) (s : State) → IsSteady s → s.count < 2 ^ 50 → rules.settled at (seen s) ≡ seen (settle_state at s)
settled-seen at s steady room = ap (λ (full : Bool). if full then seen s else settle at (seen s)) (not_full s room) ∙ settle-seen at s steady

-- settling changes the world where a lease is over
pub settled-moves : (at : ℕ) (s : State) → IsSteady s → s.count < 2 ^ 50 → same_world (seen s) (rules.settled at (seen s)) ≡ not (is_any_due at s)
settled-moves at s steady room = ap (λ (w : World). same_world (seen s) w) (settled-seen at s steady room) ∙ by (is_any_due at s) refl
  where
    by : (due : Bool) → is_any_due at s ≡ due → same_world (seen s) (seen (settle_state at s)) ≡ not due
    by true e = settle-moves at s steady e
    by false e = ap (λ (x : State). same_world (seen s) (seen x)) (settle-rests at s steady e) ∙ world-same (seen s) (seen s) refl

-- ---- the form of commands

pub read-built : (c : Command) → unbuilt c ≡ None → unbuilt (as_read c) ≡ None
read-built (UpdateTopic topic mask config) built = built
read-built (UpdateSubscription subscription mask config) built = built
read-built (Pull n most budget seconds) built = built
read-built _ built = cc

-- a mask that is no fault has a tag
mask-good : (bits : ℕ) (mask : Mask) (fault : Option Reason) → first_of (broken (not (is_mask bits mask)) UpdateMask ∷ fault ∷ []) ≡ None → is_mask bits mask ≡ true
mask-good bits mask fault good = by (is_mask bits mask) good
  where
    by : (is : Bool) → first_of ((if not is then Some UpdateMask else None) ∷ fault ∷ []) ≡ None → is ≡ true
    by true good = refl
    by false good = absurd (cc)

read-tagged : (c : Command) → unbuilt c ≡ None → argument_fault (as_read c) ≡ None → is_reading (as_read c) ≡ false → has_tag (as_read c) ≡ true
read-tagged (UpdateTopic topic mask config) built good changes = mask-good 2 mask (topic_fault mask (masked_topic mask default_topic config)) good
read-tagged (UpdateSubscription subscription mask config) built good changes = mask-good 9 mask (sub_fault mask (masked_sub mask default_sub config)) good
read-tagged (Pull n most budget seconds) built good changes = refl
read-tagged _ built good changes = cc

-- what is recorded has a row
pub read-spelled : (c : Command) → unbuilt c ≡ None → argument_fault (as_read c) ≡ None → is_reading (as_read c) ≡ false → has_spelling (as_read c) ≡ true
read-spelled c built good changes = and_from (has_tag (as_read c)) (is_normal (as_read c)) (read-tagged c built good changes) (read-normal c)
