-- Leases that fail together (Pub/Sub documentation, "Handle message failures": subscription retry policy, dead-letter topics; "Order messages": a message that is delivered again brings the later ones of its key again. That it brings them back all at once, that the delay counts from the moment of the failure, and what happens to a message that was acknowledged early are this project's own).
use Rattle.std.specs.Prelude.{ℕ, ◌+◌, ◌-◌, ◌*◌, ◌^◌, min, Bool, false, ◌&&◌, nat_le, List, Option, Some, None, filter_map, if◌then◌else◌}
use Rattle.ps_model.specs.declared.mark.Mark.{Mark}
use Rattle.ps_model.specs.declared.mark.Mark.TheVariants.{Backlog, Leased, Ahead, Done, Gone}
use Rattle.ps_model.specs.declared.mark.DoneCause.TheVariants.{Dead}
use Rattle.ps_model.specs.declared.mark.Slot.{Slot}
use Rattle.ps_model.specs.declared.mark.DeadLetter.{DeadLetter}
use Rattle.ps_config.specs.declared.config.SubConfig.{SubConfig}
use Rattle.ps_config.specs.declared.config.RetryPolicy.{RetryPolicy}
use Rattle.ps_config.specs.declared.config.DeadLetterPolicy.{DeadLetterPolicy}
use Rattle.ps_model.specs.Slots.{any_earlier, remarked}

-- one more failure, up to the greatest count
abbrev pub one_more : ℕ → ℕ
one_more failures = min (failures + 1) 4294967295

-- when a message may be delivered again after this many failures
abbrev pub retry_at : Option RetryPolicy → ℕ → ℕ → ℕ
retry_at None t failures = 0
retry_at (Some retry) t failures = t + min retry.most (retry.least * 2 ^ (failures - 1))

-- this many failures make a dead letter, if its topic exists
abbrev pub is_dead : Option DeadLetterPolicy → Bool → ℕ → Bool
is_dead None forward failures = false
is_dead (Some policy) forward failures = forward && nat_le policy.attempts failures

-- the mark after its lease failed at t
abbrev pub failed : ℕ → Bool → SubConfig → Mark → Mark
failed t forward config (Leased failures lease deadline) = if is_dead config.dead_letter forward (one_more failures) then Done Dead else Backlog (one_more failures) (retry_at config.retry t (one_more failures)) (Some lease)
failed t forward config (Backlog failures until last) = Backlog failures until last
failed t forward config (Ahead failures) = Ahead failures
failed t forward config (Done cause) = Done cause
failed t forward config (Gone cause) = Gone cause

-- the mark after an earlier message of its key failed
abbrev pub fallen : Mark → Mark
fallen (Leased failures lease deadline) = Backlog failures 0 (Some lease)
fallen (Ahead failures) = Backlog failures 0 None
fallen (Backlog failures until last) = Backlog failures until last
fallen (Done cause) = Done cause
fallen (Gone cause) = Gone cause

-- the mark of a slot after the slots that pass the test fail at t
abbrev pub mark_after_failing : (Slot → Bool) → ℕ → Bool → SubConfig → List Slot → Slot → Mark
mark_after_failing fails t forward config slots s =
    if fails s then failed t forward config s.mark
    else if any_earlier config.ordering fails slots s then fallen s.mark else s.mark

-- the slots after those that pass the test fail at t
abbrev pub fail : (Slot → Bool) → ℕ → Bool → SubConfig → List Slot → List Slot
fail fails t forward config slots = remarked (mark_after_failing fails t forward config slots) slots

abbrev pub dead_letter : (Slot → Bool) → Bool → SubConfig → Mark → Slot → Option DeadLetter
dead_letter fails forward config (Leased failures lease deadline) s =
    if fails s && is_dead config.dead_letter forward (one_more failures) then Some (record { number = s.item.number; failures = one_more failures }) else None
dead_letter fails forward config (Backlog failures until last) s = None
dead_letter fails forward config (Ahead failures) s = None
dead_letter fails forward config (Done cause) s = None
dead_letter fails forward config (Gone cause) s = None

-- the dead letters among them
abbrev pub dead_letters : (Slot → Bool) → Bool → SubConfig → List Slot → List DeadLetter
dead_letters fails forward config slots = filter_map (λ s. dead_letter fails forward config s.mark s) slots

-- its lease ended at or before t
abbrev pub is_over : ℕ → Mark → Bool
is_over t (Leased failures lease deadline) = nat_le deadline t
is_over t (Backlog failures until last) = false
is_over t (Ahead failures) = false
is_over t (Done cause) = false
is_over t (Gone cause) = false

abbrev pub is_due : ℕ → Slot → Bool
is_due t s = is_over t s.mark
