-- What the moment alone brings to one subscription.
use Rattle.std.specs.Prelude.{ℕ, Bool, ◌||◌, not, List, if◌then◌else◌}
use Rattle.ps_config.specs.declared.config.SubConfig.{SubConfig}
use Rattle.ps_model.specs.declared.hold.Holds.{Holds}
use Rattle.ps_model.specs.declared.mark.Mark.{Mark}
use Rattle.ps_model.specs.declared.mark.Slot.{Slot}
use Rattle.ps_model.specs.Failing.{fail, is_due}
use Rattle.ps_model.specs.Retention.{expired_mark, caught_up_as, released_mark, expunge}
use Rattle.ps_model.specs.Same.{same_mark}
use Rattle.ps_model.specs.Slots.{any_earlier, remark, is_unacked}
use Rattle.ps_sub.specs.Marks.{live}

-- an earlier message of its key is held and unacknowledged
abbrev pub is_behind : ℕ → SubConfig → Holds → List Slot → Slot → Bool
is_behind t config held slots s = any_earlier config.ordering (λ e. is_unacked (expired_mark t config held e)) slots s

-- the mark after all three parts of expunging, by whether it is behind such a message
abbrev pub mark_by : ℕ → SubConfig → Holds → Bool → Slot → Mark
mark_by t config held behind s =
    let first = expired_mark t config held s in
    let second = if behind then first else caught_up_as first in
    released_mark t config held (remark s second)

abbrev pub expunged_mark : ℕ → SubConfig → Holds → List Slot → Slot → Mark
expunged_mark t config held slots s = mark_by t config held (is_behind t config held slots s) s

-- expunging changes its mark
abbrev pub is_expunged : ℕ → SubConfig → Holds → List Slot → Slot → Bool
is_expunged t config held slots s = not (same_mark (expunged_mark t config held slots s) s.mark)

-- its lease is over, or expunging changes its mark
abbrev pub is_moved : ℕ → SubConfig → Holds → List Slot → Slot → Bool
is_moved t config held slots s = is_due t s || is_expunged t config held slots s

-- the slots after the leases that are over failed and what nothing holds went
abbrev pub settled : ℕ → Bool → SubConfig → Holds → List Slot → List Slot
settled t forward config held slots = live (expunge t config held (fail (is_due t) t forward config slots))
