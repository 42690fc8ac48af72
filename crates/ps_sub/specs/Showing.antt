-- What is read of a subscription without a change.
use Rattle.std.specs.Prelude.{ℕ, ◌+◌, min, Bool, nat_eq, List, Option, Some, None, map, filter, filter_map, if◌then◌else◌}
use Rattle.std.specs.List.{list_any, reduce}
use Rattle.ps_model.specs.declared.mark.Mark.{Mark}
use Rattle.ps_model.specs.declared.mark.Mark.TheVariants.{Backlog, Leased, Ahead, Done, Gone}
use Rattle.ps_model.specs.declared.mark.Slot.{Slot}
use Rattle.ps_model.specs.Slots.{is_unacked}
use Rattle.ps_sub.specs.declared.outcome.SubCounts.{SubCounts}

abbrev pub number_of : Slot → ℕ
number_of s = s.item.number

-- the numbers of what waits or is out
abbrev pub unacknowledged : List Slot → List ℕ
unacknowledged slots = map number_of (filter (λ s. is_unacked s.mark) slots)

abbrev pub number_and_mark : Slot → ℕ × Mark
number_and_mark s = (s.item.number, s.mark)

-- each number with its mark
abbrev pub marks : List Slot → List (ℕ × Mark)
marks slots = map number_and_mark slots

abbrev pub has : List Slot → ℕ → Bool
has slots number = list_any (λ s. nat_eq s.item.number number) slots

-- when the lease of the mark ends
abbrev pub deadline_of : Mark → Option ℕ
deadline_of (Leased failures lease deadline) = Some deadline
deadline_of (Backlog failures until last) = None
deadline_of (Ahead failures) = None
deadline_of (Done cause) = None
deadline_of (Gone cause) = None

-- the least deadline of those that are out
abbrev pub first_deadline : List Slot → Option ℕ
first_deadline slots = reduce min (filter_map (λ s. deadline_of s.mark) slots)

abbrev pub one_if : Bool → ℕ
one_if b = if b then 1 else 0

-- how many are counted
abbrev pub total_of : SubCounts → ℕ
total_of counts = counts.backlog + counts.leased + counts.acknowledged + counts.dead
