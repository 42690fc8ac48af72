-- What a message that enters a subscription must meet.
use Rattle.std.specs.Prelude.{ℕ, ◌≡◌, ◌<◌, ◌≤◌, Bool, true, false, Option, Some, None, List}
use Rattle.ps_model.specs.declared.mark.Mark.{Mark}
use Rattle.ps_model.specs.declared.mark.Mark.TheVariants.{Backlog, Leased, Ahead, Done, Gone}
use Rattle.ps_model.specs.declared.mark.Item.{Item}
use Rattle.ps_model.specs.declared.mark.Slot.{Slot}
use Rattle.ps_model.specs.Slots.{any_earlier, is_backlog, is_unacked}

-- the delay or the lease of the mark ends by this moment
abbrev pub EndsBy : ℕ → Mark → Type 0
EndsBy moment (Backlog failures until last) = until ≤ moment
EndsBy moment (Leased failures lease deadline) = deadline ≤ moment
EndsBy moment (Ahead failures) = Unit {0}
EndsBy moment (Done cause) = Unit {0}
EndsBy moment (Gone cause) = Unit {0}

abbrev pub IsBelow : ℕ → Option ℕ → Type 0
IsBelow next None = Unit {0}
IsBelow next (Some lease) = lease < next

-- the lease that the mark has, or had last, was lent before the next one
abbrev pub WasLent : ℕ → Mark → Type 0
WasLent next (Backlog failures until last) = IsBelow next last
WasLent next (Leased failures lease deadline) = lease < next
WasLent next (Ahead failures) = Unit {0}
WasLent next (Done cause) = Unit {0}
WasLent next (Gone cause) = Unit {0}

-- What a mark says of the earlier messages of its key: before a leased one none is in the backlog, and before one that is ahead one is unacknowledged.
abbrev pub IsInOrder : Bool → List Slot → Item → Mark → Type 0
IsInOrder ordering slots item (Leased failures lease deadline) = any_earlier ordering (λ e. is_backlog e.mark) slots (record { item = item; mark = Leased failures lease deadline }) ≡ false
IsInOrder ordering slots item (Ahead failures) = any_earlier ordering (λ e. is_unacked e.mark) slots (record { item = item; mark = Ahead failures }) ≡ true
IsInOrder ordering slots item (Backlog failures until last) = Unit {0}
IsInOrder ordering slots item (Done cause) = Unit {0}
IsInOrder ordering slots item (Gone cause) = Unit {0}
