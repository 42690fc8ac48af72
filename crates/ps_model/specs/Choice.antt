-- Which messages a pull delivers (Pub/Sub documentation, "Pull subscriptions" and "Order messages"; that a pull answers at once, in order of message number and within a budget of bytes is this project's own).
use Rattle.std.specs.Prelude.{ℕ, ◌+◌, ◌-◌, Bool, false, ◌&&◌, ◌||◌, not, nat_eq, nat_lt, nat_le, List, [], ◌∷◌, Option, Some, None, filter, if◌then◌else◌}
use Rattle.ps_model.specs.declared.mark.Mark.{Mark}
use Rattle.ps_model.specs.declared.mark.Mark.TheVariants.{Backlog, Leased, Ahead, Done, Gone}
use Rattle.ps_model.specs.declared.mark.Slot.{Slot}
use Rattle.ps_model.specs.declared.mark.Handed.{Handed}
use Rattle.ps_model.specs.Slots.{any_earlier, remarked, failures_of}

-- in the backlog, and its delay is over
abbrev pub is_ready : ℕ → Mark → Bool
is_ready t (Backlog failures until last) = nat_le until t
is_ready t (Leased failures lease deadline) = false
is_ready t (Ahead failures) = false
is_ready t (Done cause) = false
is_ready t (Gone cause) = false

-- in the backlog, and its delay isn't over
abbrev pub is_waiting : ℕ → Mark → Bool
is_waiting t (Backlog failures until last) = nat_lt t until
is_waiting t (Leased failures lease deadline) = false
is_waiting t (Ahead failures) = false
is_waiting t (Done cause) = false
is_waiting t (Gone cause) = false

-- ready, and no earlier message of its key waits
abbrev pub is_deliverable : ℕ → Bool → List Slot → Slot → Bool
is_deliverable t ordering slots s = is_ready t s.mark && not (any_earlier ordering (λ e. is_waiting t e.mark) slots s)

abbrev pub deliverable : ℕ → Bool → List Slot → List Slot
deliverable t ordering slots = filter (is_deliverable t ordering slots) slots

-- the first of them, at most this many, stopping where the bytes before reach the budget
abbrev pub first_of_them : ℕ → ℕ → List Slot → List Slot
first_of_them most budget [] = []
first_of_them most budget (s ∷ ss) = if nat_eq most 0 || nat_eq budget 0 then [] else s ∷ first_of_them (most - 1) (budget - s.item.size) ss

abbrev pub choice : ℕ → Bool → ℕ → ℕ → List Slot → List Slot
choice t ordering most budget slots = first_of_them most budget (deliverable t ordering slots)

-- each with the next lease
abbrev pub handed : ℕ → List Slot → List Handed
handed lease [] = []
handed lease (s ∷ ss) = record { number = s.item.number; lease = lease; failures = failures_of s.mark } ∷ handed (lease + 1) ss

-- the lease under which a message is delivered, if it is
abbrev pub lease_in : List Handed → ℕ → Option ℕ
lease_in [] number = None
lease_in (h ∷ hs) number = if nat_eq h.number number then Some h.lease else lease_in hs number

abbrev pub leased_as : ℕ → Mark → Option ℕ → Mark
leased_as deadline mark None = mark
leased_as deadline mark (Some lease) = Leased (failures_of mark) lease deadline

-- the mark after these messages are delivered
abbrev pub lent_mark : ℕ → List Handed → Slot → Mark
lent_mark deadline given s = leased_as deadline s.mark (lease_in given s.item.number)

-- the slots after these messages are delivered
abbrev pub lent : ℕ → List Handed → List Slot → List Slot
lent deadline given slots = remarked (lent_mark deadline given) slots
