-- Changed deadlines, by the numbers of message and lease.
use Rattle.std.specs.Prelude.{ℕ, ◌≡◌, Bool, true, List, [], ◌∷◌, Option, Some, None, if◌then◌else◌}
use Rattle.std.specs.BTreeMap.{BTreeMap, get}
use Rattle.std.specs.Option.{option_map_or}
use Rattle.ps_config.specs.declared.config.SubConfig.{SubConfig}
use Rattle.ps_model.specs.declared.mark.Mark.{Mark}
use Rattle.ps_model.specs.declared.mark.Slot.{Slot}
use Rattle.ps_model.specs.declared.mark.Ticket.{Ticket}
use Rattle.ps_model.specs.Acknowledging.{same_ticket}
use Rattle.ps_model.specs.Failing.{failed, fallen}
use Rattle.ps_model.specs.Modifying.{extended_mark, is_given_up, is_zero}
use Rattle.ps_model.specs.Slots.{any_earlier}
use Rattle.ps_sub.specs.Tickets.{ack_lease, pair_cmp, pair_of}

-- the seconds of the last item with this ticket
abbrev pub last_for : List (Ticket × ℕ) → Ticket → Option ℕ → Option ℕ
last_for [] ticket found = found
last_for (x ∷ xs) ticket found = last_for xs ticket (if same_ticket ticket x.0 then Some x.1 else found)

-- the map has these items, of several with one ticket the last
abbrev pub HasItems : List (Ticket × ℕ) → BTreeMap (ℕ × ℕ) ℕ → Type 0
HasItems items seconds = (ticket : Ticket) → get pair_cmp seconds (pair_of ticket) ≡ last_for items ticket None

-- what the map has for the lease under which a message is out
abbrev pub asked_for : BTreeMap (ℕ × ℕ) ℕ → Slot → Option ℕ
asked_for seconds s = option_map_or (λ lease. get pair_cmp seconds (s.item.number, lease)) (ack_lease true s.mark) None

abbrev pub gives_up : BTreeMap (ℕ × ℕ) ℕ → Slot → Bool
gives_up seconds s = is_zero (asked_for seconds s)

-- the mark after the deadlines are set and the leases that are given up have failed together
abbrev pub modified_mark : ℕ → Bool → SubConfig → List (Ticket × ℕ) → List Slot → Slot → Mark
modified_mark t forward config items slots s =
    let mark = extended_mark t items s in
    if is_given_up items s then failed t forward config mark
    else if any_earlier config.ordering (is_given_up items) slots s then fallen mark else mark
