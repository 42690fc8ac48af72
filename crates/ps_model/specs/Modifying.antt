-- Changed deadlines (Pub/Sub documentation, "Lease management" and the API reference, ModifyAckDeadline: 0 seconds make the message available again).
use Rattle.std.specs.Prelude.{ℕ, ◌+◌, ◌*◌, Bool, false, ◌&&◌, not, nat_eq, List, [], ◌∷◌, Option, Some, None, map, filter, if◌then◌else◌}
use Rattle.std.specs.List.{list_any}
use Rattle.ps_model.specs.declared.mark.Mark.{Mark}
use Rattle.ps_model.specs.declared.mark.Mark.TheVariants.{Backlog, Leased, Ahead, Done, Gone}
use Rattle.ps_model.specs.declared.mark.Slot.{Slot}
use Rattle.ps_model.specs.declared.mark.Ticket.{Ticket}
use Rattle.ps_model.specs.declared.mark.DeadLetter.{DeadLetter}
use Rattle.ps_config.specs.declared.config.SubConfig.{SubConfig}
use Rattle.ps_model.specs.Lists.{once}
use Rattle.ps_model.specs.Acknowledging.{same_ticket}
use Rattle.ps_model.specs.Slots.{remarked, is_out}
use Rattle.ps_model.specs.Failing.{fail, dead_letters}

abbrev pub names : Ticket → Slot → Bool
names ticket s = nat_eq s.item.number ticket.number && is_out ticket.lease s.mark

-- the seconds of the last item that names it
abbrev pub seconds_for : List (Ticket × ℕ) → Slot → Option ℕ → Option ℕ
seconds_for [] s found = found
seconds_for (x ∷ xs) s found = seconds_for xs s (if names x.0 s then Some x.1 else found)

abbrev pub set_deadline : ℕ → Mark → Mark
set_deadline deadline (Leased failures lease before) = Leased failures lease deadline
set_deadline deadline (Backlog failures until last) = Backlog failures until last
set_deadline deadline (Ahead failures) = Ahead failures
set_deadline deadline (Done cause) = Done cause
set_deadline deadline (Gone cause) = Gone cause

abbrev pub extended_by : ℕ → Mark → Option ℕ → Mark
extended_by t mark None = mark
extended_by t mark (Some seconds) = if nat_eq seconds 0 then mark else set_deadline (t + 1000 * seconds) mark

abbrev pub extended_mark : ℕ → List (Ticket × ℕ) → Slot → Mark
extended_mark t items s = extended_by t s.mark (seconds_for items s None)

abbrev pub extended : ℕ → List (Ticket × ℕ) → List Slot → List Slot
extended t items slots = remarked (extended_mark t items) slots

abbrev pub is_zero : Option ℕ → Bool
is_zero None = false
is_zero (Some seconds) = nat_eq seconds 0

-- its lease is given up
abbrev pub is_given_up : List (Ticket × ℕ) → Slot → Bool
is_given_up items s = is_zero (seconds_for items s None)

abbrev pub modify : ℕ → Bool → SubConfig → List (Ticket × ℕ) → List Slot → List Slot
modify t forward config items slots = fail (is_given_up items) t forward config (extended t items slots)

abbrev pub modify_dead : ℕ → Bool → SubConfig → List (Ticket × ℕ) → List Slot → List DeadLetter
modify_dead t forward config items slots = dead_letters (is_given_up items) forward config (extended t items slots)

abbrev pub modify_invalid : SubConfig → List (Ticket × ℕ) → List Slot → List Ticket
modify_invalid config items slots = if config.exactly_once then filter (λ x. not (list_any (names x) slots)) (once same_ticket (map (λ (x : Ticket × ℕ). x.0) items)) else []
