-- What a rule of one subscription reads: its messages, each with its mark (Pub/Sub documentation, "Subscription overview": outstanding and acknowledged messages; the five marks are this project's own form of it).
use Rattle.std.specs.Prelude.{ℕ, Bool, true, false, ◌&&◌, not, nat_eq, nat_lt, List, map}
use Rattle.std.specs.List.{list_any}
use Rattle.std.specs.Str.{bytes_eq}
use Rattle.ps_message.specs.Lists.{is_empty}
use Rattle.ps_model.specs.declared.mark.Mark.{Mark}
use Rattle.ps_model.specs.declared.mark.Mark.TheVariants.{Backlog, Leased, Ahead, Done, Gone}
use Rattle.ps_model.specs.declared.mark.Slot.{Slot}

-- not yet acknowledged: in the backlog or leased
abbrev pub is_unacked : Mark → Bool
is_unacked (Backlog failures until last) = true
is_unacked (Leased failures lease deadline) = true
is_unacked (Ahead failures) = false
is_unacked (Done cause) = false
is_unacked (Gone cause) = false

abbrev pub is_backlog : Mark → Bool
is_backlog (Backlog failures until last) = true
is_backlog (Leased failures lease deadline) = false
is_backlog (Ahead failures) = false
is_backlog (Done cause) = false
is_backlog (Gone cause) = false

abbrev pub is_leased : Mark → Bool
is_leased (Backlog failures until last) = false
is_leased (Leased failures lease deadline) = true
is_leased (Ahead failures) = false
is_leased (Done cause) = false
is_leased (Gone cause) = false

abbrev pub is_ahead : Mark → Bool
is_ahead (Backlog failures until last) = false
is_ahead (Leased failures lease deadline) = false
is_ahead (Ahead failures) = true
is_ahead (Done cause) = false
is_ahead (Gone cause) = false

abbrev pub is_done : Mark → Bool
is_done (Backlog failures until last) = false
is_done (Leased failures lease deadline) = false
is_done (Ahead failures) = false
is_done (Done cause) = true
is_done (Gone cause) = false

abbrev pub is_gone : Mark → Bool
is_gone (Backlog failures until last) = false
is_gone (Leased failures lease deadline) = false
is_gone (Ahead failures) = false
is_gone (Done cause) = false
is_gone (Gone cause) = true

-- how often it failed
abbrev pub failures_of : Mark → ℕ
failures_of (Backlog failures until last) = failures
failures_of (Leased failures lease deadline) = failures
failures_of (Ahead failures) = failures
failures_of (Done cause) = 0
failures_of (Gone cause) = 0

-- it is leased under this lease
abbrev pub is_out : ℕ → Mark → Bool
is_out lease (Backlog failures until last) = false
is_out lease (Leased failures own deadline) = nat_eq own lease
is_out lease (Ahead failures) = false
is_out lease (Done cause) = false
is_out lease (Gone cause) = false

-- on an ordered subscription, e is an earlier message of the key of s, and the key isn't empty
abbrev pub is_earlier : Bool → Slot → Slot → Bool
is_earlier ordering e s = ordering && (nat_lt e.item.number s.item.number && (not (is_empty s.item.key) && bytes_eq e.item.key s.item.key))

-- some earlier message of its key passes the test
abbrev pub any_earlier : Bool → (Slot → Bool) → List Slot → Slot → Bool
any_earlier ordering test slots s = list_any (λ e. is_earlier ordering e s && test e) slots

-- the slot with another mark
abbrev pub remark : Slot → Mark → Slot
remark s mark = record { item = s.item; mark = mark }

-- the slots, each with the mark that a rule gives it: the form of every rule that adds no message
abbrev pub remarked : (Slot → Mark) → List Slot → List Slot
remarked rule slots = map (λ s. remark s (rule s)) slots
