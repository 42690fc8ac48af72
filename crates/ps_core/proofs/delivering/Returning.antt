-- What acknowledgements and changes of deadlines do to the marks of one subscription.
use Rattle.std.proofs.Common.{ℕ, ◌≡◌, ◌≢◌, ◌+◌, ◌*◌, ◌<◌, ◌≤◌, ◌&&◌, Bool, true, false, not, nat_eq, List, [], ◌∷◌, if◌then◌else◌, refl, sym, ap, subst, ◌∙◌}
use Rattle.std.specs.List.{AllByRecursion, list_any}
use Rattle.std.proofs.lemmas.Bool.{and_right, false≢true, cond_both, or_right}
use Rattle.ps_base.proofs.Lists.{each-map, each-then}
use Rattle.ps_config.specs.declared.config.SubConfig.{SubConfig}
use Rattle.ps_model.specs.declared.hold.Holds.{Holds}
use Rattle.ps_model.specs.declared.mark.DoneCause.TheVariants.{Acknowledged}
use Rattle.ps_model.specs.declared.mark.Mark.{Mark}
use Rattle.ps_model.specs.declared.mark.Mark.TheVariants.{Backlog, Leased, Ahead, Done, Gone}
use Rattle.ps_model.specs.declared.mark.Slot.{Slot}
use Rattle.ps_model.specs.declared.mark.Ticket.{Ticket}
use Rattle.ps_model.specs.Acknowledging.{acknowledge, is_early, is_named, mark_after_ack, may_ack}
use Rattle.ps_model.specs.Retention.{caught_up_as, caught_up_mark, expired_mark, expunge, released_mark}
use Rattle.ps_model.specs.Slots.{any_earlier, failures_of, is_ahead, is_done, is_gone, is_unacked, remark, remarked}
use Rattle.ps_sub.specs.Marks.{live}
use Rattle.ps_sub.proofs.DueLemmas.{remarked-twice}
use Rattle.ps_sub.proofs.OrderLemmas.{any_earlier_none}
use Rattle.ps_sub.proofs.SteadyLemmas.{acknowledging-live}
use Rattle.ps_sub.proofs.TicketLemmas.{no-ticket}
use Rattle.ps_tables.proofs.lists.Filtered.{filter-all}
use Rattle.ps_core.specs.Effects.{caught_up}
use Rattle.ps_core.specs.Steady.{IsCaughtUp}
use Rattle.ps_core.proofs.settling.CaughtUp.{caught_up-rests, none-ahead, unacked-caught}

-- ---- an acknowledgement

-- a message that is acknowledged wasn't
named-unacked : (exactly_once : Bool) (tickets : List Ticket) (number : ℕ) (mark : Mark) → list_any (λ (t : Ticket). nat_eq number t.number && may_ack exactly_once t.lease mark) tickets ≡ true → is_unacked mark ≡ true
named-unacked exactly_once tickets number (Backlog failures until last) h = refl
named-unacked exactly_once tickets number (Leased failures lease deadline) h = refl
named-unacked exactly_once tickets number (Ahead failures) h = absurd (false≢true (sym (no-ticket number tickets) ∙ h))
named-unacked exactly_once tickets number (Done cause) h = absurd (false≢true (sym (no-ticket number tickets) ∙ h))
named-unacked exactly_once tickets number (Gone cause) h = absurd (false≢true (sym (no-ticket number tickets) ∙ h))

-- a mark that an acknowledgement leaves unacknowledged, where it was, is as it was
acked-rests : (config : SubConfig) (tickets : List Ticket) (slots : List Slot) (s : Slot) → is_unacked (mark_after_ack config tickets slots s) ≡ is_unacked s.mark → mark_after_ack config tickets slots s ≡ s.mark
acked-rests config tickets slots s same = by (is_named config.exactly_once tickets s) refl (is_early config tickets slots s) config.exactly_once same
  where
    by : (named : Bool) → is_named config.exactly_once tickets s ≡ named → (early once : Bool)
        → is_unacked (if named then (if early then (if once then s.mark else Ahead (failures_of s.mark)) else Done Acknowledged) else s.mark) ≡ is_unacked s.mark
        → (if named then (if early then (if once then s.mark else Ahead (failures_of s.mark)) else Done Acknowledged) else s.mark) ≡ s.mark
    by true is true true same = refl
    by true is true false same = absurd (false≢true (same ∙ named-unacked config.exactly_once tickets s.item.number s.mark is))
    by true is false once same = absurd (false≢true (same ∙ named-unacked config.exactly_once tickets s.item.number s.mark is))
    by false is early once same = refl

abbrev heads : List Slot → Mark → Mark
heads [] m = m
heads (s ∷ ss) m = s.mark

abbrev rests : List Slot → List Slot
rests [] = []
rests (s ∷ ss) = ss

-- where all is as it was after what is ahead caught up, the acknowledgement changed nothing
returned-rests : (config : SubConfig) (tickets : List Ticket) (all other slots : List Slot) → remarked (λ (s : Slot). caught_up_mark config.ordering other (remark s (mark_after_ack config tickets all s))) slots ≡ slots → remarked (mark_after_ack config tickets all) slots ≡ slots
returned-rests config tickets all other [] e = refl
returned-rests config tickets all other (s ∷ ss) e =
    let rule : Mark = mark_after_ack config tickets all s in
    let first : caught_up_mark config.ordering other (remark s rule) ≡ s.mark = ap (λ (xs : List Slot). heads xs s.mark) e in
    let same : is_unacked rule ≡ is_unacked s.mark = sym (unacked-caught config.ordering other (remark s rule)) ∙ ap is_unacked first in
    λ i. remark s (acked-rests config tickets all s same i) ∷ returned-rests config tickets all other ss (ap rests e) i

pub returned-same : (config : SubConfig) (tickets : List Ticket) (slots : List Slot) → caught_up config.ordering (acknowledge config tickets slots) ≡ slots → acknowledge config tickets slots ≡ slots
returned-same config tickets slots e =
    returned-rests config tickets slots (acknowledge config tickets slots) slots (sym (remarked-twice (caught_up_mark config.ordering (acknowledge config tickets slots)) (mark_after_ack config tickets slots) slots) ∙ e)

-- on a subscription that isn't ordered nothing is ahead
ahead-ordered : (slots : List Slot) → IsCaughtUp false slots → AllByRecursion (λ (s : Slot). is_ahead s.mark ≡ false) slots
ahead-ordered slots h = each-then (λ (s : Slot). is_ahead s.mark ≡ true → any_earlier false (λ (e : Slot). is_unacked e.mark) slots s ≡ true) (λ (s : Slot). is_ahead s.mark ≡ false) slots (λ s behind. by s (is_ahead s.mark) refl behind) h
  where
    by : (s : Slot) (b : Bool) → is_ahead s.mark ≡ b → (is_ahead s.mark ≡ true → any_earlier false (λ (e : Slot). is_unacked e.mark) slots s ≡ true) → is_ahead s.mark ≡ false
    by s true is behind = absurd (false≢true (sym (any_earlier_none false (λ (e : Slot). is_unacked e.mark) slots s refl) ∙ behind is))
    by s false is behind = is

acked-ahead : (config : SubConfig) → config.ordering ≡ false → (tickets : List Ticket) (slots : List Slot) (s : Slot) → is_ahead s.mark ≡ false → is_ahead (mark_after_ack config tickets slots s) ≡ false
acked-ahead config plain tickets slots s h =
    let early : is_early config tickets slots s ≡ false = any_earlier_none config.ordering _ slots s (rw plain refl) in
    rw early (cond_both (is_named config.exactly_once tickets s) (Done Acknowledged) s.mark (λ (m : Mark). is_ahead m ≡ false) (λ _. refl) (λ _. h))

-- so nothing is to catch up there after an acknowledgement
pub acked-unordered : (config : SubConfig) (tickets : List Ticket) (slots : List Slot) → IsCaughtUp config.ordering slots → config.ordering ≡ false → IsCaughtUp false (acknowledge config tickets slots)
acked-unordered config tickets slots h plain =
    let before : IsCaughtUp false slots = subst (λ (b : Bool). IsCaughtUp b slots) plain h in
    none-ahead false (acknowledge config tickets slots)
    (each-map (λ (s : Slot). is_ahead s.mark ≡ false) (λ (s : Slot). is_ahead s.mark ≡ false) (λ (s : Slot). remark s (mark_after_ack config tickets slots s)) slots (λ s other. acked-ahead config plain tickets slots s other) (ahead-ordered slots before))

-- ---- expunging, while everything is held

caught-live : (m : Mark) → is_gone m ≡ false → is_gone (caught_up_as m) ≡ false
caught-live (Backlog failures until last) h = h
caught-live (Leased failures lease deadline) h = h
caught-live (Ahead failures) h = refl
caught-live (Done cause) h = h
caught-live (Gone cause) h = h

pub caught_up-live : (ordering : Bool) (all : List Slot) (s : Slot) → is_gone s.mark ≡ false → is_gone (caught_up_mark ordering all s) ≡ false
caught_up-live ordering all s h =
    cond_both (any_earlier ordering (λ (e : Slot). is_unacked e.mark) all s) s.mark (caught_up_as s.mark) (λ (m : Mark). is_gone m ≡ false) (λ _. h) (λ _. caught-live s.mark h)

same-marks : (rule : Slot → Mark) → ((s : Slot) → rule s ≡ s.mark) → (slots : List Slot) → remarked rule slots ≡ slots
same-marks rule h [] = refl
same-marks rule h (s ∷ ss) = λ i. remark s (h s i) ∷ same-marks rule h ss i

pub expunged-is : (at : ℕ) (config : SubConfig) (held : Holds) (slots : List Slot) → AllByRecursion (λ (s : Slot). is_gone s.mark ≡ false) slots → live (expunge at config held slots) ≡ caught_up config.ordering slots
expunged-is at config held slots here =
    let first : remarked (expired_mark at config held) slots ≡ slots = same-marks (expired_mark at config held) (λ s. rw (or_right (is_done s.mark) true refl) refl) slots in
    let left : expunge at config held slots ≡ caught_up config.ordering slots =
    (λ i. remarked (released_mark at config held) (remarked (caught_up_mark config.ordering (first i)) (first i)))
    ∙ same-marks (released_mark at config held) (λ s. rw (and_right (is_done s.mark) false refl) refl) (caught_up config.ordering slots) in
    ap live left
    ∙ filter-all (λ (s : Slot). not (is_gone s.mark)) (caught_up config.ordering slots)
    (each-map (λ (s : Slot). is_gone s.mark ≡ false) (λ (s : Slot). not (is_gone s.mark) ≡ true) (λ (s : Slot). remark s (caught_up_mark config.ordering slots s)) slots
    (λ s h. ap not (caught_up-live config.ordering slots s h)) here)

-- an acknowledgement makes nothing gone
pub returned-here : (config : SubConfig) (tickets : List Ticket) (slots : List Slot) → AllByRecursion (λ (s : Slot). is_gone s.mark ≡ false) slots → AllByRecursion (λ (s : Slot). is_gone s.mark ≡ false) (acknowledge config tickets slots)
returned-here config tickets slots here =
    each-map (λ (s : Slot). is_gone s.mark ≡ false) (λ (s : Slot). is_gone s.mark ≡ false) (λ (s : Slot). remark s (mark_after_ack config tickets slots s)) slots (λ s h. acknowledging-live config tickets slots s h) here
