-- Messages, slots and rules, where what is gone is left out.
use Rattle.std.proofs.Common.{ℕ, ◌≡◌, Bool, true, false, ◌&&◌, not, nat_eq, List, Option, Some, None, map, filter, unwrap_or, refl, sym, ◌∙◌, ap, if◌then◌else◌}
use Rattle.std.specs.List.{AllByRecursion, list_any}
use Rattle.std.proofs.lemmas.Bool.{not-true, not-false, and_left, and_right}
use Rattle.ps_config.specs.declared.config.SubConfig.{SubConfig}
use Rattle.ps_model.specs.declared.mark.Mark.{Mark}
use Rattle.ps_model.specs.declared.mark.Mark.TheVariants.{Backlog, Leased, Ahead, Done, Gone}
use Rattle.ps_model.specs.declared.mark.DoneCause.TheVariants.{Acknowledged}
use Rattle.ps_model.specs.declared.mark.Slot.{Slot}
use Rattle.ps_model.specs.declared.mark.Ticket.{Ticket}
use Rattle.ps_model.specs.declared.world.World.{World}
use Rattle.ps_model.specs.declared.world.MarkRow.{MarkRow}
use Rattle.ps_model.specs.declared.world.MessageRow.{MessageRow}
use Rattle.ps_model.specs.Slots.{is_gone, is_unacked, failures_of, is_earlier, any_earlier}
use Rattle.ps_model.specs.Failing.{mark_after_failing, failed, fallen, dead_letter, dead_letters, is_over, is_due}
use Rattle.ps_model.specs.Choice.{is_ready, is_waiting, is_deliverable, deliverable, first_of_them, choice}
use Rattle.ps_model.specs.Acknowledging.{may_ack, fits, is_good, is_named, is_early, is_unordered, mark_after_ack}
use Rattle.ps_model.specs.Retention.{caught_up_as, caught_up_mark}
use Rattle.ps_model.specs.Worlds.{message_numbered, message_at, no_message, item_at, slot_of, rows_of, slots_of}
use Rattle.ps_model.specs.Live.{live}
use Rattle.ps_base.proofs.Lists.{each-filter, map-same}
use Rattle.ps_sound.proofs.worlds.Marks.{gone-not-unacked}
use Rattle.ps_sound.proofs.commands.Acknowledged.{gone-may-not}
use Rattle.ps_sound.proofs.living.Filters.{filter-two, filter-either, filter-map, any-filter, find-filter, filter_map-filter}

abbrev pub row_lives : MarkRow → Bool
row_lives r = not (is_gone r.mark)

abbrev pub slot_lives : Slot → Bool
slot_lives s = not (is_gone s.mark)

-- the slots that aren't gone
abbrev pub live_slots : List Slot → List Slot
live_slots slots = filter slot_lives slots

abbrev pub kept_messages : List MessageRow → List MessageRow
kept_messages messages = filter (λ (r : MessageRow). r.kept) messages

-- where the mark isn't gone, the message that it names is kept
abbrev pub KeptAt : List MessageRow → MarkRow → Type 0
KeptAt messages r = is_gone r.mark ≡ false → (message_at messages r.message).kept ≡ true

abbrev pub AllKept : World → Type 0
AllKept w = AllByRecursion (KeptAt w.messages) w.marks

-- a kept message is found among the kept ones
pub numbered-live : (messages : List MessageRow) (n : ℕ) → (message_at messages n).kept ≡ true → message_numbered (kept_messages messages) n ≡ message_numbered messages n
numbered-live messages n kept = at (message_numbered messages n) refl kept
  where
    at : (o : Option MessageRow) → message_numbered messages n ≡ o → (unwrap_or o (no_message n)).kept ≡ true → message_numbered (kept_messages messages) n ≡ message_numbered messages n
    at None e k = absurd (cc (k))
    at (Some m) e k = find-filter (λ (r : MessageRow). nat_eq r.number n) (λ (r : MessageRow). r.kept) messages m e k ∙ sym e

pub message_at-live : (messages : List MessageRow) (n : ℕ) → (message_at messages n).kept ≡ true → message_at (kept_messages messages) n ≡ message_at messages n
message_at-live messages n kept = ap (λ o. unwrap_or o (no_message n)) (numbered-live messages n kept)

pub slot_of-live : (messages : List MessageRow) (r : MarkRow) → KeptAt messages r → row_lives r ≡ true → slot_of (kept_messages messages) r ≡ slot_of messages r
slot_of-live messages r k lives = ap (λ (m : MessageRow). record { item = item_at r.message m; mark = r.mark }) (message_at-live messages r.message (k (not-true (is_gone r.mark) lives)))

-- the slots of the live part are the slots that aren't gone
pub slots-live : (w : World) (n : ℕ) → AllKept w → slots_of (live w) n ≡ live_slots (slots_of w n)
slots-live w n h =
    map-same (slot_of (kept_messages w.messages)) (slot_of w.messages) (rows_of (filter row_lives w.marks) n)
    (each-filter (λ (r : MarkRow). slot_of (kept_messages w.messages) r ≡ slot_of w.messages r) (λ (r : MarkRow). slot_of (kept_messages w.messages) r ≡ slot_of w.messages r) (λ (r : MarkRow). nat_eq r.sub n) (filter row_lives w.marks) (λ r _ e. e)
    (each-filter (KeptAt w.messages) (λ (r : MarkRow). slot_of (kept_messages w.messages) r ≡ slot_of w.messages r) row_lives w.marks (λ r lives k. slot_of-live w.messages r k lives) h))
    ∙ ap (map (slot_of w.messages)) (filter-either (λ (r : MarkRow). nat_eq r.sub n) row_lives w.marks)
    ∙ sym (filter-map slot_lives (slot_of w.messages) (rows_of w.marks n))

-- a test of slots that no gone one passes
abbrev pub FailsGone : (Slot → Bool) → Type 0
FailsGone test = (s : Slot) → slot_lives s ≡ false → test s ≡ false

-- a test of the mark that no gone mark passes
pub fails-gone : (test : Mark → Bool) → ((mark : Mark) → is_gone mark ≡ true → test mark ≡ false) → FailsGone (λ s. test s.mark)
fails-gone test k s e = k s.mark (not-false (is_gone s.mark) e)

pub any-live : (test : Slot → Bool) (slots : List Slot) → FailsGone test → list_any test (live_slots slots) ≡ list_any test slots
any-live test slots k = any-filter test slot_lives slots k

pub any-earlier-live : (ordering : Bool) (test : Slot → Bool) (slots : List Slot) (s : Slot) → FailsGone test → any_earlier ordering test (live_slots slots) s ≡ any_earlier ordering test slots s
any-earlier-live ordering test slots s k = any-live (λ e. is_earlier ordering e s && test e) slots (λ e gone. and_right (is_earlier ordering e s) (test e) (k e gone))

-- ---- leases that fail

gone-not-over : (t : ℕ) (mark : Mark) → is_gone mark ≡ true → is_over t mark ≡ false
gone-not-over t (Backlog f u l) e = refl
gone-not-over t (Leased f l d) e = absurd (cc (e))
gone-not-over t (Ahead f) e = refl
gone-not-over t (Done c) e = refl
gone-not-over t (Gone c) e = refl

pub due-fails-gone : (t : ℕ) → FailsGone (is_due t)
due-fails-gone t = fails-gone (is_over t) (gone-not-over t)

pub failing-live : (fails : Slot → Bool) (t : ℕ) (forward : Bool) (config : SubConfig) (slots : List Slot) (s : Slot) → FailsGone fails
    → mark_after_failing fails t forward config (live_slots slots) s ≡ mark_after_failing fails t forward config slots s
failing-live fails t forward config slots s k =
    ap (λ b. if fails s then failed t forward config s.mark else if b then fallen s.mark else s.mark) (any-earlier-live config.ordering fails slots s k)

-- a gone mark is left
pub failed-gone : (t : ℕ) (forward : Bool) (config : SubConfig) (mark : Mark) → is_gone mark ≡ true → failed t forward config mark ≡ mark
failed-gone t forward config (Backlog f u l) e = absurd (cc (e))
failed-gone t forward config (Leased f l d) e = absurd (cc (e))
failed-gone t forward config (Ahead f) e = refl
failed-gone t forward config (Done c) e = refl
failed-gone t forward config (Gone c) e = refl

pub fallen-gone : (mark : Mark) → is_gone mark ≡ true → fallen mark ≡ mark
fallen-gone (Backlog f u l) e = absurd (cc (e))
fallen-gone (Leased f l d) e = absurd (cc (e))
fallen-gone (Ahead f) e = absurd (cc (e))
fallen-gone (Done c) e = refl
fallen-gone (Gone c) e = refl

dead-gone : (fails : Slot → Bool) (forward : Bool) (config : SubConfig) (mark : Mark) (s : Slot) → is_gone mark ≡ true → dead_letter fails forward config mark s ≡ None
dead-gone fails forward config (Backlog f u l) s e = refl
dead-gone fails forward config (Leased f l d) s e = absurd (cc (e))
dead-gone fails forward config (Ahead f) s e = refl
dead-gone fails forward config (Done c) s e = refl
dead-gone fails forward config (Gone c) s e = refl

pub dead-letters-live : (fails : Slot → Bool) (forward : Bool) (config : SubConfig) (slots : List Slot) → dead_letters fails forward config (live_slots slots) ≡ dead_letters fails forward config slots
dead-letters-live fails forward config slots = filter_map-filter (λ s. dead_letter fails forward config s.mark s) slot_lives slots (λ s gone. dead-gone fails forward config s.mark s (not-false (is_gone s.mark) gone))

-- ---- what comes when nothing earlier is unacknowledged

pub unacked-fails-gone : FailsGone (λ s. is_unacked s.mark)
unacked-fails-gone = fails-gone is_unacked gone-not-unacked

pub caught-live : (ordering : Bool) (slots : List Slot) (s : Slot) → caught_up_mark ordering (live_slots slots) s ≡ caught_up_mark ordering slots s
caught-live ordering slots s = ap (λ b. if b then s.mark else caught_up_as s.mark) (any-earlier-live ordering (λ e. is_unacked e.mark) slots s unacked-fails-gone)

pub caught-gone : (mark : Mark) → is_gone mark ≡ true → caught_up_as mark ≡ mark
caught-gone (Backlog f u l) e = absurd (cc (e))
caught-gone (Leased f l d) e = absurd (cc (e))
caught-gone (Ahead f) e = absurd (cc (e))
caught-gone (Done c) e = refl
caught-gone (Gone c) e = refl

-- ---- deliveries

gone-not-waiting : (t : ℕ) (mark : Mark) → is_gone mark ≡ true → is_waiting t mark ≡ false
gone-not-waiting t (Backlog f u l) e = absurd (cc (e))
gone-not-waiting t (Leased f l d) e = refl
gone-not-waiting t (Ahead f) e = refl
gone-not-waiting t (Done c) e = refl
gone-not-waiting t (Gone c) e = refl

gone-not-ready : (t : ℕ) (mark : Mark) → is_gone mark ≡ true → is_ready t mark ≡ false
gone-not-ready t (Backlog f u l) e = absurd (cc (e))
gone-not-ready t (Leased f l d) e = refl
gone-not-ready t (Ahead f) e = refl
gone-not-ready t (Done c) e = refl
gone-not-ready t (Gone c) e = refl

pub deliverable-live : (t : ℕ) (ordering : Bool) (slots : List Slot) → deliverable t ordering (live_slots slots) ≡ deliverable t ordering slots
deliverable-live t ordering slots =
    filter-two (is_deliverable t ordering (live_slots slots)) (is_deliverable t ordering slots) slot_lives slots
    (λ s gone. and_left (is_ready t s.mark) (not (any_earlier ordering (λ e. is_waiting t e.mark) slots s)) (gone-not-ready t s.mark (not-false (is_gone s.mark) gone)))
    (λ s _. ap (λ b. is_ready t s.mark && not b) (any-earlier-live ordering (λ e. is_waiting t e.mark) slots s (fails-gone (is_waiting t) (gone-not-waiting t))))

pub choice-live : (t : ℕ) (ordering : Bool) (most budget : ℕ) (slots : List Slot) → choice t ordering most budget (live_slots slots) ≡ choice t ordering most budget slots
choice-live t ordering most budget slots = ap (first_of_them most budget) (deliverable-live t ordering slots)

-- ---- acknowledgements

pub fits-fails-gone : (exactly_once : Bool) (ticket : Ticket) → FailsGone (fits exactly_once ticket)
fits-fails-gone exactly_once ticket s gone = and_right (nat_eq s.item.number ticket.number) (may_ack exactly_once ticket.lease s.mark) (gone-may-not exactly_once ticket.lease s.mark (not-false (is_gone s.mark) gone))

pub good-live : (exactly_once : Bool) (slots : List Slot) (ticket : Ticket) → is_good exactly_once (live_slots slots) ticket ≡ is_good exactly_once slots ticket
good-live exactly_once slots ticket = any-live (fits exactly_once ticket) slots (fits-fails-gone exactly_once ticket)

pub early-live : (config : SubConfig) (tickets : List Ticket) (slots : List Slot) (s : Slot) → is_early config tickets (live_slots slots) s ≡ is_early config tickets slots s
early-live config tickets slots s = any-earlier-live config.ordering (λ e. is_unacked e.mark && not (is_named config.exactly_once tickets e)) slots s
    (λ e gone. and_left (is_unacked e.mark) (not (is_named config.exactly_once tickets e)) (unacked-fails-gone e gone))

pub unordered-live : (config : SubConfig) (tickets : List Ticket) (slots : List Slot) (ticket : Ticket) → is_unordered config tickets (live_slots slots) ticket ≡ is_unordered config tickets slots ticket
unordered-live config tickets slots ticket =
    ap (λ (test : Slot → Bool). list_any test (live_slots slots)) (λ i s. fits config.exactly_once ticket s && early-live config tickets slots s i)
    ∙ any-live (λ s. fits config.exactly_once ticket s && is_early config tickets slots s) slots (λ s gone. and_left (fits config.exactly_once ticket s) (is_early config tickets slots s) (fits-fails-gone config.exactly_once ticket s gone))

pub acknowledged-live : (config : SubConfig) (tickets : List Ticket) (slots : List Slot) (s : Slot) → mark_after_ack config tickets (live_slots slots) s ≡ mark_after_ack config tickets slots s
acknowledged-live config tickets slots s =
    ap (λ b. if is_named config.exactly_once tickets s then if b then if config.exactly_once then s.mark else Ahead (failures_of s.mark) else Done Acknowledged else s.mark) (early-live config tickets slots s)
