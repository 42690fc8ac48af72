-- Laws about the rules. A law is proved if a public function of `laws` names it in its contract.
use Rattle.std.specs.Prelude.{ℕ, ◌≡◌, ◌<◌, ◌↔◌, ◌++◌, Bool, true, false, ◌&&◌, ◌||◌, not, nat_eq, List, [], ◌∷◌, Option, Some, None}
use Rattle.std.specs.List.{AllByRecursion, list_any}
use Rattle.std.specs.Str.{bytes_eq}
use Rattle.ps_base.specs.declared.ack_id.AckId.{AckId}
use Rattle.ps_model.specs.declared.command.Command.{Command}
use Rattle.ps_model.specs.declared.command.Command.TheVariants.{Pull, Acknowledge, ModifyAckDeadline, SeekTime, SeekSnapshot}
use Rattle.ps_model.specs.declared.command.Entry.{Entry}
use Rattle.ps_model.specs.declared.mark.Slot.{Slot}
use Rattle.ps_model.specs.declared.reply.Reply.{Reply}
use Rattle.ps_model.specs.declared.reply.Reply.TheVariants.{Empty, Received, Acked}
use Rattle.ps_model.specs.declared.reply.ReceivedMessage.{ReceivedMessage}
use Rattle.ps_model.specs.declared.world.World.{World}
use Rattle.ps_model.specs.declared.world.SubRow.{SubRow}
use Rattle.ps_model.specs.declared.world.SnapRow.{SnapRow}
use Rattle.ps_model.specs.declared.world.MessageRow.{MessageRow}
use Rattle.ps_model.specs.Slots.{is_earlier, any_earlier, is_unacked, is_out}
use Rattle.ps_model.specs.Failing.{is_due}
use Rattle.ps_model.specs.Choice.{deliverable, is_deliverable, is_ready, is_waiting}
use Rattle.ps_model.specs.Modifying.{is_given_up}
use Rattle.ps_model.specs.Seeking.{seek_time}
use Rattle.ps_model.specs.Retention.{expunge}
use Rattle.ps_model.specs.Worlds.{sub_named, sub_numbered, snap_named, slots_of, rows_of, holds_of, message_numbered}
use Rattle.ps_model.specs.Settling.{settle}
use Rattle.ps_model.specs.Answering.{same_id, items_of}
use Rattle.ps_model.specs.Replaying.{seek_list, held_items}
use Rattle.ps_model.specs.Step.{empty_world, moment, settled, carried_out, step, reply, entry_of}
use Rattle.ps_model.specs.History.{IsAccepted, IsHistory, after}
use Rattle.ps_model.specs.Live.{live}
use Rattle.ps_model.specs.Sound.{IsSound, Ordered, OnEachSlot, IsLeasedInOrder}

-- an earlier unacknowledged message of the key is itself leased or deliverable
abbrev pub Behind : ℕ → Bool → List Slot → Slot → Slot → Type 0
Behind t ordering slots s e = is_earlier ordering e s ≡ true → is_unacked e.mark ≡ true → (is_waiting t e.mark ≡ false) × (is_ready t e.mark ≡ true → is_deliverable t ordering slots e ≡ true)

-- A message is deliverable as the rule says: if and only if it is ready and each earlier unacknowledged message of its key is leased or deliverable.
abbrev pub DeliverableInTurn : Type 0
DeliverableInTurn = (t : ℕ) (ordering : Bool) (slots : List Slot) (s : Slot)
    → (is_deliverable t ordering slots s ≡ true) ↔ ((is_ready t s.mark ≡ true) × AllByRecursion (Behind t ordering slots s) slots)

-- Soundness: the empty world is sound, and each accepted entry keeps a sound world sound.
abbrev pub StartsSound : Type 0
StartsSound = IsSound empty_world

abbrev pub StaysSound : Type 0
StaysSound = (w : World) (e : Entry) → IsSound w → IsAccepted w e → IsSound (step w e)

-- the messages in a reply
abbrev pub items_in : Reply → List ReceivedMessage
items_in (Received exactly_once ordering items) = items
items_in _ = []

-- the entry is a pull that delivers this message under this lease
abbrev pub hands_out : AckId → World → Entry → Bool
hands_out id w e = list_any (λ (r : ReceivedMessage). same_id r.id id) (items_in (reply w e.now e.command))

-- some entry passes the test in its world
abbrev pub some_step : (World → Entry → Bool) → World → List Entry → Bool
some_step test w [] = false
some_step test w (e ∷ es) = test w e || some_step test (step w e) es

abbrev pub is_numbered : ℕ → Option SubRow → Bool
is_numbered number None = false
is_numbered number (Some sub) = nat_eq sub.number number

-- the command is a seek on the subscription with this number
abbrev pub seeks : ℕ → World → Command → Bool
seeks number w (SeekTime name time) = is_numbered number (sub_named w name)
seeks number w (SeekSnapshot name snapshot) = is_numbered number (sub_named w name)
seeks number w _ = false

-- the command acknowledges this id
abbrev pub acknowledges : AckId → Command → Bool
acknowledges id (Acknowledge name ids) = list_any (same_id id) ids
acknowledges id _ = false

-- the command gives up the lease of a slot of this subscription
abbrev pub gives_up : SubRow → Command → Slot → Bool
gives_up sub (ModifyAckDeadline name items) s = bytes_eq name sub.name && is_given_up (items_of sub items) s
gives_up sub _ s = false

-- the lease fails at t because its deadline has come or the command gives it up
abbrev pub fails_at : ℕ → SubRow → Command → Slot → Bool
fails_at t sub c s = is_due t s || gives_up sub c s

-- the slot is leased under this id, and its lease or that of an earlier message of its key fails
abbrev pub loses : AckId → ℕ → SubRow → Command → List Slot → Slot → Bool
loses id t sub c slots s = nat_eq s.item.number id.message && is_out id.lease s.mark && (fails_at t sub c s || any_earlier sub.config.ordering (fails_at t sub c) slots s)

abbrev pub loses_at : AckId → World → ℕ → Command → Option SubRow → Bool
loses_at id w t c None = false
loses_at id w t c (Some sub) = list_any (loses id t sub c (slots_of w sub.number)) (slots_of w sub.number)

-- the command acknowledges this id on the subscription that the id names
abbrev pub acknowledges_there : AckId → World → Command → Bool
acknowledges_there id w (Acknowledge name ids) = is_numbered id.sub (sub_named w name) && list_any (same_id id) ids
acknowledges_there id w _ = false

-- the reply names this id among those that failed
abbrev pub failed_in : AckId → Reply → Bool
failed_in id (Acked exactly_once invalid unordered) = list_any (same_id id) invalid || list_any (same_id id) unordered
failed_in id _ = false

-- The entry may end the lease: its moment is at or after the deadline last set, or it gives the lease up, or an earlier message of the key fails on an ordered subscription; or it acknowledges the lease and the id didn't fail; or it is a seek on the subscription.
abbrev pub may_end : AckId → World → Entry → Bool
may_end id w e =
    loses_at id w (moment w e.now) e.command (sub_numbered w id.sub)
    || (acknowledges_there id w e.command && not (failed_in id (reply w e.now e.command)))
    || seeks id.sub w e.command

-- First: if a message is delivered twice on a subscription, something ended the first lease in between; the settling of the second pull counts too.
abbrev pub HandedOutOnce : Type 0
HandedOutOnce = (w : World) (first : Entry) (between : List Entry) (second : Entry) (id : AckId) (lease : ℕ)
    → IsSound w → IsHistory w (first ∷ (between ++ second ∷ []))
    → hands_out id w first ≡ true
    → hands_out (record id { lease = lease }) (after (step w first) between) second ≡ true
    → some_step (may_end id) (step w first) (between ++ second ∷ []) ≡ true

-- one reply delivers each message once, in order of number
abbrev pub HandedOutInOrder : Type 0
HandedOutInOrder = (w : World) (at : ℕ) (c : Command) → IsSound w → Ordered (λ (a b : ReceivedMessage). a.id.message < b.id.message) (items_in (reply w at c))

-- the reply to an acknowledgement in exactly-once mode doesn't name this id among those that failed
abbrev pub took : AckId → Reply → Bool
took id (Acked exactly_once invalid unordered) = exactly_once && not (failed_in id (Acked exactly_once invalid unordered))
took id _ = false

-- Second: what was acknowledged in exactly-once mode isn't delivered again without a seek.
abbrev pub AcknowledgedForGood : Type 0
AcknowledgedForGood = (w : World) (first : Entry) (between : List Entry) (second : Entry) (id : AckId) (lease : ℕ)
    → IsSound w → IsHistory w (first ∷ (between ++ second ∷ []))
    → acknowledges id first.command ≡ true
    → took id (reply w first.now first.command) ≡ true
    → some_step (λ v e. seeks id.sub v e.command) (step w first) between ≡ false
    → hands_out (record id { lease = lease }) (after (step w first) between) second ≡ false

-- Third: after every entry, the leased messages of a key are a prefix of its unacknowledged ones.
abbrev pub LeasedInOrder : Type 0
LeasedInOrder = (w : World) (es : List Entry) → IsSound w → IsHistory w es → OnEachSlot (after w es) IsLeasedInOrder

-- the marks of every other subscription are as in the settled world
abbrev pub LeavesOthers : World → ℕ → Command → SubRow → Type 0
LeavesOthers w t c sub = (other : ℕ) → nat_eq other sub.number ≡ false → rows_of (carried_out w t c).marks other ≡ rows_of (settled t w).marks other

-- Fourth: after a seek that wasn't refused, each mark of the subscription is what the seek and then expunging give, and the other subscriptions are as they were.
abbrev pub SoughtToTime : Type 0
SoughtToTime = (w : World) (at time : ℕ) (name : List ℕ) (sub : SubRow)
    → IsSound w → reply w at (SeekTime name time) ≡ Empty → sub_named (settled (moment w at) w) name ≡ Some sub
    → record {
      marks : slots_of (carried_out w (moment w at) (SeekTime name time)) sub.number
          ≡ expunge (moment w at) sub.config (holds_of (settled (moment w at) w) sub.topic) (seek_time time (slots_of (settled (moment w at) w) sub.number));
      others : LeavesOthers w (moment w at) (SeekTime name time) sub;
    }

abbrev pub SoughtToSnapshot : Type 0
SoughtToSnapshot = (w : World) (at : ℕ) (name snapshot : List ℕ) (sub : SubRow) (snap : SnapRow)
    → IsSound w → reply w at (SeekSnapshot name snapshot) ≡ Empty
    → sub_named (settled (moment w at) w) name ≡ Some sub → snap_named (settled (moment w at) w) snapshot ≡ Some snap
    → record {
      marks : slots_of (carried_out w (moment w at) (SeekSnapshot name snapshot)) sub.number
          ≡ expunge (moment w at) sub.config (holds_of (settled (moment w at) w) sub.topic) (seek_list (held_items (settled (moment w at) w) sub snap) (slots_of (settled (moment w at) w) sub.number));
      others : LeavesOthers w (moment w at) (SeekSnapshot name snapshot) sub;
    }

-- Fifth: a pull that may take a message and isn't refused is empty if and only if nothing is deliverable.
abbrev pub EmptyWhereNothingIs : Type 0
EmptyWhereNothingIs = (w : World) (at : ℕ) (name : List ℕ) (most budget : ℕ) (seconds : Option ℕ) (sub : SubRow) (exactly_once ordering : Bool) (items : List ReceivedMessage)
    → 0 < most → 0 < budget
    → reply w at (Pull name most budget seconds) ≡ Received exactly_once ordering items → sub_named (settled (moment w at) w) name ≡ Some sub
    → (items ≡ []) ↔ (deliverable (moment w at) sub.config.ordering (slots_of (settled (moment w at) w) sub.number) ≡ [])

-- Sixth: a sound world is settled at its own moment, so a step leaves nothing to settle, and what isn't kept is never kept again.
abbrev pub SettledAtNow : Type 0
SettledAtNow = (w : World) → IsSound w → settle w.now w ≡ w

abbrev pub SettledAfterStep : Type 0
SettledAfterStep = (w : World) (e : Entry) → IsSound w → IsAccepted w e → settle (step w e).now (step w e) ≡ step w e

abbrev pub is_lost : Option MessageRow → Bool
is_lost None = false
is_lost (Some r) = not r.kept

abbrev pub NeverKeptAgain : Type 0
NeverKeptAgain = (w : World) (e : Entry) (number : ℕ) → IsSound w → IsAccepted w e
    → is_lost (message_numbered w.messages number) ≡ true → is_lost (message_numbered (step w e).messages number) ≡ true

-- What is gone never matters: a call on the live part of a sound world gets the same reply, records the same entry, and leaves the same live part.
abbrev pub GoneNeverMatters : Type 0
GoneNeverMatters = (w : World) (at : ℕ) (c : Command) → IsSound w → record {
  replies : reply (live w) at c ≡ reply w at c;
  records : entry_of (live w) at c ≡ entry_of w at c;
  leaves : live (step (live w) (record { now = at; command = c })) ≡ live (step w (record { now = at; command = c }));
}
