-- What a caller is told is so in the world after the call.
use Rattle.std.specs.Prelude.{ℕ, ◌≡◌, ◌≢◌, ◌+◌, ◌*◌, ◌≤◌, ◌⊎◌, Bool, true, false, nat_eq, List, [], ◌∷◌, Option, Some, None, option_map, unwrap_or, is_some, length, if◌then◌else◌}
use Rattle.std.specs.List.{AllByRecursion, list_any}
use Rattle.ps_base.specs.declared.ack_id.AckId.{AckId}
use Rattle.ps_message.specs.declared.message.Message.{Message}
use Rattle.ps_model.specs.declared.command.Command.TheVariants.{Publish, Pull, Acknowledge, ModifyAckDeadline}
use Rattle.ps_model.specs.declared.mark.Mark.{Mark}
use Rattle.ps_model.specs.declared.mark.Mark.TheVariants.{Leased}
use Rattle.ps_model.specs.declared.reply.Reply.TheVariants.{Published, Received, Acked, Modified}
use Rattle.ps_model.specs.declared.reply.ReceivedMessage.{ReceivedMessage}
use Rattle.ps_model.specs.declared.world.World.{World}
use Rattle.ps_model.specs.declared.world.TopicRow.{TopicRow}
use Rattle.ps_model.specs.declared.world.SubRow.{SubRow}
use Rattle.ps_model.specs.declared.world.MessageRow.{MessageRow}
use Rattle.ps_model.specs.declared.world.MarkRow.{MarkRow}
use Rattle.ps_model.specs.Slots.{is_ahead, is_out}
use Rattle.ps_model.specs.Acknowledging.{is_good}
use Rattle.ps_model.specs.Modifying.{names}
use Rattle.ps_model.specs.Answering.{same_id, ticket_of}
use Rattle.ps_model.specs.Checks.{lease_seconds}
use Rattle.ps_model.specs.Worlds.{topic_named, sub_named, message_numbered, slots_of}
use Rattle.ps_model.specs.Standing.{IsAcknowledged, standing_with, mark_row}
use Rattle.ps_model.specs.Step.{moment, settled, reply}
use Rattle.ps_model.specs.History.{called}
use Rattle.ps_model.specs.Sound.{IsSound}
use Rattle.ps_model.specs.Laws.{took}

-- there is one, and it has the property
abbrev pub Found : {A : Type 0} → (A → Type 0) → Option A → Type 0
Found P None = ⊥
Found P (Some x) = P x

-- a message of this topic, published at this moment, with these contents
pub record IsMessage (of at : ℕ) (contents : Message) (r : MessageRow) : Type 0 where
  pub topic : r.topic ≡ of
  pub publish : r.publish ≡ at
  pub message : r.message ≡ contents

-- each of these messages is there, numbered on from this number
abbrev pub StandFrom : List MessageRow → ℕ → ℕ → ℕ → List Message → Type 0
StandFrom rows topic publish number [] = Unit {0}
StandFrom rows topic publish number (m ∷ ms) = Found (IsMessage topic publish m) (message_numbered rows number) × StandFrom rows topic publish (number + 1) ms

-- Published: the messages of the call are there under the numbers told. These are new, and contents, topic and moment are the call's.
abbrev pub PublishedIsThere : Type 0
PublishedIsThere = (w : World) (at : ℕ) (name : List ℕ) (messages : List Message) (first number : ℕ)
    → IsSound w → reply w at (Publish name messages) ≡ Published first number
    → let after = called w (at, Publish name messages) in record {
      number : number ≡ length messages;
      new : w.next_message ≤ first;
      there : Found (λ (topic : TopicRow). StandFrom after.messages topic.number (moment w at) first messages) (topic_named after name);
    }

-- the mark of the message that an id names, on the subscription that it names
abbrev pub mark_of : World → AckId → Option Mark
mark_of w id = option_map (λ (r : MarkRow). r.mark) (mark_row w id.sub id.message)

-- which delivery it is, where the subscription has a dead-letter policy
abbrev pub attempt_of : SubRow → ℕ → Option ℕ
attempt_of sub failures = if is_some sub.config.dead_letter then Some (failures + 1) else None

-- the message is out on this subscription under the lease of its id until this moment, and has the contents told
pub record IsHandedOut (w : World) (sub : SubRow) (deadline : ℕ) (r : ReceivedMessage) : Type 0 where
  pub own : r.id.sub ≡ sub.number
  pub failures : ℕ
  pub leased : mark_of w r.id ≡ Some (Leased failures r.id.lease deadline)
  pub attempt : r.attempt ≡ attempt_of sub failures
  pub message : Found (IsMessage sub.topic r.publish r.message) (message_numbered w.messages r.id.message)

-- when leases of this call end
abbrev pub lease_end : ℕ → SubRow → Option ℕ → ℕ
lease_end t sub seconds = t + 1000 * unwrap_or (option_map lease_seconds seconds) sub.config.ack_seconds

-- Received: each message told is out under the lease of its id until its deadline, and its contents are those told. The modes told are those of the subscription.
abbrev pub ReceivedIsHandedOut : Type 0
ReceivedIsHandedOut = (w : World) (at : ℕ) (name : List ℕ) (most budget : ℕ) (seconds : Option ℕ) (exactly_once ordering : Bool) (items : List ReceivedMessage)
    → IsSound w → reply w at (Pull name most budget seconds) ≡ Received exactly_once ordering items
    → let after = called w (at, Pull name most budget seconds) in Found (λ (sub : SubRow). record {
      exactly_once : exactly_once ≡ sub.config.exactly_once;
      ordering : ordering ≡ sub.config.ordering;
      each : AllByRecursion (IsHandedOut after sub (lease_end (moment w at) sub seconds)) items;
    }) (sub_named after name)

-- the mark is there, and has the property
abbrev pub OnMark : (Mark → Type 0) → World → AckId → Type 0
OnMark P w id = Found P (mark_of w id)

-- in at-least-once mode the id may acknowledge: it names a message of this subscription by its living lease, or by its last one if none lives
abbrev pub MayAcknowledge : World → List ℕ → AckId → Type 0
MayAcknowledge w name id = Found (λ (sub : SubRow). (id.sub ≡ sub.number) × (is_good false (slots_of w sub.number) (ticket_of id) ≡ true)) (sub_named w name)

-- Acked: in exactly-once mode each id of the call that isn't told as failed is acknowledged, in its turn. In at-least-once mode each id that may acknowledge is, maybe ahead of its turn.
abbrev pub AcknowledgedIsSo : Type 0
AcknowledgedIsSo = (w : World) (at : ℕ) (name : List ℕ) (ids : List AckId) (exactly_once : Bool) (invalid unordered : List AckId) (id : AckId)
    → IsSound w → reply w at (Acknowledge name ids) ≡ Acked exactly_once invalid unordered → list_any (same_id id) ids ≡ true
    → let after = called w (at, Acknowledge name ids) in record {
      once : took id (Acked exactly_once invalid unordered) ≡ true → OnMark (λ mark. (standing_with mark ≡ IsAcknowledged) × (is_ahead mark ≡ false)) after id;
      at_least_once : exactly_once ≡ false → MayAcknowledge (settled (moment w at) w) name id → OnMark (λ mark. standing_with mark ≡ IsAcknowledged) after id;
    }

-- the seconds that the last item of the id asks for
abbrev pub seconds_asked : AckId → List (AckId × ℕ) → Option ℕ → Option ℕ
seconds_asked id [] found = found
seconds_asked id (x ∷ xs) found = seconds_asked id xs (if same_id x.0 id then Some x.1 else found)

-- some item gives a lease up
abbrev pub gives_one_up : List (AckId × ℕ) → Bool
gives_one_up items = list_any (λ (x : AckId × ℕ). nat_eq x.1 0) items

-- the id names a living lease of the subscription of this name
abbrev pub NamesLease : World → List ℕ → AckId → Type 0
NamesLease w name id = Found (λ (sub : SubRow). (id.sub ≡ sub.number) × (list_any (names (ticket_of id)) (slots_of w sub.number) ≡ true)) (sub_named w name)

-- out under this lease until this moment
abbrev pub IsOutUntil : ℕ → ℕ → Mark → Type 0
IsOutUntil lease deadline mark = (failures : ℕ) × (mark ≡ Leased failures lease deadline)

-- no more out under this lease
abbrev pub IsOutNoMore : ℕ → Mark → Type 0
IsOutNoMore lease mark = is_out lease mark ≡ false

-- What became of a living lease: 0 seconds ended it, and any others set its deadline, unless it fell back because the call gave up another one.
pub record IsModified (after : World) (t : ℕ) (items : List (AckId × ℕ)) (id : AckId) (seconds : ℕ) : Type 0 where
  pub ended : seconds ≡ 0 → OnMark (IsOutNoMore id.lease) after id
  pub set : seconds ≢ 0 → gives_one_up items ≡ false → OnMark (IsOutUntil id.lease (t + 1000 * seconds)) after id
  pub set_or_fell : seconds ≢ 0 → OnMark (λ mark. IsOutUntil id.lease (t + 1000 * seconds) mark ⊎ IsOutNoMore id.lease mark) after id

-- Modified: in exactly-once mode each id of the call that isn't told as invalid named a living lease. In both modes each living lease that the call named became what the last item of its id asks.
abbrev pub ModifiedIsSo : Type 0
ModifiedIsSo = (w : World) (at : ℕ) (name : List ℕ) (items : List (AckId × ℕ)) (exactly_once : Bool) (invalid : List AckId) (id : AckId) (seconds : ℕ)
    → IsSound w → reply w at (ModifyAckDeadline name items) ≡ Modified exactly_once invalid → seconds_asked id items None ≡ Some seconds → record {
      valid : exactly_once ≡ true → list_any (same_id id) invalid ≡ false → NamesLease (settled (moment w at) w) name id;
      modified : NamesLease (settled (moment w at) w) name id → IsModified (called w (at, ModifyAckDeadline name items)) (moment w at) items id seconds;
    }
