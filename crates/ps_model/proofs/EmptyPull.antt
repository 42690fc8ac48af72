-- A pull is empty exactly where nothing is deliverable.
use Rattle.std.proofs.Common.{ℕ, ◌≡◌, ◌≢◌, ◌<◌, ◌↔◌, min, Bool, true, false, nat_eq, List, [], ◌∷◌, Option, Some, None, map, unwrap_or, option_map, refl, sym, ap, subst, arith, if◌then◌else◌}
use Rattle.std.proofs.lemmas.Bool.{ne_eqb, false≢true}
use Rattle.ps_base.specs.declared.refusal.Refusal.TheVariants.{Exhausted}
use Rattle.ps_base.specs.declared.reason.Reason.TheVariants.{MaxMessages}
use Rattle.ps_message.specs.Limits.{most_messages, most_bytes}
use Rattle.ps_model.specs.declared.command.Command.TheVariants.{Pull}
use Rattle.ps_model.specs.declared.mark.Slot.{Slot}
use Rattle.ps_model.specs.declared.mark.Handed.{Handed}
use Rattle.ps_model.specs.declared.reply.Reply.TheVariants.{Received}
use Rattle.ps_model.specs.declared.reply.ReceivedMessage.{ReceivedMessage}
use Rattle.ps_model.specs.declared.world.World.{World}
use Rattle.ps_model.specs.declared.world.SubRow.{SubRow}
use Rattle.ps_model.specs.Choice.{first_of_them, handed, deliverable, choice}
use Rattle.ps_model.specs.Pulling.{received, pull_from, pull_at}
use Rattle.ps_model.specs.Worlds.{message_at, slots_of, sub_named}
use Rattle.ps_model.specs.Outcomes.{refuses, reply_in}
use Rattle.ps_model.specs.Checks.{lease_seconds}
use Rattle.ps_model.specs.Commands.{checked, is_full}
use Rattle.ps_model.specs.Step.{settled, moment}
use Rattle.ps_model.specs.Laws.{EmptyWhereNothingIs, items_in}

-- what is shown of the first of a list is empty exactly where the list is
shown_empty : {B : Type 0} (show : Handed → B) (most budget lease : ℕ) (xs : List Slot) → 0 < most → 0 < budget → (map show (handed lease (first_of_them most budget xs)) ≡ []) ↔ (xs ≡ [])
shown_empty show most budget lease [] hm hb = (λ e. refl, λ e. refl)
shown_empty show most budget lease (s ∷ ss) hm hb =
    let nm : most ≢ 0 = omega arith in
    let nb : budget ≢ 0 = omega arith in
    rw (ne_eqb most 0 nm, ne_eqb budget 0 nb) ((λ e. absurd (cc (e))), (λ e. absurd (cc (e))))

-- an answer with messages comes from an attached subscription
module _ (v : World) (t : ℕ) (name : List ℕ) (most budget : ℕ) (seconds : Option ℕ) (sub : SubRow) (exactly_once ordering : Bool) (items : List ReceivedMessage) where
  no_fault : (fault : Bool) → fault ≡ false → reply_in (checked v t (Pull name most budget seconds) (if fault then Some MaxMessages else None)) ≡ Received exactly_once ordering items
      → reply_in (if is_full v then refuses v Exhausted else pull_at v t name most budget seconds (sub_named v name)) ≡ Received exactly_once ordering items
  no_fault true none e = absurd (false≢true (sym none))
  no_fault false none e = e

  not_full : (full : Bool) → reply_in (if full then refuses v Exhausted else pull_at v t name most budget seconds (sub_named v name)) ≡ Received exactly_once ordering items
      → reply_in (pull_at v t name most budget seconds (sub_named v name)) ≡ Received exactly_once ordering items
  not_full true e = absurd (cc (e))
  not_full false e = e

  attached : (detached : Bool) (lives : ℕ) → reply_in (pull_from v t sub most budget lives detached) ≡ Received exactly_once ordering items
      → map (λ (h : Handed). received sub h (message_at v.messages h.number)) (handed sub.next_lease (choice t sub.config.ordering most budget (slots_of v sub.number))) ≡ items
  attached true lives e = absurd (cc (e))
  attached false lives e = ap items_in e

pub empty_where_nothing_is : EmptyWhereNothingIs
empty_where_nothing_is w at name most budget seconds sub exactly_once ordering items hm hb told found =
    let t = moment w at in
    let v = settled t w in
    let fewer = min most most_messages in
    let less = min budget most_bytes in
    let read = option_map lease_seconds seconds in
    let some : 0 < fewer = omega arith in
    let room : 0 < less = omega arith in
    let none : nat_eq fewer 0 ≡ false = ne_eqb fewer 0 (omega arith) in
    let open1 = no_fault v t name fewer less read sub exactly_once ordering items (nat_eq fewer 0) none told in
    let open2 = not_full v t name fewer less read sub exactly_once ordering items (is_full v) open1 in
    let open3 = subst (λ (row : Option SubRow). reply_in (pull_at v t name fewer less read row) ≡ Received exactly_once ordering items) found open2 in
    let same = attached v t name fewer less read sub exactly_once ordering items sub.detached (unwrap_or read sub.config.ack_seconds) open3 in
    subst (λ (xs : List ReceivedMessage). (xs ≡ []) ↔ (deliverable t sub.config.ordering (slots_of v sub.number) ≡ [])) same
    (shown_empty (λ h. received sub h (message_at v.messages h.number)) fewer less sub.next_lease (deliverable t sub.config.ordering (slots_of v sub.number)) some room)
