-- Delivering messages (API reference, Pull; Pub/Sub documentation, "Dead-letter topics": the delivery attempt is shown only with a dead-letter policy).
use Rattle.std.specs.Prelude.{ℕ, ◌+◌, ◌*◌, Bool, true, false, List, Option, Some, None, map, length, is_some, unwrap_or, if◌then◌else◌}
use Rattle.ps_base.specs.declared.refusal.Refusal.TheVariants.{NotFound, FailedPrecondition}
use Rattle.ps_base.specs.declared.reason.Reason.TheVariants.{Detached}
use Rattle.ps_model.specs.declared.mark.Handed.{Handed}
use Rattle.ps_model.specs.declared.reply.Reply.TheVariants.{Received}
use Rattle.ps_model.specs.declared.reply.ReceivedMessage.{ReceivedMessage}
use Rattle.ps_model.specs.declared.world.World.{World}
use Rattle.ps_model.specs.declared.world.SubRow.{SubRow}
use Rattle.ps_model.specs.declared.world.MessageRow.{MessageRow}
use Rattle.ps_model.specs.Choice.{choice, handed, lent_mark}
use Rattle.ps_model.specs.Worlds.{sub_named, put_sub, message_at, slots_of, remark_at}
use Rattle.ps_model.specs.Outcomes.{Outcome, answers, refuses}

abbrev pub received : SubRow → Handed → MessageRow → ReceivedMessage
received sub h r = record {
  id = record { sub = sub.number; message = h.number; lease = h.lease };
  attempt = if is_some sub.config.dead_letter then Some (h.failures + 1) else None;
  publish = r.publish;
  message = r.message;
}

abbrev pub received_all : World → SubRow → List Handed → List ReceivedMessage
received_all w sub given = map (λ (h : Handed). received sub h (message_at w.messages h.number)) given

-- the choice is delivered under the next leases, which last this many seconds
abbrev pub pull_from : World → ℕ → SubRow → ℕ → ℕ → ℕ → Bool → Outcome
pull_from w t sub most budget seconds true = refuses w (FailedPrecondition Detached)
pull_from w t sub most budget seconds false =
    let slots = slots_of w sub.number in
    let given = handed sub.next_lease (choice t sub.config.ordering most budget slots) in
    answers
    (put_sub (record sub { next_lease = sub.next_lease + length given }) (remark_at sub.number (lent_mark (t + 1000 * seconds) given) w))
    (Received sub.config.exactly_once sub.config.ordering (received_all w sub given))

abbrev pub pull_at : World → ℕ → List ℕ → ℕ → ℕ → Option ℕ → Option SubRow → Outcome
pull_at w t name most budget seconds None = refuses w (NotFound name)
pull_at w t name most budget seconds (Some sub) = pull_from w t sub most budget (unwrap_or seconds sub.config.ack_seconds) sub.detached

abbrev pub pull : World → ℕ → List ℕ → ℕ → ℕ → Option ℕ → Outcome
pull w t name most budget seconds = pull_at w t name most budget seconds (sub_named w name)
