-- Worked examples: which ids acknowledge, in both modes.
use Rattle.std.specs.Prelude.{◌≡◌, true, false, List, [], ◌∷◌, ◌++◌, None}
use Rattle.ps_base.specs.declared.refusal.Refusal.TheVariants.{NotFound, InvalidArgument}
use Rattle.ps_base.specs.declared.reason.Reason.TheVariants.{AckIds}
use Rattle.ps_config.specs.declared.config.SubConfig.{SubConfig}
use Rattle.ps_model.specs.declared.command.Command.TheVariants.{Acknowledge, CreateSubscription}
use Rattle.ps_model.specs.declared.mark.Mark.TheVariants.{Leased}
use Rattle.ps_model.specs.declared.reply.Reply.TheVariants.{Acked, Received, Refused}
use Rattle.ps_config.specs.Masks.{default_sub}
use Rattle.ps_examples.specs.Samples.{Call, told, recorded_of, noted, counted, marks_after, standing, base, base_with, hi, publish_at, pull_of, pull_at, id, ack_at, give_up_at, out, plain_answer, topic_name, other_name}
use Rattle.ps_examples.specs.LeaseExamples.{pulled, pulled_with, exactly_once}

abbrev pub once_pulled : List Call
once_pulled = pulled_with exactly_once

abbrev pub once_acknowledged : List Call
once_acknowledged = once_pulled ++ ack_at 3000 (id 1 1 1 ∷ []) ∷ []

-- two subscriptions of one topic with these settings, each with the message out under its own first lease
abbrev pub both_pulled : SubConfig → List Call
both_pulled config = base_with config ++ ((1000, CreateSubscription other_name topic_name config) ∷ publish_at 1000 (hi ∷ []) ∷ pull_at 2000 1 ∷ (2000, pull_of other_name 1) ∷ [])

-- two messages are published and pulled in exactly-once mode
abbrev pub two_pulled : List Call
two_pulled = base_with exactly_once ++ (publish_at 1000 (hi ∷ hi ∷ []) ∷ pull_at 2000 2 ∷ [])

pub record AcknowledgeExamples : Type 0 where
  -- in exactly-once mode an acknowledgement ends the lease, so that the same one fails
  pub once_in_time : told once_pulled (ack_at 3000 (id 1 1 1 ∷ [])) ≡ Acked true [] []
  pub entries_after_once : (counted once_acknowledged).entries ≡ 5
  pub once_again : told once_acknowledged (ack_at 3000 (id 1 1 1 ∷ [])) ≡ Acked true (id 1 1 1 ∷ []) []
  pub once_again_unrecorded : recorded_of once_acknowledged (ack_at 3000 (id 1 1 1 ∷ [])) ≡ None
  pub entries_after_again : (counted (once_acknowledged ++ ack_at 3000 (id 1 1 1 ∷ []) ∷ [])).entries ≡ 5
  -- an id that is given twice in one request counts once, in both modes, and is recorded as it came
  pub once_given_twice : told once_pulled (ack_at 3000 (id 1 1 1 ∷ id 1 1 1 ∷ [])) ≡ Acked true [] []
  pub once_given_twice_recorded : recorded_of once_pulled (ack_at 3000 (id 1 1 1 ∷ id 1 1 1 ∷ [])) ≡ noted (ack_at 3000 (id 1 1 1 ∷ id 1 1 1 ∷ []))
  pub entries_after_given_twice : (counted (once_pulled ++ ack_at 3000 (id 1 1 1 ∷ id 1 1 1 ∷ []) ∷ [])).entries ≡ 5
  pub given_twice : told pulled (ack_at 3000 (id 1 1 1 ∷ id 1 1 1 ∷ [])) ≡ Acked false [] []
  pub nothing_after_given_twice : told (pulled ++ ack_at 3000 (id 1 1 1 ∷ id 1 1 1 ∷ []) ∷ []) (pull_at 12000 1) ≡ plain_answer []
  -- ids that fail are told in the order of the request, and each once
  pub failed_ids : told once_pulled (ack_at 3000 (id 1 2 1 ∷ id 1 1 7 ∷ id 1 2 1 ∷ [])) ≡ Acked true (id 1 2 1 ∷ id 1 1 7 ∷ []) []
  pub failed_ids_unrecorded : recorded_of once_pulled (ack_at 3000 (id 1 2 1 ∷ id 1 1 7 ∷ id 1 2 1 ∷ [])) ≡ None
  -- the others of the request take effect
  pub one_of_two : told two_pulled (ack_at 3000 (id 1 1 1 ∷ id 1 2 9 ∷ [])) ≡ Acked true (id 1 2 9 ∷ []) []
  pub one_of_two_recorded : recorded_of two_pulled (ack_at 3000 (id 1 1 1 ∷ id 1 2 9 ∷ [])) ≡ noted (ack_at 3000 (id 1 1 1 ∷ id 1 2 9 ∷ []))
  pub the_other_of_two : told (two_pulled ++ ack_at 3000 (id 1 1 1 ∷ id 1 2 9 ∷ []) ∷ []) (pull_at 12000 2) ≡ Received true false (out (id 1 2 3) hi ∷ [])
  -- an id of another subscription names no lease of this one, though message and lease have the same numbers
  pub of_another : told (both_pulled default_sub) (ack_at 3000 (id 2 1 1 ∷ [])) ≡ Acked false [] []
  pub of_another_unrecorded : recorded_of (both_pulled default_sub) (ack_at 3000 (id 2 1 1 ∷ [])) ≡ None
  pub still_out_on_both : marks_after (both_pulled default_sub ++ ack_at 3000 (id 2 1 1 ∷ []) ∷ []) ≡ standing 1 1 (Leased 0 1 12000) ∷ standing 2 1 (Leased 0 1 12000) ∷ []
  pub once_of_another : told (both_pulled exactly_once) (ack_at 3000 (id 2 1 1 ∷ [])) ≡ Acked true (id 2 1 1 ∷ []) []
  -- a lease before the last one doesn't count, in neither mode
  pub before_the_last : told (pulled ++ pull_at 12000 1 ∷ []) (ack_at 12000 (id 1 1 1 ∷ [])) ≡ Acked false [] []
  pub before_the_last_unrecorded : recorded_of (pulled ++ pull_at 12000 1 ∷ []) (ack_at 12000 (id 1 1 1 ∷ [])) ≡ None
  -- a lease that was given up counts as a late one does
  pub given_up : told (pulled ++ (give_up_at 3000 (id 1 1 1 ∷ []) ∷ ack_at 3000 (id 1 1 1 ∷ []) ∷ [])) (pull_at 3000 1) ≡ plain_answer []
  -- what was never out can't be acknowledged
  pub never_out : told (base ++ (publish_at 1000 (hi ∷ []) ∷ ack_at 1000 (id 1 1 1 ∷ []) ∷ [])) (pull_at 2000 1) ≡ plain_answer (out (id 1 1 1) hi ∷ [])
  -- refusals
  pub no_ids : told pulled (ack_at 3000 []) ≡ Refused (InvalidArgument AckIds)
  pub no_subscription : told pulled (3000, Acknowledge other_name (id 1 1 1 ∷ [])) ≡ Refused (NotFound other_name)
