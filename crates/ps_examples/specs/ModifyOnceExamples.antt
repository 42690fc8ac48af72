-- Worked examples: deadlines and leases given up in exactly-once mode.
use Rattle.std.specs.Prelude.{◌≡◌, true, false, [], ◌∷◌, ◌++◌, Some, None}
use Rattle.ps_model.specs.declared.mark.Mark.TheVariants.{Backlog, Leased}
use Rattle.ps_model.specs.declared.reply.Reply.TheVariants.{Acked, Modified, Received}
use Rattle.ps_examples.specs.Samples.{told, recorded_of, tick_at, marks_after, standing, hi, pull_at, id, ack_at, modify_at, give_up_at, out}
use Rattle.ps_examples.specs.AcknowledgeExamples.{once_pulled, two_pulled, both_pulled}
use Rattle.ps_examples.specs.LeaseExamples.{exactly_once}

pub record ModifyOnceExamples : Type 0 where
  -- a living lease
  pub put_off : told once_pulled (modify_at 3000 ((id 1 1 1, 10) ∷ [])) ≡ Modified true []
  pub put_off_mark : marks_after (once_pulled ++ modify_at 3000 ((id 1 1 1, 10) ∷ []) ∷ []) ≡ standing 1 1 (Leased 0 1 13000) ∷ []
  pub given_up : told once_pulled (give_up_at 3000 (id 1 1 1 ∷ [])) ≡ Modified true []
  -- a lease that ended is told, whatever the seconds, and each once
  pub ended : told once_pulled (modify_at 12000 ((id 1 1 1, 60) ∷ [])) ≡ Modified true (id 1 1 1 ∷ [])
  pub ended_is_a_tick : recorded_of once_pulled (modify_at 12000 ((id 1 1 1, 60) ∷ [])) ≡ tick_at 12000
  pub ended_with_0 : told once_pulled (give_up_at 12000 (id 1 1 1 ∷ [])) ≡ Modified true (id 1 1 1 ∷ [])
  pub ended_twice : told once_pulled (modify_at 12000 ((id 1 1 1, 60) ∷ (id 1 1 1, 0) ∷ [])) ≡ Modified true (id 1 1 1 ∷ [])
  pub out_again : told (once_pulled ++ modify_at 12000 ((id 1 1 1, 60) ∷ []) ∷ []) (pull_at 12000 1) ≡ Received true false (out (id 1 1 2) hi ∷ [])
  -- ids that fail are told in the order of the request
  pub failed_ids : told once_pulled (modify_at 3000 ((id 1 2 1, 60) ∷ (id 1 1 7, 0) ∷ (id 1 2 1, 0) ∷ [])) ≡ Modified true (id 1 2 1 ∷ id 1 1 7 ∷ [])
  pub failed_ids_unrecorded : recorded_of once_pulled (modify_at 3000 ((id 1 2 1, 60) ∷ (id 1 1 7, 0) ∷ (id 1 2 1, 0) ∷ [])) ≡ None
  -- the others of the request take effect
  pub one_of_two : told two_pulled (modify_at 3000 ((id 1 1 9, 0) ∷ (id 1 2 2, 0) ∷ (id 1 1 1, 60) ∷ [])) ≡ Modified true (id 1 1 9 ∷ [])
  pub marks_of_two : marks_after (two_pulled ++ modify_at 3000 ((id 1 1 9, 0) ∷ (id 1 2 2, 0) ∷ (id 1 1 1, 60) ∷ []) ∷ []) ≡ standing 1 1 (Leased 0 1 63000) ∷ standing 1 2 (Backlog 1 0 (Some 2)) ∷ []
  -- an id of another subscription
  pub of_another : told (both_pulled exactly_once) (give_up_at 3000 (id 2 1 1 ∷ [])) ≡ Modified true (id 2 1 1 ∷ [])
  pub of_another_unrecorded : recorded_of (both_pulled exactly_once) (give_up_at 3000 (id 2 1 1 ∷ [])) ≡ None
  -- a lease that was given up acknowledges nothing, though it was the last one
  pub given_up_for_good : told (once_pulled ++ give_up_at 3000 (id 1 1 1 ∷ []) ∷ []) (ack_at 3000 (id 1 1 1 ∷ [])) ≡ Acked true (id 1 1 1 ∷ []) []
  -- a deadline of an acknowledged message is moved no more
  pub acknowledged : told (once_pulled ++ ack_at 3000 (id 1 1 1 ∷ []) ∷ []) (modify_at 3000 ((id 1 1 1, 60) ∷ [])) ≡ Modified true (id 1 1 1 ∷ [])
