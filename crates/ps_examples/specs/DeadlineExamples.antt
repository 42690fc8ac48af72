-- Worked examples: deadlines that are moved, and leases that are given up.
use Rattle.std.specs.Prelude.{ℕ, ◌≡◌, false, List, [], ◌∷◌, ◌++◌, Some, None}
use Rattle.ps_base.specs.declared.refusal.Refusal.TheVariants.{NotFound, InvalidArgument}
use Rattle.ps_base.specs.declared.reason.Reason.TheVariants.{AckIds, AckDeadlineSeconds}
use Rattle.ps_model.specs.declared.command.Command.TheVariants.{CreateSubscription, ModifyAckDeadline}
use Rattle.ps_model.specs.declared.mark.Mark.TheVariants.{Backlog, Leased}
use Rattle.ps_model.specs.declared.reply.Reply.TheVariants.{Modified, Refused}
use Rattle.ps_config.specs.Masks.{default_sub}
use Rattle.ps_examples.specs.Samples.{Call, told, recorded_of, noted, tick_at, marks_after, standing, hi, pull_at, id, modify_at, give_up_at, out, plain_answer, topic_name, other_name, base}
use Rattle.ps_examples.specs.LeaseExamples.{pulled}

-- the lease of the one message gets so many seconds at 3000
abbrev pub moved : ℕ → List Call
moved seconds = pulled ++ modify_at 3000 ((id 1 1 1, seconds) ∷ []) ∷ []

-- one request names the lease with these seconds, one after the other
abbrev pub named_twice : ℕ → ℕ → List Call
named_twice first second = pulled ++ modify_at 3000 ((id 1 1 1, first) ∷ (id 1 1 1, second) ∷ []) ∷ []

pub record DeadlineExamples : Type 0 where
  -- seconds count from the moment of the request, and the lease lives until just before them
  pub put_off : told pulled (modify_at 3000 ((id 1 1 1, 10) ∷ [])) ≡ Modified false []
  pub put_off_is_recorded : recorded_of pulled (modify_at 3000 ((id 1 1 1, 10) ∷ [])) ≡ noted (modify_at 3000 ((id 1 1 1, 10) ∷ []))
  pub just_before_it : told (moved 10) (pull_at 12999 1) ≡ plain_answer []
  pub just_at_it : told (moved 10) (pull_at 13000 1) ≡ plain_answer (out (id 1 1 2) hi ∷ [])
  -- a deadline can come nearer
  pub brought_near : marks_after (moved 1) ≡ standing 1 1 (Leased 0 1 4000) ∷ []
  pub just_before_the_near_one : told (moved 1) (pull_at 3999 1) ≡ plain_answer []
  pub at_the_near_one : told (moved 1) (pull_at 4000 1) ≡ plain_answer (out (id 1 1 2) hi ∷ [])
  -- the same deadline again changes nothing
  pub the_same_deadline : recorded_of pulled (modify_at 2000 ((id 1 1 1, 10) ∷ [])) ≡ None
  -- 0 gives the lease up, and without a retry policy the message goes out again at once
  pub given_up : told pulled (give_up_at 3000 (id 1 1 1 ∷ [])) ≡ Modified false []
  pub mark_after_giving_up : marks_after (moved 0) ≡ standing 1 1 (Backlog 1 0 (Some 1)) ∷ []
  pub out_again_at_once : told (moved 0) (pull_at 3000 1) ≡ plain_answer (out (id 1 1 2) hi ∷ [])
  -- of two items with one lease the last one counts
  pub last_keeps : marks_after (named_twice 0 60) ≡ standing 1 1 (Leased 0 1 63000) ∷ []
  pub last_keeps_until : told (named_twice 0 60) (pull_at 62999 1) ≡ plain_answer []
  pub last_keeps_no_longer : told (named_twice 0 60) (pull_at 63000 1) ≡ plain_answer (out (id 1 1 2) hi ∷ [])
  pub last_gives_up : told (named_twice 60 0) (pull_at 3000 1) ≡ plain_answer (out (id 1 1 2) hi ∷ [])
  pub last_counts_once : marks_after (named_twice 0 0) ≡ standing 1 1 (Backlog 1 0 (Some 1)) ∷ []
  -- a lease that ended is beyond help, outside exactly-once mode without a word
  pub ended : told pulled (modify_at 12000 ((id 1 1 1, 60) ∷ [])) ≡ Modified false []
  pub ended_is_a_tick : recorded_of pulled (modify_at 12000 ((id 1 1 1, 60) ∷ [])) ≡ tick_at 12000
  pub out_again : told (pulled ++ modify_at 12000 ((id 1 1 1, 60) ∷ []) ∷ []) (pull_at 12000 1) ≡ plain_answer (out (id 1 1 2) hi ∷ [])
  -- refusals: more than 600 seconds, no ids, no such subscription
  pub too_long : told pulled (modify_at 3000 ((id 1 1 1, 601) ∷ [])) ≡ Refused (InvalidArgument AckDeadlineSeconds)
  pub longest : marks_after (moved 600) ≡ standing 1 1 (Leased 0 1 603000) ∷ []
  pub no_ids : told pulled (modify_at 3000 []) ≡ Refused (InvalidArgument AckIds)
  pub no_subscription : told pulled (3000, ModifyAckDeadline other_name ((id 1 1 1, 10) ∷ [])) ≡ Refused (NotFound other_name)
  pub too_long_for_all : told base (1000, CreateSubscription other_name topic_name (record default_sub { ack_seconds = 601 })) ≡ Refused (InvalidArgument AckDeadlineSeconds)
