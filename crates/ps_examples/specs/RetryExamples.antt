-- Worked examples: how long a message rests after a failure.
use Rattle.std.specs.Prelude.{ℕ, ◌≡◌, false, List, [], ◌∷◌, ◌++◌, Some, None}
use Rattle.ps_base.specs.declared.refusal.Refusal.TheVariants.{InvalidArgument}
use Rattle.ps_base.specs.declared.reason.Reason.TheVariants as reason
use Rattle.ps_config.specs.declared.config.SubConfig.{SubConfig}
use Rattle.ps_model.specs.declared.command.Command.TheVariants.{CreateSubscription}
use Rattle.ps_model.specs.declared.mark.Mark.TheVariants.{Backlog, Leased}
use Rattle.ps_model.specs.declared.reply.Reply.TheVariants.{Modified, Refused}
use Rattle.ps_model.specs.declared.reply.ReceivedMessage.{ReceivedMessage}
use Rattle.ps_config.specs.Masks.{default_sub}
use Rattle.ps_examples.specs.Samples.{Call, told, recorded_of, noted, tick_at, each_told, each_recorded, marks_after, standing, base, hi, pull_at, id, give_up_at, out, plain_answer, topic_name, other_name}
use Rattle.ps_examples.specs.LeaseExamples.{pulled_with}

-- with these least and greatest delays, in milliseconds
abbrev pub resting : ℕ → ℕ → SubConfig
resting least most = record default_sub { retry = Some (record { least = least; most = most }) }

-- one message is out with delays from 10 to 60 seconds
abbrev pub rested : List Call
rested = pulled_with (resting 10000 60000)

-- it is given up and pulled, before its time and in time, and then its lease ends
abbrev pub two_rests : List Call
two_rests = give_up_at 3000 (id 1 1 1 ∷ []) ∷ pull_at 12999 1 ∷ pull_at 13000 1 ∷ pull_at 23000 1 ∷ pull_at 42999 1 ∷ pull_at 43000 1 ∷ []

-- it is given up again and again, each time as soon as it is out
abbrev pub five_rests : List Call
five_rests =
    give_up_at 3000 (id 1 1 1 ∷ []) ∷ pull_at 12999 1 ∷ pull_at 13000 1
    ∷ give_up_at 13000 (id 1 1 2 ∷ []) ∷ pull_at 32999 1 ∷ pull_at 33000 1
    ∷ give_up_at 33000 (id 1 1 3 ∷ []) ∷ pull_at 72999 1 ∷ pull_at 73000 1
    ∷ give_up_at 73000 (id 1 1 4 ∷ []) ∷ pull_at 132999 1 ∷ pull_at 133000 1
    ∷ give_up_at 133000 (id 1 1 5 ∷ []) ∷ pull_at 192999 1 ∷ pull_at 193000 1 ∷ []

-- the one message under this lease
abbrev pub out_as : ℕ → List ReceivedMessage
out_as lease = out (id 1 1 lease) hi ∷ []

pub record RetryExamples : Type 0 where
  -- 10 seconds after the first failure and 20 after the second, to the millisecond
  pub two_rests_told : each_told rested two_rests ≡ Modified false [] ∷ plain_answer [] ∷ plain_answer (out_as 2) ∷ plain_answer [] ∷ plain_answer [] ∷ plain_answer (out_as 3) ∷ []
  pub two_rests_recorded : each_recorded rested two_rests ≡ noted (give_up_at 3000 (id 1 1 1 ∷ [])) ∷ None ∷ noted (pull_at 13000 1) ∷ tick_at 23000 ∷ None ∷ noted (pull_at 43000 1) ∷ []
  pub first_rest : marks_after (rested ++ give_up_at 3000 (id 1 1 1 ∷ []) ∷ []) ≡ standing 1 1 (Backlog 1 13000 (Some 1)) ∷ []
  pub second_rest : marks_after (rested ++ (give_up_at 3000 (id 1 1 1 ∷ []) ∷ pull_at 13000 1 ∷ pull_at 23000 1 ∷ [])) ≡ standing 1 1 (Backlog 2 43000 (Some 2)) ∷ []
  pub out_after_two : marks_after (rested ++ two_rests) ≡ standing 1 1 (Leased 2 3 53000) ∷ []
  -- each delay is twice the one before, up to the greatest: 10, 20, 40, 60 and 60 seconds
  pub five_rests_told : each_told rested five_rests ≡
      Modified false [] ∷ plain_answer [] ∷ plain_answer (out_as 2)
      ∷ Modified false [] ∷ plain_answer [] ∷ plain_answer (out_as 3)
      ∷ Modified false [] ∷ plain_answer [] ∷ plain_answer (out_as 4)
      ∷ Modified false [] ∷ plain_answer [] ∷ plain_answer (out_as 5)
      ∷ Modified false [] ∷ plain_answer [] ∷ plain_answer (out_as 6) ∷ []
  -- the delay counts from the moment at which the failure is met, not from the deadline
  pub met_late : told rested (pull_at 20000 1) ≡ plain_answer []
  pub met_late_is_a_tick : recorded_of rested (pull_at 20000 1) ≡ tick_at 20000
  pub met_late_rest : marks_after (rested ++ pull_at 20000 1 ∷ []) ≡ standing 1 1 (Backlog 1 30000 (Some 1)) ∷ []
  pub before_its_end : told (rested ++ pull_at 20000 1 ∷ []) (pull_at 29999 1) ≡ plain_answer []
  pub at_its_end : told (rested ++ pull_at 20000 1 ∷ []) (pull_at 30000 1) ≡ plain_answer (out_as 2)
  -- where nothing came by, the first pull after the deadline meets the failure, and the rest begins then
  pub long_after : told rested (pull_at 1000000 1) ≡ plain_answer []
  -- a least delay above the greatest is accepted, and then the greatest counts
  pub least_above_most : marks_after (pulled_with (resting 60000 10000) ++ give_up_at 3000 (id 1 1 1 ∷ []) ∷ []) ≡ standing 1 1 (Backlog 1 13000 (Some 1)) ∷ []
  pub least_above_most_before : told (pulled_with (resting 60000 10000) ++ give_up_at 3000 (id 1 1 1 ∷ []) ∷ []) (pull_at 12999 1) ≡ plain_answer []
  pub least_above_most_then : told (pulled_with (resting 60000 10000) ++ give_up_at 3000 (id 1 1 1 ∷ []) ∷ []) (pull_at 13000 1) ≡ plain_answer (out_as 2)
  -- delays of nothing
  pub no_rest : told (pulled_with (resting 0 0) ++ give_up_at 3000 (id 1 1 1 ∷ []) ∷ []) (pull_at 3000 1) ≡ plain_answer (out_as 2)
  pub no_least : told (pulled_with (resting 0 60000) ++ give_up_at 3000 (id 1 1 1 ∷ []) ∷ []) (pull_at 3000 1) ≡ plain_answer (out_as 2)
  -- delays of more than 10 minutes are refused
  pub least_too_long : told base (1000, CreateSubscription other_name topic_name (resting 600001 600000)) ≡ Refused (InvalidArgument reason.RetryPolicy)
  pub most_too_long : told base (1000, CreateSubscription other_name topic_name (resting 600000 600001)) ≡ Refused (InvalidArgument reason.RetryPolicy)
