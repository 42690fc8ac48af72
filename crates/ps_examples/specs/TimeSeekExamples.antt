-- Worked examples: seeks to a time.
use Rattle.std.specs.Prelude.{ℕ, ◌≡◌, true, false, List, [], ◌∷◌, ◌++◌, None}
use Rattle.ps_base.specs.declared.reason.Reason.TheVariants.{Detached}
use Rattle.ps_config.specs.declared.config.SubConfig.{SubConfig}
use Rattle.ps_model.specs.declared.command.Command.TheVariants.{CreateSubscription, SeekTime}
use Rattle.ps_model.specs.declared.reply.Reply.TheVariants.{Empty, Acked}
use Rattle.ps_config.specs.Masks.{default_sub}
use Rattle.ps_examples.specs.Samples.{Call, told, recorded_of, counted, base, base_with, hi, publish_at, pull_at, id, ack_at, modify_at, out, plain_answer, topic_name, sub_name, none_named, not_allowed, noted}
use Rattle.ps_examples.specs.PublishExamples.{keeping_topic}
use Rattle.ps_examples.specs.RefusalExamples.{detached}
use Rattle.ps_examples.specs.DetachExamples.{retaining, exactly_once}
use Rattle.ps_examples.specs.SnapshotExamples.{out_since}

abbrev pub seek_at : ℕ → ℕ → Call
seek_at t time = (t, SeekTime sub_name time)

-- of two messages the first is acknowledged and the second is out; acknowledged ones are kept
abbrev pub two_with : SubConfig → List Call
two_with config = base_with config ++ publish_at 1000 (hi ∷ []) ∷ publish_at 1500 (hi ∷ []) ∷ pull_at 2000 2 ∷ ack_at 2500 (id 1 1 1 ∷ []) ∷ []

abbrev pub two : List Call
two = two_with retaining

-- a message was out, and its lease was given up
abbrev pub given_up : List Call
given_up = base ++ publish_at 1000 (hi ∷ []) ∷ pull_at 2000 1 ∷ modify_at 3000 ((id 1 1 1, 0) ∷ []) ∷ []

abbrev pub year_2000 : ℕ
year_2000 = 946684800000

-- a topic that keeps messages for 10 minutes, a message, and behind it a subscription
abbrev pub made_at : ℕ → List Call
made_at t = keeping_topic ++ publish_at 1000 (hi ∷ []) ∷ (t, CreateSubscription sub_name topic_name default_sub) ∷ []

pub record TimeSeekExamples : Type 0 where
  -- what was published at the time or behind it is open again, and all leases have ended
  pub sought : told two (seek_at 3000 1000) ≡ Empty
  pub recorded : recorded_of two (seek_at 3000 1000) ≡ noted (seek_at 3000 1000)
  pub both_open : told (two ++ seek_at 3000 1000 ∷ []) (pull_at 3000 10) ≡ plain_answer (out_since 1000 (id 1 1 3) ∷ out_since 1500 (id 1 2 4) ∷ [])
  pub counts_of_both_open : counted (two ++ seek_at 3000 1000 ∷ []) ≡ record { entries = 7; now = 3000; topics = 1; subscriptions = 1; snapshots = 0; messages = 2; backlog = 2; leased = 0; acknowledged = 0; dead_lettered = 0 }
  pub former_lease : told (two ++ seek_at 3000 1000 ∷ []) (ack_at 3000 (id 1 2 2 ∷ [])) ≡ Acked false [] []
  pub former_lease_is_not_recorded : recorded_of (two ++ seek_at 3000 1000 ∷ []) (ack_at 3000 (id 1 2 2 ∷ [])) ≡ None
  pub former_lease_exactly_once : told (two_with exactly_once ++ seek_at 3000 1000 ∷ []) (ack_at 3000 (id 1 2 2 ∷ [])) ≡ Acked true (id 1 2 2 ∷ []) []
  -- of a message that waits again it forgets the lease, which counts as a change
  pub given_up_and_sought : recorded_of given_up (seek_at 3500 0) ≡ noted (seek_at 3500 0)
  pub lease_is_forgotten : recorded_of (given_up ++ seek_at 3500 0 ∷ []) (ack_at 3500 (id 1 1 1 ∷ [])) ≡ None
  -- what was published before the time is acknowledged
  pub second_open : told (two ++ seek_at 3000 1001 ∷ []) (pull_at 3000 10) ≡ plain_answer (out_since 1500 (id 1 2 3) ∷ [])
  pub none_open : told (two ++ seek_at 3000 1501 ∷ []) (pull_at 3000 10) ≡ plain_answer []
  pub counts_of_none_open : counted (two ++ seek_at 3000 1501 ∷ []) ≡ record { entries = 7; now = 3000; topics = 1; subscriptions = 1; snapshots = 0; messages = 2; backlog = 0; leased = 0; acknowledged = 2; dead_lettered = 0 }
  pub former_lease_of_none : recorded_of (two ++ seek_at 3000 1501 ∷ []) (ack_at 3000 (id 1 2 2 ∷ [])) ≡ None
  -- a seek that changes nothing isn't recorded
  pub again : recorded_of (two ++ seek_at 3000 1501 ∷ []) (seek_at 3000 1501) ≡ None
  pub of_no_message : told base (seek_at 1000 year_2000) ≡ Empty
  pub of_no_message_is_not_recorded : recorded_of base (seek_at 1000 year_2000) ≡ None
  -- a seek to a time to come doesn't touch what is published behind the seek
  pub published_behind_it : told (base ++ seek_at 1000 year_2000 ∷ publish_at 1000 (hi ∷ []) ∷ []) (pull_at 1000 1) ≡ plain_answer (out (id 1 1 1) hi ∷ [])
  pub published_before_it : told (base ++ publish_at 1000 (hi ∷ []) ∷ seek_at 1000 year_2000 ∷ []) (pull_at 1000 1) ≡ plain_answer []
  pub published_on_either_side : told (base ++ publish_at 1000 (hi ∷ []) ∷ seek_at 1000 year_2000 ∷ publish_at 2000 (hi ∷ []) ∷ []) (pull_at 2000 10) ≡ plain_answer (out_since 2000 (id 1 2 1) ∷ [])
  -- a subscription that was made behind a message has it as acknowledged while the topic keeps it
  pub made_in_time : told (made_at 2000) (pull_at 2000 10) ≡ plain_answer []
  pub made_in_time_and_sought : told (made_at 2000 ++ seek_at 3000 1000 ∷ []) (pull_at 3000 10) ≡ plain_answer (out (id 1 1 1) hi ∷ [])
  pub made_too_late_and_sought : told (made_at 601000 ++ seek_at 601000 1000 ∷ []) (pull_at 601000 10) ≡ plain_answer []
  pub made_just_in_time_and_sought : told (made_at 600999 ++ seek_at 600999 1000 ∷ []) (pull_at 600999 10) ≡ plain_answer (out (id 1 1 1) hi ∷ [])
  -- a detached subscription isn't sought
  pub of_a_detached_one : told detached (seek_at 3000 1000) ≡ not_allowed Detached
  pub of_none : told [] (seek_at 3000 1000) ≡ none_named sub_name
