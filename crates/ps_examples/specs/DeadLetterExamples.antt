-- Worked examples: dead letters, that is when a message is one, and a policy whose topic is missing.
use Rattle.std.specs.Prelude.{ℕ, ◌≡◌, false, List, [], ◌∷◌, ◌++◌, Some, None, codes, map}
use Rattle.ps_base.specs.declared.refusal.Refusal.TheVariants.{NotFound, InvalidArgument}
use Rattle.ps_base.specs.declared.reason.Reason.TheVariants.{MaxDeliveryAttempts}
use Rattle.ps_config.specs.declared.config.SubConfig.{SubConfig}
use Rattle.ps_message.specs.declared.message.Message.{Message}
use Rattle.ps_model.specs.declared.command.Command.TheVariants.{Tick, CreateTopic, CreateSubscription, UpdateSubscription, DeleteTopic}
use Rattle.ps_model.specs.declared.mark.Mark.TheVariants.{Backlog, Leased}
use Rattle.ps_model.specs.declared.reply.Reply.TheVariants.{Empty, Subscription, Refused}
use Rattle.ps_model.specs.declared.reply.ReceivedMessage.{ReceivedMessage}
use Rattle.ps_config.specs.Masks.{default_topic, default_sub}
use Rattle.ps_examples.specs.Samples.{Call, told, recorded_of, noted, each_told, each_recorded, marks_after, standing, base, hi, publish_at, pull_of, pull_at, id, out, plain_answer, topic_name, sub_name, other_name}
use Rattle.ps_examples.specs.LeaseExamples.{pulled}

abbrev pub dead_name : List ℕ
dead_name = codes "projects/p/topics/dead"

-- a subscription of the topic of dead letters
abbrev pub letters_name : List ℕ
letters_name = codes "projects/p/subscriptions/dsub"

-- so many failures make a dead letter, which goes to this topic
abbrev pub dying_to : List ℕ → ℕ → SubConfig
dying_to topic attempts = record default_sub { dead_letter = Some (record { topic = topic; attempts = attempts }) }

abbrev pub dying : SubConfig
dying = dying_to dead_name 5

-- both topics, a subscription of the first with these settings and one of the second, at 1000
abbrev pub two_topics : SubConfig → List Call
two_topics config =
    (1000, CreateTopic topic_name default_topic) ∷ (1000, CreateTopic dead_name default_topic)
    ∷ (1000, CreateSubscription sub_name topic_name config) ∷ (1000, CreateSubscription letters_name dead_name default_sub) ∷ []

-- a pull at the end of each lease, five in all
abbrev pub five_pulls : List Call
five_pulls = pull_at 2000 1 ∷ pull_at 12000 1 ∷ pull_at 22000 1 ∷ pull_at 32000 1 ∷ pull_at 42000 1 ∷ []

-- this message goes out five times
abbrev pub five_times_with : SubConfig → Message → List Call
five_times_with config m = two_topics config ++ (publish_at 1000 (m ∷ []) ∷ five_pulls)

abbrev pub five_times : List Call
five_times = five_times_with dying hi

-- before the last of these leases ends, the topic of dead letters is deleted
abbrev pub without_topic : List Call
without_topic = five_times ++ (45000, DeleteTopic dead_name) ∷ []

-- a message with the number of its delivery, published at 1000
abbrev pub attempt : ℕ → ℕ → ℕ → Message → ReceivedMessage
attempt message lease number m = record (out (id 1 message lease) m) { attempt = Some number }

abbrev pub nowhere : List ℕ
nowhere = codes "projects/p/topics/nowhere"

pub record DeadLetterExamples : Type 0 where
  -- the deliveries are counted from 1
  pub deliveries : each_told (two_topics dying ++ publish_at 1000 (hi ∷ []) ∷ []) five_pulls ≡
      plain_answer (attempt 1 1 1 hi ∷ []) ∷ plain_answer (attempt 1 2 2 hi ∷ []) ∷ plain_answer (attempt 1 3 3 hi ∷ []) ∷ plain_answer (attempt 1 4 4 hi ∷ []) ∷ plain_answer (attempt 1 5 5 hi ∷ []) ∷ []
  pub deliveries_are_recorded : each_recorded (two_topics dying ++ publish_at 1000 (hi ∷ []) ∷ []) five_pulls ≡ map noted five_pulls
  -- four failures make no dead letter yet
  pub fifth_lease : marks_after five_times ≡ standing 1 1 (Leased 4 5 52000) ∷ []
  pub before_the_fifth_failure : told five_times (51999, pull_of letters_name 1) ≡ plain_answer []
  pub nothing_is_recorded_then : recorded_of five_times (51999, pull_of letters_name 1) ≡ None
  -- with the fifth one the message has left the subscription
  pub nothing_left : told five_times (pull_at 52000 1) ≡ plain_answer []
  -- where the topic of dead letters is gone, the message comes again, and its failures go on
  pub topic_deleted : told five_times (45000, DeleteTopic dead_name) ≡ Empty
  pub sixth_delivery : told without_topic (pull_at 52000 1) ≡ plain_answer (attempt 1 6 6 hi ∷ [])
  pub sixth_delivery_is_recorded : recorded_of without_topic (pull_at 52000 1) ≡ noted (pull_at 52000 1)
  pub back_to_the_backlog : marks_after (without_topic ++ (52000, Tick) ∷ []) ≡ standing 1 1 (Backlog 5 0 (Some 5)) ∷ []
  -- a policy needs its topic when it is set
  pub no_such_topic : told base (1000, CreateSubscription other_name topic_name dying) ≡ Refused (NotFound dead_name)
  pub nothing_is_recorded_of_it : recorded_of base (1000, CreateSubscription other_name topic_name dying) ≡ None
  pub neither_topic : told base (1000, CreateSubscription other_name nowhere dying) ≡ Refused (NotFound nowhere)
  pub no_such_topic_on_a_taken_name : told base (1000, CreateSubscription sub_name topic_name dying) ≡ Refused (NotFound dead_name)
  pub no_such_topic_in_an_update : told base (1000, UpdateSubscription sub_name (record { 0 = 32 }) dying) ≡ Refused (NotFound dead_name)
  pub no_subscription_to_update : told base (1000, UpdateSubscription other_name (record { 0 = 32 }) dying) ≡ Refused (NotFound other_name)
  -- an update that doesn't name the policy doesn't look for its topic
  pub policy_not_named : told base (1000, UpdateSubscription sub_name (record { 0 = 1 }) (record dying { ack_seconds = 20 })) ≡ Subscription (record { name = sub_name; topic = Some topic_name; config = record default_sub { ack_seconds = 20 }; detached = false; topic_retention = None })
  -- a policy that is set later counts the failures from before
  pub set_later : told (pulled ++ ((2500, CreateTopic dead_name default_topic) ∷ (2500, UpdateSubscription sub_name (record { 0 = 32 }) dying) ∷ [])) (pull_at 12000 1) ≡ plain_answer (attempt 1 2 2 hi ∷ [])
  -- 5 to 100 failures, looked at before the topic
  pub too_few : told base (1000, CreateSubscription other_name topic_name (dying_to dead_name 4)) ≡ Refused (InvalidArgument MaxDeliveryAttempts)
  pub too_many : told base (1000, CreateSubscription other_name topic_name (dying_to dead_name 101)) ≡ Refused (InvalidArgument MaxDeliveryAttempts)
  pub most : told base (1000, CreateSubscription other_name topic_name (dying_to topic_name 100)) ≡ Subscription (record { name = other_name; topic = Some topic_name; config = dying_to topic_name 100; detached = false; topic_retention = None })
