-- Worked examples: dead letters as the other topic has them.
use Rattle.std.specs.Prelude.{ℕ, ◌≡◌, false, true, List, [], ◌∷◌, ◌++◌, None, codes}
use Rattle.ps_config.specs.declared.config.SubConfig.{SubConfig}
use Rattle.ps_message.specs.declared.message.Message.{Message}
use Rattle.ps_model.specs.declared.command.Command.TheVariants.{Tick, CreateTopic, CreateSubscription}
use Rattle.ps_model.specs.declared.mark.Mark.TheVariants.{Backlog, Done}
use Rattle.ps_model.specs.declared.mark.DoneCause.TheVariants.{Dead}
use Rattle.ps_model.specs.declared.reply.Reply.TheVariants.{Published, Received}
use Rattle.ps_model.specs.declared.reply.ReceivedMessage.{ReceivedMessage}
use Rattle.ps_model.specs.Timestamps.{timestamp}
use Rattle.ps_config.specs.Masks.{default_topic, default_sub}
use Rattle.ps_examples.specs.Samples.{Call, told, recorded_of, noted, tick_at, counted, marks_after, standing, base_with, hi, publish_at, pull_of, pull_at, id, give_up_at, out, plain_answer, topic_name, other_name}
use Rattle.ps_examples.specs.OrderingExamples.{of_k}
use Rattle.ps_examples.specs.DeadLetterExamples.{dead_name, letters_name, dying, dying_to, two_topics, five_times_with, five_times, five_pulls, without_topic, attempt}

-- the message as a dead letter, from a subscription of this name after so many failures
abbrev pub letter : List ℕ → List ℕ → Message
letter sub failures = record hi {
  attributes =
      (codes "CloudPubSubDeadLetterSourceDeliveryCount", failures)
      ∷ (codes "CloudPubSubDeadLetterSourceSubscription", sub)
      ∷ (codes "CloudPubSubDeadLetterSourceSubscriptionProject", codes "p")
      ∷ (codes "CloudPubSubDeadLetterSourceTopicPublishTime", codes "1970-01-01T00:00:01.000Z") ∷ [];
}

-- it as it is pulled from its new topic, published there at this moment
abbrev pub forwarded_at : ℕ → ReceivedMessage → ReceivedMessage
forwarded_at t r = record r { publish = t }

abbrev pub pull_letters_at : ℕ → ℕ → Call
pull_letters_at t most = (t, pull_of letters_name most)

-- what is a dead letter stays for the whole retention
abbrev pub dying_retained : SubConfig
dying_retained = record dying { retain_acked = true }

-- the last lease is given up before it ends
abbrev pub given_up : List Call
given_up = five_times ++ give_up_at 42500 (id 1 1 5 ∷ []) ∷ []

-- a message with a key and attributes, one of them of a name that is set anew
abbrev pub marked : Message
marked = record {
  payload = codes "hi";
  attributes = (codes "B", codes "0") ∷ (codes "CloudPubSubDeadLetterSourceSubscription", codes "old") ∷ (codes "a", codes "1") ∷ [];
  key = codes "k";
}

-- two subscriptions of the topic with one policy, and each pulled at the end of each of its leases
abbrev pub both_die : List Message → ℕ → List Call
both_die messages most =
    two_topics dying
    ++ ((1000, CreateSubscription other_name topic_name dying) ∷ publish_at 1000 messages
    ∷ pull_at 2000 most ∷ (2000, pull_of other_name most) ∷ pull_at 12000 most ∷ (12000, pull_of other_name most)
    ∷ pull_at 22000 most ∷ (22000, pull_of other_name most) ∷ pull_at 32000 most ∷ (32000, pull_of other_name most)
    ∷ pull_at 42000 most ∷ (42000, pull_of other_name most) ∷ [])

-- the topic of dead letters is its own topic
abbrev pub to_itself : List Call
to_itself = base_with (dying_to topic_name 5) ++ (publish_at 1000 (hi ∷ []) ∷ five_pulls)

abbrev pub later_name : List ℕ
later_name = codes "projects/p/subscriptions/later"

-- the topic of dead letters is deleted and made again, with a new subscription, while the sixth lease lives
abbrev pub made_again : List Call
made_again = without_topic ++ (pull_at 52000 1 ∷ (53000, CreateTopic dead_name default_topic) ∷ (53000, CreateSubscription later_name dead_name default_sub) ∷ [])

-- of two messages of a key the first is given up five times, each time as soon as both are out
abbrev pub first_dies : List Call
first_dies =
    two_topics (record dying { ordering = true })
    ++ (publish_at 1000 (of_k ∷ of_k ∷ [])
    ∷ pull_at 2000 10 ∷ give_up_at 2000 (id 1 1 1 ∷ []) ∷ pull_at 2000 10 ∷ give_up_at 2000 (id 1 1 3 ∷ [])
    ∷ pull_at 2000 10 ∷ give_up_at 2000 (id 1 1 5 ∷ []) ∷ pull_at 2000 10 ∷ give_up_at 2000 (id 1 1 7 ∷ [])
    ∷ pull_at 2000 10 ∷ [])

pub record ForwardedExamples : Type 0 where
  -- the fifth failure publishes the message anew, at its own moment, with four attributes
  pub forwarded : told five_times (pull_letters_at 52000 1) ≡ plain_answer (forwarded_at 52000 (out (id 2 2 1) (letter (codes "sub") (codes "5"))) ∷ [])
  pub forwarded_is_recorded : recorded_of five_times (pull_letters_at 52000 1) ≡ noted (pull_letters_at 52000 1)
  pub a_tick_where_nothing_is_pulled : recorded_of five_times (pull_at 52000 1) ≡ tick_at 52000
  pub nothing_is_left : told (five_times ++ pull_letters_at 52000 1 ∷ []) (pull_at 52000 1) ≡ plain_answer []
  pub next_number : told (five_times ++ (52000, Tick) ∷ []) (publish_at 52000 (hi ∷ [])) ≡ Published 3 1
  pub counts : counted (five_times_with dying_retained hi ++ (52000, Tick) ∷ []) ≡ record { entries = 11; now = 52000; topics = 2; subscriptions = 2; snapshots = 0; messages = 2; backlog = 1; leased = 0; acknowledged = 0; dead_lettered = 1 }
  pub marks : marks_after (five_times_with dying_retained hi ++ (52000, Tick) ∷ []) ≡ standing 1 1 (Done Dead) ∷ standing 2 2 (Backlog 0 0 None) ∷ []
  -- a lease that is given up counts like one that ends
  pub given_up_is_forwarded : told given_up (pull_letters_at 42500 1) ≡ plain_answer (forwarded_at 42500 (out (id 2 2 1) (letter (codes "sub") (codes "5"))) ∷ [])
  -- met late, it is forwarded at the moment at which it is met
  pub met_late : told five_times (pull_letters_at 60000 1) ≡ plain_answer (forwarded_at 60000 (out (id 2 2 1) (letter (codes "sub") (codes "5"))) ∷ [])
  -- the moment of the source as text, on a day of our time
  pub source_moment : timestamp 1700000001000 ≡ codes "2023-11-14T22:13:21.000Z"
  -- payload, key and the other attributes go with it
  pub with_all : told (five_times_with dying marked) (pull_letters_at 52000 1) ≡ plain_answer (forwarded_at 52000 (out (id 2 2 1) (record {
    payload = codes "hi";
    attributes =
        (codes "B", codes "0")
        ∷ (codes "CloudPubSubDeadLetterSourceDeliveryCount", codes "5")
        ∷ (codes "CloudPubSubDeadLetterSourceSubscription", codes "sub")
        ∷ (codes "CloudPubSubDeadLetterSourceSubscriptionProject", codes "p")
        ∷ (codes "CloudPubSubDeadLetterSourceTopicPublishTime", codes "1970-01-01T00:00:01.000Z")
        ∷ (codes "a", codes "1") ∷ [];
    key = codes "k";
  })) ∷ [])
  -- two subscriptions forward at one moment, in the order of their making
  pub from_both : told (both_die (hi ∷ []) 1) (pull_letters_at 52000 10) ≡ plain_answer (forwarded_at 52000 (out (id 2 2 1) (letter (codes "sub") (codes "5"))) ∷ forwarded_at 52000 (out (id 2 3 2) (letter (codes "sub2") (codes "5"))) ∷ [])
  -- and each of them in the order of the messages
  pub two_from_both : told (both_die (hi ∷ of_k ∷ []) 2) (pull_letters_at 52000 10) ≡ plain_answer (
      forwarded_at 52000 (out (id 2 3 1) (letter (codes "sub") (codes "5")))
      ∷ forwarded_at 52000 (out (id 2 4 2) (record (letter (codes "sub") (codes "5")) { key = codes "k" }))
      ∷ forwarded_at 52000 (out (id 2 5 3) (letter (codes "sub2") (codes "5")))
      ∷ forwarded_at 52000 (out (id 2 6 4) (record (letter (codes "sub2") (codes "5")) { key = codes "k" })) ∷ [])
  -- a policy whose topic is the subscription's own: the dead letter comes back as a new message
  pub itself_again : told to_itself (pull_at 52000 1) ≡ plain_answer (forwarded_at 52000 (attempt 2 6 1 (letter (codes "sub") (codes "5"))) ∷ [])
  -- a topic that is made again under the name gets the next failure, with all that were counted
  pub to_the_new_topic : told made_again (62000, pull_of later_name 1) ≡ plain_answer (forwarded_at 62000 (out (id 3 2 1) (letter (codes "sub") (codes "6"))) ∷ [])
  pub not_to_the_old_one : told made_again (pull_letters_at 62000 1) ≡ plain_answer []
  -- behind a dead letter the later messages of its key come again, with no failure of their own
  pub later_of_its_key : told (first_dies ++ give_up_at 2000 (id 1 1 9 ∷ []) ∷ []) (pull_at 2000 10) ≡ Received false true (attempt 2 11 1 of_k ∷ [])
  pub before_it_died : told first_dies (pull_at 2000 10) ≡ Received false true []
