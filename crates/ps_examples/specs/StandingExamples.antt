-- Worked examples: where a message stands on a subscription.
use Rattle.std.specs.Prelude.{ℕ, ◌≡◌, true, List, [], ◌∷◌, ◌++◌, Option, Some, None, codes, option_and_then}
use Rattle.ps_model.specs.declared.mark.Mark.TheVariants.{Done, Gone}
use Rattle.ps_model.specs.declared.mark.DoneCause.TheVariants as done
use Rattle.ps_model.specs.declared.mark.GoneCause.TheVariants as gone
use Rattle.ps_config.specs.declared.config.SubConfig.{SubConfig}
use Rattle.ps_model.specs.declared.command.Command.TheVariants.{CreateTopic, Publish, CreateSubscription, Detach}
use Rattle.ps_model.specs.declared.world.World.{World}
use Rattle.ps_model.specs.declared.world.SubRow.{SubRow}
use Rattle.ps_model.specs.declared.world.MessageRow.{MessageRow}
use Rattle.ps_config.specs.Masks.{default_topic, default_sub}
use Rattle.ps_model.specs.Worlds.{sub_numbered, message_numbered}
use Rattle.ps_model.specs.Standing.{Standing, InBacklog, IsOut, IsAcknowledged, IsDeadLettered, HasExpired, standing, standing_with}
use Rattle.ps_model.specs.Step.{empty_world}
use Rattle.ps_model.specs.History.{after_calls}
use Rattle.ps_examples.specs.Samples.{Call, base, base_with, hi, keyed, publish_at, pull_at, modify_at, id, ack_at, topic_name, sub_name}
use Rattle.ps_examples.specs.PublishExamples.{only_topic, keeping_topic}
use Rattle.ps_examples.specs.FilteredExamples.{filtered, with_a}
use Rattle.ps_examples.specs.LeaseExamples.{pulled}

-- the standing of a message, by their numbers
abbrev pub standing_in : World → ℕ → ℕ → Option Standing
standing_in w sub message = option_and_then (λ (s : SubRow). option_and_then (λ (r : MessageRow). standing w s r) (message_numbered w.messages message)) (sub_numbered w sub)

-- that of the first message on the first subscription, after these calls
abbrev pub first_stands : List Call → Option Standing
first_stands calls = standing_in (after_calls empty_world calls) 1 1

abbrev pub second_stands : List Call → Option Standing
second_stands calls = standing_in (after_calls empty_world calls) 1 2

abbrev pub published : List Call
published = base ++ publish_at 1000 (hi ∷ []) ∷ []

-- two messages of a key are out, and the second one is acknowledged
abbrev pub second_ahead : List Call
second_ahead = base_with (record default_sub { ordering = true }) ++ publish_at 1000 (keyed (codes "k") ∷ keyed (codes "k") ∷ []) ∷ pull_at 2000 2 ∷ ack_at 2500 (id 1 2 2 ∷ []) ∷ []

-- a message without the attribute that the subscription asks for, and one with it
abbrev pub asked_for_a : List Call
asked_for_a = base_with (filtered (codes "attributes:a")) ++ publish_at 1000 (hi ∷ with_a ∷ []) ∷ []

abbrev pub made_behind : SubConfig → List Call
made_behind config = only_topic ++ publish_at 1000 (hi ∷ []) ∷ (2000, CreateSubscription sub_name topic_name config) ∷ []

abbrev pub kept_and_made_behind : List Call
kept_and_made_behind = keeping_topic ++ publish_at 1000 (hi ∷ []) ∷ (2000, CreateSubscription sub_name topic_name default_sub) ∷ []

abbrev pub of_another_topic : List Call
of_another_topic = base ++ (1000, CreateTopic (codes "projects/p/topics/other") default_topic) ∷ (1000, Publish (codes "projects/p/topics/other") (hi ∷ [])) ∷ []

pub record StandingExamples : Type 0 where
  -- in turn in the backlog, out, back in the backlog, and acknowledged
  pub waits : first_stands published ≡ Some InBacklog
  pub out : first_stands pulled ≡ Some IsOut
  pub back : first_stands (pulled ++ modify_at 3000 ((id 1 1 1, 0) ∷ []) ∷ []) ≡ Some InBacklog
  pub acknowledged : first_stands (pulled ++ ack_at 3000 (id 1 1 1 ∷ []) ∷ []) ≡ Some IsAcknowledged
  -- acknowledged before its turn, while the one before it is out
  pub acknowledged_ahead : second_stands second_ahead ≡ Some IsAcknowledged
  pub before_it : first_stands second_ahead ≡ Some IsOut
  -- expired where the subscription was detached first
  pub expired : first_stands (pulled ++ (3000, Detach sub_name) ∷ []) ≡ Some HasExpired
  pub acknowledged_and_detached : first_stands (pulled ++ ack_at 3000 (id 1 1 1 ∷ []) ∷ (3000, Detach sub_name) ∷ []) ≡ Some IsAcknowledged
  -- kept out by the filter counts as acknowledged
  pub kept_out : first_stands asked_for_a ≡ Some IsAcknowledged
  pub let_in : second_stands asked_for_a ≡ Some InBacklog
  pub kept_out_of_an_earlier_time : first_stands (made_behind (filtered (codes "attributes:a"))) ≡ Some IsAcknowledged
  -- none where it never entered: published before, while detached, or to another topic
  pub published_before : first_stands (made_behind default_sub) ≡ None
  pub published_before_and_kept : first_stands kept_and_made_behind ≡ Some IsAcknowledged
  pub published_while_detached : first_stands (base ++ (1000, Detach sub_name) ∷ publish_at 1000 (hi ∷ []) ∷ []) ≡ None
  pub published_elsewhere : first_stands of_another_topic ≡ None
  -- what is dealt with keeps its standing when it is gone
  pub done_acknowledged : standing_with (Done done.Acknowledged) ≡ IsAcknowledged
  pub done_dead : standing_with (Done done.Dead) ≡ IsDeadLettered
  pub gone_acknowledged : standing_with (Gone gone.Acknowledged) ≡ IsAcknowledged
  pub gone_dead : standing_with (Gone gone.Dead) ≡ IsDeadLettered
  pub gone_expired : standing_with (Gone gone.Expired) ≡ HasExpired
