-- Worked examples: where a dead letter stands on the subscription that it comes from, and on the one that gets it.
use Rattle.std.specs.Prelude.{◌≡◌, List, [], ◌∷◌, ◌++◌, Some, None, codes}
use Rattle.ps_model.specs.declared.command.Command.TheVariants.{Tick, CreateTopic, CreateSubscription}
use Rattle.ps_config.specs.Masks.{default_topic, default_sub}
use Rattle.ps_model.specs.Standing.{InBacklog, IsDeadLettered}
use Rattle.ps_model.specs.Step.{empty_world}
use Rattle.ps_model.specs.History.{after_calls}
use Rattle.ps_examples.specs.Samples.{Call, hi, publish_at, pull_at, topic_name, sub_name}
use Rattle.ps_examples.specs.SubscriptionExamples.{dead_name, with_dead}
use Rattle.ps_examples.specs.StandingExamples.{standing_in, first_stands}

-- a message is out for the fifth time, and its subscription forwards after five failures
abbrev pub out_a_fifth_time : List Call
out_a_fifth_time =
    (1000, CreateTopic topic_name default_topic) ∷ (1000, CreateTopic dead_name default_topic) ∷ (1000, CreateSubscription sub_name topic_name with_dead)
    ∷ (1000, CreateSubscription (codes "projects/p/subscriptions/dsub") dead_name default_sub) ∷ publish_at 1000 (hi ∷ [])
    ∷ pull_at 2000 1 ∷ pull_at 12000 1 ∷ pull_at 22000 1 ∷ pull_at 32000 1 ∷ pull_at 42000 1 ∷ []

abbrev pub dead : List Call
dead = out_a_fifth_time ++ (52000, Tick) ∷ []

pub record DeadStandingExamples : Type 0 where
  pub dead_lettered : first_stands dead ≡ Some IsDeadLettered
  -- the forwarded message is another one
  pub forwarded : standing_in (after_calls empty_world dead) 2 2 ≡ Some InBacklog
  pub forwarded_at_its_source : standing_in (after_calls empty_world dead) 1 2 ≡ None
  pub source_at_the_other : standing_in (after_calls empty_world dead) 2 1 ≡ None
