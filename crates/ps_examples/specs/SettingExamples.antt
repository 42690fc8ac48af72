-- Worked examples: the limits of the settings of topics and subscriptions, each just inside and just outside.
use Rattle.std.specs.Prelude.{ℕ, ◌≡◌, [], Option, Some, None}
use Rattle.ps_base.specs.declared.reason.Reason.TheVariants.{MessageRetentionDuration, AckDeadlineSeconds, ExpirationPolicy}
use Rattle.ps_config.specs.declared.config.SubConfig.{SubConfig}
use Rattle.ps_config.specs.declared.config.TopicConfig.{TopicConfig}
use Rattle.ps_model.specs.declared.command.Command.TheVariants.{CreateTopic}
use Rattle.ps_model.specs.declared.reply.Reply.{Reply}
use Rattle.ps_config.specs.Masks.{default_topic, default_sub}
use Rattle.ps_examples.specs.Samples.{told, topic_name, broken_by}
use Rattle.ps_examples.specs.PublishExamples.{only_topic}
use Rattle.ps_examples.specs.TopicExamples.{shown_topic}
use Rattle.ps_examples.specs.SubscriptionExamples.{shown_sub, create_sub}

-- what a creation with these settings is told
abbrev pub topic_with : TopicConfig → Reply
topic_with config = told [] (1000, CreateTopic topic_name config)

abbrev pub sub_with : SubConfig → Reply
sub_with config = told only_topic (create_sub config)

abbrev pub ack_seconds : ℕ → SubConfig
ack_seconds seconds = record default_sub { ack_seconds = seconds }

abbrev pub retention : ℕ → SubConfig
retention ms = record default_sub { retention = ms }

abbrev pub topic_retention : ℕ → TopicConfig
topic_retention ms = record default_topic { retention = Some ms }

abbrev pub expiration : Option ℕ → SubConfig
expiration ms = record default_sub { expiration = ms }

pub record SettingExamples : Type 0 where
  -- a lease lives 10 to 600 seconds
  pub no_seconds : sub_with (ack_seconds 0) ≡ broken_by AckDeadlineSeconds
  pub too_few_seconds : sub_with (ack_seconds 9) ≡ broken_by AckDeadlineSeconds
  pub fewest_seconds : sub_with (ack_seconds 10) ≡ shown_sub (ack_seconds 10)
  pub most_seconds : sub_with (ack_seconds 600) ≡ shown_sub (ack_seconds 600)
  pub too_many_seconds : sub_with (ack_seconds 601) ≡ broken_by AckDeadlineSeconds
  -- a subscription keeps messages 10 minutes to 31 days
  pub too_short : sub_with (retention 599999) ≡ broken_by MessageRetentionDuration
  pub shortest : sub_with (retention 600000) ≡ shown_sub (retention 600000)
  pub longest : sub_with (retention 2678400000) ≡ shown_sub (retention 2678400000)
  pub too_long : sub_with (retention 2678400001) ≡ broken_by MessageRetentionDuration
  -- so does a topic, where it keeps them at all
  pub topic_too_short : topic_with (topic_retention 599999) ≡ broken_by MessageRetentionDuration
  pub topic_shortest : topic_with (topic_retention 600000) ≡ shown_topic (topic_retention 600000)
  pub topic_longest : topic_with (topic_retention 2678400000) ≡ shown_topic (topic_retention 2678400000)
  pub topic_too_long : topic_with (topic_retention 2678400001) ≡ broken_by MessageRetentionDuration
  -- a subscription ends after 1 day to 10 years without use, or never
  pub ends_too_soon : sub_with (expiration (Some 86399999)) ≡ broken_by ExpirationPolicy
  pub ends_soonest : sub_with (expiration (Some 86400000)) ≡ shown_sub (expiration (Some 86400000))
  pub ends_latest : sub_with (expiration (Some 315360000000)) ≡ shown_sub (expiration (Some 315360000000))
  pub ends_too_late : sub_with (expiration (Some 315360000001)) ≡ broken_by ExpirationPolicy
  pub never_ends : sub_with (expiration None) ≡ shown_sub (expiration None)
