-- Worked examples: topics that are made, read, changed and deleted.
use Rattle.std.specs.Prelude.{ℕ, ◌≡◌, List, [], ◌∷◌, ◌++◌, Option, Some, None, codes}
use Rattle.ps_base.specs.declared.reason.Reason.TheVariants.{UpdateMask, MessageRetentionDuration}
use Rattle.ps_config.specs.declared.config.TopicConfig.{TopicConfig}
use Rattle.ps_model.specs.declared.command.Command.TheVariants.{CreateTopic, UpdateTopic, GetTopic, DeleteTopic}
use Rattle.ps_model.specs.declared.command.Entry.{Entry}
use Rattle.ps_model.specs.declared.reply.Reply.{Reply}
use Rattle.ps_model.specs.declared.reply.Reply.TheVariants.{Empty, Topic}
use Rattle.ps_config.specs.Masks.{default_topic}
use Rattle.ps_examples.specs.Samples.{Call, told, recorded_of, topic_name, broken_by, none_named, taken_already, noted}
use Rattle.ps_examples.specs.PublishExamples.{only_topic, keeping_topic}

-- the label `a` with the value `b`
abbrev pub one_label : List (List ℕ × List ℕ)
one_label = (codes "a", codes "b") ∷ []

abbrev pub labelled : TopicConfig
labelled = record default_topic { labels = one_label }

-- the topic with these settings
abbrev pub shown_topic : TopicConfig → Reply
shown_topic config = Topic (record { name = topic_name; config = config })

-- an update of the topic at 2000: 1 masks its labels, 2 its retention
abbrev pub update_topic : ℕ → TopicConfig → Call
update_topic bits config = (2000, UpdateTopic topic_name (record { 0 = bits }) config)

-- that update as it is recorded
abbrev pub topic_entry : ℕ → TopicConfig → Option Entry
topic_entry bits config = Some (record { now = 2000; command = UpdateTopic topic_name (record { 0 = bits }) config })

pub record TopicExamples : Type 0 where
  pub created : told [] (1000, CreateTopic topic_name default_topic) ≡ shown_topic default_topic
  pub created_is_recorded : recorded_of [] (1000, CreateTopic topic_name labelled) ≡ noted (1000, CreateTopic topic_name labelled)
  -- a name that is taken isn't given again, whatever the settings
  pub created_twice : told only_topic (1000, CreateTopic topic_name labelled) ≡ taken_already topic_name
  pub created_twice_is_not_recorded : recorded_of only_topic (1000, CreateTopic topic_name labelled) ≡ None
  -- reading changes nothing
  pub read : told only_topic (1500, GetTopic topic_name) ≡ shown_topic default_topic
  pub read_is_not_recorded : recorded_of only_topic (1500, GetTopic topic_name) ≡ None
  pub read_where_none_is : told [] (1500, GetTopic topic_name) ≡ none_named topic_name
  -- an update changes the masked field, and one that changes nothing is answered and not recorded
  pub updated : told only_topic (update_topic 1 labelled) ≡ shown_topic labelled
  pub updated_is_recorded : recorded_of only_topic (update_topic 1 labelled) ≡ topic_entry 1 labelled
  pub updated_again : told (only_topic ++ update_topic 1 labelled ∷ []) (update_topic 1 labelled) ≡ shown_topic labelled
  pub updated_again_is_not_recorded : recorded_of (only_topic ++ update_topic 1 labelled ∷ []) (update_topic 1 labelled) ≡ None
  -- a field that isn't masked keeps its value, isn't checked, and is recorded as its default
  pub rest_is_kept : told keeping_topic (update_topic 1 (record { labels = one_label; retention = Some 1 })) ≡ shown_topic (record { labels = one_label; retention = Some 600000 })
  pub rest_is_recorded_as_default : recorded_of keeping_topic (update_topic 1 (record { labels = one_label; retention = Some 1 })) ≡ topic_entry 1 labelled
  -- a masked field may be set to nothing
  pub retention_ends : told keeping_topic (update_topic 2 labelled) ≡ shown_topic default_topic
  pub both_fields : told keeping_topic (update_topic 3 labelled) ≡ shown_topic labelled
  -- a mask names some field, and none that a topic hasn't; this is asked first
  pub no_field : told only_topic (update_topic 0 labelled) ≡ broken_by UpdateMask
  pub unknown_field : told only_topic (update_topic 4 labelled) ≡ broken_by UpdateMask
  pub one_known_one_unknown : told only_topic (update_topic 5 labelled) ≡ broken_by UpdateMask
  pub no_field_of_no_topic : told [] (update_topic 0 labelled) ≡ broken_by UpdateMask
  pub masked_field_is_checked : told only_topic (update_topic 2 (record default_topic { retention = Some 599999 })) ≡ broken_by MessageRetentionDuration
  pub update_of_no_topic : told [] (update_topic 1 labelled) ≡ none_named topic_name
  -- a deleted topic is gone
  pub deleted : told only_topic (2000, DeleteTopic topic_name) ≡ Empty
  pub deleted_is_recorded : recorded_of only_topic (2000, DeleteTopic topic_name) ≡ noted (2000, DeleteTopic topic_name)
  pub deleted_again : told (only_topic ++ (2000, DeleteTopic topic_name) ∷ []) (2000, DeleteTopic topic_name) ≡ none_named topic_name
