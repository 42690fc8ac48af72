-- Worked examples: the limits of labels, of dead-letter policies and of retry policies, and which broken setting is named.
use Rattle.std.specs.Prelude.{ℕ, zero, suc, ◌≡◌, false, List, [], ◌∷◌, ◌++◌, Some, None, codes, replicate}
use Rattle.ps_base.specs.declared.reason.Reason.TheVariants.{Labels, MessageRetentionDuration, AckDeadlineSeconds, ExpirationPolicy, FilterSyntax, MaxDeliveryAttempts, RetryPolicy}
use Rattle.ps_config.specs.declared.config.SubConfig.{SubConfig}
use Rattle.ps_config.specs.declared.config.TopicConfig.{TopicConfig}
use Rattle.ps_config.specs.Masks.{default_topic, default_sub}
use Rattle.ps_examples.specs.Samples.{told, base, topic_name, broken_by}
use Rattle.ps_examples.specs.TopicExamples.{shown_topic}
use Rattle.ps_examples.specs.SubscriptionExamples.{shown_sub, update_sub}
use Rattle.ps_examples.specs.SettingExamples.{topic_with, sub_with}

-- a topic with one label of a key and a value of these lengths
abbrev pub label_of : ℕ → ℕ → TopicConfig
label_of key value = record default_topic { labels = (replicate key 97, replicate value 98) ∷ [] }

-- so many labels, with keys of this length on
abbrev pub labels_from : ℕ → ℕ → List (List ℕ × List ℕ)
labels_from length zero = []
labels_from length (suc n) = (replicate length 97, []) ∷ labels_from (suc length) n

-- 63 labels, one for each length of a key, and these behind them
abbrev pub labels_and : List (List ℕ × List ℕ) → SubConfig
labels_and more = record default_sub { labels = labels_from 1 63 ++ more }

abbrev pub attempts : ℕ → SubConfig
attempts most = record default_sub { dead_letter = Some (record { topic = topic_name; attempts = most }) }

abbrev pub delays : ℕ → ℕ → SubConfig
delays least most = record default_sub { retry = Some (record { least = least; most = most }) }

-- every setting is wrong, and then, one after the other, only those behind the named one
abbrev pub all_wrong : SubConfig
all_wrong = record {
  ack_seconds = 9;
  retain_acked = false;
  retention = 1;
  labels = ([], []) ∷ [];
  ordering = false;
  expiration = Some 1;
  filter = codes "attributes:";
  dead_letter = Some (record { topic = topic_name; attempts = 4 });
  retry = Some (record { least = 600001; most = 600001 });
  exactly_once = false;
}

abbrev pub behind_seconds : SubConfig
behind_seconds = record all_wrong { ack_seconds = 10 }

abbrev pub behind_retention : SubConfig
behind_retention = record behind_seconds { retention = 600000 }

abbrev pub behind_labels : SubConfig
behind_labels = record behind_retention { labels = [] }

abbrev pub behind_expiration : SubConfig
behind_expiration = record behind_labels { expiration = None }

abbrev pub behind_filter : SubConfig
behind_filter = record behind_expiration { filter = [] }

abbrev pub behind_attempts : SubConfig
behind_attempts = record behind_filter { dead_letter = None }

pub record PolicyExamples : Type 0 where
  -- a label's key has 1 to 63 bytes, and its value at most 63
  pub empty_key : topic_with (label_of 0 1) ≡ broken_by Labels
  pub longest_pair : topic_with (label_of 63 63) ≡ shown_topic (label_of 63 63)
  pub shortest_pair : topic_with (label_of 1 0) ≡ shown_topic (label_of 1 0)
  pub longer_key : topic_with (label_of 64 1) ≡ broken_by Labels
  pub longer_value : topic_with (label_of 1 64) ≡ broken_by Labels
  -- there are at most 64 of them
  pub most_labels : sub_with (labels_and ((codes "b", []) ∷ [])) ≡ shown_sub (labels_and ((codes "b", []) ∷ []))
  pub one_label_more : sub_with (labels_and ((codes "b", []) ∷ (codes "c", []) ∷ [])) ≡ broken_by Labels
  -- 5 to 100 attempts make a dead letter
  pub no_attempts : sub_with (attempts 0) ≡ broken_by MaxDeliveryAttempts
  pub too_few_attempts : sub_with (attempts 4) ≡ broken_by MaxDeliveryAttempts
  pub fewest_attempts : sub_with (attempts 5) ≡ shown_sub (attempts 5)
  pub most_attempts : sub_with (attempts 100) ≡ shown_sub (attempts 100)
  pub too_many_attempts : sub_with (attempts 101) ≡ broken_by MaxDeliveryAttempts
  -- a delay is at most 10 minutes, and the least may be above the greatest
  pub longest_delays : sub_with (delays 600000 0) ≡ shown_sub (delays 600000 0)
  pub least_too_long : sub_with (delays 600001 0) ≡ broken_by RetryPolicy
  pub greatest_too_long : sub_with (delays 0 600001) ≡ broken_by RetryPolicy
  -- of several broken settings the first one is named
  pub seconds_first : sub_with all_wrong ≡ broken_by AckDeadlineSeconds
  pub then_retention : sub_with behind_seconds ≡ broken_by MessageRetentionDuration
  pub then_labels : sub_with behind_retention ≡ broken_by Labels
  pub then_expiration : sub_with behind_labels ≡ broken_by ExpirationPolicy
  pub then_the_filter : sub_with behind_expiration ≡ broken_by (FilterSyntax 11)
  pub then_attempts : sub_with behind_filter ≡ broken_by MaxDeliveryAttempts
  pub then_delays : sub_with behind_attempts ≡ broken_by RetryPolicy
  pub labels_of_a_topic_first : topic_with (record { labels = ([], []) ∷ []; retention = Some 1 }) ≡ broken_by Labels
  -- of an update only masked settings are looked at, and never the filter
  pub masked_delays_and_labels : told base (update_sub 72 all_wrong) ≡ broken_by Labels
  pub masked_delays : told base (update_sub 64 all_wrong) ≡ broken_by RetryPolicy
