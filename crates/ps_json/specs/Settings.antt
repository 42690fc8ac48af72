-- The settings that the fields of a resource ask for.
use Rattle.std.specs.Prelude.{ℕ, ◌-◌, ◌^◌, min, ℤ, pos, negsuc, List, [], ◌∷◌, codes, false, nat_eq, if◌then◌else◌, Option, Some, None, option_and_then, option_map, unwrap_or, Result}
use Rattle.serde_json.specs.Data.{Members}
use Rattle.serde_json.specs.Find.{get_member}
use Rattle.ps_base.specs.declared.reason.Reason.{Reason}
use Rattle.ps_base.specs.declared.refusal.Refusal.{Refusal}
use Rattle.ps_base.specs.declared.refusal.Refusal.TheVariants.{InvalidArgument}
use Rattle.ps_config.specs.declared.config.RetryPolicy.{RetryPolicy}
use Rattle.ps_config.specs.declared.config.SubConfig.{SubConfig}
use Rattle.ps_config.specs.declared.config.TopicConfig.{TopicConfig}
use Rattle.ps_config.specs.declared.mask.Mask.{Mask}
use Rattle.ps_config.specs.Limits.{sub_checks_behind_filter, sub_fault, topic_fault}
use Rattle.ps_config.specs.Masks.{default_sub, default_topic, masked_sub, masked_topic, whole_mask}
use Rattle.ps_config.specs.Numbers.{default_ack_seconds, default_expiration, default_least_delay, default_most_delay, default_retention}
use Rattle.ps_message.specs.Lists.{first_of}
use Rattle.ps_model.specs.Checks.{filter_setting_fault, new_sub_fault}
use Rattle.ps_fields.specs.Fields.{object_in}
use Rattle.ps_fields.specs.Kinds.{duration_value, flag_of, map_of, text_of, whole_of}
use Rattle.ps_json.specs.Checks.{unless}

abbrev pub labels_in : Members → List (List ℕ × List ℕ)
labels_in ms = unwrap_or (map_of (get_member (codes "labels") ms)) []

abbrev pub retention_in : Members → Option ℕ
retention_in ms = option_and_then duration_value (get_member (codes "messageRetentionDuration") ms)

abbrev pub topic_in : Members → TopicConfig
topic_in ms = record { labels = labels_in ms; retention = retention_in ms }

-- 0 stands for the default; a number that doesn't fit becomes the nearest one that does, and is outside the limits too
abbrev pub ack_seconds : ℤ → ℕ
ack_seconds (pos n) = if nat_eq n 0 then default_ack_seconds else min n (2 ^ 32 - 1)
ack_seconds (negsuc n) = 0

-- after how long without use a subscription ends, by its policy; one without a duration is never
abbrev pub expiration_of : Option Members → Option ℕ
expiration_of None = Some default_expiration
expiration_of (Some ms) = option_and_then duration_value (get_member (codes "ttl") ms)

-- how long a message rests after a failure, by its policy
abbrev pub retry_of : Members → RetryPolicy
retry_of ms = record {
  least = unwrap_or (option_and_then duration_value (get_member (codes "minimumBackoff") ms)) default_least_delay;
  most = unwrap_or (option_and_then duration_value (get_member (codes "maximumBackoff") ms)) default_most_delay;
}

-- dead letters aren't read yet
abbrev pub subscription_in : Members → SubConfig
subscription_in ms = record {
  ack_seconds = ack_seconds (unwrap_or (whole_of (get_member (codes "ackDeadlineSeconds") ms)) (pos 0));
  retain_acked = unwrap_or (flag_of (get_member (codes "retainAckedMessages") ms)) false;
  retention = unwrap_or (retention_in ms) default_retention;
  labels = labels_in ms;
  ordering = unwrap_or (flag_of (get_member (codes "enableMessageOrdering") ms)) false;
  expiration = expiration_of (object_in (codes "expirationPolicy") ms);
  filter = unwrap_or (text_of (get_member (codes "filter") ms)) [];
  dead_letter = None;
  retry = option_map retry_of (object_in (codes "retryPolicy") ms);
  exactly_once = unwrap_or (flag_of (get_member (codes "enableExactlyOnceDelivery") ms)) false;
}

-- the settings of a new resource, or the first one that breaks a limit

abbrev pub new_topic : Members → Result TopicConfig Refusal
new_topic ms = unless (option_map InvalidArgument (topic_fault whole_mask (topic_in ms))) (topic_in ms)

abbrev pub new_subscription : Members → Result SubConfig Refusal
new_subscription ms = unless (option_map InvalidArgument (new_sub_fault (subscription_in ms))) (subscription_in ms)

-- the settings of an update, of which those that the mask doesn't name have their defaults, or the first one that breaks a limit

abbrev pub masked_topic_in : Mask → Members → TopicConfig
masked_topic_in mask ms = masked_topic mask default_topic (topic_in ms)

abbrev pub changed_topic : Mask → Members → Result TopicConfig Refusal
changed_topic mask ms = unless (option_map InvalidArgument (topic_fault mask (masked_topic_in mask ms))) (masked_topic_in mask ms)

abbrev pub masked_subscription_in : Mask → Members → SubConfig
masked_subscription_in mask ms = masked_sub mask default_sub (subscription_in ms)

abbrev pub changed_subscription : Mask → Members → Result SubConfig Refusal
changed_subscription mask ms = unless (option_map InvalidArgument (sub_fault mask (masked_subscription_in mask ms))) (masked_subscription_in mask ms)
