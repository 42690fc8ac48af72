-- What each setting of a topic or a subscription may be, as checks in their order.
use Rattle.std.specs.Prelude.{ℕ, Bool, false, ◌||◌, nat_lt, List, [], ◌∷◌, Option, Some, None, length, if◌then◌else◌}
use Rattle.std.specs.List.{list_any}
use Rattle.ps_base.specs.declared.reason.Reason.{Reason}
use Rattle.ps_base.specs.declared.reason.Reason.TheVariants.{Labels, MessageRetentionDuration, AckDeadlineSeconds, ExpirationPolicy, MaxDeliveryAttempts, RetryPolicy}
use Rattle.ps_message.specs.Lists.{first_of}
use Rattle.ps_message.specs.Messages.{broken}
use Rattle.ps_config.specs.declared.config.TopicConfig.{TopicConfig}
use Rattle.ps_config.specs.declared.config.SubConfig.{SubConfig}
use Rattle.ps_config.specs.declared.config.DeadLetterPolicy.{DeadLetterPolicy}
use Rattle.ps_config.specs.declared.config.RetryPolicy.{RetryPolicy as Retry}
use Rattle.ps_config.specs.declared.mask.Mask.{Mask}
use Rattle.ps_config.specs.Masks.{has_bit}
pub use Rattle.ps_config.specs.Numbers.{least_ack_seconds, most_ack_seconds, least_retention, most_retention, least_expiration, most_expiration, least_attempts, most_attempts, most_delay, most_labels, most_bytes_of_label}

abbrev pub is_outside : ℕ → ℕ → ℕ → Bool
is_outside least most n = nat_lt n least || nat_lt most n

abbrev pub is_outside_where_set : ℕ → ℕ → Option ℕ → Bool
is_outside_where_set least most None = false
is_outside_where_set least most (Some n) = is_outside least most n

-- no key, or a long key or value
abbrev pub is_bad_label : List ℕ × List ℕ → Bool
is_bad_label pair = is_outside 1 most_bytes_of_label (length pair.0) || nat_lt most_bytes_of_label (length pair.1)

abbrev pub has_bad_labels : List (List ℕ × List ℕ) → Bool
has_bad_labels labels = nat_lt most_labels (length labels) || list_any is_bad_label labels

abbrev pub labels_fault : List (List ℕ × List ℕ) → Option Reason
labels_fault labels = broken (has_bad_labels labels) Labels

-- a check of a masked field
abbrev pub if_masked : Mask → ℕ → Option Reason → Option Reason
if_masked mask bit fault = if has_bit mask bit then fault else None

-- the first check that the masked settings of a topic break
abbrev pub topic_fault : Mask → TopicConfig → Option Reason
topic_fault mask config = first_of (
    if_masked mask 0 (labels_fault config.labels)
    ∷ if_masked mask 1 (broken (is_outside_where_set least_retention most_retention config.retention) MessageRetentionDuration)
    ∷ [])

abbrev pub has_bad_attempts : Option DeadLetterPolicy → Bool
has_bad_attempts None = false
has_bad_attempts (Some policy) = is_outside least_attempts most_attempts policy.attempts

-- the least may be above the greatest
abbrev pub has_bad_delays : Option Retry → Bool
has_bad_delays None = false
has_bad_delays (Some retry) = nat_lt most_delay retry.least || nat_lt most_delay retry.most

abbrev pub sub_checks_before_filter : Mask → SubConfig → List (Option Reason)
sub_checks_before_filter mask config =
    if_masked mask 0 (broken (is_outside least_ack_seconds most_ack_seconds config.ack_seconds) AckDeadlineSeconds)
    ∷ if_masked mask 2 (broken (is_outside least_retention most_retention config.retention) MessageRetentionDuration)
    ∷ if_masked mask 3 (labels_fault config.labels)
    ∷ if_masked mask 4 (broken (is_outside_where_set least_expiration most_expiration config.expiration) ExpirationPolicy)
    ∷ []

abbrev pub sub_checks_behind_filter : Mask → SubConfig → List (Option Reason)
sub_checks_behind_filter mask config =
    if_masked mask 5 (broken (has_bad_attempts config.dead_letter) MaxDeliveryAttempts)
    ∷ if_masked mask 6 (broken (has_bad_delays config.retry) RetryPolicy)
    ∷ []

-- the first check that the masked settings of a subscription break; the filter is of no mask
abbrev pub sub_fault : Mask → SubConfig → Option Reason
sub_fault mask config = first_of (first_of (sub_checks_before_filter mask config) ∷ first_of (sub_checks_behind_filter mask config) ∷ [])
