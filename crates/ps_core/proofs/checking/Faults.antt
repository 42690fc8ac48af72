-- The checks of settings, as the code makes them.
use Rattle.std.proofs.Common.{◌≡◌, ℕ, Bool, true, false, List, [], ◌∷◌, Option, Some, None, if◌then◌else◌, refl}
use Rattle.std.specs.List.{AllByRecursion}
use Rattle.ps_base.specs.declared.reason.Reason.{Reason}
use Rattle.ps_base.specs.declared.reason.Reason.TheVariants.{AckDeadlineSeconds, ExpirationPolicy, MaxDeliveryAttempts, MessageRetentionDuration, RetryPolicy}
use Rattle.ps_config.specs.declared.config.SubConfig.{SubConfig}
use Rattle.ps_config.specs.declared.config.TopicConfig.{TopicConfig}
use Rattle.ps_config.specs.declared.mask.Mask.{Mask}
use Rattle.ps_config.specs.Limits.{has_bad_attempts, has_bad_delays, if_masked, is_outside, is_outside_where_set, labels_fault, least_ack_seconds, least_expiration, least_retention, most_ack_seconds, most_expiration, most_retention, sub_fault, topic_fault}
use Rattle.ps_config.specs.Masks.{default_sub, default_topic, has_bit, masked_sub, masked_topic}
use Rattle.ps_message.specs.Lists.{first_of}
use Rattle.ps_message.specs.Messages.{broken}
use Rattle.ps_core.specs.Built.{first_name, sub_settings, unbuilt_sub_setting}
use Rattle.ps_tables.proofs.lists.Options.{none-of}

-- a check of a masked field reads it as it was given
masked : {A : Type 0} (mask : Mask) (bit : ℕ) (fault : A → Option Reason) (new old : A) → if_masked mask bit (fault (if has_bit mask bit then new else old)) ≡ if_masked mask bit (fault new)
masked mask bit fault new old = by (has_bit mask bit)
  where
    by : (named : Bool) → (if named then fault (if named then new else old) else None) ≡ (if named then fault new else None)
    by true = refl
    by false = refl

pub topic-masked : (mask : Mask) (config : TopicConfig) → topic_fault mask (masked_topic mask default_topic config) ≡ topic_fault mask config
topic-masked mask config = λ i. first_of (
    masked mask 0 labels_fault config.labels default_topic.labels i
    ∷ masked mask 1 (λ retention. broken (is_outside_where_set least_retention most_retention retention) MessageRetentionDuration) config.retention default_topic.retention i
    ∷ [])

pub sub-masked : (mask : Mask) (config : SubConfig) → sub_fault mask (masked_sub mask default_sub config) ≡ sub_fault mask config
sub-masked mask config = λ i. first_of (
    first_of (
    masked mask 0 (λ seconds. broken (is_outside least_ack_seconds most_ack_seconds seconds) AckDeadlineSeconds) config.ack_seconds default_sub.ack_seconds i
    ∷ masked mask 2 (λ retention. broken (is_outside least_retention most_retention retention) MessageRetentionDuration) config.retention default_sub.retention i
    ∷ masked mask 3 labels_fault config.labels default_sub.labels i
    ∷ masked mask 4 (λ expiration. broken (is_outside_where_set least_expiration most_expiration expiration) ExpirationPolicy) config.expiration default_sub.expiration i
    ∷ [])
    ∷ first_of (
    masked mask 5 (λ policy. broken (has_bad_attempts policy) MaxDeliveryAttempts) config.dead_letter default_sub.dead_letter i
    ∷ masked mask 6 (λ retry. broken (has_bad_delays retry) RetryPolicy) config.retry default_sub.retry i
    ∷ [])
    ∷ [])

-- ---- a new subscription, whose policies aren't built

-- no test holds
pub first-none : (tests : List (Bool × List ℕ)) → first_name tests ≡ None → AllByRecursion (λ (test : Bool × List ℕ). test.0 ≡ false) tests
first-none [] none = tt
first-none ((true, name) ∷ tests) none = absurd (cc (none))
first-none ((false, name) ∷ tests) none = (refl, first-none tests none)

-- what settings are without those that aren't built
pub record IsPlainly (config : SubConfig) : Type 0 where
  pub dead_letter : config.dead_letter ≡ None

pub plainly : (config : SubConfig) → unbuilt_sub_setting config ≡ None → IsPlainly config
plainly config built =
    let each = first-none (sub_settings config) built in
    record { dead_letter = none-of config.dead_letter each.0 }
