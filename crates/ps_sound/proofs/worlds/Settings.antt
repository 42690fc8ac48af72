-- What checked and plain settings are.
use Rattle.std.proofs.Common.{ℕ, ◌≡◌, ◌≤◌, Bool, true, false, nat_lt, List, [], ◌∷◌, Option, Some, None, refl, if◌then◌else◌}
use Rattle.std.specs.List.{AllByRecursion}
use Rattle.std.proofs.lemmas.Bool.{or_parts, ltb-false}
use Rattle.ps_base.specs.declared.reason.Reason.{Reason}
use Rattle.ps_message.specs.Lists.{first_of}
use Rattle.ps_message.specs.Messages.{broken}
use Rattle.ps_config.specs.declared.config.TopicConfig.{TopicConfig}
use Rattle.ps_config.specs.declared.config.SubConfig.{SubConfig}
use Rattle.ps_config.specs.declared.config.RetryPolicy.{RetryPolicy}
use Rattle.ps_base.specs.declared.reason.Reason.TheVariants.{MessageRetentionDuration, AckDeadlineSeconds, ExpirationPolicy, MaxDeliveryAttempts, RetryPolicy as ForRetryPolicy}
use Rattle.ps_config.specs.declared.mask.Mask.{Mask}
use Rattle.ps_config.specs.Masks.{whole_mask, has_bit, masked_topic, masked_sub}
use Rattle.ps_config.specs.Limits.{labels_fault, if_masked, is_outside, is_outside_where_set, least_retention, most_retention, topic_fault, sub_fault, has_bad_attempts, has_bad_delays, sub_checks_before_filter, sub_checks_behind_filter}
use Rattle.ps_model.specs.Checks.{new_sub_fault, filter_setting_fault}

-- where no check is broken, none is
pub first-none : {A : Type 0} (checks : List (Option A)) → first_of checks ≡ None → AllByRecursion (λ check. check ≡ None) checks
first-none [] e = tt
first-none (None ∷ checks) e = (refl, first-none checks e)
first-none (Some fault ∷ checks) e = absurd (cc (e))

pub broken-none : (test : Bool) (reason : Reason) → broken test reason ≡ None → test ≡ false
broken-none true reason e = absurd (cc (e))
broken-none false reason e = refl

-- a retry delay that passes the checks
abbrev pub IsShortRetry : Option RetryPolicy → Type 0
IsShortRetry None = Unit {0}
IsShortRetry (Some retry) = retry.most ≤ 600000

pub short-retry : (config : SubConfig) → new_sub_fault config ≡ None → IsShortRetry config.retry
short-retry config e =
    let behind : first_of (sub_checks_behind_filter whole_mask config) ≡ None =
    (first-none (first_of (sub_checks_before_filter whole_mask config) ∷ filter_setting_fault config.filter ∷ first_of (sub_checks_behind_filter whole_mask config) ∷ []) e).1.1.0 in
    let check : broken (has_bad_delays config.retry) ForRetryPolicy ≡ None = (first-none (sub_checks_behind_filter whole_mask config) behind).1.0 in
    short config.retry (broken-none (has_bad_delays config.retry) ForRetryPolicy check)
  where
    short : (retry : Option RetryPolicy) → has_bad_delays retry ≡ false → IsShortRetry retry
    short None h = tt
    short (Some retry) h = ltb-false 600000 retry.most (or_parts (nat_lt 600000 retry.least) (nat_lt 600000 retry.most) h).1

-- where each check is passed, none is broken
pub first-from-none : {A : Type 0} (checks : List (Option A)) → AllByRecursion (λ check. check ≡ None) checks → first_of checks ≡ None
first-from-none [] h = refl
first-from-none (None ∷ checks) h = first-from-none checks h.1
first-from-none (Some fault ∷ checks) h = absurd (cc (h.0))

-- a field that passes its check where it is masked, and passed it before
masked-check : {A : Type 0} (check : A → Option Reason) (masked : Bool) (old new : A) → (if masked then check new else None) ≡ None → check old ≡ None → check (if masked then new else old) ≡ None
masked-check check true old new a b = a
masked-check check false old new a b = b

pub masked-topic-checked : (mask : Mask) (old new : TopicConfig) → topic_fault whole_mask old ≡ None → topic_fault mask new ≡ None → topic_fault whole_mask (masked_topic mask old new) ≡ None
masked-topic-checked mask old new a b =
    let p = first-none (topic_checks whole_mask old) a in
    let q = first-none (topic_checks mask new) b in
    first-from-none (topic_checks whole_mask (masked_topic mask old new)) (
      masked-check labels_fault (has_bit mask 0) old.labels new.labels q.0 p.0,
      (masked-check window_check (has_bit mask 1) old.retention new.retention q.1.0 p.1.0, tt),
    )
  where
    window_check : Option ℕ → Option Reason
    window_check retention = broken (is_outside_where_set least_retention most_retention retention) MessageRetentionDuration

    topic_checks : Mask → TopicConfig → List (Option Reason)
    topic_checks mask config = if_masked mask 0 (labels_fault config.labels) ∷ if_masked mask 1 (window_check config.retention) ∷ []

pub masked-sub-checked : (mask : Mask) (old new : SubConfig) → new_sub_fault old ≡ None → sub_fault mask new ≡ None → new_sub_fault (masked_sub mask old new) ≡ None
masked-sub-checked mask old new a b =
    let p = first-none (first_of (sub_checks_before_filter whole_mask old) ∷ filter_setting_fault old.filter ∷ first_of (sub_checks_behind_filter whole_mask old) ∷ []) a in
    let q = first-none (first_of (sub_checks_before_filter mask new) ∷ first_of (sub_checks_behind_filter mask new) ∷ []) b in
    let pb = first-none (sub_checks_before_filter whole_mask old) p.0 in
    let pa = first-none (sub_checks_behind_filter whole_mask old) p.1.1.0 in
    let qb = first-none (sub_checks_before_filter mask new) q.0 in
    let qa = first-none (sub_checks_behind_filter mask new) q.1.0 in
    let made : SubConfig = masked_sub mask old new in
    let before : first_of (sub_checks_before_filter whole_mask made) ≡ None = first-from-none (sub_checks_before_filter whole_mask made) (
      masked-check (λ seconds. broken (is_outside 10 600 seconds) AckDeadlineSeconds) (has_bit mask 0) old.ack_seconds new.ack_seconds qb.0 pb.0,
      (
        masked-check (λ retention. broken (is_outside least_retention most_retention retention) MessageRetentionDuration) (has_bit mask 2) old.retention new.retention qb.1.0 pb.1.0,
        (
          masked-check labels_fault (has_bit mask 3) old.labels new.labels qb.1.1.0 pb.1.1.0,
          (
            masked-check (λ expiration. broken (is_outside_where_set 86400000 315360000000 expiration) ExpirationPolicy) (has_bit mask 4) old.expiration new.expiration qb.1.1.1.0 pb.1.1.1.0,
            tt,
          ),
        ),
      ),
    ) in
    let behind : first_of (sub_checks_behind_filter whole_mask made) ≡ None = first-from-none (sub_checks_behind_filter whole_mask made) (
      masked-check (λ policy. broken (has_bad_attempts policy) MaxDeliveryAttempts) (has_bit mask 5) old.dead_letter new.dead_letter qa.0 pa.0,
      (masked-check (λ retry. broken (has_bad_delays retry) ForRetryPolicy) (has_bit mask 6) old.retry new.retry qa.1.0 pa.1.0, tt),
    ) in
    first-from-none (first_of (sub_checks_before_filter whole_mask made) ∷ filter_setting_fault made.filter ∷ first_of (sub_checks_behind_filter whole_mask made) ∷ []) (before, (p.1.0, (behind, tt)))
