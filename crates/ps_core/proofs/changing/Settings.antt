-- Settings after an update: what was built and had passed its checks still is so.
use Rattle.std.proofs.Common.{ℕ, ◌≡◌, Bool, true, false, not, List, [], ◌∷◌, Option, Some, None, refl, ap, ◌∙◌, if◌then◌else◌}
use Rattle.std.specs.List.{AllByRecursion}
use Rattle.ps_base.specs.declared.reason.Reason.{Reason}
use Rattle.ps_base.specs.declared.reason.Reason.TheVariants.{AckDeadlineSeconds, ExpirationPolicy, MaxDeliveryAttempts, MessageRetentionDuration, RetryPolicy as ForRetryPolicy, UpdateMask}
use Rattle.ps_config.specs.declared.config.SubConfig.{SubConfig}
use Rattle.ps_config.specs.declared.config.TopicConfig.{TopicConfig}
use Rattle.ps_config.specs.declared.mask.Mask.{Mask}
use Rattle.ps_config.specs.Limits.{has_bad_attempts, has_bad_delays, is_outside, is_outside_where_set, labels_fault, least_retention, most_retention, sub_checks_before_filter, sub_checks_behind_filter, sub_fault}
use Rattle.ps_config.specs.Masks.{has_bit, is_mask, masked_sub, masked_topic, whole_mask}
use Rattle.ps_message.specs.Lists.{first_of}
use Rattle.ps_message.specs.Messages.{broken}
use Rattle.ps_model.specs.Checks.{filter_setting_fault, new_sub_fault}
use Rattle.ps_core.specs.Built.{unbuilt_sub_mask, unbuilt_sub_setting, unbuilt_topic_mask, unbuilt_topic_setting}
use Rattle.ps_core.specs.Steady.{HasGoodSettings}

-- ---- what is built

first : (test : Bool) (name : List ℕ) (rest : Option (List ℕ)) → (if test then Some name else rest) ≡ None → (test ≡ false) × (rest ≡ None)
first true name rest e = absurd (cc (e))
first false name rest e = (refl, e)

pub topic-built : (mask : Mask) (old new : TopicConfig) → unbuilt_topic_mask mask ≡ None → unbuilt_topic_setting old ≡ None → unbuilt_topic_setting (masked_topic mask old new) ≡ None
topic-built mask old new masked built =
    let bit = first _ _ _ masked in
    ap (λ (b : Bool). unbuilt_topic_setting (record old { retention = if b then new.retention else old.retention })) bit.0 ∙ built

sub-built : (mask : Mask) (old new : SubConfig) → unbuilt_sub_mask mask ≡ None → unbuilt_sub_setting old ≡ None → unbuilt_sub_setting (masked_sub mask old new) ≡ None
sub-built mask old new masked built =
    let dead_letter = first _ _ _ masked in
    let retention = first _ _ _ dead_letter.1 in
    let push = first _ _ _ retention.1 in
    let retain_acked = first _ _ _ push.1 in
    (λ i. unbuilt_sub_setting (record old {
      dead_letter = if dead_letter.0 i then new.dead_letter else old.dead_letter;
      retention = if retention.0 i then new.retention else old.retention;
      retain_acked = if retain_acked.0 i then new.retain_acked else old.retain_acked;
    })) ∙ built

-- the dead-letter policy isn't masked
pub letters-unmasked : (mask : Mask) → unbuilt_sub_mask mask ≡ None → has_bit mask 5 ≡ false
letters-unmasked mask masked = let bit = first _ _ _ masked in bit.0

-- ---- what passes its checks

first-none : {A : Type 0} (checks : List (Option A)) → first_of checks ≡ None → AllByRecursion (λ check. check ≡ None) checks
first-none [] e = tt
first-none (None ∷ checks) e = (refl, first-none checks e)
first-none (Some fault ∷ checks) e = absurd (cc (e))

first-from-none : {A : Type 0} (checks : List (Option A)) → AllByRecursion (λ check. check ≡ None) checks → first_of checks ≡ None
first-from-none [] h = refl
first-from-none (None ∷ checks) h = first-from-none checks h.1
first-from-none (Some fault ∷ checks) h = absurd (cc (h.0))

-- a field that passes its check where it is masked, and passed it before
masked-check : {A : Type 0} (check : A → Option Reason) (masked : Bool) (old new : A) → (if masked then check new else None) ≡ None → check old ≡ None → check (if masked then new else old) ≡ None
masked-check check true old new a b = a
masked-check check false old new a b = b

sub-checked : (mask : Mask) (old new : SubConfig) → new_sub_fault old ≡ None → sub_fault mask new ≡ None → new_sub_fault (masked_sub mask old new) ≡ None
sub-checked mask old new a b =
    let p = first-none (first_of (sub_checks_before_filter whole_mask old) ∷ filter_setting_fault old.filter ∷ first_of (sub_checks_behind_filter whole_mask old) ∷ []) a in
    let q = first-none (first_of (sub_checks_before_filter mask new) ∷ first_of (sub_checks_behind_filter mask new) ∷ []) b in
    let pb = first-none (sub_checks_before_filter whole_mask old) p.0 in
    let pa = first-none (sub_checks_behind_filter whole_mask old) p.1.1.0 in
    let qb = first-none (sub_checks_before_filter mask new) q.0 in
    let qa = first-none (sub_checks_behind_filter mask new) q.1.0 in
    let made : SubConfig = masked_sub mask old new in
    let before : first_of (sub_checks_before_filter whole_mask made) ≡ None = first-from-none (sub_checks_before_filter whole_mask made) (
      masked-check (λ seconds. broken (is_outside 10 600 seconds) AckDeadlineSeconds) (has_bit mask 0) old.ack_seconds new.ack_seconds qb.0 pb.0,
      (
        masked-check (λ retention. broken (is_outside least_retention most_retention retention) MessageRetentionDuration) (has_bit mask 2) old.retention new.retention qb.1.0 pb.1.0,
        (
          masked-check labels_fault (has_bit mask 3) old.labels new.labels qb.1.1.0 pb.1.1.0,
          (
            masked-check (λ expiration. broken (is_outside_where_set 86400000 315360000000 expiration) ExpirationPolicy) (has_bit mask 4) old.expiration new.expiration qb.1.1.1.0 pb.1.1.1.0,
            tt,
          ),
        ),
      ),
    ) in
    let behind : first_of (sub_checks_behind_filter whole_mask made) ≡ None = first-from-none (sub_checks_behind_filter whole_mask made) (
      masked-check (λ policy. broken (has_bad_attempts policy) MaxDeliveryAttempts) (has_bit mask 5) old.dead_letter new.dead_letter qa.0 pa.0,
      (masked-check (λ retry. broken (has_bad_delays retry) ForRetryPolicy) (has_bit mask 6) old.retry new.retry qa.1.0 pa.1.0, tt),
    ) in
    first-from-none (first_of (sub_checks_before_filter whole_mask made) ∷ filter_setting_fault made.filter ∷ first_of (sub_checks_behind_filter whole_mask made) ∷ []) (before, (p.1.0, (behind, tt)))

-- the update's checks are those of its mask and of its masked fields
pub sub-stays-good : (mask : Mask) (old new : SubConfig) → unbuilt_sub_mask mask ≡ None → first_of (broken (not (is_mask 9 mask)) UpdateMask ∷ sub_fault mask new ∷ []) ≡ None → HasGoodSettings old → HasGoodSettings (masked_sub mask old new)
sub-stays-good mask old new built good was = record {
  built = sub-built mask old new built was.built;
  good = sub-checked mask old new was.good (first-none (broken (not (is_mask 9 mask)) UpdateMask ∷ sub_fault mask new ∷ []) good).1.0;
}
