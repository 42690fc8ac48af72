-- Masks of updates, and settings with the masked fields changed (API reference, UpdateTopic and UpdateSubscription; a bit for each field is this project's own).
use Rattle.std.specs.Prelude.{◌≡◌, ◌↔◌, ℕ, ◌/◌, ◌%◌, ◌^◌, Bool, true, false, not, ◌&&◌, ◌||◌, nat_eq, nat_lt, [], Option, Some, None, is_none, if◌then◌else◌}
use Rattle.ps_message.specs.Lists.{is_empty}
use Rattle.ps_config.specs.declared.config.TopicConfig.{TopicConfig}
use Rattle.ps_config.specs.declared.config.SubConfig.{SubConfig}
use Rattle.ps_config.specs.declared.mask.Mask.{Mask}
use Rattle.ps_config.specs.Numbers.{default_ack_seconds, default_retention, default_expiration}

-- Of a topic the bits from 0 are labels and retention. Of a subscription they are the seconds of a lease, whether acknowledged messages are retained, retention, labels, expiration, dead letters, retry, exactly-once mode, and push settings, which this project doesn't keep.
abbrev pub has_bit : Mask → ℕ → Bool
has_bit mask bit = nat_eq ((mask.0 / 2 ^ bit) % 2) 1

-- some bit, and none past these many
abbrev pub is_mask : ℕ → Mask → Bool
is_mask bits mask = not (nat_eq mask.0 0) && nat_lt mask.0 (2 ^ bits)

-- every field
abbrev pub whole_mask : Mask
whole_mask = record { 0 = 511 }

-- what absent fields mean
abbrev pub default_topic : TopicConfig
default_topic = record { labels = []; retention = None }

abbrev pub default_sub : SubConfig
default_sub = record { ack_seconds = default_ack_seconds; retain_acked = false; retention = default_retention; labels = []; ordering = false; expiration = Some default_expiration; filter = []; dead_letter = None; retry = None; exactly_once = false }

abbrev pub masked_topic : Mask → TopicConfig → TopicConfig → TopicConfig
masked_topic mask old new = record {
  labels = if has_bit mask 0 then new.labels else old.labels;
  retention = if has_bit mask 1 then new.retention else old.retention;
}

-- ordering and the filter can't be changed
abbrev pub masked_sub : Mask → SubConfig → SubConfig → SubConfig
masked_sub mask old new = record {
  ack_seconds = if has_bit mask 0 then new.ack_seconds else old.ack_seconds;
  retain_acked = if has_bit mask 1 then new.retain_acked else old.retain_acked;
  retention = if has_bit mask 2 then new.retention else old.retention;
  labels = if has_bit mask 3 then new.labels else old.labels;
  ordering = old.ordering;
  expiration = if has_bit mask 4 then new.expiration else old.expiration;
  filter = old.filter;
  dead_letter = if has_bit mask 5 then new.dead_letter else old.dead_letter;
  retry = if has_bit mask 6 then new.retry else old.retry;
  exactly_once = if has_bit mask 7 then new.exactly_once else old.exactly_once;
}

-- the value is set, and is this number
abbrev pub is_set_to : ℕ → Option ℕ → Bool
is_set_to n None = false
is_set_to n (Some own) = nat_eq own n

-- each field of a topic is named, or has its default
abbrev pub is_masked_topic : Mask → TopicConfig → Bool
is_masked_topic mask config = (has_bit mask 0 || is_empty config.labels) && (has_bit mask 1 || is_none config.retention)

-- the seconds of a lease, the retention and the expiration
abbrev pub has_masked_times : Mask → SubConfig → Bool
has_masked_times mask config =
    (has_bit mask 0 || nat_eq config.ack_seconds default_ack_seconds)
    && ((has_bit mask 1 || not config.retain_acked)
    && ((has_bit mask 2 || nat_eq config.retention default_retention)
    && (has_bit mask 4 || is_set_to default_expiration config.expiration)))

-- the labels, the policies and exactly-once mode
abbrev pub has_masked_policies : Mask → SubConfig → Bool
has_masked_policies mask config =
    (has_bit mask 3 || is_empty config.labels)
    && ((has_bit mask 5 || is_none config.dead_letter)
    && ((has_bit mask 6 || is_none config.retry)
    && (has_bit mask 7 || not config.exactly_once)))

-- each field of a subscription is named, or has its default; ordering and the filter can't be named
abbrev pub is_masked_sub : Mask → SubConfig → Bool
is_masked_sub mask config = not config.ordering && (is_empty config.filter && (has_masked_times mask config && has_masked_policies mask config))

-- that is so if and only if the settings are their masked fields over the defaults
abbrev pub TopicIsMasked : Type 0
TopicIsMasked = (mask : Mask) (config : TopicConfig) → (is_masked_topic mask config ≡ true) ↔ (masked_topic mask default_topic config ≡ config)

abbrev pub SubIsMasked : Type 0
SubIsMasked = (mask : Mask) (config : SubConfig) → (is_masked_sub mask config ≡ true) ↔ (masked_sub mask default_sub config ≡ config)
