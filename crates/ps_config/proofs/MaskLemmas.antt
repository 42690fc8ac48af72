-- The tests of masked settings pass exactly where applying the mask to the defaults gives the settings.
use Rattle.std.proofs.Common.{◌≡◌, ◌↔◌, ℕ, Bool, true, false, not, ◌&&◌, ◌||◌, nat_eq, List, [], ◌∷◌, Option, Some, None, is_none, if◌then◌else◌, refl, ap, sym}
use Rattle.std.proofs.lemmas.Bool.{eqb-true, eq-eqb, and_parts, and_from, false≢true}
use Rattle.ps_message.specs.Lists.{is_empty}
use Rattle.ps_config.specs.declared.config.TopicConfig.{TopicConfig}
use Rattle.ps_config.specs.declared.config.SubConfig.{SubConfig}
use Rattle.ps_config.specs.declared.mask.Mask.{Mask}
use Rattle.ps_config.specs.Numbers.{default_ack_seconds, default_retention, default_expiration}
use Rattle.ps_config.specs.Masks.{has_bit, default_topic, default_sub, masked_topic, masked_sub, is_set_to, is_masked_topic, has_masked_times, has_masked_policies, is_masked_sub, TopicIsMasked, SubIsMasked}

-- ---- a value is its default

number : (default value : ℕ) → (nat_eq value default ≡ true) ↔ (default ≡ value)
number default value = (λ e. sym (eqb-true value default e), λ e. eq-eqb value default (sym e))

flag : (value : Bool) → (not value ≡ true) ↔ (false ≡ value)
flag true = (λ e. absurd (false≢true e), λ e. absurd (false≢true e))
flag false = (λ e. refl, λ e. refl)

list : {A : Type 0} (value : List A) → (is_empty value ≡ true) ↔ ([] ≡ value)
list [] = (λ e. refl, λ e. refl)
list (x ∷ xs) = (λ e. absurd (false≢true e), λ e. absurd (cc))

option : {A : Type 0} (value : Option A) → (is_none value ≡ true) ↔ (None ≡ value)
option None = (λ e. refl, λ e. refl)
option (Some x) = (λ e. absurd (false≢true e), λ e. absurd (cc))

set : (default : ℕ) (value : Option ℕ) → (is_set_to default value ≡ true) ↔ (Some default ≡ value)
set default None = (λ e. absurd (false≢true e), λ e. absurd (cc))
set default (Some own) = (λ e. ap Some (sym (eqb-true own default e)), λ e. let same : default ≡ own = cc in eq-eqb own default (sym same))

-- it is named, or that
field : {A : Type 0} (named standard : Bool) (default value : A) → ((standard ≡ true) ↔ (default ≡ value)) → ((named || standard) ≡ true) ↔ ((if named then value else default) ≡ value)
field true standard default value is = (λ e. refl, λ e. refl)
field false standard default value is = is

-- ---- all fields

module _ (mask : Mask) (config : TopicConfig) where
  labels : ((has_bit mask 0 || is_empty config.labels) ≡ true) ↔ ((masked_topic mask default_topic config).labels ≡ config.labels)
  labels = field (has_bit mask 0) (is_empty config.labels) [] config.labels (list config.labels)

  retention : ((has_bit mask 1 || is_none config.retention) ≡ true) ↔ ((masked_topic mask default_topic config).retention ≡ config.retention)
  retention = field (has_bit mask 1) (is_none config.retention) None config.retention (option config.retention)

  pub topic-tested : is_masked_topic mask config ≡ true → masked_topic mask default_topic config ≡ config
  topic-tested e =
      let parts = and_parts (has_bit mask 0 || is_empty config.labels) (has_bit mask 1 || is_none config.retention) e in
      λ i. record { labels = labels.0 parts.0 i; retention = retention.0 parts.1 i }

  pub topic-masked : masked_topic mask default_topic config ≡ config → is_masked_topic mask config ≡ true
  topic-masked e =
      and_from (has_bit mask 0 || is_empty config.labels) (has_bit mask 1 || is_none config.retention)
      (labels.1 (ap (λ (c : TopicConfig). c.labels) e))
      (retention.1 (ap (λ (c : TopicConfig). c.retention) e))

pub topic_is_masked : TopicIsMasked
topic_is_masked mask config = (topic-tested mask config, topic-masked mask config)

module _ (mask : Mask) (config : SubConfig) where
  abbrev seconds : Bool
  seconds = has_bit mask 0 || nat_eq config.ack_seconds default_ack_seconds

  of_seconds : (seconds ≡ true) ↔ ((masked_sub mask default_sub config).ack_seconds ≡ config.ack_seconds)
  of_seconds = field (has_bit mask 0) (nat_eq config.ack_seconds default_ack_seconds) default_ack_seconds config.ack_seconds (number default_ack_seconds config.ack_seconds)

  abbrev acked : Bool
  acked = has_bit mask 1 || not config.retain_acked

  of_acked : (acked ≡ true) ↔ ((masked_sub mask default_sub config).retain_acked ≡ config.retain_acked)
  of_acked = field (has_bit mask 1) (not config.retain_acked) false config.retain_acked (flag config.retain_acked)

  abbrev window : Bool
  window = has_bit mask 2 || nat_eq config.retention default_retention

  of_window : (window ≡ true) ↔ ((masked_sub mask default_sub config).retention ≡ config.retention)
  of_window = field (has_bit mask 2) (nat_eq config.retention default_retention) default_retention config.retention (number default_retention config.retention)

  abbrev ends : Bool
  ends = has_bit mask 4 || is_set_to default_expiration config.expiration

  of_ends : (ends ≡ true) ↔ ((masked_sub mask default_sub config).expiration ≡ config.expiration)
  of_ends = field (has_bit mask 4) (is_set_to default_expiration config.expiration) (Some default_expiration) config.expiration (set default_expiration config.expiration)

  abbrev marks : Bool
  marks = has_bit mask 3 || is_empty config.labels

  of_marks : (marks ≡ true) ↔ ((masked_sub mask default_sub config).labels ≡ config.labels)
  of_marks = field (has_bit mask 3) (is_empty config.labels) [] config.labels (list config.labels)

  abbrev dead : Bool
  dead = has_bit mask 5 || is_none config.dead_letter

  of_dead : (dead ≡ true) ↔ ((masked_sub mask default_sub config).dead_letter ≡ config.dead_letter)
  of_dead = field (has_bit mask 5) (is_none config.dead_letter) None config.dead_letter (option config.dead_letter)

  abbrev rests : Bool
  rests = has_bit mask 6 || is_none config.retry

  of_rests : (rests ≡ true) ↔ ((masked_sub mask default_sub config).retry ≡ config.retry)
  of_rests = field (has_bit mask 6) (is_none config.retry) None config.retry (option config.retry)

  abbrev once : Bool
  once = has_bit mask 7 || not config.exactly_once

  of_once : (once ≡ true) ↔ ((masked_sub mask default_sub config).exactly_once ≡ config.exactly_once)
  of_once = field (has_bit mask 7) (not config.exactly_once) false config.exactly_once (flag config.exactly_once)

  pub sub-tested : is_masked_sub mask config ≡ true → masked_sub mask default_sub config ≡ config
  sub-tested e =
      let a = and_parts (not config.ordering) (is_empty config.filter && (has_masked_times mask config && has_masked_policies mask config)) e in
      let b = and_parts (is_empty config.filter) (has_masked_times mask config && has_masked_policies mask config) a.1 in
      let c = and_parts (has_masked_times mask config) (has_masked_policies mask config) b.1 in
      let t1 = and_parts seconds (acked && (window && ends)) c.0 in
      let t2 = and_parts acked (window && ends) t1.1 in
      let t3 = and_parts window ends t2.1 in
      let p1 = and_parts marks (dead && (rests && once)) c.1 in
      let p2 = and_parts dead (rests && once) p1.1 in
      let p3 = and_parts rests once p2.1 in
      λ i. record {
        ack_seconds = of_seconds.0 t1.0 i;
        retain_acked = of_acked.0 t2.0 i;
        retention = of_window.0 t3.0 i;
        labels = of_marks.0 p1.0 i;
        ordering = (flag config.ordering).0 a.0 i;
        expiration = of_ends.0 t3.1 i;
        filter = (list config.filter).0 b.0 i;
        dead_letter = of_dead.0 p2.0 i;
        retry = of_rests.0 p3.0 i;
        exactly_once = of_once.0 p3.1 i;
      }

  pub sub-masked : masked_sub mask default_sub config ≡ config → is_masked_sub mask config ≡ true
  sub-masked e =
      let times = and_from seconds (acked && (window && ends)) (of_seconds.1 (ap (λ (c : SubConfig). c.ack_seconds) e))
      (and_from acked (window && ends) (of_acked.1 (ap (λ (c : SubConfig). c.retain_acked) e))
      (and_from window ends (of_window.1 (ap (λ (c : SubConfig). c.retention) e)) (of_ends.1 (ap (λ (c : SubConfig). c.expiration) e)))) in
      let policies = and_from marks (dead && (rests && once)) (of_marks.1 (ap (λ (c : SubConfig). c.labels) e))
      (and_from dead (rests && once) (of_dead.1 (ap (λ (c : SubConfig). c.dead_letter) e))
      (and_from rests once (of_rests.1 (ap (λ (c : SubConfig). c.retry) e)) (of_once.1 (ap (λ (c : SubConfig). c.exactly_once) e)))) in
      and_from (not config.ordering) (is_empty config.filter && (has_masked_times mask config && has_masked_policies mask config)) ((flag config.ordering).1 (ap (λ (c : SubConfig). c.ordering) e))
      (and_from (is_empty config.filter) (has_masked_times mask config && has_masked_policies mask config) ((list config.filter).1 (ap (λ (c : SubConfig). c.filter) e))
      (and_from (has_masked_times mask config) (has_masked_policies mask config) times policies))

pub sub_is_masked : SubIsMasked
sub_is_masked mask config = (sub-tested mask config, sub-masked mask config)

-- ---- applying a mask twice

twice : {A : Type 0} (named : Bool) (value old : A) → (if named then (if named then value else old) else old) ≡ (if named then value else old)
twice true value old = refl
twice false value old = refl

pub topic-twice : (mask : Mask) (old config : TopicConfig) → masked_topic mask old (masked_topic mask old config) ≡ masked_topic mask old config
topic-twice mask old config = λ i. record {
  labels = twice (has_bit mask 0) config.labels old.labels i;
  retention = twice (has_bit mask 1) config.retention old.retention i;
}

pub sub-twice : (mask : Mask) (old config : SubConfig) → masked_sub mask old (masked_sub mask old config) ≡ masked_sub mask old config
sub-twice mask old config = λ i. record {
  ack_seconds = twice (has_bit mask 0) config.ack_seconds old.ack_seconds i;
  retain_acked = twice (has_bit mask 1) config.retain_acked old.retain_acked i;
  retention = twice (has_bit mask 2) config.retention old.retention i;
  labels = twice (has_bit mask 3) config.labels old.labels i;
  ordering = old.ordering;
  expiration = twice (has_bit mask 4) config.expiration old.expiration i;
  filter = old.filter;
  dead_letter = twice (has_bit mask 5) config.dead_letter old.dead_letter i;
  retry = twice (has_bit mask 6) config.retry old.retry i;
  exactly_once = twice (has_bit mask 7) config.exactly_once old.exactly_once i;
}
