-- The form in which a command is recorded, and the test of it.
use Rattle.std.proofs.Common.{◌≡◌, ℕ, min, true, ◌&&◌, nat_le, Option, Some, None, option_map, refl, sym, ap, ◌∙◌, arith}
use Rattle.std.proofs.lemmas.Bool.{and_parts, and_from, le-leb, leb-true}
use Rattle.ps_message.specs.Limits.{most_messages, most_bytes}
use Rattle.ps_config.specs.Masks.{default_topic, default_sub}
use Rattle.ps_config.proofs.MaskLemmas.{topic-tested, topic-masked, sub-tested, sub-masked, topic-twice, sub-twice}
use Rattle.ps_model.specs.declared.command.Command.{Command}
use Rattle.ps_model.specs.declared.command.Command.TheVariants.{UpdateTopic, UpdateSubscription, Pull}
use Rattle.ps_model.specs.Checks.{as_read, is_normal, lease_seconds, is_lease_normal, AsReadIsNormal, NormalIsAsRead}

lease-normal : (o : Option ℕ) → is_lease_normal (option_map lease_seconds o) ≡ true
lease-normal None = refl
lease-normal (Some seconds) = and_from (nat_le 10 (lease_seconds seconds)) (nat_le (lease_seconds seconds) 600) (le-leb 10 (lease_seconds seconds) (omega arith)) (le-leb (lease_seconds seconds) 600 (omega arith))

lease-read : (o : Option ℕ) → is_lease_normal o ≡ true → option_map lease_seconds o ≡ o
lease-read None normal = refl
lease-read (Some seconds) normal =
    let parts = and_parts (nat_le 10 seconds) (nat_le seconds 600) normal in
    let least = leb-true 10 seconds parts.0 in
    let most = leb-true seconds 600 parts.1 in
    ap (λ (n : ℕ). Some n) (omega (arith, least, most))

capped : (n most : ℕ) → nat_le (min n most) most ≡ true
capped n most = le-leb (min n most) most (omega arith)

within : (n most : ℕ) → nat_le n most ≡ true → min n most ≡ n
within n most test = let le = leb-true n most test in omega (arith, le)

pub read-normal : AsReadIsNormal
read-normal (UpdateTopic topic mask config) = topic-masked mask _ (topic-twice mask default_topic config)
read-normal (UpdateSubscription subscription mask config) = sub-masked mask _ (sub-twice mask default_sub config)
read-normal (Pull subscription most budget seconds) =
    and_from (nat_le (min most most_messages) most_messages) (nat_le (min budget most_bytes) most_bytes && is_lease_normal (option_map lease_seconds seconds)) (capped most most_messages)
    (and_from (nat_le (min budget most_bytes) most_bytes) (is_lease_normal (option_map lease_seconds seconds)) (capped budget most_bytes) (lease-normal seconds))
read-normal _ = refl

pub normal-read : (c : Command) → is_normal c ≡ true → as_read c ≡ c
normal-read (UpdateTopic topic mask config) normal = ap (UpdateTopic topic mask) (topic-tested mask config normal)
normal-read (UpdateSubscription subscription mask config) normal = ap (UpdateSubscription subscription mask) (sub-tested mask config normal)
normal-read (Pull subscription most budget seconds) normal =
    let few = and_parts (nat_le most most_messages) (nat_le budget most_bytes && is_lease_normal seconds) normal in
    let small = and_parts (nat_le budget most_bytes) (is_lease_normal seconds) few.1 in
    λ i. Pull subscription (within most most_messages few.0 i) (within budget most_bytes small.0 i) (lease-read seconds small.1 i)
normal-read _ normal = refl

-- the form of a command's form is the same
pub read-twice : (c : Command) → as_read (as_read c) ≡ as_read c
read-twice c = normal-read (as_read c) (read-normal c)

pub normal_is_read : NormalIsAsRead
normal_is_read c = (normal-read c, λ e. ap is_normal (sym e) ∙ read-normal c)
