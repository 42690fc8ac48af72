-- Which subscriptions have leases that are over, and what ends them one after the other.
use Rattle.std.specs.Prelude.{ℕ, Bool, nat_eq, List, map, filter, if◌then◌else◌}
use Rattle.std.specs.List.{list_any}
use Rattle.ps_model.specs.Failing.{is_due}
use Rattle.ps_tables.specs.declared.kept_subscription.KeptSubscription.{KeptSubscription}
use Rattle.ps_core.specs.Effects.{settle_subscription}
use Rattle.ps_tables.specs.Subscriptions.{number_of}

-- a lease of the subscription is over
abbrev pub has_due : ℕ → KeptSubscription → Bool
has_due at x = list_any (is_due at) x.sub.slots

-- the numbers of those subscriptions
abbrev pub due_numbers : ℕ → List KeptSubscription → List ℕ
due_numbers at subscriptions = map number_of (filter (has_due at) subscriptions)

-- on the subscription with this number the leases fail that are over
abbrev pub settle_numbered : ℕ → ℕ → KeptSubscription → KeptSubscription
settle_numbered at number x = if nat_eq x.number number then settle_subscription at x else x
