-- What settings mean that aren't asked for, and what each may be. Times are in milliseconds where the name says nothing else (API reference, Topic and Subscription; the limits on labels and the greatest retention and expiration are this project's own).
use Rattle.std.specs.Prelude.{ℕ}

-- ---- of a new subscription: the seconds of a lease, 7 days of retention, 31 days without use

abbrev pub default_ack_seconds : ℕ
default_ack_seconds = 10

abbrev pub default_retention : ℕ
default_retention = 604800000

abbrev pub default_expiration : ℕ
default_expiration = 2678400000

-- ---- of a retry policy that doesn't name its delays: 10 seconds and 10 minutes

abbrev pub default_least_delay : ℕ
default_least_delay = 10000

abbrev pub default_most_delay : ℕ
default_most_delay = 600000

-- ---- limits

-- the seconds of a lease
abbrev pub least_ack_seconds : ℕ
least_ack_seconds = 10

abbrev pub most_ack_seconds : ℕ
most_ack_seconds = 600

-- 10 minutes and 31 days
abbrev pub least_retention : ℕ
least_retention = 600000

abbrev pub most_retention : ℕ
most_retention = 2678400000

-- 1 day and 10 years of 365 days
abbrev pub least_expiration : ℕ
least_expiration = 86400000

abbrev pub most_expiration : ℕ
most_expiration = 315360000000

-- how many failures make a dead letter
abbrev pub least_attempts : ℕ
least_attempts = 5

abbrev pub most_attempts : ℕ
most_attempts = 100

-- 10 minutes
abbrev pub most_delay : ℕ
most_delay = 600000

abbrev pub most_labels : ℕ
most_labels = 64

-- of a label's key, which isn't empty, and of its value
abbrev pub most_bytes_of_label : ℕ
most_bytes_of_label = 63
