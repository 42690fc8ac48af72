-- The mask of an update: the names of the settings that it changes, joined by commas.
use Rattle.std.specs.Prelude.{ℕ, List, [], ◌∷◌, Bool, eqb, bit_or, codes, if◌then◌else◌, Option, Some, None, option_and_then, option_map}
use Rattle.std.specs.List.{slice_split}
use Rattle.std.specs.Str.{bytes_eq}
use Rattle.ps_config.specs.declared.mask.Mask.{Mask}
use Rattle.ps_fields.specs.declared.rows.Object.{Object}
use Rattle.ps_fields.specs.declared.rows.Object.TheVariants.{Topic, Subscription}

abbrev pub is_comma : ℕ → Bool
is_comma b = eqb b 44

-- the names between the commas
abbrev pub names_in : List ℕ → List (List ℕ)
names_in mask = slice_split is_comma mask

-- the settings that an update of a topic can change, and the bit of each
abbrev pub topic_bits : List (List ℕ × ℕ)
topic_bits = (codes "labels", 1) ∷ (codes "messageRetentionDuration", 2) ∷ []

-- the same of a subscription
abbrev pub subscription_bits : List (List ℕ × ℕ)
subscription_bits =
    (codes "ackDeadlineSeconds", 1)
    ∷ (codes "retainAckedMessages", 2)
    ∷ (codes "messageRetentionDuration", 4)
    ∷ (codes "labels", 8)
    ∷ (codes "expirationPolicy", 16)
    ∷ (codes "deadLetterPolicy", 32)
    ∷ (codes "retryPolicy", 64)
    ∷ (codes "enableExactlyOnceDelivery", 128)
    ∷ (codes "pushConfig", 256)
    ∷ []

abbrev pub bits : Object → List (List ℕ × ℕ)
bits Topic = topic_bits
bits Subscription = subscription_bits
bits _ = []

abbrev pub bit_of : List ℕ → List (List ℕ × ℕ) → Option ℕ
bit_of name [] = None
bit_of name (row ∷ rest) = if bytes_eq name row.0 then Some row.1 else bit_of name rest

-- these bits and those of the names, if an update can change each of them
abbrev pub with_bits : Object → ℕ → List (List ℕ) → Option ℕ
with_bits table mask [] = Some mask
with_bits table mask (name ∷ names) = option_and_then (λ bit. with_bits table (bit_or mask bit) names) (bit_of name (bits table))

abbrev pub mask_with : ℕ → Mask
mask_with mask = record { 0 = mask }

-- the mask of these names
abbrev pub mask_of : Object → List (List ℕ) → Option Mask
mask_of table names = option_map mask_with (with_bits table 0 names)
