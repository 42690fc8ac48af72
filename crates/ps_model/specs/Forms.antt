-- The bytes of each kind of value, and what reads it: a value at the start of some bytes, with the bytes after it.
use Rattle.std.specs.Prelude.{◌≡◌, ◌<◌, ◌^◌, ℕ, zero, suc, Bool, true, false, List, [], ◌∷◌, ◌++◌, length, Result, Ok, Err, Option, Some, None, option_map, if◌then◌else◌}
use Rattle.std.specs.Str.{is_utf8}
use Rattle.ps_codec.specs.declared.fault.FieldError.{FieldError}
use Rattle.ps_codec.specs.Fields.{u32_field, u64_field, flag_field, bytes_field}
use Rattle.ps_codec.specs.Found.{u32_at, u64_at, flag_at, bytes_at}
use Rattle.ps_base.specs.Keys.{has_ascending_keys}
use Rattle.ps_base.specs.declared.ack_id.AckId.{AckId}
use Rattle.ps_message.specs.declared.message.Message.{Message}
use Rattle.ps_config.specs.declared.config.TopicConfig.{TopicConfig}
use Rattle.ps_config.specs.declared.config.SubConfig.{SubConfig}
use Rattle.ps_config.specs.declared.config.DeadLetterPolicy.{DeadLetterPolicy}
use Rattle.ps_config.specs.declared.config.RetryPolicy.{RetryPolicy}
use Rattle.ps_names.specs.Names.{is_topic_name}

-- a value at the start of some bytes, with the bytes after it
abbrev pub Reading : Type 0 → Type 0
Reading A = List ℕ → Option (A × List ℕ)

-- the value of a field, if there is one
abbrev pub found : {A : Type 0} → Result (A × List ℕ) FieldError → Option (A × List ℕ)
found (Ok value) = Some value
found (Err fault) = None

abbrev pub number32_at : Reading ℕ
number32_at bytes = found (u32_at bytes)

abbrev pub number64_at : Reading ℕ
number64_at bytes = found (u64_at bytes)

abbrev pub truth_at : Reading Bool
truth_at bytes = found (flag_at bytes)

abbrev pub octets_at : Reading (List ℕ)
octets_at bytes = found (bytes_at bytes)

-- only a value that passes the test
abbrev pub checked : {A : Type 0} → (A → Bool) → Option (A × List ℕ) → Option (A × List ℕ)
checked test None = None
checked test (Some value) = if test value.0 then Some value else None

abbrev pub checked_at : {A : Type 0} → (A → Bool) → Reading A → Reading A
checked_at test at bytes = checked test (at bytes)

abbrev pub text_at : Reading (List ℕ)
text_at = checked_at is_utf8 octets_at

-- joins a value to the next one, read from the bytes after it
abbrev pub behind : {A B C : Type 0} → (A → B → C) → Reading B → Option (A × List ℕ) → Option (C × List ℕ)
behind join at None = None
behind join at (Some first) = option_map (λ second. (join first.0 second.0, second.1)) (at first.1)

-- two values, one after the other
abbrev pub pair_form : {A B : Type 0} → (A → List ℕ) → (B → List ℕ) → A × B → List ℕ
pair_form form form' pair = form pair.0 ++ form' pair.1

abbrev pub pair_at : {A B : Type 0} → Reading A → Reading B → Reading (A × B)
pair_at at at' bytes = behind (λ a b. (a, b)) at' (at bytes)

-- a flag, and after `true` the value
abbrev pub option_form : {A : Type 0} → (A → List ℕ) → Option A → List ℕ
option_form form None = flag_field false
option_form form (Some value) = flag_field true ++ form value

abbrev pub option_behind : {A : Type 0} → Reading A → Option (Bool × List ℕ) → Option (Option A × List ℕ)
option_behind at None = None
option_behind at (Some flag) = if flag.0 then option_map (λ value. (Some value.0, value.1)) (at flag.1) else Some (None, flag.1)

abbrev pub option_at : {A : Type 0} → Reading A → Reading (Option A)
option_at at bytes = option_behind at (truth_at bytes)

-- the items, one after another
abbrev pub each_form : {A : Type 0} → (A → List ℕ) → List A → List ℕ
each_form form [] = []
each_form form (x ∷ xs) = form x ++ each_form form xs

-- the number of items, then each item
abbrev pub list_form : {A : Type 0} → (A → List ℕ) → List A → List ℕ
list_form form xs = u32_field (length xs) ++ each_form form xs

-- this many items
abbrev pub each_at : {A : Type 0} → Reading A → ℕ → Reading (List A)
each_at at zero bytes = Some ([], bytes)
each_at at (suc n) bytes = behind (λ x xs. x ∷ xs) (each_at at n) (at bytes)

abbrev pub list_behind : {A : Type 0} → Reading A → Option (ℕ × List ℕ) → Option (List A × List ℕ)
list_behind at None = None
list_behind at (Some count) = each_at at count.0 count.1

abbrev pub list_at : {A : Type 0} → Reading A → Reading (List A)
list_at at bytes = list_behind at (number32_at bytes)

-- a value made from another one
abbrev pub made_at : {A B : Type 0} → (A → B) → Reading A → Reading B
made_at make at bytes = option_map (λ value. (make value.0, value.1)) (at bytes)

-- pairs of key and value, with distinct keys in ascending order
abbrev pub labels_form : List (List ℕ × List ℕ) → List ℕ
labels_form = list_form (pair_form bytes_field bytes_field)

abbrev pub labels_at : Reading (List (List ℕ × List ℕ))
labels_at = checked_at has_ascending_keys (list_at (pair_at text_at text_at))

-- ---- the values that have an encoding: each length and count fits four bytes

abbrev pub IsShort : List ℕ → Type 0
IsShort bytes = length bytes < 2 ^ 32

abbrev pub PairFits : {A B : Type 0} → (A → Type 0) → (B → Type 0) → A × B → Type 0
PairFits Fits Fits' pair = Fits pair.0 × Fits' pair.1

abbrev pub OptionFits : {A : Type 0} → (A → Type 0) → Option A → Type 0
OptionFits Fits None = Unit {0}
OptionFits Fits (Some value) = Fits value

abbrev pub EachFits : {A : Type 0} → (A → Type 0) → List A → Type 0
EachFits Fits [] = Unit {0}
EachFits Fits (x ∷ xs) = Fits x × EachFits Fits xs

abbrev pub ListFits : {A : Type 0} → (A → Type 0) → List A → Type 0
ListFits Fits xs = (length xs < 2 ^ 32) × EachFits Fits xs

-- values that fit and pass the test
abbrev pub CheckedFits : {A : Type 0} → (A → Bool) → (A → Type 0) → A → Type 0
CheckedFits test Fits value = Fits value × (test value ≡ true)

-- a text is bytes in UTF-8
abbrev pub TextFits : List ℕ → Type 0
TextFits = CheckedFits is_utf8 IsShort

abbrev pub LabelsFit : List (List ℕ × List ℕ) → Type 0
LabelsFit = CheckedFits has_ascending_keys (ListFits (PairFits TextFits TextFits))

-- ---- the bytes of the service's values

abbrev pub name_at : (List ℕ → Bool) → Reading (List ℕ)
name_at test = checked_at test text_at

abbrev pub NameFits : (List ℕ → Bool) → List ℕ → Type 0
NameFits test = CheckedFits test TextFits

abbrev pub message_form : Message → List ℕ
message_form m = bytes_field m.payload ++ (labels_form m.attributes ++ bytes_field m.key)

abbrev pub message_of : List ℕ × (List (List ℕ × List ℕ) × List ℕ) → Message
message_of parts = record { payload = parts.0; attributes = parts.1.0; key = parts.1.1 }

abbrev pub message_at : Reading Message
message_at = made_at message_of (pair_at octets_at (pair_at labels_at text_at))

abbrev pub MessageFits : Message → Type 0
MessageFits m = IsShort m.payload × (LabelsFit m.attributes × TextFits m.key)

abbrev pub topic_config_form : TopicConfig → List ℕ
topic_config_form c = labels_form c.labels ++ option_form u64_field c.retention

abbrev pub topic_config_of : List (List ℕ × List ℕ) × Option ℕ → TopicConfig
topic_config_of parts = record { labels = parts.0; retention = parts.1 }

abbrev pub topic_config_at : Reading TopicConfig
topic_config_at = made_at topic_config_of (pair_at labels_at (option_at number64_at))

abbrev pub IsBelow64 : ℕ → Type 0
IsBelow64 n = n < 2 ^ 64

abbrev pub IsBelow32 : ℕ → Type 0
IsBelow32 n = n < 2 ^ 32

abbrev pub TopicConfigFits : TopicConfig → Type 0
TopicConfigFits c = LabelsFit c.labels × OptionFits IsBelow64 c.retention

abbrev pub dead_letter_policy_form : DeadLetterPolicy → List ℕ
dead_letter_policy_form p = bytes_field p.topic ++ u32_field p.attempts

abbrev pub dead_letter_policy_of : List ℕ × ℕ → DeadLetterPolicy
dead_letter_policy_of parts = record { topic = parts.0; attempts = parts.1 }

abbrev pub dead_letter_policy_at : Reading DeadLetterPolicy
dead_letter_policy_at = made_at dead_letter_policy_of (pair_at (name_at is_topic_name) number32_at)

abbrev pub DeadLetterPolicyFits : DeadLetterPolicy → Type 0
DeadLetterPolicyFits p = NameFits is_topic_name p.topic × IsBelow32 p.attempts

abbrev pub retry_policy_form : RetryPolicy → List ℕ
retry_policy_form p = u64_field p.least ++ u64_field p.most

abbrev pub retry_policy_of : ℕ × ℕ → RetryPolicy
retry_policy_of parts = record { least = parts.0; most = parts.1 }

abbrev pub retry_policy_at : Reading RetryPolicy
retry_policy_at = made_at retry_policy_of (pair_at number64_at number64_at)

abbrev pub RetryPolicyFits : RetryPolicy → Type 0
RetryPolicyFits p = IsBelow64 p.least × IsBelow64 p.most

abbrev pub ack_id_form : AckId → List ℕ
ack_id_form id = u64_field id.sub ++ (u64_field id.message ++ u64_field id.lease)

abbrev pub ack_id_of : ℕ × (ℕ × ℕ) → AckId
ack_id_of parts = record { sub = parts.0; message = parts.1.0; lease = parts.1.1 }

abbrev pub ack_id_at : Reading AckId
ack_id_at = made_at ack_id_of (pair_at number64_at (pair_at number64_at number64_at))

abbrev pub AckIdFits : AckId → Type 0
AckIdFits id = IsBelow64 id.sub × (IsBelow64 id.message × IsBelow64 id.lease)

-- how long leases and messages live, and the labels
abbrev pub lives_form : SubConfig → List ℕ
lives_form c = u32_field c.ack_seconds ++ (flag_field c.retain_acked ++ (u64_field c.retention ++ labels_form c.labels))

-- which messages enter and in which order they are delivered, and when the subscription expires
abbrev pub entering_form : SubConfig → List ℕ
entering_form c = flag_field c.ordering ++ (option_form u64_field c.expiration ++ bytes_field c.filter)

-- what happens to a message whose lease ended
abbrev pub failing_form : SubConfig → List ℕ
failing_form c = option_form dead_letter_policy_form c.dead_letter ++ (option_form retry_policy_form c.retry ++ flag_field c.exactly_once)

abbrev pub sub_config_form : SubConfig → List ℕ
sub_config_form c = lives_form c ++ (entering_form c ++ failing_form c)

abbrev pub lives_at : Reading (ℕ × (Bool × (ℕ × List (List ℕ × List ℕ))))
lives_at = pair_at number32_at (pair_at truth_at (pair_at number64_at labels_at))

abbrev pub entering_at : Reading (Bool × (Option ℕ × List ℕ))
entering_at = pair_at truth_at (pair_at (option_at number64_at) text_at)

abbrev pub failing_at : Reading (Option DeadLetterPolicy × (Option RetryPolicy × Bool))
failing_at = pair_at (option_at dead_letter_policy_at) (pair_at (option_at retry_policy_at) truth_at)

abbrev pub sub_config_of : (ℕ × (Bool × (ℕ × List (List ℕ × List ℕ)))) × ((Bool × (Option ℕ × List ℕ)) × (Option DeadLetterPolicy × (Option RetryPolicy × Bool))) → SubConfig
sub_config_of parts = record {
  ack_seconds = parts.0.0;
  retain_acked = parts.0.1.0;
  retention = parts.0.1.1.0;
  labels = parts.0.1.1.1;
  ordering = parts.1.0.0;
  expiration = parts.1.0.1.0;
  filter = parts.1.0.1.1;
  dead_letter = parts.1.1.0;
  retry = parts.1.1.1.0;
  exactly_once = parts.1.1.1.1;
}

abbrev pub sub_config_at : Reading SubConfig
sub_config_at = made_at sub_config_of (pair_at lives_at (pair_at entering_at failing_at))

abbrev pub LivesFit : SubConfig → Type 0
LivesFit c = IsBelow32 c.ack_seconds × (Unit {0} × (IsBelow64 c.retention × LabelsFit c.labels))

abbrev pub EnteringFits : SubConfig → Type 0
EnteringFits c = Unit {0} × (OptionFits IsBelow64 c.expiration × TextFits c.filter)

abbrev pub FailingFits : SubConfig → Type 0
FailingFits c = OptionFits DeadLetterPolicyFits c.dead_letter × (OptionFits RetryPolicyFits c.retry × Unit {0})

abbrev pub SubConfigFits : SubConfig → Type 0
SubConfigFits c = LivesFit c × (EnteringFits c × FailingFits c)
