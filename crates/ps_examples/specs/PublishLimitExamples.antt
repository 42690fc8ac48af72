-- Worked examples: the limits of what is published, each just inside and just outside, and which one is named.
use Rattle.std.specs.Prelude.{ℕ, suc, zero, ◌≡◌, List, [], ◌∷◌, codes, replicate}
use Rattle.ps_base.specs.declared.reason.Reason.TheVariants.{Messages, MessageEmpty, MessageAttributes, MessageAttributeKey, MessageAttributeValue, MessageOrderingKey}
use Rattle.ps_message.specs.declared.message.Message.{Message}
use Rattle.ps_model.specs.declared.reply.Reply.TheVariants.{Published}
use Rattle.ps_examples.specs.Samples.{told, base, hi, keyed, publish_at, broken_by}
use Rattle.ps_examples.specs.PublishExamples.{with_attribute, empty_message}

-- a text of so many letters
abbrev pub letters : ℕ → List ℕ
letters n = replicate n 97

-- so many attributes, with keys of this length on
abbrev pub attributes_from : ℕ → ℕ → List (List ℕ × List ℕ)
attributes_from length zero = []
attributes_from length (suc n) = (letters length, codes "1") ∷ attributes_from (suc length) n

abbrev pub with_attributes : ℕ → Message
with_attributes n = record hi { attributes = attributes_from 1 n }

-- too many attributes, an empty key, a too long value and a too long ordering key
abbrev pub all_wrong : Message
all_wrong = record { payload = []; attributes = ([], letters 1025) ∷ attributes_from 1 100; key = letters 1025 }

abbrev pub wrong_but_for_number : Message
wrong_but_for_number = record all_wrong { attributes = ([], letters 1025) ∷ attributes_from 1 99 }

abbrev pub wrong_but_for_keys : Message
wrong_but_for_keys = record all_wrong { attributes = (codes "a", letters 1025) ∷ [] }

pub record PublishLimitExamples : Type 0 where
  -- 100 attributes, and one more
  pub hundred_attributes : told base (publish_at 1000 (with_attributes 100 ∷ [])) ≡ Published 1 1
  pub one_attribute_more : told base (publish_at 1000 (with_attributes 101 ∷ [])) ≡ broken_by (MessageAttributes 0)
  -- the key of an attribute has 1 to 256 bytes
  pub empty_key : told base (publish_at 1000 (with_attribute [] (codes "1") ∷ [])) ≡ broken_by (MessageAttributeKey 0)
  pub shortest_key : told base (publish_at 1000 (with_attribute (letters 1) (codes "1") ∷ [])) ≡ Published 1 1
  pub longest_key : told base (publish_at 1000 (with_attribute (letters 256) (codes "1") ∷ [])) ≡ Published 1 1
  pub longer_key : told base (publish_at 1000 (with_attribute (letters 257) (codes "1") ∷ [])) ≡ broken_by (MessageAttributeKey 0)
  -- its value has at most 1,024, and may be empty
  pub empty_value : told base (publish_at 1000 (with_attribute (codes "a") [] ∷ [])) ≡ Published 1 1
  pub longest_value : told base (publish_at 1000 (with_attribute (codes "a") (letters 1024) ∷ [])) ≡ Published 1 1
  pub longer_value : told base (publish_at 1000 (with_attribute (codes "a") (letters 1025) ∷ [])) ≡ broken_by (MessageAttributeValue 0)
  -- so has the ordering key
  pub longest_ordering_key : told base (publish_at 1000 (keyed (letters 1024) ∷ [])) ≡ Published 1 1
  pub longer_ordering_key : told base (publish_at 1000 (keyed (letters 1025) ∷ [])) ≡ broken_by (MessageOrderingKey 0)
  -- where a message breaks several limits the first one is named
  pub number_of_attributes_first : told base (publish_at 1000 (all_wrong ∷ [])) ≡ broken_by (MessageAttributes 0)
  pub then_their_keys : told base (publish_at 1000 (wrong_but_for_number ∷ [])) ≡ broken_by (MessageAttributeKey 0)
  pub then_their_values : told base (publish_at 1000 (wrong_but_for_keys ∷ [])) ≡ broken_by (MessageAttributeValue 0)
  pub emptiness_before_the_ordering_key : told base (publish_at 1000 (record empty_message { key = letters 1025 } ∷ [])) ≡ broken_by (MessageEmpty 0)
  -- of several messages the first one that breaks a limit is named, by its place from 0
  pub second_message : told base (publish_at 1000 (hi ∷ empty_message ∷ [])) ≡ broken_by (MessageEmpty 1)
  pub first_of_two : told base (publish_at 1000 (hi ∷ keyed (letters 1025) ∷ empty_message ∷ [])) ≡ broken_by (MessageOrderingKey 1)
  -- their number comes before each of them
  pub number_of_messages_first : told base (publish_at 1000 (replicate 1001 empty_message)) ≡ broken_by Messages
