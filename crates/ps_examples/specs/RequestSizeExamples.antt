-- Worked examples: how many bytes a publish may have.
use Rattle.std.specs.Prelude.{ℕ, ◌≡◌, [], ◌∷◌, Some, None, codes, replicate}
use Rattle.ps_base.specs.declared.reason.Reason.TheVariants.{MessageEmpty, RequestSize}
use Rattle.ps_message.specs.declared.message.Message.{Message}
use Rattle.ps_message.specs.Messages.{publish_fault}

-- a payload of so many bytes and nothing else
abbrev pub payload_of : ℕ → Message
payload_of n = record { payload = replicate n 97; attributes = []; key = [] }

-- the same with an attribute of 3 bytes and an ordering key of 3
abbrev pub all_parts : ℕ → Message
all_parts n = record { payload = replicate n 97; attributes = (codes "a", codes "12") ∷ []; key = codes "key" }

pub record RequestSizeExamples : Type 0 where
  -- one message has at most 10,000,000 bytes
  pub greatest : publish_fault (payload_of 10000000 ∷ []) ≡ None
  pub greater : publish_fault (payload_of 10000001 ∷ []) ≡ Some RequestSize
  -- so do several together
  pub greatest_together : publish_fault (payload_of 4000000 ∷ payload_of 6000000 ∷ []) ≡ None
  pub greater_together : publish_fault (payload_of 4000000 ∷ payload_of 6000001 ∷ []) ≡ Some RequestSize
  -- keys and values of attributes count, and ordering keys
  pub greatest_of_all_parts : publish_fault (all_parts 9999994 ∷ []) ≡ None
  pub greater_of_all_parts : publish_fault (all_parts 9999995 ∷ []) ≡ Some RequestSize
  -- the bytes are looked at last
  pub messages_first : publish_fault (payload_of 10000001 ∷ payload_of 0 ∷ []) ≡ Some (MessageEmpty 1)
