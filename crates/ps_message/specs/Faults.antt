-- Where a publish is at fault.
use Rattle.std.specs.Prelude.{ℕ, Option, Some, None}
use Rattle.ps_base.specs.declared.reason.Reason.{Reason}
use Rattle.ps_base.specs.declared.reason.Reason.TheVariants.{MessageEmpty, MessageAttributes, MessageAttributeKey, MessageAttributeValue, MessageOrderingKey}

-- the place of the message whose rule is broken
abbrev pub place_in : Reason → Option ℕ
place_in (MessageEmpty place) = Some place
place_in (MessageAttributes place) = Some place
place_in (MessageAttributeKey place) = Some place
place_in (MessageAttributeValue place) = Some place
place_in (MessageOrderingKey place) = Some place
place_in reason = None
