-- What good settings of a subscription say.
use Rattle.std.proofs.Common.{◌≡◌, ◌≤◌, Bool, true, false, ◌||◌, nat_lt, List, ◌∷◌, Option, None, refl}
use Rattle.std.proofs.lemmas.Bool.{ltb-false, or_parts}
use Rattle.ps_base.specs.declared.reason.Reason.{Reason}
use Rattle.ps_base.specs.declared.reason.Reason.TheVariants.{AckDeadlineSeconds}
use Rattle.ps_config.specs.declared.config.SubConfig.{SubConfig}
use Rattle.ps_message.specs.Lists.{first_of}
use Rattle.ps_message.specs.Messages.{broken}
use Rattle.ps_model.specs.Checks.{new_sub_fault}

-- the seconds of a lease, where nothing else is said
pub lease-seconds : (config : SubConfig) → new_sub_fault config ≡ None → (10 ≤ config.ack_seconds) × (config.ack_seconds ≤ 600)
lease-seconds config good = by (nat_lt config.ack_seconds 10 || nat_lt 600 config.ack_seconds) refl _ _ good
  where
    within : (nat_lt config.ack_seconds 10 || nat_lt 600 config.ack_seconds) ≡ false → (10 ≤ config.ack_seconds) × (config.ack_seconds ≤ 600)
    within none =
        let parts = or_parts (nat_lt config.ack_seconds 10) (nat_lt 600 config.ack_seconds) none in
        (ltb-false config.ack_seconds 10 parts.0, ltb-false 600 config.ack_seconds parts.1)

    by : (outside : Bool) → (nat_lt config.ack_seconds 10 || nat_lt 600 config.ack_seconds) ≡ outside → (rest : List (Option Reason)) (others : List (Option Reason))
        → first_of (first_of (broken outside AckDeadlineSeconds ∷ rest) ∷ others) ≡ None → (10 ≤ config.ack_seconds) × (config.ack_seconds ≤ 600)
    by true is rest others e = absurd (cc (e))
    by false is rest others e = within is
