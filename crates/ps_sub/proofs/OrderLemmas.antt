-- Messages that no order holds back.
use Rattle.std.proofs.Common.{◌≡◌, Bool, true, false, ◌&&◌, not, nat_lt, List, [], ◌∷◌, refl}
use Rattle.std.specs.Str.{bytes_eq}
use Rattle.ps_message.specs.Lists.{is_empty}
use Rattle.ps_model.specs.declared.mark.Slot.{Slot}
use Rattle.ps_model.specs.Slots.{any_earlier}

no_earlier : (ordering below empty same test : Bool) → (ordering && not empty) ≡ false → ((ordering && (below && (not empty && same))) && test) ≡ false
no_earlier false below empty same test h = refl
no_earlier true false empty same test h = refl
no_earlier true true true same test h = refl
no_earlier true true false same test h = absurd (cc)

-- where the subscription isn't ordered or the message has no key, nothing is earlier
pub any_earlier_none : (ordering : Bool) (test : Slot → Bool) (slots : List Slot) (s : Slot) → (ordering && not (is_empty s.item.key)) ≡ false → any_earlier ordering test slots s ≡ false
any_earlier_none ordering test [] s h = refl
any_earlier_none ordering test (e ∷ es) s h =
    rw (no_earlier ordering (nat_lt e.item.number s.item.number) (is_empty s.item.key) (bytes_eq e.item.key s.item.key) (test e) h) (any_earlier_none ordering test es s h)
