-- Messages that were handed out, in the order of the slots that they were chosen from.
use Rattle.std.specs.Prelude.{ℕ, Bool, true, false, nat_eq, List, [], ◌∷◌, Option, Some, None, if◌then◌else◌}
use Rattle.ps_model.specs.declared.mark.Handed.{Handed}
use Rattle.ps_model.specs.declared.mark.Slot.{Slot}

-- each is one of the slots, in their order
abbrev pub is_drawn : List Handed → List Slot → Bool
is_drawn [] slots = true
is_drawn (h ∷ hs) [] = false
is_drawn (h ∷ hs) (s ∷ ss) = if nat_eq h.number s.item.number then is_drawn hs ss else is_drawn (h ∷ hs) ss

-- the lease of the first, where it has this number
abbrev pub first_lease : List Handed → ℕ → Option ℕ
first_lease [] number = None
first_lease (h ∷ hs) number = if nat_eq h.number number then Some h.lease else None

-- those after the first, where it has this number
abbrev pub left_after : List Handed → ℕ → List Handed
left_after [] number = []
left_after (h ∷ hs) number = if nat_eq h.number number then hs else h ∷ hs
