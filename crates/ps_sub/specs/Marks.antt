-- Marks written over slots.
use Rattle.std.specs.Prelude.{Bool, false, ◌||◌, not, List, [], ◌∷◌, filter}
use Rattle.ps_model.specs.declared.mark.Slot.{Slot}
use Rattle.ps_model.specs.declared.mark.Mark.{Mark}
use Rattle.ps_model.specs.Same.{same_mark}
use Rattle.ps_model.specs.Slots.{remark, is_gone}

-- each slot with the mark of its place
abbrev pub with_marks : List Mark → List Slot → List Slot
with_marks [] slots = slots
with_marks (m ∷ ms) [] = []
with_marks (m ∷ ms) (s ∷ ss) = remark s m ∷ with_marks ms ss

-- some mark isn't the one of the slot of its place
abbrev pub any_differs : List Mark → List Slot → Bool
any_differs [] slots = false
any_differs (m ∷ ms) [] = false
any_differs (m ∷ ms) (s ∷ ss) = not (same_mark s.mark m) || any_differs ms ss

-- the slots without those that are gone
abbrev pub live : List Slot → List Slot
live slots = filter (λ s. not (is_gone s.mark)) slots
