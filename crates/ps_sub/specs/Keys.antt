-- Ordering keys that were noted on a walk through the messages of a subscription.
use Rattle.std.specs.Prelude.{ℕ, ◌≡◌, Bool, ◌&&◌, not, List, String}
use Rattle.std.specs.BTreeSet.{BTreeSet, contains_text}
use Rattle.std.specs.List.{list_any}
use Rattle.std.specs.Str.{bytes_eq}
use Rattle.ps_message.specs.Lists.{is_empty}
use Rattle.ps_model.specs.declared.mark.Slot.{Slot}

-- the subscription is ordered, and the message has a key
abbrev pub has_order : Bool → Slot → Bool
has_order ordering s = ordering && not (is_empty s.item.key)

-- the message is noted, under this key
abbrev pub is_noted : Bool → Bool → List ℕ → Slot → Bool
is_noted ordering noted key s = noted && (has_order ordering s && bytes_eq s.item.key key)

-- these are the keys of the messages that pass the test
abbrev pub HasKeysOf : {Y : Type 0} → Bool → (Slot → Bool) → List Slot → BTreeSet (String Y) → Type 0
HasKeysOf ordering test slots keys = (key : List ℕ) → contains_text keys key ≡ list_any (λ (s : Slot). is_noted ordering (test s) key s) slots
