-- A part of a path, by whether it stands for text.
use Rattle.std.proofs.Common.{◌≡◌, ℕ, List, Bool, true, false, Option, Some, None, if◌then◌else◌, refl}
use Rattle.std.specs.Str.{IsUtf8, is_utf8}
use Rattle.std.proofs.lemmas.Str.{IsUtf8-from_is_utf8, is_utf8-from_IsUtf8}
use Rattle.percent_encoding.specs.Percent.{percent_decode}
use Rattle.ps_rest.specs.Targets.{decoded_part}

pub part_is_text : (part : List ℕ) → IsUtf8 (percent_decode part) → decoded_part part ≡ Some (percent_decode part)
part_is_text part utf8 = rw (is_utf8-from_IsUtf8 (percent_decode part) utf8)

none_by : (b : Bool) (d : List ℕ) → is_utf8 d ≡ b → (IsUtf8 d → ⊥) → ◌≡◌ {A = Option (List ℕ)} (if b then Some d else None) None
none_by true d is none = absurd (none (IsUtf8-from_is_utf8 d is))
none_by false d is none = refl

pub part_is_no_text : (part : List ℕ) → (IsUtf8 (percent_decode part) → ⊥) → decoded_part part ≡ None
part_is_no_text part none = none_by _ (percent_decode part) refl none
