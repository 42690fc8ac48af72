-- Texts with another number of parts are no names of resources.
use Rattle.std.proofs.Common.{◌≡◌, ◌<◌, ◌≤◌, ℕ, List, [], ◌∷◌, length, false, Option, Some, None, Bor, unwrap_or, option_map, refl, arith}
use Rattle.ps_names.specs.Parts.{is_parts_of}

pub parts-few : (kind : List ℕ) (parts : List (List ℕ)) → length parts < 4 → is_parts_of kind parts ≡ false
parts-few kind [] few = refl
parts-few kind (a ∷ []) few = refl
parts-few kind (a ∷ b ∷ []) few = refl
parts-few kind (a ∷ b ∷ c ∷ []) few = refl
parts-few kind (a ∷ b ∷ c ∷ d ∷ parts) few = absurd (omega arith)

pub parts-many : (kind : List ℕ) (parts : List (List ℕ)) → 5 ≤ length parts → is_parts_of kind parts ≡ false
parts-many kind [] many = refl
parts-many kind (a ∷ []) many = refl
parts-many kind (a ∷ b ∷ []) many = refl
parts-many kind (a ∷ b ∷ c ∷ []) many = refl
parts-many kind (a ∷ b ∷ c ∷ d ∷ []) many = absurd (omega arith)
parts-many kind (a ∷ b ∷ c ∷ d ∷ e ∷ parts) many = refl

-- the text in an option, or another text
pub text-or : (found : Option (Bor (List ℕ))) (other : Bor (List ℕ)) → (unwrap_or found other).now ≡ unwrap_or (option_map (λ (x : Bor (List ℕ)). x.now) found) other.now
text-or None other = refl
text-or (Some x) other = refl
