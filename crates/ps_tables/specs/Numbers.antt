-- Values by number.
use Rattle.std.specs.Prelude.{◌≡◌, ℕ, List, map, nat_eq, if◌then◌else◌}

-- each value stands at its own number
abbrev pub IsNumbered : {A : Type 0} → (A → ℕ) → List (ℕ × A) → Type 0
IsNumbered number entries = map (λ e. e.0) entries ≡ map (λ e. number e.1) entries

-- the value with this number is changed, and the others stay
abbrev pub changed_at : {A : Type 0} → (A → ℕ) → ℕ → (A → A) → List A → List A
changed_at number n f xs = map (λ x. if nat_eq (number x) n then f x else x) xs
