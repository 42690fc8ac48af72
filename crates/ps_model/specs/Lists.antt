-- Functions on lists that the rules share.
use Rattle.std.specs.Prelude.{ℕ, Bool, List, [], ◌∷◌, if◌then◌else◌}
use Rattle.std.specs.List.{list_any}
use Rattle.ps_message.specs.Lists.{total}

-- each item once, at its first place
abbrev pub once_after : {A : Type 0} → (A → A → Bool) → List A → List A → List A
once_after same seen [] = []
once_after same seen (x ∷ xs) = if list_any (same x) seen then once_after same seen xs else x ∷ once_after same (x ∷ seen) xs

abbrev pub once : {A : Type 0} → (A → A → Bool) → List A → List A
once same = once_after same []

-- the number of items that pass the test
abbrev pub tally : {A : Type 0} → (A → Bool) → List A → ℕ
tally test = total (λ x. if test x then 1 else 0)
