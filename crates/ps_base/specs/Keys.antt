-- A map of texts: pairs of a key and a value, with distinct keys in ascending byte order.
use Rattle.std.specs.Prelude.{ℕ, Bool, List, drop, zip}
use Rattle.std.specs.List.{list_all}
use Rattle.std.specs.Cmp.Lexicographic.{slice_cmp}
use Rattle.std.specs.Ordering.{is_lt, nat_cmp}

-- a comes before b in byte order
abbrev pub is_below : List ℕ → List ℕ → Bool
is_below a b = is_lt (slice_cmp nat_cmp a b)

-- the first key is below the second
abbrev pub is_next_below : (List ℕ × List ℕ) × (List ℕ × List ℕ) → Bool
is_next_below p = is_below p.0.0 p.1.0

-- each key is below the next one
abbrev pub has_ascending_keys : List (List ℕ × List ℕ) → Bool
has_ascending_keys pairs = list_all is_next_below (zip pairs (drop 1 pairs))
