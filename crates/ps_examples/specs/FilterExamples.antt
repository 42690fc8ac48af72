-- Worked examples: which attributes meet a filter.
use Rattle.std.specs.Prelude.{ℕ, ◌≡◌, Bool, true, false, List, [], ◌∷◌, codes}
use Rattle.ps_filter.specs.Filters.{meets}
use Rattle.ps_examples.specs.Samples.{hi}

-- a message with these attributes meets the filter
abbrev pub lets_through : List ℕ → List (List ℕ × List ℕ) → Bool
lets_through text attributes = meets text (record hi { attributes = attributes })

-- an attribute
abbrev pub one : List ℕ → List ℕ → List (List ℕ × List ℕ)
one key value = (key, value) ∷ []

-- the attribute `b` with the value `1`
abbrev pub b1 : List (List ℕ × List ℕ)
b1 = one (codes "b") (codes "1")

pub record FilterExamples : Type 0 where
  -- the empty filter lets all through
  pub nothing_asked : lets_through [] [] ≡ true
  -- `:` asks for the key
  pub key_there : lets_through (codes "attributes:b") b1 ≡ true
  pub key_not_there : lets_through (codes "attributes:a") b1 ≡ false
  -- `=` asks for the key and its whole value
  pub value_equal : lets_through (codes "attributes.b = \"1\"") b1 ≡ true
  pub value_other : lets_through (codes "attributes.b = \"2\"") b1 ≡ false
  pub value_longer : lets_through (codes "attributes.b = \"1\"") (one (codes "b") (codes "12")) ≡ false
  pub value_of_no_key : lets_through (codes "attributes.a = \"1\"") b1 ≡ false
  -- `!=` is the negation of `=`, so a key that isn't there differs from every value
  pub differs_from_its_own : lets_through (codes "attributes.b != \"1\"") b1 ≡ false
  pub differs_from_another : lets_through (codes "attributes.b != \"2\"") b1 ≡ true
  pub no_key_differs : lets_through (codes "attributes.a != \"x\"") b1 ≡ true
  -- `hasPrefix` asks for the key and the first bytes of its value; each value begins with no bytes
  pub prefix_of_it : lets_through (codes "hasPrefix(attributes.b, \"1\")") (one (codes "b") (codes "12")) ≡ true
  pub prefix_that_is_the_value : lets_through (codes "hasPrefix(attributes.b, \"12\")") (one (codes "b") (codes "12")) ≡ true
  pub prefix_longer_than_it : lets_through (codes "hasPrefix(attributes.b, \"12\")") b1 ≡ false
  pub end_is_no_prefix : lets_through (codes "hasPrefix(attributes.b, \"2\")") (one (codes "b") (codes "12")) ≡ false
  pub empty_prefix_of_no_key : lets_through (codes "hasPrefix(attributes.a, \"\")") b1 ≡ false
  pub empty_prefix_of_an_empty_value : lets_through (codes "hasPrefix(attributes.a, \"\")") (one (codes "a") []) ≡ true
  -- `NOT` and `-` negate the one term behind them, and one another
  pub negated : lets_through (codes "NOT attributes:b") b1 ≡ false
  pub negated_by_a_hyphen : lets_through (codes "-attributes:a") b1 ≡ true
  pub negated_twice : lets_through (codes "NOT NOT attributes:b") b1 ≡ true
  pub negated_thrice : lets_through (codes "NOT - NOT attributes:b") b1 ≡ false
  pub hyphens_side_by_side : lets_through (codes "--attributes:b") b1 ≡ true
  pub one_term_alone : lets_through (codes "NOT attributes:b OR attributes:b") b1 ≡ true
  pub all_in_parentheses : lets_through (codes "NOT (attributes:b OR attributes:b)") b1 ≡ false
