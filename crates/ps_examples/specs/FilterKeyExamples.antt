-- Worked examples: how terms of a filter are joined, and how its keys and values are spelled.
use Rattle.std.specs.Prelude.{ℕ, ◌≡◌, true, false, List, [], ◌∷◌, codes}
use Rattle.ps_examples.specs.FilterExamples.{lets_through, one, b1}

-- the attributes `AND` and `OR`
abbrev pub joining_words : List (List ℕ × List ℕ)
joining_words = (codes "AND", codes "1") ∷ (codes "OR", codes "2") ∷ []

pub record FilterKeyExamples : Type 0 where
  -- `AND` asks for all terms, `OR` for one of them
  pub both : lets_through (codes "attributes:b AND attributes.b = \"1\"") b1 ≡ true
  pub only_one_of_both : lets_through (codes "attributes:b AND attributes:a") b1 ≡ false
  pub last_of_three_lacks : lets_through (codes "attributes:b AND attributes:b AND attributes:a") b1 ≡ false
  pub either : lets_through (codes "attributes:a OR attributes:b") b1 ≡ true
  pub neither : lets_through (codes "attributes:a OR attributes:c") b1 ≡ false
  pub last_of_three_is_there : lets_through (codes "attributes:a OR attributes:c OR attributes:b") b1 ≡ true
  -- parentheses hold terms together, and each pair is a level of its own
  pub or_inside_and : lets_through (codes "attributes:a AND (attributes:a OR attributes:b)") b1 ≡ false
  pub and_inside_or : lets_through (codes "attributes:b OR (attributes:a AND attributes:a)") b1 ≡ true
  pub parentheses_around_one : lets_through (codes "((attributes:b))") b1 ≡ true
  -- a key is a word or a string; a word may hold digits, `_` and `-`
  pub key_in_quotes : lets_through (codes "attributes:\"b\"") b1 ≡ true
  pub key_in_quotes_compared : lets_through (codes "attributes.\"b\" = \"1\"") b1 ≡ true
  pub key_in_quotes_with_a_prefix : lets_through (codes "hasPrefix(attributes.\"b\", \"1\")") b1 ≡ true
  pub key_with_a_space : lets_through (codes "attributes:\"a b\"") (one (codes "a b") []) ≡ true
  pub key_with_a_hyphen : lets_through (codes "attributes:_a1-b") (one (codes "_a1-b") []) ≡ true
  -- the language's own words are keys in a key's place
  pub key_and : lets_through (codes "attributes:AND AND attributes.OR = \"2\"") joining_words ≡ true
  pub key_or : lets_through (codes "attributes:OR OR attributes:AND") joining_words ≡ true
  pub key_not : lets_through (codes "NOT attributes:NOT") (one (codes "NOT") []) ≡ false
  pub key_attributes : lets_through (codes "attributes.attributes = \"1\"") (one (codes "attributes") (codes "1")) ≡ true
  pub key_has_prefix : lets_through (codes "hasPrefix(attributes.hasPrefix, \"1\")") (one (codes "hasPrefix") (codes "1")) ≡ true
  -- `\"` and `\\` in a string stand for a quotation mark and a backslash
  pub quotation_mark : lets_through (codes "attributes.a = \"x\\\"y\"") (one (codes "a") (codes "x\"y")) ≡ true
  pub backslash : lets_through (codes "attributes.a = \"x\\\\y\"") (one (codes "a") (codes "x\\y")) ≡ true
  pub backslash_in_a_key : lets_through (codes "attributes:\"\\\\\"") (one (codes "\\") []) ≡ true
  -- blanks between tokens mean nothing, and in a string they are part of it
  pub without_blanks : lets_through (codes "(attributes.b=\"1\")AND(attributes:b)") b1 ≡ true
  pub with_blanks : lets_through (codes " attributes\t. b\r\n=  \"1\" ") b1 ≡ true
  pub blank_in_a_string : lets_through (codes "attributes.b = \"1 \"") b1 ≡ false
