-- Worked examples: what keeps a text from being a filter, and where it does: inside a term, in a token, and at the end of the text.
use Rattle.std.specs.Prelude.{◌≡◌, [], ◌∷◌, ◌++◌, codes}
use Rattle.ps_filter.specs.Filters.{filter_fault}
use Rattle.ps_examples.specs.FilterFaultExamples.{wrong_at}

pub record FilterPlaceExamples : Type 0 where
  -- inside a term
  pub no_colon_or_dot : filter_fault (codes "attributes = \"x\"") ≡ wrong_at 11
  pub symbol_as_a_key : filter_fault (codes "attributes:-") ≡ wrong_at 11
  pub two_keys : filter_fault (codes "attributes.a.b = \"x\"") ≡ wrong_at 12
  pub colon_behind_a_dotted_key : filter_fault (codes "attributes.a : \"x\"") ≡ wrong_at 13
  pub word_as_a_value : filter_fault (codes "attributes.a = x") ≡ wrong_at 15
  pub prefix_without_parenthesis : filter_fault (codes "hasPrefix attributes.a") ≡ wrong_at 10
  pub prefix_of_no_attribute : filter_fault (codes "hasPrefix(a, \"x\")") ≡ wrong_at 10
  pub prefix_with_a_colon : filter_fault (codes "hasPrefix(attributes:a, \"x\")") ≡ wrong_at 20
  pub prefix_without_a_value : filter_fault (codes "hasPrefix(attributes.a)") ≡ wrong_at 22
  -- a byte that begins no token, or a string that doesn't end or has another escape: where it begins
  pub digit_begins_no_word : filter_fault (codes "attributes:1a") ≡ wrong_at 11
  pub single_quotes : filter_fault (codes "attributes.a = 'x'") ≡ wrong_at 15
  pub other_sign : filter_fault (codes "attributes:a & attributes:b") ≡ wrong_at 13
  pub bang_alone : filter_fault (codes "attributes.a ! \"x\"") ≡ wrong_at 13
  pub byte_past_ascii : filter_fault (codes "attributes:" ++ 195 ∷ 169 ∷ []) ≡ wrong_at 11
  pub string_without_end : filter_fault (codes "attributes.a = \"x") ≡ wrong_at 15
  pub other_escape : filter_fault (codes "attributes.a = \"x\\n\"") ≡ wrong_at 15
  pub end_in_an_escape : filter_fault (codes "attributes.a = \"x\\") ≡ wrong_at 15
  -- the end of the text where a token must follow: its length, blanks at the end included
  pub end_behind_a_colon : filter_fault (codes "attributes:") ≡ wrong_at 11
  pub end_behind_blanks : filter_fault (codes "attributes:  ") ≡ wrong_at 13
  pub end_behind_and : filter_fault (codes "attributes:a AND") ≡ wrong_at 16
  pub end_behind_not : filter_fault (codes "NOT") ≡ wrong_at 3
  pub end_before_a_closing : filter_fault (codes "(attributes:a") ≡ wrong_at 13
  pub end_in_a_prefix : filter_fault (codes "hasPrefix(attributes.a, \"x\"") ≡ wrong_at 27
