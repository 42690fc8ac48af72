use Rattle.std.proofs.Common.{refl}
use Rattle.ps_examples.proofs.examples.filter_key_examples.Goals as goal

pub returns : goal.returns
returns c = record {
  both = refl;
  only_one_of_both = refl;
  last_of_three_lacks = refl;
  either = refl;
  neither = refl;
  last_of_three_is_there = refl;
  or_inside_and = refl;
  and_inside_or = refl;
  parentheses_around_one = refl;
  key_in_quotes = refl;
  key_in_quotes_compared = refl;
  key_in_quotes_with_a_prefix = refl;
  key_with_a_space = refl;
  key_with_a_hyphen = refl;
  key_and = refl;
  key_or = refl;
  key_not = refl;
  key_attributes = refl;
  key_has_prefix = refl;
  quotation_mark = refl;
  backslash = refl;
  backslash_in_a_key = refl;
  without_blanks = refl;
  with_blanks = refl;
  blank_in_a_string = refl;
}
