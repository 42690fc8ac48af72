use Rattle.std.proofs.Common.{refl}
use Rattle.ps_examples.proofs.examples.filter_place_examples.Goals as goal

pub returns : goal.returns
returns c = record {
  no_colon_or_dot = refl;
  symbol_as_a_key = refl;
  two_keys = refl;
  colon_behind_a_dotted_key = refl;
  word_as_a_value = refl;
  prefix_without_parenthesis = refl;
  prefix_of_no_attribute = refl;
  prefix_with_a_colon = refl;
  prefix_without_a_value = refl;
  digit_begins_no_word = refl;
  single_quotes = refl;
  other_sign = refl;
  bang_alone = refl;
  byte_past_ascii = refl;
  string_without_end = refl;
  other_escape = refl;
  end_in_an_escape = refl;
  end_behind_a_colon = refl;
  end_behind_blanks = refl;
  end_behind_and = refl;
  end_behind_not = refl;
  end_before_a_closing = refl;
  end_in_a_prefix = refl;
}
