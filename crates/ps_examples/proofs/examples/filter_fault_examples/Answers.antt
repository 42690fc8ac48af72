use Rattle.std.proofs.Common.{refl}
use Rattle.ps_examples.proofs.examples.filter_fault_examples.Goals as goal

pub returns : goal.returns
returns c = record {
  or_behind_and = refl;
  and_behind_or = refl;
  mixed_behind_a_negation = refl;
  mixed_in_parentheses = refl;
  mixed_behind_parentheses = refl;
  each_level_its_own = refl;
  the_outer_level_goes_on = refl;
  mixed_before_the_end = refl;
  mixed_before_an_open_string = refl;
  wrong_before_mixed = refl;
  other_word_right_behind = refl;
  joining_word_first = refl;
  other_word_first = refl;
  other_spelling = refl;
  small_letters = refl;
  hyphen_makes_one_word = refl;
  nothing_in_parentheses = refl;
  two_terms = refl;
  parenthesis_too_many = refl;
  compared_twice = refl;
}
