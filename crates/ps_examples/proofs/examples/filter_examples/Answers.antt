use Rattle.std.proofs.Common.{refl}
use Rattle.ps_examples.proofs.examples.filter_examples.Goals as goal

pub returns : goal.returns
returns c = record {
  nothing_asked = refl;
  key_there = refl;
  key_not_there = refl;
  value_equal = refl;
  value_other = refl;
  value_longer = refl;
  value_of_no_key = refl;
  differs_from_its_own = refl;
  differs_from_another = refl;
  no_key_differs = refl;
  prefix_of_it = refl;
  prefix_that_is_the_value = refl;
  prefix_longer_than_it = refl;
  end_is_no_prefix = refl;
  empty_prefix_of_no_key = refl;
  empty_prefix_of_an_empty_value = refl;
  negated = refl;
  negated_by_a_hyphen = refl;
  negated_twice = refl;
  negated_thrice = refl;
  hyphens_side_by_side = refl;
  one_term_alone = refl;
  all_in_parentheses = refl;
}
