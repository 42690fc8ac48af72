use Rattle.std.proofs.Common.{refl}
use Rattle.ps_examples.proofs.examples.filtered_examples.Goals as goal

pub returns : goal.returns
returns c = record {
  what_meets_it = refl;
  what_meets_no_filter = refl;
  counts_of_both = refl;
  nobody_asked_for_it = refl;
  counts_where_nobody_asked = refl;
  mixed = refl;
  no_filter = refl;
  too_long = refl;
  blanks_alone = refl;
  not_made_is_not_recorded = refl;
  longest = refl;
  longer = refl;
  longer_and_no_filter = refl;
  most_parentheses = refl;
  parentheses_without_end = refl;
  most_negations = refl;
  hyphens_without_end = refl;
}
