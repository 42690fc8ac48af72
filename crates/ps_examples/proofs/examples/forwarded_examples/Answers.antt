use Rattle.std.proofs.Common.{refl}
use Rattle.std.specs.Fmt.{digits}
use Rattle.ps_examples.proofs.examples.forwarded_examples.Goals as goal

pub returns : goal.returns
unfolding digits
returns c = record {
  forwarded = refl;
  forwarded_is_recorded = refl;
  a_tick_where_nothing_is_pulled = refl;
  nothing_is_left = refl;
  next_number = refl;
  counts = refl;
  marks = refl;
  given_up_is_forwarded = refl;
  met_late = refl;
  source_moment = refl;
  with_all = refl;
  from_both = refl;
  two_from_both = refl;
  itself_again = refl;
  to_the_new_topic = refl;
  not_to_the_old_one = refl;
  later_of_its_key = refl;
  before_it_died = refl;
}
