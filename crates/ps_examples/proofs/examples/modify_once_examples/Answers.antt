use Rattle.std.proofs.Common.{refl}
use Rattle.ps_examples.proofs.examples.modify_once_examples.Goals as goal

pub returns : goal.returns
returns c = record {
  put_off = refl;
  put_off_mark = refl;
  given_up = refl;
  ended = refl;
  ended_is_a_tick = refl;
  ended_with_0 = refl;
  ended_twice = refl;
  out_again = refl;
  failed_ids = refl;
  failed_ids_unrecorded = refl;
  one_of_two = refl;
  marks_of_two = refl;
  of_another = refl;
  of_another_unrecorded = refl;
  given_up_for_good = refl;
  acknowledged = refl;
}
