use Rattle.std.proofs.Common.{refl}
use Rattle.ps_examples.proofs.examples.standing_examples.Goals as goal

pub returns : goal.returns
returns c = record {
  waits = refl;
  out = refl;
  back = refl;
  acknowledged = refl;
  acknowledged_ahead = refl;
  before_it = refl;
  expired = refl;
  acknowledged_and_detached = refl;
  kept_out = refl;
  let_in = refl;
  kept_out_of_an_earlier_time = refl;
  published_before = refl;
  published_before_and_kept = refl;
  published_while_detached = refl;
  published_elsewhere = refl;
  done_acknowledged = refl;
  done_dead = refl;
  gone_acknowledged = refl;
  gone_dead = refl;
  gone_expired = refl;
}
