use Rattle.std.proofs.Common.{refl}
use Rattle.ps_examples.proofs.examples.remade_examples.Goals as goal

pub returns : goal.returns
returns c = record {
  subscription_of_the_former = refl;
  snapshot_of_the_former = refl;
  no_subscriptions = refl;
  no_snapshots = refl;
  published_to_the_new_one = refl;
  the_former_gets_nothing = refl;
  snapshot_of_another_topic = refl;
  leases_begin_anew = refl;
  former_id = refl;
  former_id_with_its_numbers = refl;
  former_id_exactly_once = refl;
  its_own_id_exactly_once = refl;
  snapshot_begins_anew = refl;
}
