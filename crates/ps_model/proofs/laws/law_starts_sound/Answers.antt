use Rattle.std.proofs.Common.{arith}
use Rattle.ps_model.proofs.laws.law_starts_sound.Goals as goal

pub returns : goal.returns
returns c = record {
  starts_sound = record {
    ordered = record {
      topics = tt;
      topics_below = tt;
      topic_names = tt;
      topic_settings = tt;
      subs = tt;
      subs_below = tt;
      sub_names = tt;
      sub_settings = tt;
      snaps = tt;
      snaps_below = tt;
      snap_names = tt;
      snap_labels = tt;
      snap_lists = tt;
      snap_bounds = tt;
      messages = tt;
      messages_below = tt;
      marks = tt;
      named = tt;
      topics_from = omega arith;
      subs_from = omega arith;
      snaps_from = omega arith;
      messages_from = omega arith;
      leases_from = tt;
      count = omega arith;
    };
    in_time = record { now = omega arith; publishes = tt; past = tt };
    keeping = record { marks = tt; listed = tt; held = tt; wanted = tt; sub_topics = tt; snap_topics = tt; message_topics = tt };
    leased_in_order = tt;
    ahead_of_one = tt;
    near = record { marks = tt; snaps_live = tt; snaps_near = tt };
    within_count = record { messages = omega arith; leases = tt; topics = omega arith; subs = omega arith; snaps = omega arith };
    held_or_gone = tt;
  };
}
