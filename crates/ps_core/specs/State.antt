-- What a core keeps, and the world that it stands for.
use Rattle.std.specs.Prelude.{ℕ, List, [], map, flat_map}
use Rattle.ps_model.specs.declared.mark.Slot.{Slot}
use Rattle.ps_model.specs.declared.world.World.{World}
use Rattle.ps_model.specs.declared.world.TopicRow.{TopicRow}
use Rattle.ps_model.specs.declared.world.SubRow.{SubRow}
use Rattle.ps_model.specs.declared.world.MessageRow.{MessageRow}
use Rattle.ps_model.specs.declared.world.MarkRow.{MarkRow}
use Rattle.ps_model.specs.Worlds.{row_of}
use Rattle.ps_tables.specs.declared.kept_subscription.KeptSubscription.{KeptSubscription}

-- topics, subscriptions and messages in order of their numbers; of the messages those that some subscription has
pub record State : Type 0 where
  pub now : ℕ
  pub count : ℕ
  pub next_topic : ℕ
  pub next_sub : ℕ
  pub next_message : ℕ
  pub topics : List TopicRow
  pub subscriptions : List KeptSubscription
  pub messages : List MessageRow

abbrev pub sub_row : KeptSubscription → SubRow
sub_row x = record { number = x.number; name = x.name; topic = x.topic; config = x.sub.config; detached = x.detached; next_lease = x.sub.next_lease }

abbrev pub slots_in : KeptSubscription → List Slot
slots_in x = x.sub.slots

abbrev pub topic_number : TopicRow → ℕ
topic_number r = r.number

-- the marks of one subscription behind those of the one before it
abbrev pub flat_marks : List KeptSubscription → List MarkRow
flat_marks subscriptions = flat_map (λ (x : KeptSubscription). map (row_of x.number) x.sub.slots) subscriptions

-- a live world: it has no mark that is gone, and no message that isn't kept
abbrev pub seen : State → World
seen s = record {
  now = s.now;
  count = s.count;
  next_topic = s.next_topic;
  next_sub = s.next_sub;
  next_snap = 1;
  next_message = s.next_message;
  topics = s.topics;
  subs = map sub_row s.subscriptions;
  snaps = [];
  messages = s.messages;
  marks = flat_marks s.subscriptions;
}

-- before the first entry
abbrev pub empty_state : State
empty_state = record { now = 0; count = 0; next_topic = 1; next_sub = 1; next_message = 1; topics = []; subscriptions = []; messages = [] }
