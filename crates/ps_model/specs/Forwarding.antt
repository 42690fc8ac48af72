-- New messages: what a publish adds, and dead letters on their way to another topic (Pub/Sub documentation, "Dead-letter topics": the attributes of a forwarded message. Its number, its moment and its place in order are this project's own).
use Rattle.std.specs.Prelude.{ℕ, ◌+◌, Bool, true, ◌&&◌, not, nat_eq, nat_lt, List, [], ◌∷◌, ◌++◌, Option, Some, None, map, filter, flat_map, length, codes, decimal, option_and_then, if◌then◌else◌}
use Rattle.std.specs.Str.{bytes_eq}
use Rattle.ps_base.specs.Keys.{is_below}
use Rattle.ps_model.specs.declared.mark.DeadLetter.{DeadLetter}
use Rattle.ps_message.specs.declared.message.Message.{Message}
use Rattle.ps_config.specs.declared.config.DeadLetterPolicy.{DeadLetterPolicy}
use Rattle.ps_model.specs.declared.world.World.{World}
use Rattle.ps_model.specs.declared.world.TopicRow.{TopicRow}
use Rattle.ps_model.specs.declared.world.SubRow.{SubRow}
use Rattle.ps_model.specs.declared.world.MessageRow.{MessageRow}
use Rattle.ps_model.specs.declared.world.MarkRow.{MarkRow}
use Rattle.ps_names.specs.Names.{project_part, id_part}
use Rattle.ps_filter.specs.Filters.{meets}
use Rattle.ps_model.specs.Timestamps.{timestamp}
use Rattle.ps_model.specs.Seeking.{fresh}
use Rattle.ps_model.specs.Worlds.{topic_named, message_at}

-- the rows of new messages of this topic, numbered from this number on
abbrev pub message_rows : ℕ → ℕ → ℕ → List Message → List MessageRow
message_rows topic number t [] = []
message_rows topic number t (m ∷ ms) = record { number = number; topic = topic; publish = t; message = m; kept = true } ∷ message_rows topic (number + 1) t ms

-- a new message enters a subscription of its topic that isn't detached and whose filter it matches
abbrev pub enters : SubRow → MessageRow → Bool
enters sub r = nat_eq r.topic sub.topic && (not sub.detached && meets sub.config.filter r.message)

-- the new marks of one subscription
abbrev pub entered : SubRow → List MessageRow → List MarkRow
entered sub rows = map (λ (r : MessageRow). record { sub = sub.number; message = r.number; mark = fresh }) (filter (enters sub) rows)

-- a mark is added after those of its subscription
abbrev pub enter : MarkRow → List MarkRow → List MarkRow
enter r [] = r ∷ []
enter r (x ∷ xs) = if nat_lt r.sub x.sub then r ∷ (x ∷ xs) else x ∷ enter r xs

abbrev pub enter_all : List MarkRow → List MarkRow → List MarkRow
enter_all [] marks = marks
enter_all (r ∷ rs) marks = enter_all rs (enter r marks)

abbrev pub marks_with : World → List MessageRow → List MarkRow
marks_with w rows = enter_all (flat_map (λ (sub : SubRow). entered sub rows) w.subs) w.marks

-- the world with new messages
abbrev pub add_messages : List MessageRow → World → World
add_messages rows w = record w {
  next_message = w.next_message + length rows;
  messages = w.messages ++ rows;
  marks = marks_with w rows;
}

-- A dead letter, with the subscription that it comes from.
pub record Letter : Type 0 where
  pub from : SubRow
  pub topic : TopicRow
  pub source : MessageRow
  pub failures : ℕ

-- the attributes with this one set, in byte order of the keys
abbrev pub set_attribute : List ℕ → List ℕ → List (List ℕ × List ℕ) → List (List ℕ × List ℕ)
set_attribute key value [] = (key, value) ∷ []
set_attribute key value (p ∷ ps) =
    if bytes_eq p.0 key then (key, value) ∷ ps
    else if is_below key p.0 then (key, value) ∷ (p ∷ ps) else p ∷ set_attribute key value ps

-- the payload and the ordering key of the source, and its attributes with four set
abbrev pub letter_message : Letter → Message
letter_message l = record {
  payload = l.source.message.payload;
  attributes =
      set_attribute (codes "CloudPubSubDeadLetterSourceDeliveryCount") (decimal l.failures)
      (set_attribute (codes "CloudPubSubDeadLetterSourceSubscription") (id_part l.from.name)
      (set_attribute (codes "CloudPubSubDeadLetterSourceSubscriptionProject") (project_part l.from.name)
      (set_attribute (codes "CloudPubSubDeadLetterSourceTopicPublishTime") (timestamp l.source.publish) l.source.message.attributes)));
  key = l.source.message.key;
}

abbrev pub letter_rows : ℕ → ℕ → List Letter → List MessageRow
letter_rows number t [] = []
letter_rows number t (l ∷ ls) = record { number = number; topic = l.topic.number; publish = t; message = letter_message l; kept = true } ∷ letter_rows (number + 1) t ls

-- the world after the dead letters are published at t, in order of subscription, then of message
abbrev pub forward : ℕ → List Letter → World → World
forward t letters w = add_messages (letter_rows w.next_message t letters) w

-- the topic that a subscription's dead letters go to
abbrev pub dead_topic : World → SubRow → Option TopicRow
dead_topic w sub = option_and_then (λ (p : DeadLetterPolicy). topic_named w p.topic) sub.config.dead_letter

-- the letter of one dead message, if its topic exists
abbrev pub letter_of : SubRow → Option TopicRow → MessageRow → ℕ → List Letter
letter_of sub None source failures = []
letter_of sub (Some topic) source failures = record { from = sub; topic = topic; source = source; failures = failures } ∷ []

-- the letters of one subscription
abbrev pub letters_of : World → SubRow → List DeadLetter → List Letter
letters_of w sub dead = flat_map (λ (d : DeadLetter). letter_of sub (dead_topic w sub) (message_at w.messages d.number) d.failures) dead
