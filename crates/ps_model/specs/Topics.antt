-- Topics, and what is published to them (API reference, Topic and Publish; Pub/Sub documentation, "Publish messages to topics").
use Rattle.std.specs.Prelude.{ℕ, ◌+◌, not, nat_eq, List, [], ◌∷◌, ◌++◌, Option, Some, None, filter, length}
use Rattle.ps_base.specs.declared.refusal.Refusal.TheVariants.{NotFound, AlreadyExists}
use Rattle.ps_config.specs.declared.config.TopicConfig.{TopicConfig}
use Rattle.ps_config.specs.declared.mask.Mask.{Mask}
use Rattle.ps_message.specs.declared.message.Message.{Message}
use Rattle.ps_model.specs.declared.reply.Reply.TheVariants.{Empty, Topic, Published}
use Rattle.ps_model.specs.declared.world.World.{World}
use Rattle.ps_model.specs.declared.world.TopicRow.{TopicRow}
use Rattle.ps_config.specs.Masks.{masked_topic}
use Rattle.ps_model.specs.Showing.{topic_shown}
use Rattle.ps_model.specs.Worlds.{topic_named, put_topic}
use Rattle.ps_model.specs.Forwarding.{add_messages, message_rows}
use Rattle.ps_model.specs.Outcomes.{Outcome, Shows, answers, refuses}

abbrev pub create_topic_at : World → List ℕ → TopicConfig → Option TopicRow → Outcome
create_topic_at w name config (Some taken) = refuses w (AlreadyExists name)
create_topic_at w name config None =
    let row : TopicRow = record { number = w.next_topic; name = name; config = config } in
    answers (record w { next_topic = w.next_topic + 1; topics = w.topics ++ row ∷ [] }) (Topic (topic_shown row))

abbrev pub create_topic : World → List ℕ → TopicConfig → Outcome
create_topic w name config = create_topic_at w name config (topic_named w name)

abbrev pub update_topic_at : World → List ℕ → Mask → TopicConfig → Option TopicRow → Outcome
update_topic_at w name mask config None = refuses w (NotFound name)
update_topic_at w name mask config (Some old) =
    let row : TopicRow = record old { config = masked_topic mask old.config config } in
    answers (put_topic row w) (Topic (topic_shown row))

abbrev pub update_topic : World → List ℕ → Mask → TopicConfig → Outcome
update_topic w name mask config = update_topic_at w name mask config (topic_named w name)

abbrev pub get_topic_at : World → List ℕ → Option TopicRow → Outcome
get_topic_at w name None = refuses w (NotFound name)
get_topic_at w name (Some row) = Shows (Topic (topic_shown row))

abbrev pub get_topic : World → List ℕ → Outcome
get_topic w name = get_topic_at w name (topic_named w name)

abbrev pub delete_topic_at : World → List ℕ → Option TopicRow → Outcome
delete_topic_at w name None = refuses w (NotFound name)
delete_topic_at w name (Some row) = answers (record w { topics = filter (λ (r : TopicRow). not (nat_eq r.number row.number)) w.topics }) Empty

abbrev pub delete_topic : World → List ℕ → Outcome
delete_topic w name = delete_topic_at w name (topic_named w name)

abbrev pub publish_at : World → ℕ → List ℕ → List Message → Option TopicRow → Outcome
publish_at w t name messages None = refuses w (NotFound name)
publish_at w t name messages (Some topic) =
    answers (add_messages (message_rows topic.number w.next_message t messages) w) (Published w.next_message (length messages))

abbrev pub publish : World → ℕ → List ℕ → List Message → Outcome
publish w t name messages = publish_at w t name messages (topic_named w name)
