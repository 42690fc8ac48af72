-- The fields of each command that is recorded: their bytes one after another, and what reads them.
use Rattle.std.specs.Prelude.{ℕ, List, ◌++◌, Option}
use Rattle.ps_base.specs.declared.ack_id.AckId.{AckId}
use Rattle.ps_message.specs.declared.message.Message.{Message}
use Rattle.ps_codec.specs.Fields.{u32_field, u64_field, bytes_field}
use Rattle.ps_names.specs.Names.{is_topic_name, is_sub_name, is_snap_name}
use Rattle.ps_config.specs.declared.config.TopicConfig.{TopicConfig}
use Rattle.ps_config.specs.declared.config.SubConfig.{SubConfig}
use Rattle.ps_config.specs.declared.mask.Mask.{Mask}
use Rattle.ps_model.specs.declared.command.Command.{Command}
use Rattle.ps_model.specs.declared.command.Command.TheVariants.{CreateTopic, UpdateTopic, DeleteTopic, CreateSubscription, UpdateSubscription, DeleteSubscription, Detach, CreateSnapshot, UpdateSnapshot, DeleteSnapshot, Publish, Pull, Acknowledge, ModifyAckDeadline, SeekTime, SeekSnapshot}
use Rattle.ps_model.specs.Forms.{Reading, number32_at, number64_at, pair_form, pair_at, option_form, option_at, list_form, list_at, made_at, name_at, labels_form, labels_at, topic_config_form, topic_config_at, sub_config_form, sub_config_at, message_form, message_at, ack_id_form, ack_id_at}

-- ---- their bytes

abbrev pub create_topic_form : List ℕ → TopicConfig → List ℕ
create_topic_form topic config = bytes_field topic ++ topic_config_form config

abbrev pub update_topic_form : List ℕ → Mask → TopicConfig → List ℕ
update_topic_form topic mask config = bytes_field topic ++ (u32_field mask.0 ++ topic_config_form config)

abbrev pub delete_topic_form : List ℕ → List ℕ
delete_topic_form topic = bytes_field topic

abbrev pub create_subscription_form : List ℕ → List ℕ → SubConfig → List ℕ
create_subscription_form subscription topic config = bytes_field subscription ++ (bytes_field topic ++ sub_config_form config)

abbrev pub update_subscription_form : List ℕ → Mask → SubConfig → List ℕ
update_subscription_form subscription mask config = bytes_field subscription ++ (u32_field mask.0 ++ sub_config_form config)

abbrev pub delete_subscription_form : List ℕ → List ℕ
delete_subscription_form subscription = bytes_field subscription

abbrev pub detach_form : List ℕ → List ℕ
detach_form subscription = bytes_field subscription

abbrev pub create_snapshot_form : List ℕ → List ℕ → List (List ℕ × List ℕ) → List ℕ
create_snapshot_form snapshot subscription labels = bytes_field snapshot ++ (bytes_field subscription ++ labels_form labels)

abbrev pub update_snapshot_form : List ℕ → List (List ℕ × List ℕ) → List ℕ
update_snapshot_form snapshot labels = bytes_field snapshot ++ labels_form labels

abbrev pub delete_snapshot_form : List ℕ → List ℕ
delete_snapshot_form snapshot = bytes_field snapshot

abbrev pub publish_form : List ℕ → List Message → List ℕ
publish_form topic messages = bytes_field topic ++ list_form message_form messages

abbrev pub pull_form : List ℕ → ℕ → ℕ → Option ℕ → List ℕ
pull_form subscription max budget seconds = bytes_field subscription ++ (u32_field max ++ (u64_field budget ++ option_form u32_field seconds))

abbrev pub acknowledge_form : List ℕ → List AckId → List ℕ
acknowledge_form subscription ids = bytes_field subscription ++ list_form ack_id_form ids

abbrev pub modify_ack_deadline_form : List ℕ → List (AckId × ℕ) → List ℕ
modify_ack_deadline_form subscription items = bytes_field subscription ++ list_form (pair_form ack_id_form u32_field) items

abbrev pub seek_time_form : List ℕ → ℕ → List ℕ
seek_time_form subscription time = bytes_field subscription ++ u64_field time

abbrev pub seek_snapshot_form : List ℕ → List ℕ → List ℕ
seek_snapshot_form subscription snapshot = bytes_field subscription ++ bytes_field snapshot

-- ---- what reads them

abbrev pub create_topic_at : Reading Command
create_topic_at = made_at (λ p. CreateTopic p.0 p.1) (pair_at (name_at is_topic_name) topic_config_at)

abbrev pub update_topic_at : Reading Command
update_topic_at = made_at (λ p. UpdateTopic p.0 (record { 0 = p.1.0 }) p.1.1) (pair_at (name_at is_topic_name) (pair_at number32_at topic_config_at))

abbrev pub delete_topic_at : Reading Command
delete_topic_at = made_at DeleteTopic (name_at is_topic_name)

abbrev pub create_subscription_at : Reading Command
create_subscription_at = made_at (λ p. CreateSubscription p.0 p.1.0 p.1.1) (pair_at (name_at is_sub_name) (pair_at (name_at is_topic_name) sub_config_at))

abbrev pub update_subscription_at : Reading Command
update_subscription_at = made_at (λ p. UpdateSubscription p.0 (record { 0 = p.1.0 }) p.1.1) (pair_at (name_at is_sub_name) (pair_at number32_at sub_config_at))

abbrev pub delete_subscription_at : Reading Command
delete_subscription_at = made_at DeleteSubscription (name_at is_sub_name)

abbrev pub detach_at : Reading Command
detach_at = made_at Detach (name_at is_sub_name)

abbrev pub create_snapshot_at : Reading Command
create_snapshot_at = made_at (λ p. CreateSnapshot p.0 p.1.0 p.1.1) (pair_at (name_at is_snap_name) (pair_at (name_at is_sub_name) labels_at))

abbrev pub update_snapshot_at : Reading Command
update_snapshot_at = made_at (λ p. UpdateSnapshot p.0 p.1) (pair_at (name_at is_snap_name) labels_at)

abbrev pub delete_snapshot_at : Reading Command
delete_snapshot_at = made_at DeleteSnapshot (name_at is_snap_name)

abbrev pub publish_at : Reading Command
publish_at = made_at (λ p. Publish p.0 p.1) (pair_at (name_at is_topic_name) (list_at message_at))

abbrev pub pull_at : Reading Command
pull_at = made_at (λ p. Pull p.0 p.1.0 p.1.1.0 p.1.1.1) (pair_at (name_at is_sub_name) (pair_at number32_at (pair_at number64_at (option_at number32_at))))

abbrev pub acknowledge_at : Reading Command
acknowledge_at = made_at (λ p. Acknowledge p.0 p.1) (pair_at (name_at is_sub_name) (list_at ack_id_at))

abbrev pub modify_ack_deadline_at : Reading Command
modify_ack_deadline_at = made_at (λ p. ModifyAckDeadline p.0 p.1) (pair_at (name_at is_sub_name) (list_at (pair_at ack_id_at number32_at)))

abbrev pub seek_time_at : Reading Command
seek_time_at = made_at (λ p. SeekTime p.0 p.1) (pair_at (name_at is_sub_name) number64_at)

abbrev pub seek_snapshot_at : Reading Command
seek_snapshot_at = made_at (λ p. SeekSnapshot p.0 p.1) (pair_at (name_at is_sub_name) (name_at is_snap_name))
