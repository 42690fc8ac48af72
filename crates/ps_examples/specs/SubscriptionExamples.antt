-- Worked examples: subscriptions that are made, read, changed and deleted.
use Rattle.std.specs.Prelude.{ℕ, ◌≡◌, true, false, List, [], ◌∷◌, ◌++◌, Option, Some, None, codes}
use Rattle.ps_base.specs.declared.reason.Reason.TheVariants.{UpdateMask}
use Rattle.ps_config.specs.declared.config.SubConfig.{SubConfig}
use Rattle.ps_model.specs.declared.command.Command.TheVariants.{CreateSubscription, UpdateSubscription, GetSubscription, DeleteSubscription}
use Rattle.ps_model.specs.declared.command.Entry.{Entry}
use Rattle.ps_model.specs.declared.reply.Reply.{Reply}
use Rattle.ps_model.specs.declared.reply.Reply.TheVariants.{Empty, Subscription}
use Rattle.ps_config.specs.Masks.{default_sub}
use Rattle.ps_examples.specs.Samples.{Call, told, recorded_of, counted, base, base_with, hi, publish_at, topic_name, sub_name, broken_by, none_named, taken_already, noted}
use Rattle.ps_examples.specs.PublishExamples.{only_topic, keeping_topic}

-- the subscription of the topic with these settings
abbrev pub shown_sub : SubConfig → Reply
shown_sub config = Subscription (record { name = sub_name; topic = Some topic_name; config = config; detached = false; topic_retention = None })

abbrev pub create_sub : SubConfig → Call
create_sub config = (1000, CreateSubscription sub_name topic_name config)

-- An update of the subscription at 2000. The fields that can be masked, from 1 on and doubled each time: the seconds of a lease, whether acknowledged messages are retained, retention, labels, expiration, dead letters, retry, exactly-once mode, push.
abbrev pub update_sub : ℕ → SubConfig → Call
update_sub bits config = (2000, UpdateSubscription sub_name (record { 0 = bits }) config)

-- that update as it is recorded
abbrev pub sub_entry : ℕ → SubConfig → Option Entry
sub_entry bits config = Some (record { now = 2000; command = UpdateSubscription sub_name (record { 0 = bits }) config })

abbrev pub longer_leases : SubConfig
longer_leases = record default_sub { ack_seconds = 20 }

-- settings of which a subscription can't change ordering and filter, and whose retention is too short
abbrev pub other_settings : SubConfig
other_settings = record default_sub { ack_seconds = 20; retention = 1; ordering = true; filter = codes "attributes:"; exactly_once = true }

-- an ordered subscription with a filter
abbrev pub set_for_good : SubConfig
set_for_good = record default_sub { ordering = true; filter = codes "attributes:a" }

abbrev pub dead_name : List ℕ
dead_name = codes "projects/p/topics/dead"

abbrev pub with_dead : SubConfig
with_dead = record default_sub { dead_letter = Some (record { topic = dead_name; attempts = 5 }) }

-- every field that can be masked, with a value of its own
abbrev pub all_changed : SubConfig
all_changed = record {
  ack_seconds = 20;
  retain_acked = true;
  retention = 600000;
  labels = (codes "a", codes "b") ∷ [];
  ordering = false;
  expiration = None;
  filter = [];
  dead_letter = Some (record { topic = topic_name; attempts = 6 });
  retry = Some (record { least = 1000; most = 2000 });
  exactly_once = true;
}

pub record SubscriptionExamples : Type 0 where
  pub created : told only_topic (create_sub default_sub) ≡ shown_sub default_sub
  pub created_is_recorded : recorded_of only_topic (create_sub default_sub) ≡ noted (create_sub default_sub)
  pub retention_of_its_topic_is_shown : told keeping_topic (create_sub default_sub) ≡ Subscription (record { name = sub_name; topic = Some topic_name; config = default_sub; detached = false; topic_retention = Some 600000 })
  pub created_twice : told base (create_sub longer_leases) ≡ taken_already sub_name
  -- reading changes nothing
  pub read : told base (1500, GetSubscription sub_name) ≡ shown_sub default_sub
  pub read_is_not_recorded : recorded_of base (1500, GetSubscription sub_name) ≡ None
  pub read_where_none_is : told only_topic (1500, GetSubscription sub_name) ≡ none_named sub_name
  -- an update changes the masked field; the others keep their values, aren't checked, and are recorded as their defaults
  pub updated : told base (update_sub 1 other_settings) ≡ shown_sub longer_leases
  pub updated_is_recorded : recorded_of base (update_sub 1 other_settings) ≡ sub_entry 1 longer_leases
  pub updated_again_is_not_recorded : recorded_of (base ++ update_sub 1 other_settings ∷ []) (update_sub 1 longer_leases) ≡ None
  pub ordering_and_filter_stay : told (base_with set_for_good) (update_sub 129 other_settings) ≡ shown_sub (record set_for_good { ack_seconds = 20; exactly_once = true })
  pub ordering_and_filter_are_not_recorded : recorded_of (base_with set_for_good) (update_sub 129 set_for_good) ≡ None
  pub all_fields : told base (update_sub 511 all_changed) ≡ shown_sub all_changed
  pub all_fields_are_recorded : recorded_of base (update_sub 511 all_changed) ≡ sub_entry 511 all_changed
  -- push settings may be masked, and nothing is kept of them
  pub push_alone : told base (update_sub 256 other_settings) ≡ shown_sub default_sub
  pub push_alone_is_not_recorded : recorded_of base (update_sub 256 other_settings) ≡ None
  -- a mask names some field, and none that a subscription hasn't
  pub no_field : told base (update_sub 0 longer_leases) ≡ broken_by UpdateMask
  pub unknown_field : told base (update_sub 512 longer_leases) ≡ broken_by UpdateMask
  pub known_and_unknown_field : told base (update_sub 513 longer_leases) ≡ broken_by UpdateMask
  -- the topic of the dead letters is looked up where it is masked
  pub dead_topic_missing : told base (update_sub 32 with_dead) ≡ none_named dead_name
  pub dead_topic_not_masked : told base (update_sub 1 with_dead) ≡ shown_sub default_sub
  pub update_of_none : told only_topic (update_sub 32 with_dead) ≡ none_named sub_name
  -- a deleted subscription takes its messages with it
  pub deleted : told base (2000, DeleteSubscription sub_name) ≡ Empty
  pub deleted_again : told (base ++ (2000, DeleteSubscription sub_name) ∷ []) (2000, DeleteSubscription sub_name) ≡ none_named sub_name
  pub counts_after_deletion : counted (base ++ publish_at 1000 (hi ∷ []) ∷ (2000, DeleteSubscription sub_name) ∷ []) ≡ record { entries = 4; now = 2000; topics = 1; subscriptions = 0; snapshots = 0; messages = 0; backlog = 0; leased = 0; acknowledged = 0; dead_lettered = 0 }
