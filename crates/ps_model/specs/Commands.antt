-- What each command leaves and answers, in the world settled at its moment t.
use Rattle.std.specs.Prelude.{ℕ, ◌^◌, Bool, nat_eq, Option, Some, None, if◌then◌else◌}
use Rattle.ps_base.specs.declared.refusal.Refusal.TheVariants.{InvalidArgument, Exhausted}
use Rattle.ps_base.specs.declared.reason.Reason.{Reason}
use Rattle.ps_model.specs.declared.command.Command.{Command}
use Rattle.ps_model.specs.declared.command.Command.TheVariants.{Tick, CreateTopic, UpdateTopic, GetTopic, DeleteTopic, ListTopics, ListTopicSubscriptions, ListTopicSnapshots, Publish, CreateSubscription, UpdateSubscription, GetSubscription, DeleteSubscription, ListSubscriptions, Pull, Acknowledge, ModifyAckDeadline, SeekTime, SeekSnapshot, Detach, CreateSnapshot, UpdateSnapshot, GetSnapshot, DeleteSnapshot, ListSnapshots}
use Rattle.ps_model.specs.declared.reply.Reply.TheVariants.{Empty}
use Rattle.ps_model.specs.declared.world.World.{World}
use Rattle.ps_model.specs.Outcomes.{Outcome, Shows, refuses}
use Rattle.ps_model.specs.Checks.{argument_fault}
use Rattle.ps_model.specs.Topics.{create_topic, update_topic, get_topic, delete_topic, publish}
use Rattle.ps_model.specs.Subscriptions.{create_sub, update_sub, get_sub, delete_sub, detach}
use Rattle.ps_model.specs.Pulling.{pull}
use Rattle.ps_model.specs.Answering.{acknowledge_ids, modify_ids}
use Rattle.ps_model.specs.Replaying.{seek_to_time, seek_to_snapshot}
use Rattle.ps_model.specs.Snapshots.{create_snap, update_snap, get_snap, delete_snap}
use Rattle.ps_model.specs.Listing.{list_topics, list_subs, list_snaps, list_topic_subs, list_topic_snaps}

abbrev pub carried : World → ℕ → Command → Outcome
carried w t Tick = Shows Empty
carried w t (CreateTopic topic config) = create_topic w topic config
carried w t (UpdateTopic topic mask config) = update_topic w topic mask config
carried w t (GetTopic topic) = get_topic w topic
carried w t (DeleteTopic topic) = delete_topic w topic
carried w t (ListTopics project paging) = list_topics w project paging
carried w t (ListTopicSubscriptions topic paging) = list_topic_subs w topic paging
carried w t (ListTopicSnapshots topic paging) = list_topic_snaps w topic paging
carried w t (Publish topic messages) = publish w t topic messages
carried w t (CreateSubscription subscription topic config) = create_sub w t subscription topic config
carried w t (UpdateSubscription subscription mask config) = update_sub w subscription mask config
carried w t (GetSubscription subscription) = get_sub w subscription
carried w t (DeleteSubscription subscription) = delete_sub w subscription
carried w t (ListSubscriptions project paging) = list_subs w project paging
carried w t (Pull subscription most budget seconds) = pull w t subscription most budget seconds
carried w t (Acknowledge subscription ids) = acknowledge_ids w subscription ids
carried w t (ModifyAckDeadline subscription items) = modify_ids w t subscription items
carried w t (SeekTime subscription time) = seek_to_time w subscription time
carried w t (SeekSnapshot subscription snapshot) = seek_to_snapshot w subscription snapshot
carried w t (Detach subscription) = detach w subscription
carried w t (CreateSnapshot snapshot subscription labels) = create_snap w t snapshot subscription labels
carried w t (UpdateSnapshot snapshot labels) = update_snap w snapshot labels
carried w t (GetSnapshot snapshot) = get_snap w snapshot
carried w t (DeleteSnapshot snapshot) = delete_snap w snapshot
carried w t (ListSnapshots project paging) = list_snaps w project paging

-- the record has as many entries as it can number
abbrev pub is_full : World → Bool
is_full w = nat_eq w.count (2 ^ 50)

-- a bad argument is refused first, then everything if the record is full, then what the world decides
abbrev pub checked : World → ℕ → Command → Option Reason → Outcome
checked w t c (Some reason) = refuses w (InvalidArgument reason)
checked w t c None = if is_full w then refuses w Exhausted else carried w t c

-- the checks, then the command
abbrev pub outcome : World → ℕ → Command → Outcome
outcome w t c = checked w t c (argument_fault c)
