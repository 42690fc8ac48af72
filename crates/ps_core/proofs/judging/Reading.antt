-- Commands that only show something: whatever is shown, they leave the world, and so none is ever recorded.
use Rattle.std.proofs.Common.{◌≡◌, ℕ, List, Bool, true, false, Option, Some, None, if◌then◌else◌, refl, sym, ap, ◌∙◌, true≢false}
use Rattle.ps_base.specs.declared.refusal.Refusal.TheVariants.{Exhausted}
use Rattle.ps_model.specs.declared.command.Command.{Command}
use Rattle.ps_model.specs.declared.command.Command.TheVariants.{GetTopic, ListTopics, ListTopicSubscriptions, ListTopicSnapshots, GetSubscription, ListSubscriptions, GetSnapshot, ListSnapshots}
use Rattle.ps_model.specs.declared.command.Paging.{Paging}
use Rattle.ps_model.specs.declared.reply.Reply.{Reply}
use Rattle.ps_model.specs.declared.world.World.{World}
use Rattle.ps_model.specs.declared.world.TopicRow.{TopicRow}
use Rattle.ps_model.specs.declared.world.SubRow.{SubRow}
use Rattle.ps_model.specs.declared.world.SnapRow.{SnapRow}
use Rattle.ps_model.specs.Commands.{is_full, outcome}
use Rattle.ps_model.specs.Listing.{list_topics, list_subs, list_snaps, list_topic_subs, list_topic_snaps, topic_subs_at, topic_snaps_at}
use Rattle.ps_model.specs.Outcomes.{Outcome, Shows, refuses}
use Rattle.ps_model.specs.Same.{same_world}
use Rattle.ps_model.specs.Snapshots.{get_snap, get_snap_at}
use Rattle.ps_model.specs.Step.{finished}
use Rattle.ps_model.specs.Subscriptions.{get_sub, get_sub_at}
use Rattle.ps_model.specs.Topics.{get_topic, get_topic_at}
use Rattle.ps_model.specs.Worlds.{topic_named, sub_named, snap_named}
use Rattle.ps_model.proofs.SameLemmas.{world-same}
use Rattle.ps_core.specs.State.{State, seen}
use Rattle.ps_core.specs.Carrying.{IsCarried}

abbrev pub is_reading : Command → Bool
is_reading (GetTopic topic) = true
is_reading (ListTopics project paging) = true
is_reading (ListTopicSubscriptions topic paging) = true
is_reading (ListTopicSnapshots topic paging) = true
is_reading (GetSubscription subscription) = true
is_reading (ListSubscriptions project paging) = true
is_reading (GetSnapshot snapshot) = true
is_reading (ListSnapshots project paging) = true
is_reading _ = false

abbrev Shown : Outcome → Type 0
Shown o = (reply : Reply) × (o ≡ Shows reply)

topic : (w : World) (name : List ℕ) (row : Option TopicRow) → Shown (get_topic_at w name row)
topic w name None = (_, refl)
topic w name (Some row) = (_, refl)

subscription : (w : World) (name : List ℕ) (row : Option SubRow) → Shown (get_sub_at w name row)
subscription w name None = (_, refl)
subscription w name (Some row) = (_, refl)

snapshot : (w : World) (name : List ℕ) (row : Option SnapRow) → Shown (get_snap_at w name row)
snapshot w name None = (_, refl)
snapshot w name (Some row) = (_, refl)

subscriptions_of : (w : World) (paging : Paging) (name : List ℕ) (row : Option TopicRow) → Shown (topic_subs_at w paging name row)
subscriptions_of w paging name None = (_, refl)
subscriptions_of w paging name (Some row) = (_, refl)

snapshots_of : (w : World) (paging : Paging) (name : List ℕ) (row : Option TopicRow) → Shown (topic_snaps_at w paging name row)
snapshots_of w paging name None = (_, refl)
snapshots_of w paging name (Some row) = (_, refl)

or_full : (full : Bool) (w : World) (o : Outcome) → Shown o → Shown (if full then refuses w Exhausted else o)
or_full true w o shown = (_, refl)
or_full false w o shown = shown

shown : (w : World) (at : ℕ) (c : Command) → is_reading c ≡ true → Shown (outcome w at c)
shown w at (GetTopic name) reads = or_full (is_full w) w (get_topic w name) (topic w name (topic_named w name))
shown w at (ListTopics project paging) reads = or_full (is_full w) w (list_topics w project paging) (_, refl)
shown w at (ListTopicSubscriptions name paging) reads = or_full (is_full w) w (list_topic_subs w name paging) (subscriptions_of w paging name (topic_named w name))
shown w at (ListTopicSnapshots name paging) reads = or_full (is_full w) w (list_topic_snaps w name paging) (snapshots_of w paging name (topic_named w name))
shown w at (GetSubscription name) reads = or_full (is_full w) w (get_sub w name) (subscription w name (sub_named w name))
shown w at (ListSubscriptions project paging) reads = or_full (is_full w) w (list_subs w project paging) (_, refl)
shown w at (GetSnapshot name) reads = or_full (is_full w) w (get_snap w name) (snapshot w name (snap_named w name))
shown w at (ListSnapshots project paging) reads = or_full (is_full w) w (list_snaps w project paging) (_, refl)
shown w at _ reads = absurd (true≢false (sym reads))

-- a command that changed something isn't one of them
pub changes : (at : ℕ) (c : Command) (old new : State) (told : Reply) → IsCarried at c old new told true → is_reading c ≡ false
changes at c old new told carried = by (is_reading c) refl
  where
    by : (reads : Bool) → is_reading c ≡ reads → reads ≡ false
    by false e = refl
    by true e =
        let same = ap (λ (o : Outcome). same_world (seen old) (finished at (seen old) o)) (shown (seen old) at c e).1 ∙ world-same (seen old) (seen old) refl in
        absurd (true≢false (sym same ∙ carried.moved))
