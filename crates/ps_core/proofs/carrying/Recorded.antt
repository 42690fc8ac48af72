-- One entry more, which changes nothing else.
use Rattle.std.proofs.Common.{◌≡◌, ◌+◌, ◌*◌, ◌<◌, ◌≤◌, ◌^◌, ℕ, refl, arith}
use Rattle.ps_base.specs.Moments.{last_moment}
use Rattle.ps_model.specs.declared.mark.Slot.{Slot}
use Rattle.ps_tables.specs.declared.kept_subscription.KeptSubscription.{KeptSubscription}
use Rattle.ps_tables.specs.declared.tables.Tables.{Tables}
use Rattle.ps_core.specs.Carrying.{CanRecord}
use Rattle.ps_core.specs.Effects.{recorded_at}
use Rattle.ps_core.specs.Keeping.{IsKept}
use Rattle.ps_core.specs.State.{State}
use Rattle.ps_core.specs.Steady.{IsJoined, IsSteady, IsSteadySubscription}
use Rattle.ps_base.proofs.Lists.{each-then}

module _ (at : ℕ) (s : State) (can : CanRecord at s) where
  joined-recorded : (x : KeptSubscription) (slot : Slot) → IsJoined s x slot → IsJoined (recorded_at at s) x slot
  joined-recorded x slot j = record { row = j.row; number = j.number; publish = omega (arith, j.publish, can.later); here = j.here }

  subscription-recorded : (x : KeptSubscription) → IsSteadySubscription s x → IsSteadySubscription (recorded_at at s) x
  subscription-recorded x own = record {
    settings = own.settings;
    filter = own.filter;
    leases = omega (arith, own.leases);
    slots = own.slots;
    joined = each-then (IsJoined s x) (IsJoined (recorded_at at s) x) x.sub.slots (joined-recorded x) own.joined;
    caught_up = own.caught_up;
    detached = own.detached;
    topic = own.topic;
  }

  steady-recorded : IsSteady s → at ≤ last_moment → IsSteady (recorded_at at s)
  steady-recorded h within = record {
    now = within;
    count = omega (arith, can.room);
    topics = h.topics;
    topics_below = h.topics_below;
    topic_names = h.topic_names;
    topic_grammar = h.topic_grammar;
    topic_settings = h.topic_settings;
    topics_few = omega (arith, h.topics_few);
    subscriptions = h.subscriptions;
    subscriptions_below = h.subscriptions_below;
    subscription_names = h.subscription_names;
    subscription_grammar = h.subscription_grammar;
    subs_few = omega (arith, h.subs_few);
    each = each-then (IsSteadySubscription s) (IsSteadySubscription (recorded_at at s)) s.subscriptions subscription-recorded h.each;
    messages = h.messages;
    messages_below = h.messages_below;
    messages_few = omega (arith, h.messages_few);
    kept = h.kept;
    wanted = h.wanted;
  }

  pub kept-recorded : (next_end : ℕ) (tables : Tables) → IsKept s next_end tables → at ≤ last_moment → IsKept (recorded_at at s) next_end tables
  kept-recorded next_end tables kept within = record {
    steady = steady-recorded kept.steady within;
    topics = kept.topics;
    topic_numbers = kept.topic_numbers;
    subscriptions = kept.subscriptions;
    subscription_numbers = kept.subscription_numbers;
    members = kept.members;
    messages = kept.messages;
    holders = kept.holders;
    none_before = kept.none_before;
  }
