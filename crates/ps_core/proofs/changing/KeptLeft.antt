-- What is kept beside the state that a subscription leaves, and the state that the tables then make.
use Rattle.std.proofs.Common.{◌≡◌, ◌<◌, ◌+◌, ℕ, true, false, nat_cmp, List, Option, Some, None, MatchOption, map, refl, sym, ap, ◌∙◌, subst}
use Rattle.std.specs.BTreeMap.{BTreeMap, get, values}
use Rattle.std.specs.List.{AllByRecursion}
use Rattle.ps_base.proofs.Lists.{each-of-map}
use Rattle.ps_model.specs.declared.world.MessageRow.{MessageRow}
use Rattle.ps_model.specs.declared.world.TopicRow.{TopicRow}
use Rattle.ps_model.specs.Sound.{Ordered}
use Rattle.ps_tables.specs.declared.kept_subscription.KeptSubscription.{KeptSubscription}
use Rattle.ps_tables.specs.declared.tables.KeptTopic.{KeptTopic}
use Rattle.ps_tables.specs.declared.tables.Tables.{Tables}
use Rattle.ps_core.specs.Changing.{AreLeft, kept_number}
use Rattle.ps_tables.specs.Releasing.{message_number, released}
use Rattle.ps_core.specs.Effects.{is_any_due}
use Rattle.ps_tables.specs.Subscriptions.{is_had, number_of}
use Rattle.ps_core.specs.Keeping.{IsCounted, IsKept, state_of, subscription_at, the_message, the_row}
use Rattle.ps_tables.specs.Numbers.{IsNumbered}
use Rattle.ps_tables.specs.Members.{holders_of, numbered}
use Rattle.ps_core.specs.State.{State}
use Rattle.ps_tables.specs.TableEdits.{HasOtherSubs, LeavesTopic, RemovesName}
use Rattle.ps_tables.proofs.lists.Ordered.{ordered-of-map}
use Rattle.ps_core.proofs.changing.Holders.{counted-left, rows-left}
use Rattle.ps_core.proofs.changing.Leaving.{left-topics}
use Rattle.ps_core.proofs.changing.LettingGo.{AreFewer, left_with, let_go-steady}
use Rattle.ps_core.proofs.changing.Members.{IsWithout, members-left, rows-same}
use Rattle.ps_tables.proofs.numbers.Changes.{found-number}
use Rattle.ps_tables.proofs.numbers.Numbered.{numbered-put-keys}

-- topics stay at their numbers
topics-numbered : (topic : ℕ) (name : List ℕ) (old new : BTreeMap ℕ KeptTopic) → IsNumbered kept_number old.entries → LeavesTopic old topic name new → IsNumbered kept_number new.entries
topics-numbered topic name old new h = by (get nat_cmp old topic) refl
  where
    by : (found : Option KeptTopic) → get nat_cmp old topic ≡ found → MatchOption found (new.entries ≡ old.entries) (λ was. HasOtherSubs (λ before after. RemovesName before name after) topic was old new) → IsNumbered kept_number new.entries
    by None is same = subst (IsNumbered kept_number) (sym same) h
    by (Some was) is other =
        subst (IsNumbered kept_number) (sym other.entries) (numbered-put-keys kept_number topic other.topic old.entries h (ap (λ (r : TopicRow). r.number) other.row ∙ found-number kept_number topic was old.entries h is))

-- How the tables change if a subscription leaves its topic and lets go of its messages; these subscriptions are left.
pub record IsLeftTables (x : KeptSubscription) (xs ys : List KeptSubscription) (less : ℕ → ℕ) (tables after : Tables) : Type 0 where
  pub topics : LeavesTopic tables.topics x.topic x.name after.topics
  pub topic_numbers : after.topic_numbers ≡ tables.topic_numbers
  pub subscriptions : values after.subscriptions ≡ ys
  pub entries : IsNumbered number_of after.subscriptions.entries
  pub numbers : (name : List ℕ) → numbered after.subscription_numbers name ≡ subscription_at name ys
  pub without : IsWithout x xs ys
  pub fewer : (n : ℕ) → holders_of ys n + less n ≡ holders_of xs n
  pub messages : values after.messages ≡ released less (values tables.messages)
  pub message_entries : IsNumbered message_number after.messages.entries

pub left-kept : (s : State) (x : KeptSubscription) (ys : List KeptSubscription) (less : ℕ → ℕ) (next_end : ℕ) (tables after : Tables) → s.topics ≡ map the_row (values tables.topics) → IsKept s next_end tables → AreFewer s ys
    → ((at : ℕ) → is_any_due at s ≡ false → is_any_due at (left_with ys s) ≡ false) → IsLeftTables x s.subscriptions ys less tables after → IsKept (left_with ys s) next_end after
left-kept s x ys less next_end tables after view kept fewer due left =
    let up : Ordered (λ (a b : KeptTopic). kept_number a < kept_number b) (values tables.topics) = ordered-of-map (λ (a b : TopicRow). a.number < b.number) the_row (values tables.topics) (subst (Ordered (λ (a b : TopicRow). a.number < b.number)) view kept.steady.topics) in
    record {
      steady = let_go-steady s ys kept.steady fewer;
      topics = topics-numbered x.topic x.name tables.topics after.topics kept.topics left.topics;
      topic_numbers = λ name. ap (λ index. numbered index name) left.topic_numbers ∙ kept.topic_numbers name;
      subscriptions = left.entries;
      subscription_numbers = left.numbers;
      members = members-left x s.subscriptions ys left.without (values tables.topics) (values after.topics) (left-topics x.topic x.name tables.topics after.topics kept.topics up left.topics) kept.members;
      messages = left.message_entries;
      holders = subst (AllByRecursion (IsCounted ys)) (sym left.messages) (counted-left less s.subscriptions ys left.fewer (values tables.messages) kept.holders);
      none_before = λ at before. due at (kept.none_before at before);
    }

-- the state that the tables make
pub left-view : (now count next_topic next_sub next_message : ℕ) (x : KeptSubscription) (ys : List KeptSubscription) (less : ℕ → ℕ) (next_end : ℕ) (tables after : Tables) → IsKept (state_of now count next_topic next_sub next_message tables) next_end tables
    → IsLeftTables x (values tables.subscriptions) ys less tables after → state_of now count next_topic next_sub next_message after ≡ left_with ys (state_of now count next_topic next_sub next_message tables)
left-view now count next_topic next_sub next_message x ys less next_end tables after kept left = λ i. record {
  now = now;
  count = count;
  next_topic = next_topic;
  next_sub = next_sub;
  next_message = next_message;
  topics = rows-same x.topic x.name (values tables.topics) (values after.topics) topics i;
  subscriptions = left.subscriptions i;
  messages = messages i;
}
  where
    topics : AreLeft x.topic x.name (values tables.topics) (values after.topics)
    topics = left-topics x.topic x.name tables.topics after.topics kept.topics (ordered-of-map (λ (a b : TopicRow). a.number < b.number) the_row (values tables.topics) kept.steady.topics) left.topics

    messages : map the_message (values after.messages) ≡ (left_with ys (state_of now count next_topic next_sub next_message tables)).messages
    messages =
        ap (map the_message) left.messages
        ∙ rows-left less (values tables.subscriptions) ys left.fewer (values tables.messages) kept.holders
        (each-of-map (λ (r : MessageRow). is_had (values tables.subscriptions) r.number ≡ true) the_message (values tables.messages) kept.steady.wanted)
