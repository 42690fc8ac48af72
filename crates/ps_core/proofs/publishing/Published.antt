-- A publish is carried out as the rules say, and leaves what a core keeps beside its state right.
use Rattle.std.proofs.Common.{◌≡◌, ◌<◌, ◌≤◌, ◌+◌, ◌^◌, ◌&&◌, ◌||◌, ℕ, Bool, true, false, cond, not, nat_eq, nat_lt, List, [], ◌∷◌, ◌++◌, Option, Some, None, option_map, length, map, filter, find, refl, sym, ap, subst, ◌∙◌, arith}
use Rattle.std.specs.BTreeMap.{values}
use Rattle.std.specs.List.{AllByRecursion, list_any}
use Rattle.std.specs.Str.{bytes_eq}
use Rattle.std.proofs.lemmas.Bool.{eq-eqb, or_left, or_parts, or_right, ltb-false}
use Rattle.std.proofs.lemmas.List.{map-append}
use Rattle.ps_base.specs.Moments.{last_moment}
use Rattle.ps_base.specs.declared.reason.Reason.{Reason}
use Rattle.ps_base.specs.declared.reason.Reason.TheVariants.{Messages, RequestSize}
use Rattle.ps_base.specs.declared.refusal.Refusal.TheVariants.{NotFound}
use Rattle.ps_message.specs.Lists.{is_empty, total, first_of}
use Rattle.ps_message.specs.Messages.{broken, bytes_of, all_message_checks, publish_fault}
use Rattle.ps_message.specs.declared.message.Message.{Message}
use Rattle.ps_model.specs.declared.command.Command.TheVariants.{Publish}
use Rattle.ps_model.specs.declared.reply.Reply.{Reply}
use Rattle.ps_model.specs.declared.reply.Reply.TheVariants.{Published, Refused}
use Rattle.ps_model.specs.declared.mark.Mark.{Mark}
use Rattle.ps_model.specs.declared.world.World.{World}
use Rattle.ps_model.specs.declared.world.MarkRow.{MarkRow}
use Rattle.ps_model.specs.declared.world.MessageRow.{MessageRow}
use Rattle.ps_model.specs.declared.world.SubRow.{SubRow}
use Rattle.ps_model.specs.declared.world.TopicRow.{TopicRow}
use Rattle.ps_model.specs.Forwarding.{message_rows, add_messages}
use Rattle.ps_model.specs.Live.{live}
use Rattle.ps_model.specs.Same.{same_world}
use Rattle.ps_model.specs.Settling.{catch_up}
use Rattle.ps_model.specs.Slots.{is_gone}
use Rattle.ps_model.specs.Topics.{publish_at}
use Rattle.ps_model.specs.Worlds.{topic_named}
use Rattle.ps_tables.specs.declared.kept_subscription.KeptSubscription.{KeptSubscription}
use Rattle.ps_tables.specs.declared.tables.KeptMessage.{KeptMessage}
use Rattle.ps_tables.specs.declared.tables.KeptTopic.{KeptTopic}
use Rattle.ps_tables.specs.declared.tables.Tables.{Tables}
use Rattle.ps_core.specs.Carrying.{IsCarried}
use Rattle.ps_core.specs.Effects.{add_published, let_go, recorded_at}
use Rattle.ps_tables.specs.Subscriptions.{enter_subscription, is_had, number_of}
use Rattle.ps_tables.specs.Entering.{CanPublish, IsBefore, IsPublished, IsReady, kept_by}
use Rattle.ps_tables.specs.Members.{HasMembers, attached_at, numbered}
use Rattle.ps_core.specs.Keeping.{IsCounted, IsKept, state_of, subscription_at, the_message, the_row}
use Rattle.ps_tables.specs.Numbers.{IsNumbered}
use Rattle.ps_core.specs.State.{State, flat_marks, seen, sub_row}
use Rattle.ps_core.specs.Steady.{IsJoined, IsSteadySubscription, IsSteady}
use Rattle.ps_base.proofs.Lists.{each-always, each-append, each-map, each-of-map, each-then}
use Rattle.ps_tables.proofs.lists.Filtered.{filter-all}
use Rattle.ps_core.proofs.carrying.Kept.{find-in-map}
use Rattle.ps_core.proofs.carrying.Outcomes.{carried-made, carried-shown, outcome-open}
use Rattle.ps_core.proofs.publishing.Had.{counted-old, published-left}
use Rattle.ps_core.proofs.publishing.Moving.{published-due, published-moves}
use Rattle.ps_tables.proofs.publishing.Rows.{rows-kept, rows-length}
use Rattle.ps_core.proofs.publishing.Steady.{published-rows, published-steady}
use Rattle.ps_core.proofs.publishing.World.{add-seen, subs-entered, with_published}
use Rattle.ps_core.proofs.settling.Expunging.{IsPlain, catch_up-seen, caught-steady, marks-each, plain-steady}

-- ---- what a publish needs of the core

-- 1 to 1,000 messages
pub publish-few : (messages : List Message) → publish_fault messages ≡ None → (0 < length messages) × (length messages ≤ 1000)
publish-few messages none =
    by (is_empty messages || nat_lt 1000 (length messages)) refl (all_message_checks 0 messages ++ broken (nat_lt 10000000 (total bytes_of messages)) RequestSize ∷ []) none
  where
    some : (ms : List Message) → is_empty ms ≡ false → 0 < length ms
    some [] e = absurd (cc (e))
    some (m ∷ ms) e = omega arith

    by : (b : Bool) → (is_empty messages || nat_lt 1000 (length messages)) ≡ b → (rest : List (Option Reason)) → first_of (broken b Messages ∷ rest) ≡ None → (0 < length messages) × (length messages ≤ 1000)
    by true is rest none = absurd (cc (none))
    by false is rest none =
        let parts = or_parts (is_empty messages) (nat_lt 1000 (length messages)) is in
        (some messages parts.0, ltb-false 1000 (length messages) parts.1)

-- what is kept beside the state lets messages enter
pub can-publish : (first at now count next_topic next_sub next_message next_end : ℕ) (messages : List Message) (tables : Tables) → IsKept (state_of now count next_topic next_sub next_message tables) next_end tables
    → first ≡ next_message → now ≤ at → at ≤ last_moment → count ≤ 2 ^ 50 → length messages ≤ 1000 → CanPublish first at messages tables
can-publish first at now count next_topic next_sub next_message next_end messages tables kept next later within few short =
    let s : State = state_of now count next_topic next_sub next_message tables in
    record {
      room = omega (arith, next, kept.steady.messages_few, few, short);
      within = within;
      topics = kept.topics;
      members = kept.members;
      subscriptions = kept.subscriptions;
      ordered = kept.steady.subscriptions;
      names = kept.steady.subscription_names;
      ready = each-then (IsSteadySubscription s) (IsReady first at) (values tables.subscriptions)
          (λ x h. record {
            filter = h.filter;
            slots = each-then (IsJoined s x) (IsBefore first at) x.sub.slots (λ slot j. record { number = omega (arith, next, j.number); publish = omega (arith, j.publish, later) }) h.joined;
          }) kept.steady.each;
      message_keys = kept.messages;
      below = each-then (λ (x : KeptMessage). x.row.number < next_message) (λ (x : KeptMessage). x.row.number < first) (values tables.messages) (λ x h. omega (arith, h, next))
          (each-of-map (λ (m : MessageRow). m.number < next_message) the_message (values tables.messages) kept.steady.messages_below);
    }

-- a topic with a name has its number
pub topic-listed : (test : TopicRow → Bool) (topics : List KeptTopic) (r : TopicRow) → find test (map the_row topics) ≡ Some r → list_any (λ (x : KeptTopic). nat_eq x.row.number r.number) topics ≡ true
topic-listed test [] r e = absurd (cc (e))
topic-listed test (x ∷ xs) r e = by (test x.row) e (topic-listed test xs r)
  where
    rest : Bool
    rest = list_any (λ (y : KeptTopic). nat_eq y.row.number r.number) xs

    by : (b : Bool) → cond b (Some x.row) (find test (map the_row xs)) ≡ Some r → (find test (map the_row xs) ≡ Some r → rest ≡ true) → (nat_eq x.row.number r.number || rest) ≡ true
    by true e' more = let same : x.row ≡ r = cc (e') in or_left (nat_eq x.row.number r.number) rest (eq-eqb x.row.number r.number (ap (λ (t : TopicRow). t.number) same))
    by false e' more = or_right (nat_eq x.row.number r.number) rest (more e')

-- ---- a topic that isn't there

pub publish-missing : (at : ℕ) (name : List ℕ) (messages : List Message) (s : State) → s.count < 2 ^ 50 → publish_fault messages ≡ None → topic_named (seen s) name ≡ None → IsCarried at (Publish name messages) s s (Refused (NotFound name)) false
publish-missing at name messages s room fits nowhere =
    carried-shown at (Publish name messages) s (Refused (NotFound name)) (outcome-open s at (Publish name messages) room fits ∙ ap (publish_at (seen s) at name messages) nowhere)

-- ---- a topic that is there

-- nothing is gone where all messages are kept and all marks are plain
live-plain : (s : State) → IsPlain s → AllByRecursion (λ (m : MessageRow). m.kept ≡ true) s.messages → live (seen s) ≡ seen s
live-plain s plain kept =
    let here : AllByRecursion (λ (r : MarkRow). not (is_gone r.mark) ≡ true) (flat_marks s.subscriptions) =
    each-then (λ (r : MarkRow). is_gone r.mark ≡ false) (λ (r : MarkRow). not (is_gone r.mark) ≡ true) (flat_marks s.subscriptions) (λ r h. ap not h) (marks-each (λ (m : Mark). is_gone m ≡ false) s.subscriptions plain.marks) in
    λ i. record (seen s) {
      messages = filter-all (λ (m : MessageRow). m.kept) s.messages kept i;
      marks = filter-all (λ (r : MarkRow). not (is_gone r.mark)) (flat_marks s.subscriptions) here i;
    }

pub publish-carried : (at : ℕ) (name : List ℕ) (messages : List Message) (s : State) (topic : TopicRow) → IsSteady s → s.count < 2 ^ 50 → s.now ≤ at → at ≤ last_moment → publish_fault messages ≡ None → topic_named (seen s) name ≡ Some topic
    → IsCarried at (Publish name messages) s (recorded_at at (add_published at topic.number messages s)) (Published s.next_message (length messages)) true
publish-carried at name messages s topic h room later within fits named =
    let few = publish-few messages fits in
    let reply : Reply = Published s.next_message (length messages) in
    let rows : List MessageRow = message_rows topic.number s.next_message at messages in
    let made : State = with_published at topic.number messages s in
    let w : World = add_messages rows (seen s) in
    let left : let_go made ≡ add_published at topic.number messages s = published-left at topic.number messages s h in
    let after : IsSteady (recorded_at at (add_published at topic.number messages s)) = published-steady at topic.number messages s h later within room few.1 in
    let plain : IsPlain made = record { topic_settings = h.topic_settings; marks = (plain-steady (recorded_at at (add_published at topic.number messages s)) after).marks } in
    let kept : AllByRecursion (λ (m : MessageRow). m.kept ≡ true) made.messages = each-append (λ (m : MessageRow). m.kept ≡ true) s.messages rows h.kept (rows-kept topic.number s.next_message at messages) in
    let world = add-seen at topic.number messages s h in
    let caught : catch_up w ≡ w =
    ap catch_up world ∙ catch_up-seen made after.subscriptions (published-rows at topic.number messages s h later) (caught-steady (recorded_at at (add_published at topic.number messages s)) after) ∙ sym world in
    subst (λ (v : State). IsCarried at (Publish name messages) s (recorded_at at v) reply true) left
    (carried-made at (Publish name messages) s made reply w h plain
    (outcome-open s at (Publish name messages) room fits ∙ ap (publish_at (seen s) at name messages) named)
    (ap live (add-seen at topic.number messages s h) ∙ live-plain made plain kept)
    caught
    (ap (λ (v : State). same_world (seen s) (seen v)) left ∙ published-moves at topic.number messages s few.0)
    refl)

-- ---- what the core keeps beside its state

-- names are looked up in the rows of subscriptions
in-rows : (test : SubRow → Bool) (xs : List KeptSubscription) → option_map number_of (find (λ (x : KeptSubscription). test (sub_row x)) xs) ≡ option_map (λ (r : SubRow). r.number) (find test (map sub_row xs))
in-rows test xs = by (find (λ (x : KeptSubscription). test (sub_row x)) xs) ∙ ap (option_map (λ (r : SubRow). r.number)) (sym (find-in-map sub_row test xs))
  where
    by : (o : Option KeptSubscription) → option_map number_of o ≡ option_map (λ (r : SubRow). r.number) (option_map sub_row o)
    by None = refl
    by (Some x) = refl

named-still : (topic : ℕ) (rows : List MessageRow) (test : SubRow → Bool) (xs : List KeptSubscription)
    → option_map number_of (find (λ (x : KeptSubscription). test (sub_row x)) (map (enter_subscription topic rows) xs)) ≡ option_map number_of (find (λ (x : KeptSubscription). test (sub_row x)) xs)
named-still topic rows test xs =
    in-rows test (map (enter_subscription topic rows) xs) ∙ ap (λ (rs : List SubRow). option_map (λ (r : SubRow). r.number) (find test rs)) (subs-entered topic rows xs) ∙ sym (in-rows test xs)

name-still : (topic : ℕ) (rows : List MessageRow) (name : List ℕ) (xs : List KeptSubscription) → subscription_at name (map (enter_subscription topic rows) xs) ≡ subscription_at name xs
name-still topic rows name xs = named-still topic rows (λ (r : SubRow). bytes_eq r.name name) xs

member-still : (topic number : ℕ) (rows : List MessageRow) (name : List ℕ) (xs : List KeptSubscription) → attached_at number name (map (enter_subscription topic rows) xs) ≡ attached_at number name xs
member-still topic number rows name xs = named-still topic rows (λ (r : SubRow). bytes_eq r.name name && (nat_eq r.topic number && not r.detached)) xs

-- the counts of messages that some subscription has
counted-all : (at topic next : ℕ) (messages : List Message) (old new : List KeptMessage) (xs ys : List KeptSubscription) → AllByRecursion (λ (x : KeptMessage). x.row.number < next) old → AllByRecursion (IsCounted xs) old
    → ys ≡ map (enter_subscription topic (message_rows topic next at messages)) xs → new ≡ old ++ map (kept_by ys) (filter (λ (m : MessageRow). is_had ys m.number) (message_rows topic next at messages)) → AllByRecursion (IsCounted ys) new
counted-all at topic next messages old new xs ys below counted made kept =
    let left : List MessageRow = filter (λ (m : MessageRow). is_had ys m.number) (message_rows topic next at messages) in
    subst (AllByRecursion (IsCounted ys)) (sym kept)
    (each-append (IsCounted ys) old (map (kept_by ys) left)
    (subst (λ (zs : List KeptSubscription). AllByRecursion (IsCounted zs) old) (sym made) (counted-old at topic next messages xs old below counted))
    (each-map (λ (m : MessageRow). m.number ≡ m.number) (IsCounted ys) (kept_by ys) left (λ m k. refl) (each-always (λ (m : MessageRow). m.number ≡ m.number) left (λ m. refl))))

pub kept-published : (at topic now count next_topic next_sub next next_end : ℕ) (messages : List Message) (old new : Tables) → IsKept (state_of now count next_topic next_sub next old) next_end old
    → IsSteady (add_published at topic messages (state_of now count next_topic next_sub next old)) → IsPublished next at topic messages old new
    → IsKept (add_published at topic messages (state_of now count next_topic next_sub next old)) next_end new
kept-published at topic now count next_topic next_sub next next_end messages old new kept steady p =
    let s : State = state_of now count next_topic next_sub next old in
    let rows : List MessageRow = message_rows topic next at messages in
    let xs : List KeptSubscription = values old.subscriptions in
    let ys : List KeptSubscription = map (enter_subscription topic rows) xs in
    let below : AllByRecursion (λ (x : KeptMessage). x.row.number < next) (values old.messages) = each-of-map (λ (m : MessageRow). m.number < next) the_message (values old.messages) kept.steady.messages_below in
    record {
      steady = steady;
      topics = subst (λ m. IsNumbered (λ (x : KeptTopic). x.row.number) m.entries) (sym p.topics) kept.topics;
      topic_numbers = λ name. ap (λ index. numbered index name) p.topic_numbers ∙ kept.topic_numbers name;
      subscriptions = p.subscription_keys;
      subscription_numbers = λ name. ap (λ index. numbered index name) p.subscription_numbers ∙ kept.subscription_numbers name ∙ sym (name-still topic rows name xs);
      members = subst (λ m. AllByRecursion (HasMembers ys) (values m)) (sym p.topics)
          (each-then (HasMembers xs) (HasMembers ys) (values old.topics) (λ t has name. has name ∙ sym (member-still topic t.row.number rows name xs)) kept.members);
      messages = p.message_keys;
      holders = subst (λ (zs : List KeptSubscription). AllByRecursion (IsCounted zs) (values new.messages)) p.subscriptions
          (counted-all at topic next messages (values old.messages) (values new.messages) xs (values new.subscriptions) below kept.holders p.subscriptions p.kept);
      none_before = λ u before. published-due u at topic messages s ∙ kept.none_before u before;
    }

rows-of-kept : (ys : List KeptSubscription) (rows : List MessageRow) → map the_message (map (kept_by ys) rows) ≡ rows
rows-of-kept ys [] = refl
rows-of-kept ys (r ∷ rs) = ap (λ (more : List MessageRow). r ∷ more) (rows-of-kept ys rs)

-- the state that the tables make which a publish left
pub published-made : (at topic now count next_topic next_sub next : ℕ) (messages : List Message) (old new : Tables) → IsPublished next at topic messages old new
    → state_of now count next_topic next_sub (next + length messages) new ≡ add_published at topic messages (state_of now count next_topic next_sub next old)
published-made at topic now count next_topic next_sub next messages old new p =
    let rows : List MessageRow = message_rows topic next at messages in
    let left : List KeptSubscription → List MessageRow = λ ys. filter (λ (m : MessageRow). is_had ys m.number) rows in
    let kept : map the_message (values new.messages) ≡ map the_message (values old.messages) ++ left (map (enter_subscription topic rows) (values old.subscriptions)) =
    ap (map the_message) p.kept ∙ map-append the_message (values old.messages) (map (kept_by (values new.subscriptions)) (left (values new.subscriptions)))
    ∙ (λ i. map the_message (values old.messages) ++ rows-of-kept (values new.subscriptions) (left (values new.subscriptions)) i)
    ∙ ap (λ (ys : List KeptSubscription). map the_message (values old.messages) ++ left ys) p.subscriptions in
    λ i. record {
      now = now;
      count = count;
      next_topic = next_topic;
      next_sub = next_sub;
      next_message = next + sym (rows-length topic next at messages) i;
      topics = map the_row (values (p.topics i));
      subscriptions = p.subscriptions i;
      messages = kept i;
    }
