-- What a publish tells is so in the world after it.
use Rattle.std.proofs.Common.{ℕ, Bool, true, false, ◌≡◌, ◌≢◌, ◌+◌, ◌<◌, ◌≤◌, nat_eq, List, [], ◌∷◌, ◌++◌, append-nil, cond, Option, Some, None, option_map, map, find, length, refl, sym, ◌∙◌, ap, subst, arith}
use Rattle.std.specs.List.{AllByRecursion}
use Rattle.std.specs.Str.{bytes_eq}
use Rattle.std.proofs.lemmas.Bool.{ne_eqb, eq-eqb}
use Rattle.std.proofs.lemmas.List.{append_assoc}
use Rattle.ps_base.specs.Moments.{last_moment}
use Rattle.ps_message.specs.declared.message.Message.{Message}
use Rattle.ps_model.specs.declared.command.Command.TheVariants.{Publish}
use Rattle.ps_model.specs.declared.reply.Reply.{Reply}
use Rattle.ps_model.specs.declared.reply.Reply.TheVariants.{Published}
use Rattle.ps_model.specs.declared.world.World.{World}
use Rattle.ps_model.specs.declared.world.TopicRow.{TopicRow}
use Rattle.ps_model.specs.declared.world.MessageRow.{MessageRow}
use Rattle.ps_model.specs.Same.{world_parts}
use Rattle.ps_model.specs.Worlds.{topic_named, message_numbered}
use Rattle.ps_model.specs.Forwarding.{add_messages, message_rows, forward}
use Rattle.ps_model.specs.Settling.{expire, catch_up, release, let_go, settle}
use Rattle.ps_model.specs.Outcomes.{reply_in}
use Rattle.ps_model.specs.Topics.{publish_at}
use Rattle.ps_model.specs.Step.{moment, finished}
use Rattle.ps_model.specs.History.{called}
use Rattle.ps_sound.specs.Told.{Found, IsMessage, StandFrom, PublishedIsThere}
use Rattle.ps_base.proofs.Lists.{each-then, each-append, found-map}
use Rattle.ps_sound.proofs.worlds.Underway.{IsFinished}
use Rattle.ps_sound.proofs.phases.Stepping.{sound-settled}
use Rattle.ps_sound.proofs.replies.Calls.{told-carried, told-left}

-- what stands behind others of which none passes is found
found-behind : {A : Type 0} (test : A → Bool) (xs ys : List A) → AllByRecursion (λ x. test x ≡ false) xs → find test (xs ++ ys) ≡ find test ys
found-behind test [] ys h = refl
found-behind test (x ∷ xs) ys h = rw h.0 (found-behind test xs ys h.1)

-- new messages are found under their numbers, also where some are let go
stand-behind : (t : ℕ) (v : World) (topic number publish : ℕ) (front : List MessageRow) (ms : List Message) → AllByRecursion (λ (r : MessageRow). r.number < number) front
    → StandFrom (map (let_go t v) (front ++ message_rows topic number publish ms)) topic publish number ms
stand-behind t v topic number publish front [] below = tt
stand-behind t v topic number publish front (m ∷ ms) below =
    (subst (Found (IsMessage topic publish m)) (sym here) (record { topic = refl; publish = refl; message = refl }), rest (stand-behind t v topic (number + 1) publish (front ++ row ∷ []) ms below-row))
  where
    row : MessageRow
    row = record { number = number; topic = topic; publish = publish; message = m; kept = true }

    behind : List MessageRow
    behind = message_rows topic (number + 1) publish ms

    here : message_numbered (map (let_go t v) (front ++ (row ∷ behind))) number ≡ Some (let_go t v row)
    here =
        found-map (λ (r : MessageRow). nat_eq r.number number) (let_go t v) (front ++ (row ∷ behind)) (λ r. refl)
        ∙ ap (option_map (let_go t v)) (found-behind (λ (r : MessageRow). nat_eq r.number number) front (row ∷ behind)
        (each-then (λ (r : MessageRow). r.number < number) (λ (r : MessageRow). nat_eq r.number number ≡ false) front (λ r up. let ne : r.number ≢ number = omega (arith, up) in ne_eqb r.number number ne) below))
        ∙ ap (λ b. option_map (let_go t v) (cond b (Some row) (find (λ (r : MessageRow). nat_eq r.number number) behind))) (eq-eqb number number refl)

    below-row : AllByRecursion (λ (r : MessageRow). r.number < number + 1) (front ++ row ∷ [])
    below-row = each-append (λ (r : MessageRow). r.number < number + 1) front (row ∷ []) (each-then (λ (r : MessageRow). r.number < number) (λ (r : MessageRow). r.number < number + 1) front (λ r up. omega (arith, up)) below) (omega arith, tt)

    rest : StandFrom (map (let_go t v) ((front ++ row ∷ []) ++ behind)) topic publish (number + 1) ms → StandFrom (map (let_go t v) (front ++ (row ∷ behind))) topic publish (number + 1) ms
    rest = subst (λ rows. StandFrom (map (let_go t v) rows) topic publish (number + 1) ms) (append_assoc front (row ∷ []) behind)

abbrev first_in : Reply → ℕ
first_in (Published first number) = first
first_in _ = 0

abbrev number_in : Reply → ℕ
number_in (Published first number) = number
number_in _ = 0

pub published_is_there : PublishedIsThere
published_is_there w at name messages first number h told = by_topic (topic_named v name) refl (told-carried w at (Publish name messages) (Published first number) told refl) (told-left w at (Publish name messages) (Published first number) told refl)
  where
    t : ℕ
    t = moment w at

    v : World
    v = settle t w

    after : World
    after = called w (at, Publish name messages)

    later : w.now ≤ t
    later = omega (arith, h.in_time.now)

    last : t ≤ last_moment
    last = omega arith

    is : IsFinished t w.count v
    is = sound-settled t w later last h

    by_topic : (o : Option TopicRow) → topic_named v name ≡ o → reply_in (publish_at v t name messages o) ≡ Published first number → world_parts after ≡ world_parts (finished t v (publish_at v t name messages o))
        → record {
          number : number ≡ length messages;
          new : w.next_message ≤ first;
          there : Found (λ (topic : TopicRow). StandFrom after.messages topic.number t first messages) (topic_named after name);
        }
    by_topic None eo e left = absurd (cc (e))
    by_topic (Some topic) eo e left = record { number = sym (ap number_in e); new = omega (arith, first-is); there = subst (Found Stands) (sym topic-after) (subst (λ rows. StandFrom rows topic.number t first messages) (sym messages-after) stands) }
      where
        Stands : TopicRow → Type 0
        Stands row = StandFrom after.messages row.number t first messages

        rows : List MessageRow
        rows = message_rows topic.number v.next_message t messages

        gone : World
        gone = release t (catch_up (expire t (forward t [] (add_messages rows v))))

        first-is : v.next_message ≡ first
        first-is = ap first_in e

        messages-after : after.messages ≡ map (let_go t gone) (v.messages ++ rows)
        messages-after = ap (λ p. p.1.1.1.1.1.1.1.0) left ∙ ap (map (let_go t gone)) (append-nil (v.messages ++ rows))

        topic-after : topic_named after name ≡ Some topic
        topic-after = ap (λ topics. find (λ (r : TopicRow). bytes_eq r.name name) topics) (ap (λ p. p.1.1.1.1.0) left) ∙ eo

        stands : StandFrom (map (let_go t gone) (v.messages ++ rows)) topic.number t first messages
        stands = subst (λ n. StandFrom (map (let_go t gone) (v.messages ++ rows)) topic.number t n messages) first-is (stand-behind t gone topic.number v.next_message t v.messages messages is.underway.messages.below)
