-- While everything is held, expunging changes nothing.
use Rattle.std.proofs.Common.{ℕ, ◌≡◌, ◌<◌, Bool, true, false, ◌&&◌, ◌||◌, not, nat_eq, List, [], ◌∷◌, Option, Some, None, map, find, option_and_then, is_some, codes, if◌then◌else◌, refl, sym, ◌∙◌, ap}
use Rattle.std.specs.List.{AllByRecursion, list_any}
use Rattle.std.proofs.Math.Bool.{and-true, or-false}
use Rattle.std.proofs.lemmas.Bool.{or_right, and_right, cond_both}
use Rattle.std.proofs.lemmas.List.Folds.{list_any-append}
use Rattle.ps_model.specs.declared.mark.Mark.{Mark}
use Rattle.ps_model.specs.declared.mark.Slot.{Slot}
use Rattle.ps_config.specs.declared.config.TopicConfig.{TopicConfig}
use Rattle.ps_model.specs.declared.world.World.{World}
use Rattle.ps_model.specs.declared.world.TopicRow.{TopicRow}
use Rattle.ps_model.specs.declared.world.SubRow.{SubRow}
use Rattle.ps_model.specs.declared.world.MessageRow.{MessageRow}
use Rattle.ps_model.specs.declared.world.MarkRow.{MarkRow}
use Rattle.ps_model.specs.Retention.{expired_mark, caught_up_mark, released_mark, is_within}
use Rattle.ps_model.specs.Settling.{expire, catch_up, release, is_wanted, let_go, expunge_world}
use Rattle.ps_model.specs.Slots.{is_gone, is_done}
use Rattle.ps_model.specs.Sound.{Ordered}
use Rattle.ps_model.specs.Worlds.{sub_numbered, slots_of, slot_of, row_of, new_mark, remark_all, holds_of, window_of}
use Rattle.ps_sub.specs.Showing.{has}
use Rattle.ps_tables.specs.declared.kept_subscription.KeptSubscription.{KeptSubscription}
use Rattle.ps_core.specs.State.{State, seen, flat_marks}
use Rattle.ps_core.specs.Built.{unbuilt_topic_setting}
use Rattle.ps_tables.specs.Subscriptions.{is_had, with_slots}
use Rattle.ps_core.specs.Steady.{IsCaughtUp, IsJoined, IsSteadySubscription, IsSteady}
use Rattle.ps_base.proofs.Lists.{each-append, each-map, each-then, each-then-both, map-alike, map-rests}
use Rattle.ps_core.proofs.marks.Flat.{Joined}
use Rattle.ps_core.proofs.settling.CaughtUp.{caught_up-rests}
use Rattle.ps_core.proofs.settling.Passes.{pass-rests, pass-seen, remark_subscription}

-- what expunging reads of a state: settings of topics that keep nothing, and marks that aren't gone
pub record IsPlain (s : State) : Type 0 where
  pub topic_settings : AllByRecursion (λ (r : TopicRow). unbuilt_topic_setting r.config ≡ None) s.topics
  pub marks : AllByRecursion (λ (x : KeptSubscription). AllByRecursion (λ (slot : Slot). is_gone slot.mark ≡ false) x.sub.slots) s.subscriptions

pub plain-steady : (s : State) → IsSteady s → IsPlain s
plain-steady s h = record {
  topic_settings = h.topic_settings;
  marks = each-then (IsSteadySubscription s) (λ (x : KeptSubscription). AllByRecursion (λ (slot : Slot). is_gone slot.mark ≡ false) x.sub.slots) s.subscriptions (λ x own. each-then (IsJoined s x) (λ (slot : Slot). is_gone slot.mark ≡ false) x.sub.slots (λ slot j. j.here) own.joined) h.each;
}

-- what holds of each mark of a subscription holds of each row
rows-each : (P : Mark → Type 0) (n : ℕ) (slots : List Slot) → AllByRecursion (λ (slot : Slot). P slot.mark) slots → AllByRecursion (λ (r : MarkRow). P r.mark) (map (row_of n) slots)
rows-each P n slots h = each-map (λ (slot : Slot). P slot.mark) (λ (r : MarkRow). P r.mark) (row_of n) slots (λ slot p. p) h

pub marks-each : (P : Mark → Type 0) (xs : List KeptSubscription) → AllByRecursion (λ (x : KeptSubscription). AllByRecursion (λ (slot : Slot). P slot.mark) x.sub.slots) xs → AllByRecursion (λ (r : MarkRow). P r.mark) (flat_marks xs)
marks-each P [] h = tt
marks-each P (x ∷ xs) h = each-append (λ (r : MarkRow). P r.mark) (map (row_of x.number) x.sub.slots) (flat_marks xs) (rows-each P x.number x.sub.slots h.0) (marks-each P xs h.1)

-- a pass whose rule leaves the mark of each slot
leaves-all : (rule : SubRow → List Slot → Slot → Mark) (w : World) → ((sub : SubRow) (slots : List Slot) (slot : Slot) → rule sub slots slot ≡ slot.mark) → remark_all rule w ≡ w
leaves-all rule w h = pass-rests rule w (each w.marks)
  where
    one : (r : MarkRow) (o : Option SubRow) → new_mark rule w r o ≡ r.mark
    one r None = refl
    one r (Some sub) = h sub (slots_of w sub.number) (slot_of w.messages r)

    each : (rows : List MarkRow) → AllByRecursion (λ (r : MarkRow). new_mark rule w r (sub_numbered w r.sub) ≡ r.mark) rows
    each [] = tt
    each (r ∷ rows) = (one r (sub_numbered w r.sub), each rows)

-- everything is held, so nothing expires
pub expire-rests : (at : ℕ) (w : World) → expire at w ≡ w
expire-rests at w = leaves-all (λ sub slots. expired_mark at sub.config (holds_of w sub.topic)) w (λ sub slots slot. rw (or_right (is_done slot.mark) true refl) refl)

pub release-rests : (at : ℕ) (w : World) → release at w ≡ w
release-rests at w = leaves-all (λ sub slots. released_mark at sub.config (holds_of w sub.topic)) w (λ sub slots slot. rw (and_right (is_done slot.mark) false refl) refl)

-- where every message has caught up, nothing catches up
pub catch_up-seen : (s : State) → Ordered (λ (a b : KeptSubscription). a.number < b.number) s.subscriptions → AllByRecursion (λ (x : KeptSubscription). Joined s.messages x.number x.sub.slots) s.subscriptions
    → AllByRecursion (λ (x : KeptSubscription). IsCaughtUp x.sub.config.ordering x.sub.slots) s.subscriptions → catch_up (seen s) ≡ seen s
catch_up-seen s up joined caught =
    pass-seen (λ sub. caught_up_mark sub.config.ordering) s up joined ∙ ap (λ (xs : List KeptSubscription). seen (record s { subscriptions = xs })) (each s.subscriptions caught)
  where
    each : (xs : List KeptSubscription) → AllByRecursion (λ (x : KeptSubscription). IsCaughtUp x.sub.config.ordering x.sub.slots) xs → map (remark_subscription (λ sub. caught_up_mark sub.config.ordering)) xs ≡ xs
    each [] h = refl
    each (x ∷ xs) h = λ i. with_slots x (caught_up-rests x.sub.config.ordering x.sub.slots h.0 i) ∷ each xs h.1 i

pub rows-steady : (s : State) → IsSteady s → AllByRecursion (λ (x : KeptSubscription). Joined s.messages x.number x.sub.slots) s.subscriptions
rows-steady s h = each-then (IsSteadySubscription s) (λ (x : KeptSubscription). Joined s.messages x.number x.sub.slots) s.subscriptions (λ x own. each-then (IsJoined s x) (λ (slot : Slot). slot_of s.messages (row_of x.number slot) ≡ slot) x.sub.slots (λ slot j. j.row) own.joined) h.each

pub caught-steady : (s : State) → IsSteady s → AllByRecursion (λ (x : KeptSubscription). IsCaughtUp x.sub.config.ordering x.sub.slots) s.subscriptions
caught-steady s h = each-then (IsSteadySubscription s) (λ (x : KeptSubscription). IsCaughtUp x.sub.config.ordering x.sub.slots) s.subscriptions (λ x own. own.caught_up) h.each

pub catch_up-steady : (s : State) → IsSteady s → catch_up (seen s) ≡ seen s
catch_up-steady s h = catch_up-seen s h.subscriptions (rows-steady s h) (caught-steady s h)

-- a row of the message that isn't gone
abbrev pub wants : ℕ → MarkRow → Bool
wants number m = nat_eq m.message number && not (is_gone m.mark)

slots-want : (n number : ℕ) (slots : List Slot) → AllByRecursion (λ (slot : Slot). is_gone slot.mark ≡ false) slots → list_any (wants number) (map (row_of n) slots) ≡ has slots number
slots-want n number [] h = refl
slots-want n number (slot ∷ slots) h =
    let first : wants number (row_of n slot) ≡ nat_eq slot.item.number number = ap (λ (gone : Bool). nat_eq slot.item.number number && not gone) h.0 ∙ and-true (nat_eq slot.item.number number) in
    λ i. first i || slots-want n number slots h.1 i

pub marks-want : (number : ℕ) (xs : List KeptSubscription) → AllByRecursion (λ (x : KeptSubscription). AllByRecursion (λ (slot : Slot). is_gone slot.mark ≡ false) x.sub.slots) xs → list_any (wants number) (flat_marks xs) ≡ is_had xs number
marks-want number [] h = refl
marks-want number (x ∷ xs) h =
    list_any-append (wants number) (map (row_of x.number) x.sub.slots) (flat_marks xs) ∙ λ i. slots-want x.number number x.sub.slots h.0 i || marks-want number xs h.1 i

-- a topic whose retention isn't built has none
keeps-nothing : (c : TopicConfig) → unbuilt_topic_setting c ≡ None → c.retention ≡ None
keeps-nothing c built = by c.retention built
  where
    by : (o : Option ℕ) → (if is_some o then Some (codes "messageRetentionDuration") else None) ≡ None → o ≡ None
    by None e = refl
    by (Some window) e = absurd (cc (e))

pub window-none : (number : ℕ) (topics : List TopicRow) → AllByRecursion (λ (r : TopicRow). unbuilt_topic_setting r.config ≡ None) topics
    → option_and_then (λ (r : TopicRow). r.config.retention) (find (λ (r : TopicRow). nat_eq r.number number) topics) ≡ None
window-none number [] h = refl
window-none number (r ∷ topics) h =
    cond_both (nat_eq r.number number) (Some r) (find (λ (x : TopicRow). nat_eq x.number number) topics) (λ (o : Option TopicRow). option_and_then (λ (x : TopicRow). x.config.retention) o ≡ None)
    (λ _. keeps-nothing r.config h.0) (λ _. window-none number topics h.1)

-- a message is wanted where some subscription has it
pub wanted-had : (at : ℕ) (s : State) → IsPlain s → (m : MessageRow) → is_wanted at (flat_marks s.subscriptions) (holds_of (seen s) m.topic) m ≡ is_had s.subscriptions m.number
wanted-had at s h m =
    let window : window_of (seen s) m.topic ≡ None = window-none m.topic s.topics h.topic_settings in
    ap (λ (w : Option ℕ). list_any (wants m.number) (flat_marks s.subscriptions) || (is_within at m.publish w || false)) window
    ∙ or-false (list_any (wants m.number) (flat_marks s.subscriptions)) ∙ marks-want m.number s.subscriptions h.marks

abbrev pub kept_where_had : List KeptSubscription → MessageRow → MessageRow
kept_where_had subscriptions m = record m { kept = m.kept && is_had subscriptions m.number }

-- Where no mark is gone and all have caught up, a message goes that no subscription has, and nothing else changes.
pub expunge-kept : (at : ℕ) (s : State) → IsPlain s → catch_up (seen s) ≡ seen s
    → expunge_world at (seen s) ≡ seen (record s { messages = map (λ (m : MessageRow). record m { kept = m.kept && is_had s.subscriptions m.number }) s.messages })
expunge-kept at s h caught =
    let rests : release at (catch_up (expire at (seen s))) ≡ seen s =
    release-rests at (catch_up (expire at (seen s))) ∙ ap catch_up (expire-rests at (seen s)) ∙ caught in
    let kept : map (let_go at (seen s)) s.messages ≡ map (kept_where_had s.subscriptions) s.messages =
    map-alike (let_go at (seen s)) (kept_where_had s.subscriptions) s.messages (λ m. ap (λ (had : Bool). record m { kept = m.kept && had }) (wanted-had at s h m)) in
    ap (λ (w : World). record w { messages = map (let_go at w) w.messages }) rests ∙ λ i. record (seen s) { messages = kept i }

-- Expunging a world is expunging what it comes to when all have caught up.
pub expunge-caught : (at : ℕ) (w v : World) → catch_up w ≡ v → catch_up v ≡ v → expunge_world at w ≡ expunge_world at v
expunge-caught at w v caught rests =
    ap (λ (gone : World). record gone { messages = map (let_go at gone) gone.messages })
    (ap (release at) (ap catch_up (expire-rests at w) ∙ caught ∙ sym rests ∙ ap catch_up (sym (expire-rests at v))))

-- While everything is held, nothing goes.
pub expunge-seen : (at : ℕ) (s : State) → IsSteady s → expunge_world at (seen s) ≡ seen s
expunge-seen at s h =
    let kept : map (kept_where_had s.subscriptions) s.messages ≡ s.messages =
    map-rests (kept_where_had s.subscriptions) s.messages
    (each-then-both (λ (m : MessageRow). m.kept ≡ true) (λ (m : MessageRow). is_had s.subscriptions m.number ≡ true) (λ (m : MessageRow). kept_where_had s.subscriptions m ≡ m) s.messages
    (λ m kept had. ap (λ (k : Bool). record m { kept = k }) (rw (kept, had) refl)) h.kept h.wanted) in
    expunge-kept at s (plain-steady s h) (catch_up-steady s h) ∙ λ i. seen (record s { messages = kept i })
