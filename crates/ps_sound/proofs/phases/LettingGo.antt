-- What is left where the messages that nothing wants are let go.
use Rattle.std.proofs.Common.{ℕ, ◌≡◌, ◌<◌, ◌≤◌, ◌&&◌, ◌||◌, not, Bool, true, nat_eq, nat_lt, is_some, List, [], ◌∷◌, Option, Some, None, option_map, unwrap_or, map, filter, refl, sym, ◌∙◌, ap, subst}
use Rattle.std.specs.List.{AllByRecursion, list_any}
use Rattle.std.proofs.lemmas.Bool.{and_parts, and_from, or_left, or_right, eqb-true, eq-eqb, not_from_false, cond_both}
use Rattle.ps_model.specs.declared.world.World.{World}
use Rattle.ps_model.specs.declared.world.SubRow.{SubRow}
use Rattle.ps_model.specs.declared.world.SnapRow.{SnapRow}
use Rattle.ps_model.specs.declared.world.MarkRow.{MarkRow}
use Rattle.ps_model.specs.declared.world.MessageRow.{MessageRow}
use Rattle.ps_model.specs.Slots.{is_gone, is_earlier}
use Rattle.ps_model.specs.Retention.{is_within, is_held_by, holds}
use Rattle.ps_model.specs.Worlds.{no_message, message_numbered, message_at, item_at, sub_numbered, slot_of, slots_of, rows_of, window_of, hold_of, holds_of}
use Rattle.ps_model.specs.Settling.{is_wanted, let_go}
use Rattle.ps_model.specs.Sound.{IsNamed, WantedAt, IsWanted, IsListedIn, KeepsWhatItHolds, OnEachSlot, IsAheadOfOne}
use Rattle.ps_base.proofs.Lists.{each-always, each-then, each-both, each-map, found-map, found-passes, some-mapped, map-same}
use Rattle.ps_sound.proofs.worlds.Lists.{ordered-map}
use Rattle.ps_sound.proofs.worlds.Underway.{ordering_of, InOrder, IsHeldAt, AllHeld, SnapsStand, IsUnderway, IsFinished}

-- the messages that nothing wants are let go
abbrev pub let_all_go : ℕ → World → World
let_all_go t w = record w { messages = map (let_go t w) w.messages }

-- a member that passes its own test is some member that does
pub any-own : {A : Type 0} (test : A → A → Bool) (xs : List A) → AllByRecursion (λ x. test x x ≡ true → list_any (test x) xs ≡ true) xs
any-own test [] = tt
any-own test (x ∷ xs) = (
  λ e. or_left (test x x) (list_any (test x) xs) e,
  each-then (λ y. test y y ≡ true → list_any (test y) xs ≡ true) (λ y. test y y ≡ true → list_any (test y) (x ∷ xs) ≡ true) xs (λ y k e. or_right (test y x) (list_any (test y) xs) (k e)) (any-own test xs),
)

-- a message is looked up as it was let go
pub message_at-let_go : (t : ℕ) (w : World) (messages : List MessageRow) (n : ℕ) → message_at (map (let_go t w) messages) n ≡ let_go t w (message_at messages n)
message_at-let_go t w messages n = ap (λ o. unwrap_or o (no_message n)) (found-map (λ (r : MessageRow). nat_eq r.number n) (let_go t w) messages (λ r. refl)) ∙ at (message_numbered messages n)
  where
    at : (o : Option MessageRow) → unwrap_or (option_map (let_go t w) o) (no_message n) ≡ let_go t w (unwrap_or o (no_message n))
    at None = refl
    at (Some r) = refl

pub message_at-number : (messages : List MessageRow) (n : ℕ) → (message_at messages n).number ≡ n
message_at-number messages n = at (message_numbered messages n) refl
  where
    at : (o : Option MessageRow) → message_numbered messages n ≡ o → (unwrap_or o (no_message n)).number ≡ n
    at None e = refl
    at (Some r) e = eqb-true r.number n (found-passes (λ (x : MessageRow). nat_eq x.number n) messages r e)

-- a mark that isn't gone keeps its message
pub let_go-wanted : (t : ℕ) (w : World) → AllByRecursion (IsWanted w) w.marks → AllByRecursion (IsWanted (let_all_go t w)) w.marks
let_go-wanted t w h =
    each-then (λ (r : MarkRow). IsWanted w r × Own r) (IsWanted (let_all_go t w)) w.marks each
    (each-both (IsWanted w) Own w.marks h (any-own lives w.marks))
  where
    lives : MarkRow → MarkRow → Bool
    lives r x = nat_eq x.message r.message && not (is_gone x.mark)

    Own : MarkRow → Type 0
    Own r = lives r r ≡ true → list_any (lives r) w.marks ≡ true

    at : (r : MarkRow) (o : Option SubRow) → Own r → WantedAt w (message_at w.messages r.message) o r.mark → WantedAt (let_all_go t w) (let_go t w (message_at w.messages r.message)) o r.mark
    at r None own p = p
    at r (Some sub) own p = λ alive. record {
      kept = and_from (message_at w.messages r.message).kept _ (p alive).kept (or_left (list_any (λ (x : MarkRow). nat_eq x.message (message_at w.messages r.message).number && not (is_gone x.mark)) w.marks) _
          (subst (λ n. list_any (λ (x : MarkRow). nat_eq x.message n && not (is_gone x.mark)) w.marks ≡ true) (sym (message_at-number w.messages r.message))
          (own (and_from (nat_eq r.message r.message) (not (is_gone r.mark)) (eq-eqb r.message r.message refl) (not_from_false (is_gone r.mark) alive)))));
      topic = (p alive).topic;
      met = (p alive).met;
    }

    each : (r : MarkRow) → IsWanted w r × Own r → IsWanted (let_all_go t w) r
    each r p = subst (λ (m : MessageRow). WantedAt (let_all_go t w) m (sub_numbered w r.sub) r.mark) (sym (message_at-let_go t w w.messages r.message)) (at r (sub_numbered w r.sub) p.1 p.0)

-- what is kept then is asked for
pub let_go-asked : (t : ℕ) (w : World) → AllByRecursion (λ (m : MessageRow). m.kept ≡ true → is_wanted t w.marks (holds_of w m.topic) m ≡ true) (map (let_go t w) w.messages)
let_go-asked t w = each-map (λ (m : MessageRow). Unit {0}) (λ (m : MessageRow). m.kept ≡ true → is_wanted t w.marks (holds_of w m.topic) m ≡ true) (let_go t w) w.messages
    (λ m _ e. (and_parts m.kept (is_wanted t w.marks (holds_of w m.topic) m) e).1) (each-always (λ (m : MessageRow). Unit {0}) w.messages (λ m. tt))

-- what a snapshot holds is wanted
abbrev pub HeldIsWanted : ℕ → World → SnapRow → Type 0
HeldIsWanted t w r = (m : MessageRow) → m.topic ≡ r.topic → is_held_by m.number (hold_of r) ≡ true → is_wanted t w.marks (holds_of w m.topic) m ≡ true

pub held-any : (snaps : List SnapRow) → AllByRecursion (λ (r : SnapRow). (topic number : ℕ) → nat_eq r.topic topic ≡ true → is_held_by number (hold_of r) ≡ true → list_any (is_held_by number) (map hold_of (filter (λ (x : SnapRow). nat_eq x.topic topic) snaps)) ≡ true) snaps
held-any [] = tt
held-any (x ∷ xs) = (
  λ topic number e h. rw e (or_left (is_held_by number (hold_of x)) (list_any (is_held_by number) (map hold_of (filter (λ (y : SnapRow). nat_eq y.topic topic) xs))) h),
  each-then (λ (r : SnapRow). (topic number : ℕ) → nat_eq r.topic topic ≡ true → is_held_by number (hold_of r) ≡ true → list_any (is_held_by number) (map hold_of (filter (λ (y : SnapRow). nat_eq y.topic topic) xs)) ≡ true)
      (λ (r : SnapRow). (topic number : ℕ) → nat_eq r.topic topic ≡ true → is_held_by number (hold_of r) ≡ true → list_any (is_held_by number) (map hold_of (filter (λ (y : SnapRow). nat_eq y.topic topic) (x ∷ xs))) ≡ true) xs
      (λ r ih topic number e h. cond_both (nat_eq x.topic topic) (x ∷ filter (λ (y : SnapRow). nat_eq y.topic topic) xs) (filter (λ (y : SnapRow). nat_eq y.topic topic) xs) (λ ys. list_any (is_held_by number) (map hold_of ys) ≡ true)
      (λ _. or_right (is_held_by number (hold_of x)) (list_any (is_held_by number) (map hold_of (filter (λ (y : SnapRow). nat_eq y.topic topic) xs))) (ih topic number e h)) (λ _. ih topic number e h))
      (held-any xs),
)

pub held-wanted : (t : ℕ) (w : World) → AllByRecursion (HeldIsWanted t w) w.snaps
held-wanted t w = each-then (λ (r : SnapRow). (topic number : ℕ) → nat_eq r.topic topic ≡ true → is_held_by number (hold_of r) ≡ true → list_any (is_held_by number) (map hold_of (filter (λ (x : SnapRow). nat_eq x.topic topic) w.snaps)) ≡ true) (HeldIsWanted t w) w.snaps
    (λ r k m same held. or_right (list_any (λ (x : MarkRow). nat_eq x.message m.number && not (is_gone x.mark)) w.marks) (is_within t m.publish (window_of w m.topic) || list_any (is_held_by m.number) (map hold_of (filter (λ (x : SnapRow). nat_eq x.topic m.topic) w.snaps)))
    (or_right (is_within t m.publish (window_of w m.topic)) (list_any (is_held_by m.number) (map hold_of (filter (λ (x : SnapRow). nat_eq x.topic m.topic) w.snaps))) (k m.topic m.number (eq-eqb r.topic m.topic (sym same)) held)))
    (held-any w.snaps)

-- a listed number is held
pub listed-held : (r : SnapRow) → AllByRecursion (λ n. is_held_by n (hold_of r) ≡ true) r.listed
listed-held r = each-then (λ n. nat_eq n n ≡ true → list_any (nat_eq n) r.listed ≡ true) (λ n. is_held_by n (hold_of r) ≡ true) r.listed (λ n k. or_right (nat_lt r.bound n) (list_any (nat_eq n) r.listed) (k (eq-eqb n n refl))) (any-own nat_eq r.listed)

let_go-there : (t : ℕ) (w : World) (n : ℕ) → is_some (message_numbered w.messages n) ≡ true → is_some (message_numbered (map (let_go t w) w.messages) n) ≡ true
let_go-there t w n e = ap is_some (found-map (λ (m : MessageRow). nat_eq m.number n) (let_go t w) w.messages (λ m. refl)) ∙ some-mapped (let_go t w) (message_numbered w.messages n) ∙ e

let_go-snaps : (t count : ℕ) (w : World) → SnapsStand t count w → SnapsStand t count (let_all_go t w)
let_go-snaps t count w h = record {
  ascend = h.ascend;
  below = h.below;
  names = h.names;
  labels = h.labels;
  lists = h.lists;
  bounds = h.bounds;
  topics = h.topics;
  listed = each-then (λ (r : SnapRow). HeldIsWanted t w r × AllByRecursion (IsListedIn w r) r.listed) (λ (r : SnapRow). AllByRecursion (IsListedIn (let_all_go t w) r) r.listed) w.snaps
      (λ r p. each-then (λ n. (is_held_by n (hold_of r) ≡ true) × IsListedIn w r n) (IsListedIn (let_all_go t w) r) r.listed (λ n q. listed r n p.0 q.0 q.1) (each-both (λ n. is_held_by n (hold_of r) ≡ true) (IsListedIn w r) r.listed (listed-held r) p.1))
      (each-both (HeldIsWanted t w) (λ (r : SnapRow). AllByRecursion (IsListedIn w r) r.listed) w.snaps (held-wanted t w) h.listed);
  held = each-then (λ (r : SnapRow). HeldIsWanted t w r × AllByRecursion (KeepsWhatItHolds r) w.messages) (λ (r : SnapRow). AllByRecursion (KeepsWhatItHolds r) (map (let_go t w) w.messages)) w.snaps
      (λ r p. each-map (KeepsWhatItHolds r) (KeepsWhatItHolds r) (let_go t w) w.messages (λ m k topic held. and_from m.kept (is_wanted t w.marks (holds_of w m.topic) m) (k topic held) (p.0 m topic held)) p.1)
      (each-both (HeldIsWanted t w) (λ (r : SnapRow). AllByRecursion (KeepsWhatItHolds r) w.messages) w.snaps (held-wanted t w) h.held);
  live = h.live;
  near = h.near;
  from = h.from;
  few = h.few;
}
  where
    listed : (r : SnapRow) (n : ℕ) → HeldIsWanted t w r → is_held_by n (hold_of r) ≡ true → IsListedIn w r n → IsListedIn (let_all_go t w) r n
    listed r n wanted held p = record {
      there = let_go-there t w n p.there;
      topic = ap (λ (m : MessageRow). m.topic) (message_at-let_go t w w.messages n) ∙ p.topic;
      kept = ap (λ (m : MessageRow). m.kept) (message_at-let_go t w w.messages n) ∙ and_from (message_at w.messages n).kept (is_wanted t w.marks (holds_of w (message_at w.messages n).topic) (message_at w.messages n)) p.kept
          (wanted (message_at w.messages n) p.topic (ap (λ k. is_held_by k (hold_of r)) (message_at-number w.messages n) ∙ held));
    }

-- slots read nothing that is let go
pub slot_of-let_go : (t : ℕ) (w : World) (r : MarkRow) → slot_of (map (let_go t w) w.messages) r ≡ slot_of w.messages r
slot_of-let_go t w r = ap (λ (m : MessageRow). record { item = item_at r.message m; mark = r.mark }) (message_at-let_go t w w.messages r.message)

pub slots-let_go : (t : ℕ) (w : World) (n : ℕ) → slots_of (let_all_go t w) n ≡ slots_of w n
slots-let_go t w n = map-same (slot_of (map (let_go t w) w.messages)) (slot_of w.messages) (rows_of w.marks n) (each-always (λ (r : MarkRow). slot_of (map (let_go t w) w.messages) r ≡ slot_of w.messages r) (rows_of w.marks n) (slot_of-let_go t w))

pub let_go-finished : (t count : ℕ) (w : World) → IsUnderway t count w → OnEachSlot w IsAheadOfOne → AllHeld t w → IsFinished t count (let_all_go t w)
let_go-finished t count w h ahead held = record {
  underway = record {
    moment = h.moment;
    topics = h.topics;
    subs = h.subs;
    snaps = let_go-snaps t count w h.snaps;
    messages = record {
      ascend = ordered-map (λ (a b : MessageRow). a.number < b.number) (λ (a b : MessageRow). a.number < b.number) (let_go t w) w.messages (λ a b e. e) h.messages.ascend;
      below = each-map (λ (r : MessageRow). r.number < w.next_message) (λ (r : MessageRow). r.number < w.next_message) (let_go t w) w.messages (λ r e. e) h.messages.below;
      publishes = ordered-map (λ (a b : MessageRow). a.publish ≤ b.publish) (λ (a b : MessageRow). a.publish ≤ b.publish) (let_go t w) w.messages (λ a b e. e) h.messages.publishes;
      past = each-map (λ (r : MessageRow). r.publish ≤ t) (λ (r : MessageRow). r.publish ≤ t) (let_go t w) w.messages (λ r e. e) h.messages.past;
      topics = each-map (λ (r : MessageRow). r.topic < w.next_topic) (λ (r : MessageRow). r.topic < w.next_topic) (let_go t w) w.messages (λ r e. e) h.messages.topics;
      from = h.messages.from;
    };
    marks = record {
      ascend = h.marks.ascend;
      named = each-then (IsNamed w) (IsNamed (let_all_go t w)) w.marks (λ r p. (p.0, let_go-there t w r.message p.1)) h.marks.named;
      fit = h.marks.fit;
      wanted = let_go-wanted t w h.marks.wanted;
      in_order = each-then (λ (r : MarkRow). AllByRecursion (λ (e : MarkRow). InOrder w e r) w.marks) (λ (r : MarkRow). AllByRecursion (λ (e : MarkRow). InOrder (let_all_go t w) e r) w.marks) w.marks
          (λ r p. each-then (λ (e : MarkRow). InOrder w e r) (λ (e : MarkRow). InOrder (let_all_go t w) e r) w.marks
          (λ e q same early. q same ((λ i. is_earlier (ordering_of (sub_numbered w r.sub)) (sym (slot_of-let_go t w e) i) (sym (slot_of-let_go t w r) i)) ∙ early)) p) h.marks.in_order;
      gone = h.marks.gone;
      few = h.marks.few;
    };
  };
  asked = let_go-asked t w;
  ahead_of_one = each-then (λ (sub : SubRow). AllByRecursion (IsAheadOfOne sub (slots_of w sub.number)) (slots_of w sub.number)) (λ (sub : SubRow). AllByRecursion (IsAheadOfOne sub (slots_of (let_all_go t w) sub.number)) (slots_of (let_all_go t w) sub.number)) w.subs
      (λ sub p. subst (λ slots. AllByRecursion (IsAheadOfOne sub slots) slots) (sym (slots-let_go t w sub.number)) p) ahead;
  held = each-then (λ (r : MarkRow). IsHeldAt t w r) (λ (r : MarkRow). IsHeldAt t (let_all_go t w) r) w.marks
      (λ r k sub own lives. ap (λ s. holds t sub.config (holds_of w sub.topic) s) (slot_of-let_go t w r) ∙ k sub own lives) held;
}
