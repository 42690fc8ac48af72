-- A sound world is settled at its own moment.
use Rattle.std.proofs.Common.{ℕ, ◌≡◌, ◌<◌, Bool, true, false, cond, ◌&&◌, ◌||◌, not, nat_le, is_some, List, [], ◌∷◌, append-nil, add-zero, Option, Some, None, filter, filter_map, flat_map, refl, ◌∙◌, ap}
use Rattle.std.specs.List.{AllByRecursion, cons_option}
use Rattle.std.proofs.lemmas.Bool.{lt-leb, and_right, cond_both, or_right, not_from_false, not_from_true, both_ways}
use Rattle.ps_model.specs.declared.mark.Mark.{Mark}
use Rattle.ps_model.specs.declared.mark.Mark.TheVariants.{Backlog, Leased, Ahead, Done, Gone}
use Rattle.ps_model.specs.declared.mark.Slot.{Slot}
use Rattle.ps_config.specs.declared.config.SubConfig.{SubConfig}
use Rattle.ps_model.specs.declared.hold.Holds.{Holds}
use Rattle.ps_model.specs.declared.world.World.{World}
use Rattle.ps_model.specs.declared.world.SubRow.{SubRow}
use Rattle.ps_model.specs.declared.world.SnapRow.{SnapRow}
use Rattle.ps_model.specs.declared.world.MarkRow.{MarkRow}
use Rattle.ps_model.specs.declared.world.MessageRow.{MessageRow}
use Rattle.ps_model.specs.Slots.{is_gone, is_done, is_ahead, is_unacked, is_earlier, any_earlier}
use Rattle.ps_model.specs.Failing.{mark_after_failing, dead_letter, dead_letters, is_due, is_over}
use Rattle.ps_model.specs.Retention.{holds, lapsed, expired_mark, caught_up_as, caught_up_mark, released_mark}
use Rattle.ps_model.specs.Worlds.{remark_all, remark_row, new_mark, sub_numbered, slot_of, slots_of, holds_of}
use Rattle.ps_model.specs.Forwarding.{letters_of, dead_topic, entered, enter_all, forward}
use Rattle.ps_model.specs.Settling.{drop_snapshots, end_leases, ended_letters, expire, catch_up, release, is_wanted, let_go, expunge_world, settle}
use Rattle.ps_model.specs.Sound.{FitsAt, IsHeldWhere, IsHeldOrGone, IsAheadOfOne, IsSound}
use Rattle.ps_base.proofs.Lists.{each-always, each-then, flat_map-none, map-rests}
use Rattle.ps_sound.proofs.worlds.Earlier.{slots-of-rows, from-none-earlier}
use Rattle.ps_sound.proofs.phases.Ending.{failing-same}
use Rattle.ps_sound.proofs.worlds.Parts.{rows-of-each}
use Rattle.ps_sound.proofs.phases.LettingGo.{let_all_go}

-- a pass whose rule leaves each mark leaves the world
pub pass-rests : (rule : SubRow → List Slot → Slot → Mark) (w : World) → AllByRecursion (λ (r : MarkRow). new_mark rule w r (sub_numbered w r.sub) ≡ r.mark) w.marks → remark_all rule w ≡ w
pass-rests rule w h = λ i. record w { marks = same i }
  where
    same : (remark_all rule w).marks ≡ w.marks
    same = map-rests (λ (r : MarkRow). remark_row r (new_mark rule w r (sub_numbered w r.sub))) w.marks
        (each-then (λ (r : MarkRow). new_mark rule w r (sub_numbered w r.sub) ≡ r.mark) (λ (r : MarkRow). remark_row r (new_mark rule w r (sub_numbered w r.sub)) ≡ r) w.marks (λ r e. ap (remark_row r) e) h)

pub new-rests : (rule : SubRow → List Slot → Slot → Mark) (w : World) (r : MarkRow) → ((sub : SubRow) → rule sub (slots_of w sub.number) (slot_of w.messages r) ≡ r.mark) → (o : Option SubRow) → new_mark rule w r o ≡ r.mark
new-rests rule w r k None = refl
new-rests rule w r k (Some sub) = k sub

-- nothing to forward leaves the world
pub forward-none : (t : ℕ) (w : World) → forward t [] w ≡ w
forward-none t w = λ i. record w { next_message = add-zero w.next_message i; messages = append-nil w.messages i; marks = same i }
  where
    same : enter_all (flat_map (λ (sub : SubRow). entered sub []) w.subs) w.marks ≡ w.marks
    same = ap (λ rows. enter_all rows w.marks) (flat_map-none (λ (sub : SubRow). entered sub []) w.subs (each-always (λ (sub : SubRow). entered sub [] ≡ []) w.subs (λ sub. refl)))

pub filter-all : {A : Type 0} (test : A → Bool) (xs : List A) → AllByRecursion (λ x. test x ≡ true) xs → filter test xs ≡ xs
filter-all test [] h = refl
filter-all test (x ∷ xs) h = rw h.0 (ap (λ ys. x ∷ ys) (filter-all test xs h.1))

filter_map-none : {A B : Type 0} (f : A → Option B) (xs : List A) → AllByRecursion (λ x. f x ≡ None) xs → filter_map f xs ≡ []
filter_map-none f [] h = refl
filter_map-none f (x ∷ xs) h = ap (λ o. cons_option o (filter_map f xs)) h.0 ∙ filter_map-none f xs h.1

-- snapshots that live
pub dropped-rests : (t : ℕ) (w : World) → AllByRecursion (λ (r : SnapRow). t < r.expiry) w.snaps → drop_snapshots t w ≡ w
dropped-rests t w h = λ i. record w { snaps = filter-all (λ (r : SnapRow). not (nat_le r.expiry t)) w.snaps (each-then (λ (r : SnapRow). t < r.expiry) (λ (r : SnapRow). not (nat_le r.expiry t) ≡ true) w.snaps (λ r e. not_from_false (nat_le r.expiry t) (lt-leb r.expiry t e)) h) i }

fits-not-over : (t : ℕ) (o : Option SubRow) (mark : Mark) → FitsAt t o mark → is_over t mark ≡ false
fits-not-over t None mark h = absurd h
fits-not-over t (Some sub) (Leased f l deadline) h = lt-leb deadline t h.lives
fits-not-over t (Some sub) (Backlog f u l) h = refl
fits-not-over t (Some sub) (Ahead f) h = refl
fits-not-over t (Some sub) (Done c) h = refl
fits-not-over t (Some sub) (Gone c) h = refl

-- the marks of which no lease is over
abbrev NoneOver : ℕ → World → Type 0
NoneOver t w = AllByRecursion (λ (r : MarkRow). is_over t r.mark ≡ false) w.marks

slots-not-due : (t : ℕ) (w : World) (n : ℕ) → NoneOver t w → AllByRecursion (λ (s : Slot). is_due t s ≡ false) (slots_of w n)
slots-not-due t w n h = slots-of-rows (λ (s : Slot). is_due t s ≡ false) w n (each-then (λ (r : MarkRow). is_over t r.mark ≡ false) (λ (r : MarkRow). r.sub ≡ n → is_due t (slot_of w.messages r) ≡ false) w.marks (λ r e _. e) h)

-- where all leases live, none ends
pub leases-rest : (t : ℕ) (w : World) → NoneOver t w → end_leases t w ≡ w
leases-rest t w h = pass-rests rule w (each-then (λ (r : MarkRow). is_over t r.mark ≡ false) (λ (r : MarkRow). new_mark rule w r (sub_numbered w r.sub) ≡ r.mark) w.marks
    (λ r e. new-rests rule w r (λ sub. failing-same (is_due t) t (is_some (dead_topic w sub)) sub.config (slots_of w sub.number) (slot_of w.messages r) e
    (from-none-earlier sub.config.ordering (is_due t) (slot_of w.messages r) (slots_of w sub.number)
    (each-then (λ (s : Slot). is_due t s ≡ false) (λ (s : Slot). is_earlier sub.config.ordering s (slot_of w.messages r) ≡ true → is_due t s ≡ false) (slots_of w sub.number) (λ s e _. e) (slots-not-due t w sub.number h)))) (sub_numbered w r.sub)) h)
  where
    rule : SubRow → List Slot → Slot → Mark
    rule sub = mark_after_failing (is_due t) t (is_some (dead_topic w sub)) sub.config

-- and none dies
pub letters-rest : (t : ℕ) (w : World) → NoneOver t w → ended_letters t w ≡ []
letters-rest t w h = flat_map-none (λ (sub : SubRow). letters_of w sub (dead_letters (is_due t) (is_some (dead_topic w sub)) sub.config (slots_of w sub.number))) w.subs
    (each-always (λ (sub : SubRow). letters_of w sub (dead_letters (is_due t) (is_some (dead_topic w sub)) sub.config (slots_of w sub.number)) ≡ []) w.subs
    (λ sub. ap (letters_of w sub) (filter_map-none (λ (s : Slot). dead_letter (is_due t) (is_some (dead_topic w sub)) sub.config s.mark s) (slots_of w sub.number)
    (each-then (λ (s : Slot). is_due t s ≡ false) (λ (s : Slot). dead_letter (is_due t) (is_some (dead_topic w sub)) sub.config s.mark s ≡ None) (slots_of w sub.number) (λ s e. none sub s s.mark e) (slots-not-due t w sub.number h)))))
  where
    none : (sub : SubRow) (s : Slot) (mark : Mark) → is_due t s ≡ false → dead_letter (is_due t) (is_some (dead_topic w sub)) sub.config mark s ≡ None
    none sub s (Leased f l d) e = rw e refl
    none sub s (Backlog f u l) e = refl
    none sub s (Ahead f) e = refl
    none sub s (Done c) e = refl
    none sub s (Gone c) e = refl

pub lapsed-same : (mark : Mark) → is_gone mark ≡ true → lapsed mark ≡ mark
lapsed-same (Backlog f u l) e = absurd (cc (e))
lapsed-same (Leased f l d) e = absurd (cc (e))
lapsed-same (Ahead f) e = absurd (cc (e))
lapsed-same (Done c) e = absurd (cc (e))
lapsed-same (Gone c) e = refl

-- a mark that is gone, or held
abbrev GoneOrHeld : ℕ → SubConfig → Holds → Slot → Type 0
GoneOrHeld t config held s = is_gone s.mark ≡ false → holds t config held s ≡ true

pub expired-rests : (t : ℕ) (config : SubConfig) (held : Holds) (s : Slot) → GoneOrHeld t config held s → expired_mark t config held s ≡ s.mark
expired-rests t config held s h = cases (is_gone s.mark) refl
  where
    cases : (b : Bool) → is_gone s.mark ≡ b → expired_mark t config held s ≡ s.mark
    cases true e = cond_both (is_done s.mark || holds t config held s) s.mark (lapsed s.mark) (λ mark. mark ≡ s.mark) (λ _. refl) (λ _. lapsed-same s.mark e)
    cases false e = ap (λ b. cond b s.mark (lapsed s.mark)) (or_right (is_done s.mark) (holds t config held s) (h e))

pub released-rests : (t : ℕ) (config : SubConfig) (held : Holds) (s : Slot) → GoneOrHeld t config held s → released_mark t config held s ≡ s.mark
released-rests t config held s h = cases (is_gone s.mark) refl
  where
    cases : (b : Bool) → is_gone s.mark ≡ b → released_mark t config held s ≡ s.mark
    cases true e = cond_both (is_done s.mark && not (holds t config held s)) (lapsed s.mark) s.mark (λ mark. mark ≡ s.mark) (λ _. lapsed-same s.mark e) (λ _. refl)
    cases false e = ap (λ b. cond b (lapsed s.mark) s.mark) (and_right (is_done s.mark) (not (holds t config held s)) (not_from_true (holds t config held s) (h e)))

pub caught-rests : (ordering : Bool) (slots : List Slot) (s : Slot) → (is_ahead s.mark ≡ true → any_earlier ordering (λ e. is_unacked e.mark) slots s ≡ true) → caught_up_mark ordering slots s ≡ s.mark
caught-rests ordering slots s h = cond_both (any_earlier ordering (λ e. is_unacked e.mark) slots s) s.mark (caught_up_as s.mark) (λ mark. mark ≡ s.mark) (λ _. refl)
    (λ none. same s.mark (λ ahead. both_ways (any_earlier ordering (λ e. is_unacked e.mark) slots s) none (h ahead)))
  where
    same : (mark : Mark) → (is_ahead mark ≡ true → ⊥) → caught_up_as mark ≡ mark
    same (Backlog f u l) k = refl
    same (Leased f l d) k = refl
    same (Ahead f) k = absurd (k refl)
    same (Done c) k = refl
    same (Gone c) k = refl

-- the messages that something wants are kept, and the others aren't already
pub let_go-rests : (t : ℕ) (w : World) → AllByRecursion (λ (m : MessageRow). m.kept ≡ true → is_wanted t w.marks (holds_of w m.topic) m ≡ true) w.messages → let_all_go t w ≡ w
let_go-rests t w h = λ i. record w {
  messages = map-rests (let_go t w) w.messages (each-then (λ (m : MessageRow). m.kept ≡ true → is_wanted t w.marks (holds_of w m.topic) m ≡ true) (λ (m : MessageRow). let_go t w m ≡ m) w.messages
      (λ m k. ap (λ b. record m { kept = b }) (at m.kept (is_wanted t w.marks (holds_of w m.topic) m) k)) h) i;
}
  where
    at : (a b : Bool) → (a ≡ true → b ≡ true) → (a && b) ≡ a
    at true b k = k refl
    at false b k = refl

-- Settling a sound world at its own moment leaves it.
pub sound-rests : (w : World) → IsSound w → settle w.now w ≡ w
sound-rests w h =
    ap (λ v. expunge_world w.now (forward w.now (ended_letters w.now v) (end_leases w.now v))) (dropped-rests w.now w h.near.snaps_live)
    ∙ ap (λ letters. expunge_world w.now (forward w.now letters (end_leases w.now w))) (letters-rest w.now w over)
    ∙ ap (λ v. expunge_world w.now (forward w.now [] v)) (leases-rest w.now w over)
    ∙ ap (expunge_world w.now) (forward-none w.now w)
    ∙ ap (let_all_go w.now) (ap (λ v. release w.now (catch_up v)) expires ∙ ap (release w.now) catches ∙ releases)
    ∙ let_go-rests w.now w h.keeping.wanted
  where
    over : NoneOver w.now w
    over = each-then (λ (r : MarkRow). FitsAt w.now (sub_numbered w r.sub) r.mark) (λ (r : MarkRow). is_over w.now r.mark ≡ false) w.marks (λ r p. fits-not-over w.now (sub_numbered w r.sub) r.mark p) h.near.marks

    expiring : SubRow → List Slot → Slot → Mark
    expiring sub slots = expired_mark w.now sub.config (holds_of w sub.topic)

    catching : SubRow → List Slot → Slot → Mark
    catching sub = caught_up_mark sub.config.ordering

    releasing : SubRow → List Slot → Slot → Mark
    releasing sub slots = released_mark w.now sub.config (holds_of w sub.topic)

    held-where : (sub : SubRow) (s : Slot) (b : Bool) → IsHeldWhere b w sub s → GoneOrHeld w.now sub.config (holds_of w sub.topic) s
    held-where sub s true p = λ lives. absurd (both_ways (is_gone s.mark) lives p)
    held-where sub s false p = p

    held : AllByRecursion (λ (r : MarkRow). (sub : SubRow) → sub_numbered w r.sub ≡ Some sub → GoneOrHeld w.now sub.config (holds_of w sub.topic) (slot_of w.messages r)) w.marks
    held = rows-of-each (λ sub slots s. GoneOrHeld w.now sub.config (holds_of w sub.topic) s) w
        (each-then (λ (sub : SubRow). AllByRecursion (IsHeldOrGone w sub) (slots_of w sub.number)) (λ (sub : SubRow). AllByRecursion (GoneOrHeld w.now sub.config (holds_of w sub.topic)) (slots_of w sub.number)) w.subs
        (λ sub p. each-then (IsHeldOrGone w sub) (GoneOrHeld w.now sub.config (holds_of w sub.topic)) (slots_of w sub.number) (λ s q. held-where sub s sub.detached q) p) h.held_or_gone)

    new-is : (rule : SubRow → List Slot → Slot → Mark) (r : MarkRow) (o : Option SubRow) → ((sub : SubRow) → o ≡ Some sub → rule sub (slots_of w sub.number) (slot_of w.messages r) ≡ r.mark) → new_mark rule w r o ≡ r.mark
    new-is rule r None k = refl
    new-is rule r (Some sub) k = k sub refl

    expires : expire w.now w ≡ w
    expires = pass-rests expiring w (each-then (λ (r : MarkRow). (sub : SubRow) → sub_numbered w r.sub ≡ Some sub → GoneOrHeld w.now sub.config (holds_of w sub.topic) (slot_of w.messages r)) (λ (r : MarkRow). new_mark expiring w r (sub_numbered w r.sub) ≡ r.mark) w.marks
        (λ r k. new-is expiring r (sub_numbered w r.sub) (λ sub own. expired-rests w.now sub.config (holds_of w sub.topic) (slot_of w.messages r) (k sub own))) held)

    catches : catch_up w ≡ w
    catches = pass-rests catching w (each-then (λ (r : MarkRow). (sub : SubRow) → sub_numbered w r.sub ≡ Some sub → IsAheadOfOne sub (slots_of w sub.number) (slot_of w.messages r)) (λ (r : MarkRow). new_mark catching w r (sub_numbered w r.sub) ≡ r.mark) w.marks
        (λ r k. new-is catching r (sub_numbered w r.sub) (λ sub own. caught-rests sub.config.ordering (slots_of w sub.number) (slot_of w.messages r) (k sub own))) (rows-of-each IsAheadOfOne w h.ahead_of_one))

    releases : release w.now w ≡ w
    releases = pass-rests releasing w (each-then (λ (r : MarkRow). (sub : SubRow) → sub_numbered w r.sub ≡ Some sub → GoneOrHeld w.now sub.config (holds_of w sub.topic) (slot_of w.messages r)) (λ (r : MarkRow). new_mark releasing w r (sub_numbered w r.sub) ≡ r.mark) w.marks
        (λ r k. new-is releasing r (sub_numbered w r.sub) (λ sub own. released-rests w.now sub.config (holds_of w sub.topic) (slot_of w.messages r) (k sub own))) held)
