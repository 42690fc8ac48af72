-- The phases of a call, on a world and on its live part.
use Rattle.std.proofs.Common.{ℕ, ◌≡◌, Bool, true, false, ◌&&◌, ◌||◌, not, nat_eq, is_some, List, [], Option, Some, None, map, filter, refl, sym, ◌∙◌, ap, subst}
use Rattle.std.specs.List.{AllByRecursion, list_any}
use Rattle.std.proofs.lemmas.Bool.{not-false, not_from_true, not_from_false, false_from_ne_true, both_ways, and_left, and_right, and_from, or_left, eq-eqb, cond_both}
use Rattle.ps_config.specs.declared.config.SubConfig.{SubConfig}
use Rattle.ps_model.specs.declared.mark.Mark.{Mark}
use Rattle.ps_model.specs.declared.mark.Slot.{Slot}
use Rattle.ps_model.specs.declared.world.World.{World}
use Rattle.ps_model.specs.declared.world.SubRow.{SubRow}
use Rattle.ps_model.specs.declared.world.MarkRow.{MarkRow}
use Rattle.ps_model.specs.declared.world.MessageRow.{MessageRow}
use Rattle.ps_model.specs.Slots.{is_gone, is_unacked, any_earlier}
use Rattle.ps_model.specs.Retention.{expired_mark, caught_up_as, caught_up_mark, released_mark}
use Rattle.ps_model.specs.Failing.{mark_after_failing, is_due}
use Rattle.ps_model.specs.Worlds.{message_at, slot_of, slots_of, sub_numbered, new_mark, remark_row, remark_all, holds_of}
use Rattle.ps_model.specs.Forwarding.{dead_topic, forward}
use Rattle.ps_model.specs.Settling.{end_leases, expire, catch_up, release, is_wanted, let_go, expunge_world}
use Rattle.ps_model.specs.Live.{live}
use Rattle.ps_base.proofs.Lists.{each-always, each-then, each-both, each-map, each-filter}
use Rattle.ps_sound.proofs.worlds.Marked.{marked}
use Rattle.ps_sound.proofs.phases.LettingGo.{let_all_go, any-own, message_at-let_go, message_at-number}
use Rattle.ps_sound.proofs.phases.Resting.{lapsed-same}
use Rattle.ps_sound.proofs.phases.Ending.{failing-is}
use Rattle.ps_sound.proofs.phases.Expunging.{expired-is, released-is}
use Rattle.ps_sound.proofs.living.Filters.{filter-again, filter-map-two, any-filter}
use Rattle.ps_sound.proofs.living.Slotwise.{row_lives, live_slots, kept_messages, KeptAt, AllKept, message_at-live, slot_of-live, slots-live, due-fails-gone, failing-live, failed-gone, fallen-gone, caught-live, caught-gone}

-- two worlds with the same live part, in which what isn't gone is kept
pub record Like (a b : World) : Type 0 where
  pub same : live a ≡ live b
  pub first : AllKept a
  pub second : AllKept b

pub live-again : (w : World) → live (live w) ≡ live w
live-again w = λ i. record w { messages = filter-again (λ (r : MessageRow). r.kept) w.messages i; marks = filter-again row_lives w.marks i }

pub live-kept : (w : World) → AllKept w → AllKept (live w)
live-kept w h = each-filter (KeptAt w.messages) (KeptAt (kept_messages w.messages)) row_lives w.marks
    (λ r lives k alive. ap (λ (m : MessageRow). m.kept) (message_at-live w.messages r.message (k alive)) ∙ k alive) h

pub like-live : (w : World) → AllKept w → Like (live w) w
like-live w h = record { same = live-again w; first = live-kept w h; second = h }

-- a phase to which what is gone doesn't matter
pub record IsPhase (f : World → World) : Type 0 where
  pub reads : (w : World) → AllKept w → live (f (live w)) ≡ live (f w)
  pub keeps : (w : World) → AllKept w → AllKept (f w)

pub phase-like : (f : World → World) (a b : World) → IsPhase f → Like a b → Like (f a) (f b)
phase-like f a b p h = record { same = sym (p.reads a h.first) ∙ ap (λ v. live (f v)) h.same ∙ p.reads b h.second; first = p.keeps a h.first; second = p.keeps b h.second }

pub phase-live : (f : World → World) (w : World) → IsPhase f → AllKept w → Like (f (live w)) (f w)
phase-live f w p h = phase-like f (live w) w p (like-live w h)

-- ---- new marks in place

-- what is gone stays gone
abbrev pub StaysGone : (MarkRow → Mark) → MarkRow → Type 0
StaysGone new r = is_gone r.mark ≡ true → is_gone (new r) ≡ true

pub marked-live : (new new' : MarkRow → Mark) (w : World) → AllByRecursion (StaysGone new) w.marks → AllByRecursion (λ (r : MarkRow). row_lives r ≡ true → new' r ≡ new r) w.marks → live (marked new' (live w)) ≡ live (marked new w)
marked-live new new' w gone same = λ i. record w { messages = filter-again (λ (r : MessageRow). r.kept) w.messages i; marks = marks i }
  where
    marks : filter row_lives (map (λ (r : MarkRow). remark_row r (new' r)) (filter row_lives w.marks)) ≡ filter row_lives (map (λ (r : MarkRow). remark_row r (new r)) w.marks)
    marks = filter-map-two row_lives row_lives (λ (r : MarkRow). remark_row r (new r)) (λ (r : MarkRow). remark_row r (new' r)) w.marks
        (each-then (StaysGone new) (λ (r : MarkRow). row_lives r ≡ false → not (is_gone (new r)) ≡ false) w.marks (λ r k e. not_from_true (is_gone (new r)) (k (not-false (is_gone r.mark) e))) gone)
        (each-then (λ (r : MarkRow). row_lives r ≡ true → new' r ≡ new r) (λ (r : MarkRow). row_lives r ≡ true → remark_row r (new' r) ≡ remark_row r (new r)) w.marks (λ r k e. ap (remark_row r) (k e)) same)

pub marked-kept : (new : MarkRow → Mark) (w : World) → AllByRecursion (StaysGone new) w.marks → AllKept w → AllKept (marked new w)
marked-kept new w gone h = each-map (λ (r : MarkRow). StaysGone new r × KeptAt w.messages r) (KeptAt w.messages) (λ (r : MarkRow). remark_row r (new r)) w.marks
    (λ r p lives. p.1 (false_from_ne_true (is_gone r.mark) (λ e. both_ways (is_gone (new r)) lives (p.0 e))))
    (each-both (StaysGone new) (KeptAt w.messages) w.marks gone h)

-- ---- rules that go over every subscription

-- the rule leaves what is gone
abbrev pub LeavesGone : (SubRow → List Slot → Slot → Mark) → Type 0
LeavesGone rule = (sub : SubRow) (slots : List Slot) (s : Slot) → is_gone s.mark ≡ true → rule sub slots s ≡ s.mark

-- the rule doesn't read what is gone
abbrev pub ReadsLive : (SubRow → List Slot → Slot → Mark) → Type 0
ReadsLive rule = (sub : SubRow) (slots : List Slot) (s : Slot) → rule sub (live_slots slots) s ≡ rule sub slots s

abbrev pub newly : (SubRow → List Slot → Slot → Mark) → World → MarkRow → Mark
newly rule w r = new_mark rule w r (sub_numbered w r.sub)

pub pass-leaves : (rule : SubRow → List Slot → Slot → Mark) (w : World) → LeavesGone rule → (r : MarkRow) → is_gone r.mark ≡ true → newly rule w r ≡ r.mark
pass-leaves rule w k r e = at (sub_numbered w r.sub)
  where
    at : (o : Option SubRow) → new_mark rule w r o ≡ r.mark
    at None = refl
    at (Some sub) = k sub (slots_of w sub.number) (slot_of w.messages r) e

pass-gone : (rule : SubRow → List Slot → Slot → Mark) (w : World) → LeavesGone rule → AllByRecursion (StaysGone (newly rule w)) w.marks
pass-gone rule w k = each-always (StaysGone (newly rule w)) w.marks (λ r e. ap is_gone (pass-leaves rule w k r e) ∙ e)

pub pass-live : (rule : SubRow → List Slot → Slot → Mark) (w : World) → LeavesGone rule → ReadsLive rule → AllKept w → live (remark_all rule (live w)) ≡ live (remark_all rule w)
pass-live rule w leaves reads h = marked-live (newly rule w) (newly rule (live w)) w (pass-gone rule w leaves)
    (each-then (KeptAt w.messages) (λ (r : MarkRow). row_lives r ≡ true → newly rule (live w) r ≡ newly rule w r) w.marks (λ r k lives. at r k lives (sub_numbered w r.sub)) h)
  where
    at : (r : MarkRow) → KeptAt w.messages r → row_lives r ≡ true → (o : Option SubRow) → new_mark rule (live w) r o ≡ new_mark rule w r o
    at r k lives None = refl
    at r k lives (Some sub) = (λ i. rule sub (slots-live w sub.number h i) (slot_of-live w.messages r k lives i)) ∙ reads sub (slots_of w sub.number) (slot_of w.messages r)

pub pass-kept : (rule : SubRow → List Slot → Slot → Mark) (w : World) → LeavesGone rule → AllKept w → AllKept (remark_all rule w)
pass-kept rule w leaves h = marked-kept (newly rule w) w (pass-gone rule w leaves) h

-- ---- leases that end

pub failing-leaves : (fails : Slot → Bool) (t : ℕ) (forward : Bool) (config : SubConfig) (slots : List Slot) (s : Slot) → is_gone s.mark ≡ true → mark_after_failing fails t forward config slots s ≡ s.mark
failing-leaves fails t forward config slots s e = failing-is (λ mark. mark ≡ s.mark) fails t forward config slots s (failed-gone t forward config s.mark e) (fallen-gone s.mark e) refl

abbrev pub ending : ℕ → World → SubRow → List Slot → Slot → Mark
ending t w sub = mark_after_failing (is_due t) t (is_some (dead_topic w sub)) sub.config

pub ending-leaves : (t : ℕ) (w : World) → LeavesGone (ending t w)
ending-leaves t w sub slots s e = failing-leaves (is_due t) t (is_some (dead_topic w sub)) sub.config slots s e

pub end_leases-phase : (t : ℕ) → IsPhase (end_leases t)
end_leases-phase t = record {
  reads = λ w h. pass-live (ending t w) w (ending-leaves t w) (λ sub slots s. failing-live (is_due t) t (is_some (dead_topic w sub)) sub.config slots s (due-fails-gone t)) h;
  keeps = λ w h. pass-kept (ending t w) w (ending-leaves t w) h;
}

-- ---- the three parts of expunging

abbrev pub expiring : ℕ → World → SubRow → List Slot → Slot → Mark
expiring t w sub slots = expired_mark t sub.config (holds_of w sub.topic)

abbrev pub catching : SubRow → List Slot → Slot → Mark
catching sub = caught_up_mark sub.config.ordering

abbrev pub releasing : ℕ → World → SubRow → List Slot → Slot → Mark
releasing t w sub slots = released_mark t sub.config (holds_of w sub.topic)

pub expiring-leaves : (t : ℕ) (w : World) → LeavesGone (expiring t w)
expiring-leaves t w sub slots s e = expired-is (λ mark. mark ≡ s.mark) t sub.config (holds_of w sub.topic) s (λ _. refl) (lapsed-same s.mark e)

pub catching-leaves : LeavesGone catching
catching-leaves sub slots s e = cond_both (any_earlier sub.config.ordering (λ x. is_unacked x.mark) slots s) s.mark (caught_up_as s.mark) (λ mark. mark ≡ s.mark) (λ _. refl) (λ _. caught-gone s.mark e)

pub releasing-leaves : (t : ℕ) (w : World) → LeavesGone (releasing t w)
releasing-leaves t w sub slots s e = released-is (λ mark. mark ≡ s.mark) t sub.config (holds_of w sub.topic) s (λ _. refl) (λ _. lapsed-same s.mark e)

expire-phase : (t : ℕ) → IsPhase (expire t)
expire-phase t = record { reads = λ w h. pass-live (expiring t w) w (expiring-leaves t w) (λ sub slots s. refl) h; keeps = λ w h. pass-kept (expiring t w) w (expiring-leaves t w) h }

catch_up-phase : IsPhase catch_up
catch_up-phase = record { reads = λ w h. pass-live catching w catching-leaves (λ sub slots s. caught-live sub.config.ordering slots s) h; keeps = λ w h. pass-kept catching w catching-leaves h }

release-phase : (t : ℕ) → IsPhase (release t)
release-phase t = record { reads = λ w h. pass-live (releasing t w) w (releasing-leaves t w) (λ sub slots s. refl) h; keeps = λ w h. pass-kept (releasing t w) w (releasing-leaves t w) h }

-- ---- messages that are let go

-- whether something wants a message, by the marks that aren't gone
pub wanted-live : (t : ℕ) (w : World) (m : MessageRow) → is_wanted t (filter row_lives w.marks) (holds_of w m.topic) m ≡ is_wanted t w.marks (holds_of w m.topic) m
wanted-live t w m = ap (λ b. b || is_wanted t [] (holds_of w m.topic) m)
    (any-filter (λ (x : MarkRow). nat_eq x.message m.number && not (is_gone x.mark)) row_lives w.marks (λ x e. and_right (nat_eq x.message m.number) (not (is_gone x.mark)) e))

let_go-phase : (t : ℕ) → IsPhase (let_all_go t)
let_go-phase t = record { reads = reads; keeps = keeps }
  where
    reads : (w : World) → AllKept w → live (let_all_go t (live w)) ≡ live (let_all_go t w)
    reads w h = λ i. record w { messages = messages i; marks = filter-again row_lives w.marks i }
      where
        messages : kept_messages (map (let_go t (live w)) (kept_messages w.messages)) ≡ kept_messages (map (let_go t w) w.messages)
        messages = filter-map-two (λ (r : MessageRow). r.kept) (λ (r : MessageRow). r.kept) (let_go t w) (let_go t (live w)) w.messages
            (each-always (λ (m : MessageRow). m.kept ≡ false → (let_go t w m).kept ≡ false) w.messages (λ m e. and_left m.kept (is_wanted t w.marks (holds_of w m.topic) m) e))
            (each-always (λ (m : MessageRow). m.kept ≡ true → let_go t (live w) m ≡ let_go t w m) w.messages (λ m _. ap (λ b. record m { kept = m.kept && b }) (wanted-live t w m)))

    keeps : (w : World) → AllKept w → AllKept (let_all_go t w)
    keeps w h = each-then (λ r. KeptAt w.messages r × Own r) (KeptAt (map (let_go t w) w.messages)) w.marks each (each-both (KeptAt w.messages) Own w.marks h (any-own lives w.marks))
      where
        lives : MarkRow → MarkRow → Bool
        lives r x = nat_eq x.message r.message && not (is_gone x.mark)

        Own : MarkRow → Type 0
        Own r = lives r r ≡ true → list_any (lives r) w.marks ≡ true

        each : (r : MarkRow) → KeptAt w.messages r × Own r → KeptAt (map (let_go t w) w.messages) r
        each r p alive =
            ap (λ (m : MessageRow). m.kept) (message_at-let_go t w w.messages r.message)
            ∙ and_from (message_at w.messages r.message).kept _ (p.0 alive) (or_left (list_any (λ (x : MarkRow). nat_eq x.message (message_at w.messages r.message).number && not (is_gone x.mark)) w.marks) _
            (subst (λ n. list_any (λ (x : MarkRow). nat_eq x.message n && not (is_gone x.mark)) w.marks ≡ true) (sym (message_at-number w.messages r.message))
            (p.1 (and_from (nat_eq r.message r.message) (not (is_gone r.mark)) (eq-eqb r.message r.message refl) (not_from_false (is_gone r.mark) alive)))))

pub expunge-like : (t : ℕ) (a b : World) → Like a b → Like (expunge_world t a) (expunge_world t b)
expunge-like t a b h =
    phase-like (let_all_go t) (release t (catch_up (expire t a))) (release t (catch_up (expire t b))) (let_go-phase t)
    (phase-like (release t) (catch_up (expire t a)) (catch_up (expire t b)) (release-phase t)
    (phase-like catch_up (expire t a) (expire t b) catch_up-phase
    (phase-like (expire t) a b (expire-phase t) h)))
