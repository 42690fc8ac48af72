-- While everything is held, expunging changes no mark, but for what was ahead and catches up.
use Rattle.std.proofs.Common.{ℕ, ◌≡◌, Bool, true, false, cond, not, nat_le, is_some, List, [], None, option_and_then, filter, refl, sym, ◌∙◌, ap}
use Rattle.std.specs.List.{AllByRecursion}
use Rattle.std.proofs.lemmas.Bool.{or_right, and_right, cond_both}
use Rattle.ps_model.specs.declared.mark.Mark.{Mark}
use Rattle.ps_model.specs.declared.mark.Mark.TheVariants.{Backlog, Leased, Ahead, Done, Gone}
use Rattle.ps_model.specs.declared.mark.Slot.{Slot}
use Rattle.ps_model.specs.declared.mark.DeadLetter.{DeadLetter}
use Rattle.ps_config.specs.declared.config.SubConfig.{SubConfig}
use Rattle.ps_config.specs.declared.config.DeadLetterPolicy.{DeadLetterPolicy}
use Rattle.ps_model.specs.declared.hold.Holds.{Holds}
use Rattle.ps_model.specs.declared.world.World.{World}
use Rattle.ps_model.specs.declared.world.SubRow.{SubRow}
use Rattle.ps_model.specs.declared.world.SnapRow.{SnapRow}
use Rattle.ps_model.specs.declared.world.MarkRow.{MarkRow}
use Rattle.ps_model.specs.Slots.{is_ahead, is_done, is_unacked, any_earlier}
use Rattle.ps_model.specs.Retention.{lapsed, expired_mark, caught_up_as, caught_up_mark, released_mark}
use Rattle.ps_model.specs.Failing.{dead_letters, is_due}
use Rattle.ps_model.specs.Worlds.{topic_named, message_at, new_mark, sub_numbered, slot_of, slots_of, holds_of}
use Rattle.ps_model.specs.Forwarding.{letter_of, letters_of, dead_topic, forward}
use Rattle.ps_model.specs.Settling.{drop_snapshots, end_leases, ended_letters, expire, catch_up, release, expunge_world, settle}
use Rattle.ps_base.proofs.Lists.{each-always, each-then, flat_map-none}
use Rattle.ps_sound.proofs.phases.LettingGo.{let_all_go}
use Rattle.ps_sound.proofs.phases.Resting.{pass-rests, new-rests, forward-none}

pub expired-held : (t : ℕ) (config : SubConfig) (held : Holds) (s : Slot) → expired_mark t config held s ≡ s.mark
expired-held t config held s = ap (λ b. cond b s.mark (lapsed s.mark)) (or_right (is_done s.mark) true refl)

pub released-held : (t : ℕ) (config : SubConfig) (held : Holds) (s : Slot) → released_mark t config held s ≡ s.mark
released-held t config held s = ap (λ b. cond b (lapsed s.mark) s.mark) (and_right (is_done s.mark) false refl)

caught-up-same : (mark : Mark) → is_ahead mark ≡ false → caught_up_as mark ≡ mark
caught-up-same (Backlog failures until last) e = refl
caught-up-same (Leased failures lease deadline) e = refl
caught-up-same (Ahead failures) e = absurd (cc (e))
caught-up-same (Done cause) e = refl
caught-up-same (Gone cause) e = refl

pub caught-up-rests : (ordering : Bool) (slots : List Slot) (s : Slot) → is_ahead s.mark ≡ false → caught_up_mark ordering slots s ≡ s.mark
caught-up-rests ordering slots s e =
    cond_both (any_earlier ordering (λ e. is_unacked e.mark) slots s) s.mark (caught_up_as s.mark) (λ mark. mark ≡ s.mark) (λ _. refl) (λ _. caught-up-same s.mark e)

pub expire-rests : (t : ℕ) (w : World) → expire t w ≡ w
expire-rests t w = pass-rests rule w (each-always (λ (r : MarkRow). new_mark rule w r (sub_numbered w r.sub) ≡ r.mark) w.marks
    (λ r. new-rests rule w r (λ sub. expired-held t sub.config (holds_of w sub.topic) (slot_of w.messages r)) (sub_numbered w r.sub)))
  where
    rule : SubRow → List Slot → Slot → Mark
    rule sub slots = expired_mark t sub.config (holds_of w sub.topic)

pub release-rests : (t : ℕ) (w : World) → release t w ≡ w
release-rests t w = pass-rests rule w (each-always (λ (r : MarkRow). new_mark rule w r (sub_numbered w r.sub) ≡ r.mark) w.marks
    (λ r. new-rests rule w r (λ sub. released-held t sub.config (holds_of w sub.topic) (slot_of w.messages r)) (sub_numbered w r.sub)))
  where
    rule : SubRow → List Slot → Slot → Mark
    rule sub slots = released_mark t sub.config (holds_of w sub.topic)

-- where nothing is ahead, nothing catches up
pub catch_up-rests : (w : World) → AllByRecursion (λ (r : MarkRow). is_ahead r.mark ≡ false) w.marks → catch_up w ≡ w
catch_up-rests w h = pass-rests rule w (each-then (λ (r : MarkRow). is_ahead r.mark ≡ false) (λ (r : MarkRow). new_mark rule w r (sub_numbered w r.sub) ≡ r.mark) w.marks
    (λ r e. new-rests rule w r (λ sub. caught-up-rests sub.config.ordering (slots_of w sub.number) (slot_of w.messages r) e) (sub_numbered w r.sub)) h)
  where
    rule : SubRow → List Slot → Slot → Mark
    rule sub = caught_up_mark sub.config.ordering

-- While everything is held, expunging lets what was ahead catch up, and messages go.
pub expunge-held : (t : ℕ) (w : World) → expunge_world t w ≡ let_all_go t (catch_up w)
expunge-held t w = ap (let_all_go t) (ap (λ v. release t (catch_up v)) (expire-rests t w) ∙ release-rests t (catch_up w))

-- Where nothing is ahead either, it changes no mark.
pub expunge-rests : (t : ℕ) (w : World) → AllByRecursion (λ (r : MarkRow). is_ahead r.mark ≡ false) w.marks → expunge_world t w ≡ let_all_go t w
expunge-rests t w h = expunge-held t w ∙ ap (let_all_go t) (catch_up-rests w h)

-- a subscription without a policy has no letters
letters-none : (w : World) (sub : SubRow) (dead : List DeadLetter) → sub.config.dead_letter ≡ None → letters_of w sub dead ≡ []
letters-none w sub dead e = flat_map-none (λ (d : DeadLetter). letter_of sub (dead_topic w sub) (message_at w.messages d.number) d.failures) dead
    (each-always (λ (d : DeadLetter). letter_of sub (dead_topic w sub) (message_at w.messages d.number) d.failures ≡ []) dead (λ d. ap (λ o. letter_of sub o (message_at w.messages d.number) d.failures) none))
  where
    none : dead_topic w sub ≡ None
    none = ap (λ policy. option_and_then (λ (p : DeadLetterPolicy). topic_named w p.topic) policy) e

pub ended_letters-none : (t : ℕ) (w : World) → AllByRecursion (λ (r : SubRow). r.config.dead_letter ≡ None) w.subs → ended_letters t w ≡ []
ended_letters-none t w h = flat_map-none (λ (sub : SubRow). letters_of w sub (dead_letters (is_due t) (is_some (dead_topic w sub)) sub.config (slots_of w sub.number))) w.subs
    (each-then (λ (r : SubRow). r.config.dead_letter ≡ None) (λ (sub : SubRow). letters_of w sub (dead_letters (is_due t) (is_some (dead_topic w sub)) sub.config (slots_of w sub.number)) ≡ []) w.subs
    (λ sub e. letters-none w sub (dead_letters (is_due t) (is_some (dead_topic w sub)) sub.config (slots_of w sub.number)) e) h)

-- Without snapshots and dead letters, settling ends leases, lets what was ahead catch up, and messages go.
pub settle-held : (t : ℕ) (w : World) → w.snaps ≡ [] → AllByRecursion (λ (r : SubRow). r.config.dead_letter ≡ None) w.subs → settle t w ≡ let_all_go t (catch_up (end_leases t w))
settle-held t w none plain =
    ap (λ v. expunge_world t (forward t (ended_letters t v) (end_leases t v))) dropped
    ∙ ap (λ letters. expunge_world t (forward t letters (end_leases t w))) (ended_letters-none t w plain)
    ∙ ap (expunge_world t) (forward-none t (end_leases t w))
    ∙ expunge-held t (end_leases t w)
  where
    dropped : drop_snapshots t w ≡ w
    dropped = λ i. record w { snaps = (ap (filter (λ (r : SnapRow). not (nat_le r.expiry t))) none ∙ sym none) i }
