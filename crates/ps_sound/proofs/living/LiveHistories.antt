-- The live part of a sound world is sound, and is enough to go on from.
use Rattle.std.proofs.Common.{ℕ, ◌≡◌, arith, Bool, true, false, List, [], ◌∷◌, Option, Some, None, refl, sym, ◌∙◌, ap, subst}
use Rattle.std.specs.List.{AllByRecursion}
use Rattle.std.proofs.lemmas.Bool.{both_ways}
use Rattle.ps_model.specs.declared.command.Command.{Command}
use Rattle.ps_model.specs.declared.command.Entry.{Entry}
use Rattle.ps_model.specs.declared.mark.Slot.{Slot}
use Rattle.ps_model.specs.declared.world.World.{World}
use Rattle.ps_model.specs.declared.world.SubRow.{SubRow}
use Rattle.ps_model.specs.declared.world.MarkRow.{MarkRow}
use Rattle.ps_model.specs.declared.world.MessageRow.{MessageRow}
use Rattle.ps_model.specs.Slots.{is_gone, is_unacked}
use Rattle.ps_model.specs.Retention.{holds}
use Rattle.ps_model.specs.Worlds.{sub_numbered, slot_of, slots_of, holds_of}
use Rattle.ps_model.specs.Settling.{is_wanted}
use Rattle.ps_model.specs.Step.{empty_world, step, reply, entry_of}
use Rattle.ps_model.specs.History.{IsAccepted, IsHistory, after, recorded, called, replies}
use Rattle.ps_model.specs.Live.{live}
use Rattle.ps_model.specs.Sound.{OnEachSlot, IsAheadOfOne, IsHeldWhere, IsHeldOrGone, IsSound}
use Rattle.ps_base.proofs.Lists.{each-then, each-both, each-filter}
use Rattle.ps_sound.specs.Living.{LiveIsSound, live_after, IsLiveHistory, LiveIsEnough, live_replies, LiveRepliesTheSame}
use Rattle.ps_sound.proofs.worlds.Underway.{IsUnderway, IsHeldAt, AllHeld}
use Rattle.ps_sound.proofs.worlds.Parts.{rows-of-each, finished-sound, sound-topics, sound-subs, sound-snaps, sound-messages, sound-marks}
use Rattle.ps_sound.proofs.phases.Stepping.{starts-sound, stays_sound, history-sound}
use Rattle.ps_sound.proofs.histories.Recording.{recorded_is_accepted}
use Rattle.ps_sound.proofs.living.Slotwise.{row_lives, slot_lives, live_slots, kept_messages, KeptAt, AllKept, slot_of-live, slots-live, any-earlier-live, unacked-fails-gone}
use Rattle.ps_sound.proofs.living.Standing.{wanted-kept, live-underway}
use Rattle.ps_sound.proofs.living.Passes.{wanted-live, live-again}
use Rattle.ps_sound.proofs.living.GoneLaw.{gone_never_matters}

pub live_is_sound : LiveIsSound
live_is_sound w h = finished-sound w.now w.count (live w) h.ordered.count (record { underway = live-underway w.now w.count w underway; asked = asked; ahead_of_one = ahead; held = held })
  where
    kept : AllKept w
    kept = wanted-kept w h.keeping.marks

    underway : IsUnderway w.now w.count w
    underway = record { moment = h.in_time.now; topics = sound-topics w h; subs = sound-subs w h; snaps = sound-snaps w h; messages = sound-messages w.now w (omega arith) h; marks = sound-marks w h }

    asked : AllByRecursion (λ (m : MessageRow). m.kept ≡ true → is_wanted w.now (live w).marks (holds_of w m.topic) m ≡ true) (kept_messages w.messages)
    asked = each-filter (λ (m : MessageRow). m.kept ≡ true → is_wanted w.now w.marks (holds_of w m.topic) m ≡ true) (λ (m : MessageRow). m.kept ≡ true → is_wanted w.now (live w).marks (holds_of w m.topic) m ≡ true) (λ (m : MessageRow). m.kept) w.messages
        (λ m _ k e. wanted-live w.now w m ∙ k e) h.keeping.wanted

    ahead : OnEachSlot (live w) IsAheadOfOne
    ahead = each-then (λ (sub : SubRow). AllByRecursion (IsAheadOfOne sub (slots_of w sub.number)) (slots_of w sub.number)) (λ (sub : SubRow). AllByRecursion (IsAheadOfOne sub (slots_of (live w) sub.number)) (slots_of (live w) sub.number)) w.subs
        (λ sub p. subst (λ slots. AllByRecursion (IsAheadOfOne sub slots) slots) (sym (slots-live w sub.number kept))
        (each-filter (IsAheadOfOne sub (slots_of w sub.number)) (IsAheadOfOne sub (live_slots (slots_of w sub.number))) slot_lives (slots_of w sub.number)
        (λ s _ k e. any-earlier-live sub.config.ordering (λ x. is_unacked x.mark) (slots_of w sub.number) s unacked-fails-gone ∙ k e) p)) h.ahead_of_one

    held-where : (sub : SubRow) (s : Slot) (b : Bool) → IsHeldWhere b w sub s → is_gone s.mark ≡ false → holds w.now sub.config (holds_of w sub.topic) s ≡ true
    held-where sub s true p lives = absurd (both_ways (is_gone s.mark) lives p)
    held-where sub s false p lives = p lives

    held : AllHeld w.now (live w)
    held = each-filter (λ (r : MarkRow). KeptAt w.messages r × ((sub : SubRow) → sub_numbered w r.sub ≡ Some sub → IsHeldOrGone w sub (slot_of w.messages r))) (IsHeldAt w.now (live w)) row_lives w.marks
        (λ r alive p sub own lives. ap (holds w.now sub.config (holds_of w sub.topic)) (slot_of-live w.messages r p.0 alive) ∙ held-where sub (slot_of w.messages r) sub.detached (p.1 sub own) lives)
        (each-both (KeptAt w.messages) (λ (r : MarkRow). (sub : SubRow) → sub_numbered w r.sub ≡ Some sub → IsHeldOrGone w sub (slot_of w.messages r)) w.marks kept (rows-of-each (λ sub slots. IsHeldOrGone w sub) w h.held_or_gone))

-- what the live part accepts the world accepts, and back
accepts-live : (w : World) (e : Entry) → IsSound w → IsAccepted (live w) e → IsAccepted w e
accepts-live w e h a = sym (gone_never_matters w e.now e.command h).records ∙ a

live-accepts : (w : World) (e : Entry) → IsSound w → IsAccepted w e → IsAccepted (live w) e
live-accepts w e h a = (gone_never_matters w e.now e.command h).records ∙ a

steps-alike : (w : World) (e : Entry) → IsSound w → live (step (live w) e) ≡ live (step w e)
steps-alike w e h = (gone_never_matters w e.now e.command h).leaves

from-live : (w : World) (es : List Entry) → IsSound w → IsLiveHistory (live w) es → IsHistory w es
from-live w [] h history = tt
from-live w (e ∷ es) h history =
    let accepted : IsAccepted w e = accepts-live w e h history.0 in
    (accepted, from-live (step w e) es (stays_sound w e h accepted) (subst (λ v. IsLiveHistory v es) (steps-alike w e h) history.1))

to-live : (w : World) (es : List Entry) → IsSound w → IsHistory w es → IsLiveHistory (live w) es
to-live w [] h history = tt
to-live w (e ∷ es) h history = (live-accepts w e h history.0, subst (λ v. IsLiveHistory v es) (sym (steps-alike w e h)) (to-live (step w e) es (stays_sound w e h history.0) history.1))

after-alike : (w : World) (es : List Entry) → IsSound w → IsHistory w es → live_after (live w) es ≡ live (after w es)
after-alike w [] h history = refl
after-alike w (e ∷ es) h history = ap (λ v. live_after v es) (steps-alike w e h) ∙ after-alike (step w e) es (stays_sound w e h history.0) history.1

pub live_is_enough : LiveIsEnough
live_is_enough es = record {
  accepts = (from-live empty_world es starts-sound, to-live empty_world es starts-sound);
  stays = after-alike empty_world es starts-sound;
  tells = λ at c history. ap (λ v. reply v at c) (after-alike empty_world es starts-sound history) ∙ (gone_never_matters (after empty_world es) at c (history-sound empty_world es starts-sound history)).replies;
  records = λ at c history. ap (λ v. entry_of v at c) (after-alike empty_world es starts-sound history) ∙ (gone_never_matters (after empty_world es) at c (history-sound empty_world es starts-sound history)).records;
}

-- a call keeps a world sound, and leaves the same live part in the live part
called-sound : (w : World) (c : ℕ × Command) → IsSound w → IsSound (called w c)
called-sound w c h = by (entry_of w c.0 c.1) refl
  where
    by : (o : Option Entry) → entry_of w c.0 c.1 ≡ o → IsSound (recorded w o)
    by None e = h
    by (Some e) is = stays_sound w e h (recorded_is_accepted w c.0 c.1 e is)

called-alike : (w : World) (c : ℕ × Command) → IsSound w → live (called (live w) c) ≡ live (called w c)
called-alike w c h = ap (λ o. live (recorded (live w) o)) (gone_never_matters w c.0 c.1 h).records ∙ by (entry_of w c.0 c.1)
  where
    by : (o : Option Entry) → live (recorded (live w) o) ≡ live (recorded w o)
    by None = live-again w
    by (Some e) = steps-alike w e h

replies-alike : (w : World) (cs : List (ℕ × Command)) → IsSound w → live_replies (live w) cs ≡ replies w cs
replies-alike w [] h = refl
replies-alike w (c ∷ cs) h = λ i. (gone_never_matters w c.0 c.1 h).replies i ∷ (ap (λ v. live_replies v cs) (called-alike w c h) ∙ replies-alike (called w c) cs (called-sound w c h)) i

pub live_replies_the_same : LiveRepliesTheSame
live_replies_the_same cs = replies-alike empty_world cs starts-sound
