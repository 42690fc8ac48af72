-- What expunging leaves of a world whose live part a state stands for, and when a call changes that part.
use Rattle.std.proofs.Common.{◌≡◌, ℕ, Bool, true, false, cond, not, ◌||◌, nat_eq, List, [], ◌∷◌, None, filter, map, refl, sym, ap, subst, ◌∙◌}
use Rattle.std.specs.List.{AllByRecursion, list_any}
use Rattle.std.proofs.Math.Bool.{or-false}
use Rattle.std.proofs.lemmas.Bool.{and_right, false_from_ne_true, false≢true}
use Rattle.ps_base.proofs.Lists.{each-of-filter, each-then}
use Rattle.ps_model.specs.declared.mark.Mark.{Mark}
use Rattle.ps_model.specs.declared.world.MarkRow.{MarkRow}
use Rattle.ps_model.specs.declared.world.MessageRow.{MessageRow}
use Rattle.ps_model.specs.declared.world.SnapRow.{SnapRow}
use Rattle.ps_model.specs.declared.world.World.{World}
use Rattle.ps_model.specs.Live.{live}
use Rattle.ps_model.specs.Retention.{is_held_by, is_within}
use Rattle.ps_model.specs.Same.{WorldParts, world_parts, same_world}
use Rattle.ps_model.specs.Settling.{catch_up, expire, expunge_world, is_wanted, release}
use Rattle.ps_model.specs.Settling as rules
use Rattle.ps_model.specs.Slots.{is_gone}
use Rattle.ps_model.specs.Worlds.{hold_of, holds_of, window_of}
use Rattle.ps_model.proofs.SameLemmas.{same-world, world-same}
use Rattle.ps_tables.specs.Subscriptions.{is_had}
use Rattle.ps_core.specs.Effects.{let_go, recorded_at}
use Rattle.ps_core.specs.State.{State, flat_marks, seen}
use Rattle.ps_core.specs.Steady.{IsSteady}
use Rattle.ps_tables.proofs.lists.Filtered.{filter-all}
use Rattle.ps_core.proofs.settling.Expunging.{IsPlain, expire-rests, marks-each, marks-want, plain-steady, release-rests, wants, window-none}

abbrev is_here : MarkRow → Bool
is_here r = not (is_gone r.mark)

marks-here : (s : State) → IsPlain s → filter is_here (flat_marks s.subscriptions) ≡ flat_marks s.subscriptions
marks-here s h =
    filter-all is_here (flat_marks s.subscriptions)
    (each-then (λ (r : MarkRow). is_gone r.mark ≡ false) (λ (r : MarkRow). is_here r ≡ true) (flat_marks s.subscriptions) (λ r here. ap not here) (marks-each (λ (m : Mark). is_gone m ≡ false) s.subscriptions h.marks))

-- a steady state stands for a world that is all live
pub live-seen : (s : State) → IsSteady s → live (seen s) ≡ seen s
live-seen s h = λ i. record (seen s) {
  messages = filter-all (λ (r : MessageRow). r.kept) s.messages h.kept i;
  marks = marks-here s (plain-steady s h) i;
}

-- ---- expunging

module _ (at : ℕ) (w : World) (s : State) (plain : IsPlain s) (is : live w ≡ seen s) (caught : catch_up w ≡ w) where
  marks-are : filter is_here w.marks ≡ flat_marks s.subscriptions
  marks-are = ap (λ (v : World). v.marks) is

  marks-rest : release at (catch_up (expire at w)) ≡ w
  marks-rest = release-rests at (catch_up (expire at w)) ∙ ap catch_up (expire-rests at w) ∙ caught

  wants-here : (number : ℕ) (rows : List MarkRow) → list_any (wants number) rows ≡ list_any (wants number) (filter is_here rows)
  wants-here number [] = refl
  wants-here number (r ∷ rows) = by (is_gone r.mark) refl (wants-here number rows)
    where
      by : (gone : Bool) → is_gone r.mark ≡ gone → list_any (wants number) rows ≡ list_any (wants number) (filter is_here rows) → list_any (wants number) (r ∷ rows) ≡ list_any (wants number) (filter is_here (r ∷ rows))
      by true e rest = rw (e) (ap (λ (b : Bool). b || list_any (wants number) rows) (and_right (nat_eq r.message number) false refl) ∙ rest)
      by false e rest =
          ap (λ (b : Bool). wants number r || b) rest
          ∙ sym (ap (λ (gone : Bool). list_any (wants number) (cond (not gone) (r ∷ filter is_here rows) (filter is_here rows))) e)

  window : (topic : ℕ) → window_of w topic ≡ None
  window topic = ap (λ (v : World). window_of v topic) is ∙ window-none topic s.topics plain.topic_settings

  had : (m : MessageRow) → is_wanted at w.marks (holds_of w m.topic) m ≡ is_had s.subscriptions m.number
  had m =
      (λ i. list_any (wants m.number) w.marks || (is_within at m.publish (window m.topic i) || list_any (is_held_by m.number) (map hold_of (filter (λ (r : SnapRow). nat_eq r.topic m.topic) (is i).snaps))))
      ∙ or-false (list_any (wants m.number) w.marks)
      ∙ wants-here m.number w.marks ∙ ap (list_any (wants m.number)) marks-are ∙ marks-want m.number s.subscriptions plain.marks

  messages-left : (rows : List MessageRow) → filter (λ (r : MessageRow). r.kept) (map (rules.let_go at w) rows) ≡ filter (λ (r : MessageRow). is_had s.subscriptions r.number) (filter (λ (r : MessageRow). r.kept) rows)
  messages-left [] = refl
  messages-left (r ∷ rows) = by r.kept refl (is_had s.subscriptions r.number) refl (messages-left rows)
    where
      by : (kept : Bool) → r.kept ≡ kept → (own : Bool) → is_had s.subscriptions r.number ≡ own
          → filter (λ (m : MessageRow). m.kept) (map (rules.let_go at w) rows) ≡ filter (λ (m : MessageRow). is_had s.subscriptions m.number) (filter (λ (m : MessageRow). m.kept) rows)
          → filter (λ (m : MessageRow). m.kept) (map (rules.let_go at w) (r ∷ rows)) ≡ filter (λ (m : MessageRow). is_had s.subscriptions m.number) (filter (λ (m : MessageRow). m.kept) (r ∷ rows))
      by false e own o rest = rw (e) rest
      by true e true o rest = rw (e, had r, o) (λ i. record r { kept = true } ∷ rest i)
      by true e false o rest = rw (e, had r, o) rest

-- the messages go that no subscription has
pub expunge-live : (at : ℕ) (w : World) (s : State) → IsPlain s → live w ≡ seen s → catch_up w ≡ w → live (expunge_world at w) ≡ seen (let_go s)
expunge-live at w s plain is caught =
    ap (λ (v : World). live (record v { messages = map (rules.let_go at v) v.messages })) (marks-rest at w s plain is caught)
    ∙ (λ i. record (live w) { messages = messages-left at w s plain is caught w.messages i })
    ∙ ap (λ (v : World). record v { messages = filter (λ (r : MessageRow). is_had s.subscriptions r.number) v.messages }) is

-- a steady state has nothing to let go
pub let_go-rests : (s : State) → IsSteady s → let_go s ≡ s
let_go-rests s h = λ i. record s { messages = filter-all (λ (m : MessageRow). is_had s.subscriptions m.number) s.messages h.wanted i }

-- ---- what changes

abbrev live_parts : WorldParts → WorldParts
live_parts p = (p.0, (p.1.0, (p.1.1.0, (p.1.1.1.0, (p.1.1.1.1.0, (p.1.1.1.1.1.0, (p.1.1.1.1.1.1.0, (filter (λ (r : MessageRow). r.kept) p.1.1.1.1.1.1.1.0, filter is_here p.1.1.1.1.1.1.1.1))))))))

-- a world differs from a state's if its live part does
pub moves-live : (s made : State) (w : World) → IsSteady s → live w ≡ seen made → same_world (seen s) (seen made) ≡ false → same_world (seen s) w ≡ false
moves-live s made w h is differs =
    false_from_ne_true (same_world (seen s) w) (λ same.
    let parts : world_parts (seen s) ≡ world_parts (seen made) =
    ap world_parts (sym (live-seen s h)) ∙ ap live_parts (same-world (seen s) w same) ∙ ap world_parts is in
    false≢true (sym differs ∙ world-same (seen s) (seen made) parts))

-- a state that an entry more makes steady stands for a world that is all live
pub live-left : (at : ℕ) (made : State) → IsSteady (recorded_at at made) → live (seen made) ≡ seen made
live-left at made steady = ap (λ (w : World). record w { now = made.now; count = made.count }) (live-seen (recorded_at at made) steady)
