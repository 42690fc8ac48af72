-- The one row of a message on a subscription, and what a change of the marks makes of it.
use Rattle.std.proofs.Common.{ℕ, ◌≡◌, ◌≢◌, ◌<◌, ◌≤◌, Bool, true, false, cond, ◌&&◌, ◌||◌, not, nat_eq, nat_lt, is_some, List, [], ◌∷◌, Option, Some, None, option_map, filter, find, flat_map, refl, sym, ◌∙◌, ap, subst, arith, inl, inr}
use Rattle.std.specs.List.{AllByRecursion}
use Rattle.std.proofs.lemmas.Bool.{cond_both, and_parts, and_left, and_right, or_right, eqb-true, ne_eqb, eq-eqb, both_ways, false≢true}
use Rattle.ps_model.specs.declared.mark.Mark.{Mark}
use Rattle.ps_model.specs.declared.mark.Slot.{Slot}
use Rattle.ps_model.specs.declared.world.World.{World}
use Rattle.ps_model.specs.declared.world.SubRow.{SubRow}
use Rattle.ps_model.specs.declared.world.MessageRow.{MessageRow}
use Rattle.ps_model.specs.declared.world.MarkRow.{MarkRow}
use Rattle.ps_model.specs.Slots.{is_done}
use Rattle.ps_model.specs.Retention.{holds, lapsed, expired_mark, caught_up_as, caught_up_mark, released_mark}
use Rattle.ps_model.specs.Seeking.{fresh}
use Rattle.ps_model.specs.Worlds.{message_numbered, remark_at, remark_row, new_mark, sub_numbered, slot_of, slots_of, holds_of}
use Rattle.ps_model.specs.Forwarding.{Letter, enter, enter_all, enters, entered, letter_rows, forward}
use Rattle.ps_model.specs.Settling.{expire, catch_up, expunge_world}
use Rattle.ps_model.specs.Standing.{mark_row}
use Rattle.ps_model.specs.Sound.{Ordered, Precedes, IsNamed}
use Rattle.ps_sound.specs.Told.{Found}
use Rattle.ps_base.proofs.Lists.{each-always, each-then, each-both, each-map, each-filter, each-flat_map, each-found, found-map, found-passes}
use Rattle.ps_sound.proofs.worlds.Marked.{marked, at_sub, remark_at-marked}
use Rattle.ps_sound.proofs.worlds.Underway.{IsFinished}
use Rattle.ps_sound.proofs.phases.CatchingUp.{caught-is}
use Rattle.ps_sound.proofs.phases.Letters.{letter-rows-each}
use Rattle.ps_sound.proofs.commands.Lending.{is_at}

-- the mark of the pair is there, and has the property
abbrev pub HasMark : (Mark → Type 0) → World → ℕ → ℕ → Type 0
HasMark P w n k = Found (λ (r : MarkRow). P r.mark) (mark_row w n k)

-- each row is the one that is found at its place
pub rows-own : (rows : List MarkRow) → Ordered Precedes rows → AllByRecursion (λ (r : MarkRow). find (is_at r.sub r.message) rows ≡ Some r) rows
rows-own [] h = tt
rows-own (x ∷ rows) h = (
  rw (eq-eqb x.sub x.sub refl, eq-eqb x.message x.message refl) refl,
  each-then (λ (r : MarkRow). Precedes x r × (find (is_at r.sub r.message) rows ≡ Some r)) (λ (r : MarkRow). find (is_at r.sub r.message) (x ∷ rows) ≡ Some r) rows
      (λ r p. ap (λ b. cond b (Some x) (find (is_at r.sub r.message) rows)) (other r p.0) ∙ p.1)
      (each-both (Precedes x) (λ (r : MarkRow). find (is_at r.sub r.message) rows ≡ Some r) rows h.0 (rows-own rows h.1)),
)
  where
    other : (r : MarkRow) → Precedes x r → is_at r.sub r.message x ≡ false
    other r (inl p) = let ne : x.sub ≢ r.sub = omega (arith, p) in and_left (nat_eq x.sub r.sub) (nat_eq x.message r.message) (ne_eqb x.sub r.sub ne)
    other r (inr p) = let ne : x.message ≢ r.message = omega (arith, p.1) in and_right (nat_eq x.sub r.sub) (nat_eq x.message r.message) (ne_eqb x.message r.message ne)

module _ (P Q : Mark → Type 0) (n k : ℕ) where
  -- marks changed in place
  pub has-marked : (new : MarkRow → Mark) (w : World) → ((r : MarkRow) → mark_row w n k ≡ Some r → r.sub ≡ n → r.message ≡ k → P r.mark → Q (new r)) → HasMark P w n k → HasMark Q (marked new w) n k
  has-marked new w keeps p = subst (Found (λ (r : MarkRow). Q r.mark)) (sym (found-map (is_at n k) (λ (r : MarkRow). remark_row r (new r)) w.marks (λ r. refl))) (at (mark_row w n k) refl p)
    where
      at : (o : Option MarkRow) → mark_row w n k ≡ o → Found (λ (r : MarkRow). P r.mark) o → Found (λ (r : MarkRow). Q r.mark) (option_map (λ (r : MarkRow). remark_row r (new r)) o)
      at None eo p = absurd p
      at (Some r) eo p = let own = and_parts (nat_eq r.sub n) (nat_eq r.message k) (found-passes (is_at n k) w.marks r eo) in keeps r eo (eqb-true r.sub n own.0) (eqb-true r.message k own.1) p

  -- those of one subscription
  pub has-remarked : (m : ℕ) (rule : Slot → Mark) (w : World) → ((r : MarkRow) → mark_row w n k ≡ Some r → r.sub ≡ n → r.message ≡ k → P r.mark → Q (at_sub m rule w.messages r)) → HasMark P w n k → HasMark Q (remark_at m rule w) n k
  has-remarked m rule w keeps p = subst (λ (v : World). HasMark Q v n k) (sym (remark_at-marked m rule w)) (has-marked (at_sub m rule w.messages) w keeps p)

module _ (P : Mark → Type 0) (n k : ℕ) where
  -- expunging, where catching up keeps the property: nothing lapses that is held
  pub has-expunged : (t : ℕ) (w : World) → ((mark : Mark) → P mark → P (caught_up_as mark)) → HasMark P w n k → HasMark P (expunge_world t w) n k
  has-expunged t w catches p =
      has-marked P P n k (λ r. new_mark releasing caught r (sub_numbered w r.sub)) caught (λ r _ _ _. let_out r (sub_numbered w r.sub))
      (has-marked P P n k (λ r. new_mark catching lived r (sub_numbered w r.sub)) lived (λ r _ _ _. catch r (sub_numbered w r.sub))
      (has-marked P P n k (λ r. new_mark expiring w r (sub_numbered w r.sub)) w (λ r _ _ _. live r (sub_numbered w r.sub)) p))
    where
      expiring : SubRow → List Slot → Slot → Mark
      expiring sub slots = expired_mark t sub.config (holds_of w sub.topic)

      lived : World
      lived = expire t w

      catching : SubRow → List Slot → Slot → Mark
      catching sub = caught_up_mark sub.config.ordering

      caught : World
      caught = catch_up lived

      releasing : SubRow → List Slot → Slot → Mark
      releasing sub slots = released_mark t sub.config (holds_of w sub.topic)

      live : (r : MarkRow) (o : Option SubRow) → P r.mark → P (new_mark expiring w r o)
      live r None q = q
      live r (Some sub) q =
          cond_both (is_done r.mark || holds t sub.config (holds_of w sub.topic) (slot_of w.messages r)) r.mark (lapsed r.mark) P (λ _. q)
          (λ none. absurd (both_ways (is_done r.mark || true) none (or_right (is_done r.mark) true refl)))

      catch : (r : MarkRow) (o : Option SubRow) → P r.mark → P (new_mark catching lived r o)
      catch r None q = q
      catch r (Some sub) q = caught-is P sub.config.ordering (slots_of lived sub.number) (slot_of w.messages r) q (catches r.mark q)

      let_out : (r : MarkRow) (o : Option SubRow) → P r.mark → P (new_mark releasing caught r o)
      let_out r None q = q
      let_out r (Some sub) q =
          cond_both (is_done r.mark && not (holds t sub.config (holds_of w sub.topic) (slot_of w.messages r))) (lapsed r.mark) r.mark P
          (λ e. absurd (false≢true (and_parts (is_done r.mark) false e).1)) (λ _. q)

  find-enter : (test : MarkRow → Bool) (r : MarkRow) (xs : List MarkRow) → test r ≡ false → find test (enter r xs) ≡ find test xs
  find-enter test r [] e = rw e refl
  find-enter test r (x ∷ xs) e =
      cond_both (nat_lt r.sub x.sub) (r ∷ (x ∷ xs)) (x ∷ enter r xs) (λ ys. find test ys ≡ find test (x ∷ xs))
      (λ _. ap (λ b. cond b (Some r) (find test (x ∷ xs))) e) (λ _. ap (cond (test x) (Some x)) (find-enter test r xs e))

  find-enter_all : (test : MarkRow → Bool) (rs xs : List MarkRow) → AllByRecursion (λ r. test r ≡ false) rs → find test (enter_all rs xs) ≡ find test xs
  find-enter_all test [] xs h = refl
  find-enter_all test (r ∷ rs) xs h = find-enter_all test rs (enter r xs) h.1 ∙ find-enter test r xs h.0

  -- new messages are others
  pub has-forwarded : (t : ℕ) (w : World) (letters : List Letter) → k < w.next_message → HasMark P w n k → HasMark P (forward t letters w) n k
  has-forwarded t w letters below p = subst (Found (λ (r : MarkRow). P r.mark)) (sym (find-enter_all (is_at n k) (flat_map (λ (sub : SubRow). entered sub rows) w.subs) w.marks others)) p
    where
      rows : List MessageRow
      rows = letter_rows w.next_message t letters

      others : AllByRecursion (λ (r : MarkRow). is_at n k r ≡ false) (flat_map (λ (sub : SubRow). entered sub rows) w.subs)
      others = each-flat_map (λ (sub : SubRow). Unit {0}) (λ (r : MarkRow). is_at n k r ≡ false) (λ (sub : SubRow). entered sub rows) w.subs
          (λ sub _. each-map (λ (m : MessageRow). w.next_message ≤ m.number) (λ (r : MarkRow). is_at n k r ≡ false) (λ (m : MessageRow). record { sub = sub.number; message = m.number; mark = fresh }) (filter (enters sub) rows)
          (λ m up. let ne : m.number ≢ k = omega (arith, up, below) in and_right (nat_eq sub.number n) (nat_eq m.number k) (ne_eqb m.number k ne))
          (each-filter (λ (m : MessageRow). w.next_message ≤ m.number) (λ (m : MessageRow). w.next_message ≤ m.number) (enters sub) rows (λ m _ e. e)
          (letter-rows-each (λ (m : MessageRow). w.next_message ≤ m.number) (λ (l : Letter). Unit {0}) w.next_message t letters (λ k l from below _. from) (each-always (λ (l : Letter). Unit {0}) letters (λ l. tt)))))
          (each-always (λ (sub : SubRow). Unit {0}) w.subs (λ sub. tt))

-- the message of a row that is found is below the next number
pub row-below : (t count n k : ℕ) (v : World) (r : MarkRow) → IsFinished t count v → mark_row v n k ≡ Some r → k < v.next_message
row-below t count n k v r fin found = of_message (message_numbered v.messages r.message) refl (each-found (IsNamed v) (is_at n k) v.marks r found fin.underway.marks.named).1
  where
    own : r.message ≡ k
    own = eqb-true r.message k (and_parts (nat_eq r.sub n) (nat_eq r.message k) (found-passes (is_at n k) v.marks r found)).1

    of_message : (o : Option MessageRow) → message_numbered v.messages r.message ≡ o → is_some o ≡ true → k < v.next_message
    of_message None eo some = absurd (false≢true some)
    of_message (Some m) eo some =
        let up : m.number < v.next_message = each-found (λ (x : MessageRow). x.number < v.next_message) (λ (x : MessageRow). nat_eq x.number r.message) v.messages m eo fin.underway.messages.below in
        omega (arith, up, own, eqb-true m.number r.message (found-passes (λ (x : MessageRow). nat_eq x.number r.message) v.messages m eo))
