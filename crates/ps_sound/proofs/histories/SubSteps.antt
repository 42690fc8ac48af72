-- What settling keeps of all marks of one subscription, by their messages' numbers, and the keys of the messages.
use Rattle.std.proofs.Common.{ℕ, ◌≡◌, ◌≢◌, ◌<◌, Bool, true, false, cond, nat_eq, is_some, List, [], ◌∷◌, ◌++◌, Option, Some, None, unwrap_or, filter, flat_map, find, refl, sym, ◌∙◌, ap, arith}
use Rattle.std.specs.List.{AllByRecursion}
use Rattle.std.proofs.lemmas.Bool.{ne_eqb}
use Rattle.ps_model.specs.declared.mark.Mark.{Mark}
use Rattle.ps_model.specs.declared.mark.Slot.{Slot}
use Rattle.ps_config.specs.declared.config.SubConfig.{SubConfig}
use Rattle.ps_model.specs.declared.world.World.{World}
use Rattle.ps_model.specs.declared.world.SubRow.{SubRow}
use Rattle.ps_model.specs.declared.world.MessageRow.{MessageRow}
use Rattle.ps_model.specs.declared.world.MarkRow.{MarkRow}
use Rattle.ps_model.specs.Failing.{failed, fallen, mark_after_failing, is_due}
use Rattle.ps_model.specs.Retention.{lapsed, expired_mark, caught_up_as, caught_up_mark, released_mark}
use Rattle.ps_model.specs.Seeking.{fresh}
use Rattle.ps_model.specs.Worlds.{new_mark, remark_all, remark_row, sub_numbered, message_numbered, message_at, no_message, slot_of, slots_of, holds_of}
use Rattle.ps_model.specs.Forwarding.{Letter, enters, entered, letter_rows, forward, dead_topic}
use Rattle.ps_model.specs.Settling.{drop_snapshots, end_leases, ended_letters, expire, catch_up, release, expunge_world, settle}
use Rattle.ps_base.proofs.Lists.{each-always, each-map, each-flat_map, find-none}
use Rattle.ps_sound.proofs.worlds.Entering.{each-enter_all}
use Rattle.ps_sound.proofs.phases.Ending.{failing-is}
use Rattle.ps_sound.proofs.phases.Letters.{letter-rows-each}
use Rattle.ps_sound.proofs.phases.LettingGo.{message_at-let_go}
use Rattle.ps_sound.proofs.phases.CatchingUp.{caught-is}
use Rattle.ps_sound.proofs.phases.Expunging.{expired-is, released-is}

-- a fact of numbers and marks that outlasts all that settling does to a mark, and holds of new ones
pub record IsSettling (R : ℕ → Mark → Type 0) : Type 0 where
  pub starts : (j : ℕ) → R j fresh
  pub lapses : (j : ℕ) (mark : Mark) → R j mark → R j (lapsed mark)
  pub catches : (j : ℕ) (mark : Mark) → R j mark → R j (caught_up_as mark)
  pub fails : (j t : ℕ) (forward : Bool) (config : SubConfig) (mark : Mark) → R j mark → R j (failed t forward config mark)
  pub falls : (j : ℕ) (mark : Mark) → R j mark → R j (fallen mark)

-- of each row of the subscription
abbrev pub OnSub : (ℕ → Mark → Type 0) → ℕ → MarkRow → Type 0
OnSub R n r = r.sub ≡ n → R r.message r.mark

module _ (R : ℕ → Mark → Type 0) (n : ℕ) (k : IsSettling R) where
  sub-remarked : (rule : SubRow → List Slot → Slot → Mark) (w : World) → ((r : MarkRow) (o : Option SubRow) → R r.message r.mark → R r.message (new_mark rule w r o)) → AllByRecursion (OnSub R n) w.marks → AllByRecursion (OnSub R n) (remark_all rule w).marks
  sub-remarked rule w keeps h = each-map (OnSub R n) (OnSub R n) (λ (r : MarkRow). remark_row r (new_mark rule w r (sub_numbered w r.sub))) w.marks (λ r p es. keeps r (sub_numbered w r.sub) (p es)) h

  sub-ended : (t : ℕ) (w : World) → AllByRecursion (OnSub R n) w.marks → AllByRecursion (OnSub R n) (end_leases t w).marks
  sub-ended t w = sub-remarked (λ sub. mark_after_failing (is_due t) t (is_some (dead_topic w sub)) sub.config) w keeps
    where
      keeps : (r : MarkRow) (o : Option SubRow) → R r.message r.mark → R r.message (new_mark (λ sub. mark_after_failing (is_due t) t (is_some (dead_topic w sub)) sub.config) w r o)
      keeps r None q = q
      keeps r (Some sub) q = failing-is (R r.message) (is_due t) t (is_some (dead_topic w sub)) sub.config (slots_of w sub.number) (slot_of w.messages r) (k.fails r.message t (is_some (dead_topic w sub)) sub.config r.mark q) (k.falls r.message r.mark q) q

  sub-forwarded : (t : ℕ) (w : World) (letters : List Letter) → AllByRecursion (OnSub R n) w.marks → AllByRecursion (OnSub R n) (forward t letters w).marks
  sub-forwarded t w letters h = each-enter_all (OnSub R n) (flat_map (λ (sub : SubRow). entered sub rows) w.subs) w.marks
      (each-flat_map (λ (sub : SubRow). Unit {0}) (OnSub R n) (λ (sub : SubRow). entered sub rows) w.subs
      (λ sub _. each-map (λ (m : MessageRow). Unit {0}) (OnSub R n) (λ (m : MessageRow). record { sub = sub.number; message = m.number; mark = fresh }) (filter (enters sub) rows) (λ m _ _. k.starts m.number) (each-always (λ (m : MessageRow). Unit {0}) (filter (enters sub) rows) (λ m. tt)))
      (each-always (λ (sub : SubRow). Unit {0}) w.subs (λ sub. tt))) h
    where
      rows : List MessageRow
      rows = letter_rows w.next_message t letters

  sub-expunged : (t : ℕ) (w : World) → AllByRecursion (OnSub R n) w.marks → AllByRecursion (OnSub R n) (expunge_world t w).marks
  sub-expunged t w h = sub-remarked releasing caught let_out (sub-remarked catching lived catch (sub-remarked expiring w live h))
    where
      expiring : SubRow → List Slot → Slot → Mark
      expiring sub slots = expired_mark t sub.config (holds_of w sub.topic)

      lived : World
      lived = expire t w

      catching : SubRow → List Slot → Slot → Mark
      catching sub = caught_up_mark sub.config.ordering

      caught : World
      caught = catch_up lived

      releasing : SubRow → List Slot → Slot → Mark
      releasing sub slots = released_mark t sub.config (holds_of w sub.topic)

      live : (r : MarkRow) (o : Option SubRow) → R r.message r.mark → R r.message (new_mark expiring w r o)
      live r None q = q
      live r (Some sub) q = expired-is (R r.message) t sub.config (holds_of w sub.topic) (slot_of w.messages r) (λ _. q) (k.lapses r.message r.mark q)

      catch : (r : MarkRow) (o : Option SubRow) → R r.message r.mark → R r.message (new_mark catching lived r o)
      catch r None q = q
      catch r (Some sub) q = caught-is (R r.message) sub.config.ordering (slots_of lived sub.number) (slot_of w.messages r) q (k.catches r.message r.mark q)

      let_out : (r : MarkRow) (o : Option SubRow) → R r.message r.mark → R r.message (new_mark releasing caught r o)
      let_out r None q = q
      let_out r (Some sub) q = released-is (R r.message) t sub.config (holds_of w sub.topic) (slot_of w.messages r) (λ _. q) (λ _. k.lapses r.message r.mark q)

  pub sub-settled : (t : ℕ) (w : World) → AllByRecursion (OnSub R n) w.marks → AllByRecursion (OnSub R n) (settle t w).marks
  sub-settled t w h = sub-expunged t (forward t (ended_letters t shown) (end_leases t shown)) (sub-forwarded t (end_leases t shown) (ended_letters t shown) (sub-ended t shown h))
    where
      shown : World
      shown = drop_snapshots t w

-- a look-up of what isn't in front, behind
found-behind : {A : Type 0} (test : A → Bool) (xs ys : List A) → find test xs ≡ None → find test (xs ++ ys) ≡ find test ys
found-behind test [] ys e = refl
found-behind test (x ∷ xs) ys e = cases (test x) (found-behind test xs ys) e
  where
    cases : (b : Bool) → (find test xs ≡ None → find test (xs ++ ys) ≡ find test ys) → cond b (Some x) (find test xs) ≡ None → cond b (Some x) (find test (xs ++ ys)) ≡ find test ys
    cases true ih e' = absurd (cc (e'))
    cases false ih e' = ih e'

found-front : {A : Type 0} (test : A → Bool) (xs ys : List A) (x : A) → find test xs ≡ Some x → find test (xs ++ ys) ≡ Some x
found-front test [] ys x e = absurd (cc (e))
found-front test (y ∷ xs) ys x e = cases (test y) (found-front test xs ys x) e
  where
    cases : (b : Bool) → (find test xs ≡ Some x → find test (xs ++ ys) ≡ Some x) → cond b (Some y) (find test xs) ≡ Some x → cond b (Some y) (find test (xs ++ ys)) ≡ Some x
    cases true ih e' = e'
    cases false ih e' = ih e'

-- settling changes nothing of a message but whether it is kept
pub settled-message : (t j : ℕ) (w : World) → j < w.next_message → (message_at (settle t w).messages j).message ≡ (message_at w.messages j).message
settled-message t j w old = ap (λ (m : MessageRow). m.message) (message_at-let_go t gone (w.messages ++ rows) j) ∙ ap (λ (o : Option MessageRow). (unwrap_or o (no_message j)).message) (same (message_numbered w.messages j) refl)
  where
    shown : World
    shown = drop_snapshots t w

    rows : List MessageRow
    rows = letter_rows w.next_message t (ended_letters t shown)

    gone : World
    gone = release t (catch_up (expire t (forward t (ended_letters t shown) (end_leases t shown))))

    none : find (λ (m : MessageRow). nat_eq m.number j) rows ≡ None
    none = find-none (λ (m : MessageRow). nat_eq m.number j) rows (letter-rows-each (λ (m : MessageRow). nat_eq m.number j ≡ false) (λ (l : Letter). Unit {0}) w.next_message t (ended_letters t shown)
        (λ i l from below _. let ne : i ≢ j = omega (arith, from, old) in ne_eqb i j ne) (each-always (λ (l : Letter). Unit {0}) (ended_letters t shown) (λ l. tt)))

    same : (o : Option MessageRow) → message_numbered w.messages j ≡ o → message_numbered (w.messages ++ rows) j ≡ message_numbered w.messages j
    same None e = found-behind (λ (m : MessageRow). nat_eq m.number j) w.messages rows e ∙ none ∙ sym e
    same (Some m) e = found-front (λ (x : MessageRow). nat_eq x.number j) w.messages rows m e ∙ sym e
