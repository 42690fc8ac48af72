-- What is kept of the mark of one message on one subscription, by what a step does beside its command.
use Rattle.std.proofs.Common.{ℕ, ◌≡◌, ◌<◌, ◌≤◌, false, nat_eq, is_some, List, Option, Some, None, filter, flat_map, arith, if◌then◌else◌}
use Rattle.std.specs.List.{AllByRecursion}
use Rattle.std.proofs.lemmas.Bool.{cond_both, eqb-true}
use Rattle.ps_message.specs.declared.message.Message.{Message}
use Rattle.ps_model.specs.declared.mark.Mark.{Mark}
use Rattle.ps_model.specs.declared.mark.Slot.{Slot}
use Rattle.ps_model.specs.declared.world.World.{World}
use Rattle.ps_model.specs.declared.world.SubRow.{SubRow}
use Rattle.ps_model.specs.declared.world.MessageRow.{MessageRow}
use Rattle.ps_model.specs.declared.world.MarkRow.{MarkRow}
use Rattle.ps_model.specs.Retention.{lapsed, expired_mark, caught_up_as, caught_up_mark, released_mark}
use Rattle.ps_model.specs.Modifying.{set_deadline}
use Rattle.ps_model.specs.Seeking.{fresh}
use Rattle.ps_model.specs.Choice.{is_ready}
use Rattle.ps_model.specs.Worlds.{new_mark, remark_all, remark_at, remark_row, sub_numbered, slot_of, slots_of, holds_of}
use Rattle.ps_model.specs.Forwarding.{dead_topic, Letter, enters, entered, add_messages, message_rows, letter_rows, forward}
use Rattle.ps_model.specs.Failing.{mark_after_failing, is_due}
use Rattle.ps_model.specs.Settling.{drop_snapshots, end_leases, ended_letters, expire, catch_up, expunge_world, settle}
use Rattle.ps_base.proofs.Lists.{each-always, each-both, each-map, each-filter, each-flat_map}
use Rattle.ps_sound.proofs.worlds.Entering.{each-enter_all}
use Rattle.ps_sound.proofs.phases.Adding.{rows-each}
use Rattle.ps_sound.proofs.phases.Letters.{letter-rows-each}
use Rattle.ps_sound.proofs.phases.CatchingUp.{caught-is}
use Rattle.ps_sound.proofs.phases.Expunging.{expired-is, released-is}

-- a fact of marks that outlasts expunging and other deadlines, and keeps a message from being handed out
pub record IsLasting (P : Mark → Type 0) : Type 0 where
  pub lapses : (mark : Mark) → P mark → P (lapsed mark)
  pub catches : (mark : Mark) → P mark → P (caught_up_as mark)
  pub extends : (deadline : ℕ) (mark : Mark) → P mark → P (set_deadline deadline mark)
  pub rests : (t : ℕ) (mark : Mark) → P mark → is_ready t mark ≡ false

-- the mark of the pair, where it is there
abbrev pub AtPair : (Mark → Type 0) → ℕ → ℕ → MarkRow → Type 0
AtPair P n k r = r.sub ≡ n → r.message ≡ k → P r.mark

-- of a subscription and a message that there were
pub record PairIs (P : Mark → Type 0) (n k : ℕ) (w : World) : Type 0 where
  pub sub : n < w.next_sub
  pub message : k < w.next_message
  pub marks : AllByRecursion (AtPair P n k) w.marks

module _ (P : Mark → Type 0) (n k : ℕ) where
  -- a pass that keeps the fact at the pair
  pub pair-remarked : (rule : SubRow → List Slot → Slot → Mark) (w : World) → AllByRecursion (λ (r : MarkRow). r.sub ≡ n → r.message ≡ k → P r.mark → P (new_mark rule w r (sub_numbered w r.sub))) w.marks → PairIs P n k w → PairIs P n k (remark_all rule w)
  pair-remarked rule w keeps p = record {
    sub = p.sub;
    message = p.message;
    marks = each-map (λ r. AtPair P n k r × (r.sub ≡ n → r.message ≡ k → P r.mark → P (new_mark rule w r (sub_numbered w r.sub)))) (AtPair P n k) (λ (r : MarkRow). remark_row r (new_mark rule w r (sub_numbered w r.sub))) w.marks
        (λ r q es ek. q.1 es ek (q.0 es ek)) (each-both (AtPair P n k) (λ (r : MarkRow). r.sub ≡ n → r.message ≡ k → P r.mark → P (new_mark rule w r (sub_numbered w r.sub))) w.marks p.marks keeps);
  }

  -- a change of one subscription that does
  pub pair-at : (m : ℕ) (rule : Slot → Mark) (w : World) → AllByRecursion (λ (r : MarkRow). r.sub ≡ m → r.sub ≡ n → r.message ≡ k → P r.mark → P (rule (slot_of w.messages r))) w.marks → AllByRecursion (AtPair P n k) w.marks → AllByRecursion (AtPair P n k) (remark_at m rule w).marks
  pair-at m rule w keeps h = each-map (λ r. AtPair P n k r × (r.sub ≡ m → r.sub ≡ n → r.message ≡ k → P r.mark → P (rule (slot_of w.messages r)))) (AtPair P n k) (λ (r : MarkRow). if nat_eq r.sub m then remark_row r (rule (slot_of w.messages r)) else r) w.marks
      (λ r q. cond_both (nat_eq r.sub m) (remark_row r (rule (slot_of w.messages r))) r (AtPair P n k) (λ e es ek. q.1 (eqb-true r.sub m e) es ek (q.0 es ek)) (λ _. q.0))
      (each-both (AtPair P n k) (λ (r : MarkRow). r.sub ≡ m → r.sub ≡ n → r.message ≡ k → P r.mark → P (rule (slot_of w.messages r))) w.marks h keeps)

  module _ (lasting : IsLasting P) where
    pub pair-expunged : (t : ℕ) (w : World) → PairIs P n k w → PairIs P n k (expunge_world t w)
    pair-expunged t w p =
        let a = pair-remarked expiring w (each-always (λ (r : MarkRow). r.sub ≡ n → r.message ≡ k → P r.mark → P (new_mark expiring w r (sub_numbered w r.sub))) w.marks (λ r _ _. live r (sub_numbered w r.sub))) p in
        let b = pair-remarked catching lived (each-always (λ (r : MarkRow). r.sub ≡ n → r.message ≡ k → P r.mark → P (new_mark catching lived r (sub_numbered w r.sub))) lived.marks (λ r _ _. catch r (sub_numbered w r.sub))) a in
        let c = pair-remarked releasing caught (each-always (λ (r : MarkRow). r.sub ≡ n → r.message ≡ k → P r.mark → P (new_mark releasing caught r (sub_numbered w r.sub))) caught.marks (λ r _ _. let_out r (sub_numbered w r.sub))) b in
        record { sub = c.sub; message = c.message; marks = c.marks }
      where
        expiring : SubRow → List Slot → Slot → Mark
        expiring sub slots = expired_mark t sub.config (holds_of w sub.topic)

        lived : World
        lived = expire t w

        catching : SubRow → List Slot → Slot → Mark
        catching sub = caught_up_mark sub.config.ordering

        caught : World
        caught = catch_up lived

        releasing : SubRow → List Slot → Slot → Mark
        releasing sub slots = released_mark t sub.config (holds_of w sub.topic)

        live : (r : MarkRow) (o : Option SubRow) → P r.mark → P (new_mark expiring w r o)
        live r None q = q
        live r (Some sub) q = expired-is P t sub.config (holds_of w sub.topic) (slot_of w.messages r) (λ _. q) (lasting.lapses r.mark q)

        catch : (r : MarkRow) (o : Option SubRow) → P r.mark → P (new_mark catching lived r o)
        catch r None q = q
        catch r (Some sub) q = caught-is P sub.config.ordering (slots_of lived sub.number) (slot_of w.messages r) q (lasting.catches r.mark q)

        let_out : (r : MarkRow) (o : Option SubRow) → P r.mark → P (new_mark releasing caught r o)
        let_out r None q = q
        let_out r (Some sub) q = released-is P t sub.config (holds_of w sub.topic) (slot_of w.messages r) (λ _. q) (λ _. lasting.lapses r.mark q)

  -- new messages are others
  pub pair-added : (w : World) (rows : List MessageRow) → AllByRecursion (λ (m : MessageRow). w.next_message ≤ m.number) rows → PairIs P n k w → PairIs P n k (add_messages rows w)
  pair-added w rows from p = record {
    sub = p.sub;
    message = omega (arith, p.message);
    marks = each-enter_all (AtPair P n k) (flat_map (λ (sub : SubRow). entered sub rows) w.subs) w.marks
        (each-flat_map (λ (sub : SubRow). Unit {0}) (AtPair P n k) (λ (sub : SubRow). entered sub rows) w.subs
        (λ sub _. each-map (λ (m : MessageRow). w.next_message ≤ m.number) (AtPair P n k) (λ (m : MessageRow). record { sub = sub.number; message = m.number; mark = fresh }) (filter (enters sub) rows) (λ m up _ ek. absurd (omega (arith, up, ek, p.message)))
        (each-filter (λ (m : MessageRow). w.next_message ≤ m.number) (λ (m : MessageRow). w.next_message ≤ m.number) (enters sub) rows (λ m _ e. e) from)) (each-always (λ (sub : SubRow). Unit {0}) w.subs (λ sub. tt)))
        p.marks;
  }

  pub pair-published : (w : World) (topic t : ℕ) (messages : List Message) → PairIs P n k w → PairIs P n k (add_messages (message_rows topic w.next_message t messages) w)
  pair-published w topic t messages = pair-added w (message_rows topic w.next_message t messages) (rows-each (λ (m : MessageRow). w.next_message ≤ m.number) topic w.next_message t messages (λ k m from below. from))

  pub pair-forwarded : (t : ℕ) (w : World) (letters : List Letter) → PairIs P n k w → PairIs P n k (forward t letters w)
  pair-forwarded t w letters = pair-added w (letter_rows w.next_message t letters) (letter-rows-each (λ (m : MessageRow). w.next_message ≤ m.number) (λ (l : Letter). Unit {0}) w.next_message t letters (λ k l from below _. from) (each-always (λ (l : Letter). Unit {0}) letters (λ l. tt)))

  -- settling, where the leases that end leave the fact at the pair
  pub pair-settled : (t : ℕ) (w : World) → IsLasting P
      → AllByRecursion (λ (r : MarkRow). r.sub ≡ n → r.message ≡ k → P r.mark → P (new_mark (λ sub. mark_after_failing (is_due t) t (is_some (dead_topic (drop_snapshots t w) sub)) sub.config) (drop_snapshots t w) r (sub_numbered w r.sub))) w.marks
      → PairIs P n k w → PairIs P n k (settle t w)
  pair-settled t w lasting keeps p = pair-expunged lasting t (forward t (ended_letters t shown) (end_leases t shown)) (pair-forwarded t (end_leases t shown) (ended_letters t shown)
      (pair-remarked (λ sub. mark_after_failing (is_due t) t (is_some (dead_topic shown sub)) sub.config) shown keeps (record { sub = p.sub; message = p.message; marks = p.marks })))
    where
      shown : World
      shown = drop_snapshots t w
