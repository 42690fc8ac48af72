-- Worlds whose marks are changed in place, row by row.
use Rattle.std.proofs.Common.{ℕ, ◌≡◌, ◌+◌, ◌-◌, ◌*◌, ◌≤◌, Bool, true, false, cond, nat_eq, List, map, Option, Some, None, refl, arith, if◌then◌else◌}
use Rattle.std.specs.List.{AllByRecursion}
use Rattle.std.proofs.lemmas.Bool.{false_from_ne_true, true_from_ne_false, both_ways}
use Rattle.ps_model.specs.declared.mark.Mark.{Mark}
use Rattle.ps_model.specs.declared.mark.Slot.{Slot}
use Rattle.ps_model.specs.declared.world.World.{World}
use Rattle.ps_model.specs.declared.world.SubRow.{SubRow}
use Rattle.ps_model.specs.declared.world.MarkRow.{MarkRow}
use Rattle.ps_model.specs.declared.world.MessageRow.{MessageRow}
use Rattle.ps_model.specs.Slots.{is_gone, is_leased, is_backlog}
use Rattle.ps_model.specs.Worlds.{remark_row, remark_at, slot_of, sub_numbered, message_at}
use Rattle.ps_model.specs.Sound.{Precedes, IsNamed, WantedAt, IsWanted, FitsAt, leases_alive}
use Rattle.ps_base.proofs.Lists.{each-always, each-map, map-same}
use Rattle.ps_sound.proofs.worlds.Lists.{ordered-map}
use Rattle.ps_sound.proofs.worlds.Counts.{tally-map-less}
use Rattle.ps_sound.proofs.worlds.Underway.{InOrder, AllInOrder, IsGoneAt, MarksStand, IsUnderway, snaps-beside}

abbrev pub marked : (MarkRow → Mark) → World → World
marked new w = record w { marks = map (λ (r : MarkRow). remark_row r (new r)) w.marks }

-- the new mark of a row where a rule goes over one subscription
abbrev pub at_sub : ℕ → (Slot → Mark) → List MessageRow → MarkRow → Mark
at_sub n rule messages r = if nat_eq r.sub n then rule (slot_of messages r) else r.mark

pub remark_at-marked : (n : ℕ) (rule : Slot → Mark) (w : World) → remark_at n rule w ≡ marked (at_sub n rule w.messages) w
remark_at-marked n rule w = λ i. record w { marks = same i }
  where
    row : (b : Bool) (r : MarkRow) (mark : Mark) → cond b (remark_row r mark) r ≡ remark_row r (cond b mark r.mark)
    row true r mark = refl
    row false r mark = refl

    same : (remark_at n rule w).marks ≡ (marked (at_sub n rule w.messages) w).marks
    same = map-same (λ (r : MarkRow). if nat_eq r.sub n then remark_row r (rule (slot_of w.messages r)) else r) (λ (r : MarkRow). remark_row r (at_sub n rule w.messages r)) w.marks
        (each-always _ w.marks (λ r. row (nat_eq r.sub n) r (rule (slot_of w.messages r))))

-- new marks that fit, with none brought back from the gone ones and none lent
pub record IsMild (before t : ℕ) (w : World) (new : MarkRow → Mark) : Type 0 where
  pub fits : (r : MarkRow) → FitsAt before (sub_numbered w r.sub) r.mark → FitsAt t (sub_numbered w r.sub) (new r)
  pub revives_none : (r : MarkRow) → is_gone (new r) ≡ false → is_gone r.mark ≡ false
  pub lends_none : (r : MarkRow) → is_leased (new r) ≡ true → is_leased r.mark ≡ true

-- what is not gone is wanted as before, where nothing gone is brought back
pub marked-wanted : (new : MarkRow → Mark) (w : World) → ((r : MarkRow) → is_gone (new r) ≡ false → is_gone r.mark ≡ false) → AllByRecursion (IsWanted w) w.marks → AllByRecursion (IsWanted (marked new w)) (marked new w).marks
marked-wanted new w k h = each-map (IsWanted w) (IsWanted (marked new w)) (λ (r : MarkRow). remark_row r (new r)) w.marks (λ r p. at r (sub_numbered w r.sub) p) h
  where
    at : (r : MarkRow) (o : Option SubRow) → WantedAt w (message_at w.messages r.message) o r.mark → WantedAt w (message_at w.messages r.message) o (new r)
    at r None p = p
    at r (Some sub) p = λ lives. p (k r lives)

-- where the change keeps each pair in order, all are
pub marked-in_order : (new : MarkRow → Mark) (w : World) → ((e r : MarkRow) → InOrder w e r → InOrder (marked new w) (remark_row e (new e)) (remark_row r (new r))) → AllInOrder w → AllInOrder (marked new w)
marked-in_order new w k h =
    let f : MarkRow → MarkRow = λ r. remark_row r (new r) in
    each-map (λ (r : MarkRow). AllByRecursion (λ (e : MarkRow). InOrder w e r) w.marks) (λ (r : MarkRow). AllByRecursion (λ (e : MarkRow). InOrder (marked new w) e r) (marked new w).marks) f w.marks
    (λ r p. each-map (λ (e : MarkRow). InOrder w e r) (λ (e : MarkRow). InOrder (marked new w) e (f r)) f w.marks (λ e q. k e r q) p) h

-- a change that makes none leased and none wait
pub calm-in_order : (new : MarkRow → Mark) (w : World) → ((r : MarkRow) → is_leased (new r) ≡ true → is_leased r.mark ≡ true) → ((r : MarkRow) → is_backlog (new r) ≡ true → is_backlog r.mark ≡ true) → AllInOrder w → AllInOrder (marked new w)
calm-in_order new w lends waits = marked-in_order new w (λ e r q same early leased. false_from_ne_true (is_backlog (new e)) (λ is. both_ways (is_backlog e.mark) (q same early (lends r leased)) (waits e is)))

pub marked-fewer : (new : MarkRow → Mark) (w : World) → ((r : MarkRow) → is_leased (new r) ≡ true → is_leased r.mark ≡ true) → leases_alive (marked new w) ≤ leases_alive w
marked-fewer new w k = tally-map-less (λ (r : MarkRow). is_leased r.mark) (λ (r : MarkRow). is_leased r.mark) (λ (r : MarkRow). remark_row r (new r)) w.marks k

pub marked-stand : (before t count : ℕ) (new : MarkRow → Mark) (w : World) → IsMild before t w new → AllInOrder (marked new w) → MarksStand before count w → MarksStand t count (marked new w)
marked-stand before t count new w k order h =
    let f : MarkRow → MarkRow = λ r. remark_row r (new r) in
    record {
      ascend = ordered-map Precedes Precedes f w.marks (λ a b p. p) h.ascend;
      named = each-map (IsNamed w) (IsNamed (marked new w)) f w.marks (λ r p. p) h.named;
      fit = each-map (λ (r : MarkRow). FitsAt before (sub_numbered w r.sub) r.mark) (λ (r : MarkRow). FitsAt t (sub_numbered w r.sub) r.mark) f w.marks k.fits h.fit;
      wanted = marked-wanted new w k.revives_none h.wanted;
      in_order = order;
      gone = each-map (λ (r : MarkRow). IsGoneAt (sub_numbered w r.sub) r.mark) (λ (r : MarkRow). IsGoneAt (sub_numbered w r.sub) r.mark) f w.marks (λ r p. gone r (sub_numbered w r.sub) p) h.gone;
      few = few;
    }
  where
    gone : (r : MarkRow) (o : Option SubRow) → IsGoneAt o r.mark → IsGoneAt o (new r)
    gone r None p = tt
    gone r (Some sub) p = λ detached. true_from_ne_false (is_gone (new r)) (λ lives. both_ways (is_gone r.mark) (k.revives_none r lives) (p detached))

    fewer : leases_alive (marked new w) ≤ leases_alive w
    fewer = marked-fewer new w k.lends_none

    few : (w.next_message - 1) + leases_alive (marked new w) ≤ 1000 * count
    few = omega (arith, h.few, fewer)

pub marked-underway : (t count : ℕ) (new : MarkRow → Mark) (w : World) → IsMild t t w new → AllInOrder (marked new w) → IsUnderway t count w → IsUnderway t count (marked new w)
marked-underway t count new w k order h = record {
  moment = h.moment;
  topics = h.topics;
  subs = h.subs;
  snaps = snaps-beside t count count w w.next_topic w.next_sub w.now w.count w.topics w.subs (marked new w).marks (omega arith) (omega arith) h.snaps;
  messages = h.messages;
  marks = marked-stand t t count new w k order h.marks;
}

-- a mild change that makes none wait
pub calm-underway : (t count : ℕ) (new : MarkRow → Mark) (w : World) → IsMild t t w new → ((r : MarkRow) → is_backlog (new r) ≡ true → is_backlog r.mark ≡ true) → IsUnderway t count w → IsUnderway t count (marked new w)
calm-underway t count new w k waits h = marked-underway t count new w k (calm-in_order new w k.lends_none waits h.marks.in_order) h
