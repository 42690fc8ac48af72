-- A change of a world is seen in its live part.
use Rattle.std.proofs.Common.{ℕ, ◌≡◌, Bool, true, false, cond, nat_eq, List, [], ◌∷◌, map, filter, refl, sym, ◌∙◌, ap, subst, arith}
use Rattle.std.specs.List.{AllByRecursion}
use Rattle.std.proofs.lemmas.Bool.{not-false, and_left, both_ways}
use Rattle.ps_model.specs.declared.mark.Mark.{Mark}
use Rattle.ps_model.specs.declared.mark.Slot.{Slot}
use Rattle.ps_model.specs.declared.world.World.{World}
use Rattle.ps_model.specs.declared.world.SubRow.{SubRow}
use Rattle.ps_model.specs.declared.world.MarkRow.{MarkRow}
use Rattle.ps_model.specs.declared.world.MessageRow.{MessageRow}
use Rattle.ps_model.specs.Slots.{is_gone}
use Rattle.ps_model.specs.Same.{WorldParts, world_parts, same_world}
use Rattle.ps_model.specs.Worlds.{slot_of, remark_row, remark_all, remark_at, holds_of}
use Rattle.ps_model.specs.Forwarding.{Letter, forward}
use Rattle.ps_model.specs.Settling.{drop_snapshots, end_leases, ended_letters, expire, catch_up, release, is_wanted, let_go, expunge_world, settle}
use Rattle.ps_model.specs.Live.{live}
use Rattle.ps_model.proofs.SameLemmas.{same-world, world-same}
use Rattle.ps_base.proofs.Lists.{each-always, each-then}
use Rattle.ps_sound.proofs.worlds.Marked.{marked, at_sub, remark_at-marked}
use Rattle.ps_sound.proofs.phases.Resting.{forward-none}
use Rattle.ps_sound.proofs.living.Filters.{Fading, fading-same, fading-map, fading-then, fading-seen}
use Rattle.ps_sound.proofs.living.Slotwise.{row_lives}
use Rattle.ps_sound.proofs.living.Passes.{LeavesGone, newly, pass-leaves, ending, ending-leaves, expiring, expiring-leaves, catching, catching-leaves, releasing, releasing-leaves}

-- where the live parts are the same but for moment and count, the worlds are
abbrev pub SeenIn : World → World → Type 0
SeenIn a b = world_parts (live a) ≡ world_parts (live b) → world_parts a ≡ world_parts b

-- the second is the first after changes that leave what is gone
pub record Fades (a b : World) : Type 0 where
  pub messages : Fading (λ (r : MessageRow). r.kept) a.messages b.messages
  pub marks : Fading row_lives a.marks b.marks

pub fades-then : (a b c : World) → Fades a b → Fades b c → Fades a c
fades-then a b c h k = record {
  messages = fading-then (λ (r : MessageRow). r.kept) a.messages b.messages c.messages h.messages k.messages;
  marks = fading-then row_lives a.marks b.marks c.marks h.marks k.marks;
}

pub fades-seen : (a b : World) → Fades a b → SeenIn a b
fades-seen a b h e = λ i. ((e i).0, ((e i).1.0, ((e i).1.1.0, ((e i).1.1.1.0, ((e i).1.1.1.1.0, ((e i).1.1.1.1.1.0, ((e i).1.1.1.1.1.1.0, (messages i, marks i))))))))
  where
    messages : a.messages ≡ b.messages
    messages = fading-seen (λ (r : MessageRow). r.kept) a.messages b.messages h.messages (λ i. (e i).1.1.1.1.1.1.1.0)

    marks : a.marks ≡ b.marks
    marks = fading-seen row_lives a.marks b.marks h.marks (λ i. (e i).1.1.1.1.1.1.1.1)

-- the live part of the parts is the part of the live part
live-parts : (a b : World) → world_parts a ≡ world_parts b → world_parts (live a) ≡ world_parts (live b)
live-parts a b e = λ i. (
  (e i).0,
  (
    (e i).1.0,
    (
      (e i).1.1.0,
      (
        (e i).1.1.1.0,
        (
          (e i).1.1.1.1.0,
          (
            (e i).1.1.1.1.1.0,
            (
              (e i).1.1.1.1.1.1.0,
              (filter (λ (r : MessageRow). r.kept) (e i).1.1.1.1.1.1.1.0, filter row_lives (e i).1.1.1.1.1.1.1.1),
            ),
          ),
        ),
      ),
    ),
  ),
)

-- Between worlds of the same live parts, changes that are seen are there in both or in neither.
pub same-seen : (a b c d : World) → live a ≡ live c → live b ≡ live d → SeenIn a b → SeenIn c d → same_world a b ≡ same_world c d
same-seen a b c d first second seen seen' = both (same_world a b) (same_world c d) refl refl
  where
    over : (x y u v : World) → live x ≡ live u → live y ≡ live v → SeenIn u v → same_world x y ≡ true → same_world u v ≡ true
    over x y u v p q k e = world-same u v (k (sym (ap world_parts p) ∙ live-parts x y (same-world x y e) ∙ ap world_parts q))

    both : (m n : Bool) → same_world a b ≡ m → same_world c d ≡ n → m ≡ n
    both true true em en = refl
    both false false em en = refl
    both true false em en = absurd (both_ways (same_world c d) en (over a b c d first second seen' em))
    both false true em en = absurd (both_ways (same_world a b) em (over c d a b (sym first) (sym second) seen en))

-- ---- phases

pub pass-fades : (rule : SubRow → List Slot → Slot → Mark) (w : World) → LeavesGone rule → Fades w (remark_all rule w)
pass-fades rule w leaves = record {
  messages = fading-same (λ (r : MessageRow). r.kept) w.messages;
  marks = fading-map row_lives (λ (r : MarkRow). remark_row r (newly rule w r)) w.marks
      (each-always (λ (r : MarkRow). row_lives r ≡ false → r ≡ remark_row r (newly rule w r)) w.marks (λ r e. sym (ap (remark_row r) (pass-leaves rule w leaves r (not-false (is_gone r.mark) e)))));
}

let_go-fades : (t : ℕ) (v w : World) → Fades w (record w { messages = map (let_go t v) w.messages })
let_go-fades t v w = record {
  messages = fading-map (λ (r : MessageRow). r.kept) (let_go t v) w.messages
      (each-always (λ (m : MessageRow). m.kept ≡ false → m ≡ let_go t v m) w.messages (λ m e. ap (λ b. record m { kept = b }) (e ∙ sym (and_left m.kept (is_wanted t v.marks (holds_of v m.topic) m) e))));
  marks = fading-same row_lives w.marks;
}

pub expunge-fades : (t : ℕ) (w : World) → Fades w (expunge_world t w)
expunge-fades t w =
    fades-then w (expire t w) (expunge_world t w) (pass-fades (expiring t w) w (expiring-leaves t w))
    (fades-then (expire t w) (catch_up (expire t w)) (expunge_world t w) (pass-fades catching (expire t w) catching-leaves)
    (fades-then (catch_up (expire t w)) gone (expunge_world t w) (pass-fades (releasing t (catch_up (expire t w))) (catch_up (expire t w)) (releasing-leaves t (catch_up (expire t w))))
    (let_go-fades t gone gone)))
  where
    gone : World
    gone = release t (catch_up (expire t w))

-- letters are seen, and so is what fades
pub forwarded-seen : (t : ℕ) (letters : List Letter) (w made : World) → w.next_message ≡ made.next_message → Fades w made → SeenIn w (expunge_world t (forward t letters made))
forwarded-seen t [] w made same h = fades-seen w (expunge_world t (forward t [] made))
    (subst (λ v. Fades w (expunge_world t v)) (sym (forward-none t made)) (fades-then w made (expunge_world t made) h (expunge-fades t made)))
forwarded-seen t (l ∷ ls) w made same h = λ e.
    let more : w.next_message ≡ (forward t (l ∷ ls) made).next_message = ap (λ (p : WorldParts). p.1.1.1.0) e in
    absurd (omega (arith, more, same))

pub settle-seen : (t : ℕ) (w : World) → SeenIn w (settle t w)
settle-seen t w = forwarded-seen t (ended_letters t v) w (end_leases t v) refl (record { messages = ends.messages; marks = ends.marks })
  where
    v : World
    v = drop_snapshots t w

    ends : Fades v (end_leases t v)
    ends = pass-fades (ending t v) v (ending-leaves t v)

-- ---- one subscription

-- the rule leaves the mark of a row that is gone
abbrev pub LeavesAt : ℕ → (Slot → Mark) → List MessageRow → MarkRow → Type 0
LeavesAt n rule messages r = nat_eq r.sub n ≡ true → is_gone r.mark ≡ true → rule (slot_of messages r) ≡ r.mark

-- a rule that leaves what is gone
abbrev pub Leaves : (Slot → Mark) → Type 0
Leaves rule = (s : Slot) → is_gone s.mark ≡ true → rule s ≡ s.mark

pub leaves-each : (n : ℕ) (rule : Slot → Mark) (w : World) → Leaves rule → AllByRecursion (LeavesAt n rule w.messages) w.marks
leaves-each n rule w k = each-always (LeavesAt n rule w.messages) w.marks (λ r _ e. k (slot_of w.messages r) e)

pub at-leaves : (n : ℕ) (rule : Slot → Mark) (messages : List MessageRow) (r : MarkRow) → LeavesAt n rule messages r → is_gone r.mark ≡ true → at_sub n rule messages r ≡ r.mark
at-leaves n rule messages r k e = at (nat_eq r.sub n) refl
  where
    at : (b : Bool) → nat_eq r.sub n ≡ b → cond b (rule (slot_of messages r)) r.mark ≡ r.mark
    at true eb = k eb e
    at false eb = refl

pub marked-fades : (new : MarkRow → Mark) (w : World) → AllByRecursion (λ (r : MarkRow). is_gone r.mark ≡ true → new r ≡ r.mark) w.marks → Fades w (marked new w)
marked-fades new w h = record {
  messages = fading-same (λ (r : MessageRow). r.kept) w.messages;
  marks = fading-map row_lives (λ (r : MarkRow). remark_row r (new r)) w.marks
      (each-then (λ (r : MarkRow). is_gone r.mark ≡ true → new r ≡ r.mark) (λ (r : MarkRow). row_lives r ≡ false → r ≡ remark_row r (new r)) w.marks (λ r k e. sym (ap (remark_row r) (k (not-false (is_gone r.mark) e)))) h);
}

pub remark-fades : (n : ℕ) (rule : Slot → Mark) (w : World) → AllByRecursion (LeavesAt n rule w.messages) w.marks → Fades w (remark_at n rule w)
remark-fades n rule w h = subst (Fades w) (sym (remark_at-marked n rule w)) (marked-fades (at_sub n rule w.messages) w
    (each-then (LeavesAt n rule w.messages) (λ (r : MarkRow). is_gone r.mark ≡ true → at_sub n rule w.messages r ≡ r.mark) w.marks (λ r k e. at-leaves n rule w.messages r k e) h))
