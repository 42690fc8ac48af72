-- New marks on one subscription of a world and of its live part.
use Rattle.std.proofs.Common.{ℕ, ◌≡◌, ◌≢◌, ◌+◌, ◌*◌, Bool, true, false, not, nat_eq, nat_lt, is_some, List, [], ◌∷◌, Option, Some, None, map, filter, refl, sym, ◌∙◌, ap, subst, arith, inl, inr, if◌then◌else◌}
use Rattle.std.specs.List.{AllByRecursion}
use Rattle.std.proofs.lemmas.Bool.{not-false, and_right, eqb-true, both_ways, cond_both}
use Rattle.ps_config.specs.declared.config.SubConfig.{SubConfig}
use Rattle.ps_model.specs.declared.mark.Mark.{Mark}
use Rattle.ps_model.specs.declared.mark.Mark.TheVariants.{Backlog, Leased, Ahead, Done, Gone}
use Rattle.ps_model.specs.declared.mark.DoneCause.TheVariants.{Acknowledged}
use Rattle.ps_model.specs.declared.mark.Handed.{Handed}
use Rattle.ps_model.specs.declared.mark.Slot.{Slot}
use Rattle.ps_model.specs.declared.mark.Ticket.{Ticket}
use Rattle.ps_model.specs.declared.world.World.{World}
use Rattle.ps_model.specs.declared.world.SubRow.{SubRow}
use Rattle.ps_model.specs.declared.world.MarkRow.{MarkRow}
use Rattle.ps_model.specs.Slots.{is_gone, failures_of, is_out, remark}
use Rattle.ps_model.specs.Seeking.{fresh, sought_mark}
use Rattle.ps_model.specs.Retention.{lapsed}
use Rattle.ps_model.specs.Acknowledging.{fits, is_named, is_early, mark_after_ack}
use Rattle.ps_model.specs.Modifying.{names, seconds_for, set_deadline, extended_by, extended_mark, extended, is_zero, is_given_up}
use Rattle.ps_model.specs.Choice.{is_deliverable, choice, handed, lease_in, leased_as, lent_mark}
use Rattle.ps_model.specs.Worlds.{slot_of, slots_of, remark_at, put_sub}
use Rattle.ps_model.specs.Live.{live}
use Rattle.ps_model.specs.Sound.{Ordered, Precedes}
use Rattle.ps_base.proofs.Lists.{each-always, each-then, each-both, any-none}
use Rattle.ps_sound.proofs.worlds.Marked.{at_sub, remark_at-marked}
use Rattle.ps_sound.proofs.worlds.Earlier.{slots-of-rows}
use Rattle.ps_sound.proofs.phases.Resting.{lapsed-same}
use Rattle.ps_sound.proofs.commands.Lending.{each-chosen, deliverable-lives, handed-one}
use Rattle.ps_sound.proofs.living.Filters.{filter-map}
use Rattle.ps_sound.proofs.living.Slotwise.{row_lives, slot_lives, live_slots, KeptAt, AllKept, FailsGone, slot_of-live, fits-fails-gone}
use Rattle.ps_sound.proofs.living.Passes.{Like, IsPhase, StaysGone, marked-live, marked-kept}
use Rattle.ps_sound.proofs.living.Seen.{LeavesAt, Leaves, leaves-each, at-leaves}

-- where the rule leaves what is gone, what is gone doesn't matter to it
pub remark-live : (n : ℕ) (rule : Slot → Mark) (w : World) → AllByRecursion (LeavesAt n rule w.messages) w.marks → AllKept w → live (remark_at n rule (live w)) ≡ live (remark_at n rule w)
remark-live n rule w leaves h =
    ap live (remark_at-marked n rule (live w))
    ∙ marked-live (at_sub n rule w.messages) (at_sub n rule (live w).messages) w
    (each-then (LeavesAt n rule w.messages) (StaysGone (at_sub n rule w.messages)) w.marks (λ r k e. ap is_gone (at-leaves n rule w.messages r k e) ∙ e) leaves)
    (each-then (KeptAt w.messages) (λ (r : MarkRow). row_lives r ≡ true → at_sub n rule (live w).messages r ≡ at_sub n rule w.messages r) w.marks
    (λ r k lives. ap (λ s. if nat_eq r.sub n then rule s else r.mark) (slot_of-live w.messages r k lives)) h)
    ∙ sym (ap live (remark_at-marked n rule w))

pub remark-kept : (n : ℕ) (rule : Slot → Mark) (w : World) → AllByRecursion (LeavesAt n rule w.messages) w.marks → AllKept w → AllKept (remark_at n rule w)
remark-kept n rule w leaves h = subst AllKept (sym (remark_at-marked n rule w)) (marked-kept (at_sub n rule w.messages) w
    (each-then (LeavesAt n rule w.messages) (StaysGone (at_sub n rule w.messages)) w.marks (λ r k e. ap is_gone (at-leaves n rule w.messages r k e) ∙ e) leaves) h)

pub remark-phase : (n : ℕ) (rule : Slot → Mark) → Leaves rule → IsPhase (remark_at n rule)
remark-phase n rule k = record { reads = λ w h. remark-live n rule w (leaves-each n rule w k) h; keeps = λ w h. remark-kept n rule w (leaves-each n rule w k) h }

-- worlds with the same subscription put in
pub put-like : (row : SubRow) (a b : World) → Like a b → Like (put_sub row a) (put_sub row b)
put-like row a b h = record { same = ap (put_sub row) h.same; first = h.first; second = h.second }

-- ---- rules

pub lapsed-leaves : Leaves (λ s. lapsed s.mark)
lapsed-leaves s e = lapsed-same s.mark e

pub sought-leaves : (time : ℕ) → Leaves (sought_mark time)
sought-leaves time s e = ap (λ b. if b then s.mark else if nat_lt s.item.publish time then Done Acknowledged else fresh) e

pub acknowledged-leaves : (config : SubConfig) (tickets : List Ticket) (slots : List Slot) → Leaves (mark_after_ack config tickets slots)
acknowledged-leaves config tickets slots s e =
    ap (λ b. if b then if is_early config tickets slots s then if config.exactly_once then s.mark else Ahead (failures_of s.mark) else Done Acknowledged else s.mark) none
  where
    none : is_named config.exactly_once tickets s ≡ false
    none = any-none (λ ticket. fits config.exactly_once ticket s) tickets
        (each-always (λ ticket. fits config.exactly_once ticket s ≡ false) tickets (λ ticket. fits-fails-gone config.exactly_once ticket s (ap not e)))

gone-not-out : (lease : ℕ) (mark : Mark) → is_gone mark ≡ true → is_out lease mark ≡ false
gone-not-out lease (Backlog f u l) e = refl
gone-not-out lease (Leased f l d) e = absurd (cc (e))
gone-not-out lease (Ahead f) e = refl
gone-not-out lease (Done c) e = refl
gone-not-out lease (Gone c) e = refl

pub names-fails-gone : (ticket : Ticket) → FailsGone (names ticket)
names-fails-gone ticket s gone = and_right (nat_eq s.item.number ticket.number) (is_out ticket.lease s.mark) (gone-not-out ticket.lease s.mark (not-false (is_gone s.mark) gone))

gone-no-seconds : (items : List (Ticket × ℕ)) (s : Slot) (found : Option ℕ) → slot_lives s ≡ false → seconds_for items s found ≡ found
gone-no-seconds [] s found gone = refl
gone-no-seconds (x ∷ xs) s found gone = ap (λ b. seconds_for xs s (if b then Some x.1 else found)) (names-fails-gone x.0 s gone) ∙ gone-no-seconds xs s found gone

pub given-up-fails-gone : (items : List (Ticket × ℕ)) → FailsGone (is_given_up items)
given-up-fails-gone items s gone = ap is_zero (gone-no-seconds items s None gone)

pub extended-leaves : (t : ℕ) (items : List (Ticket × ℕ)) → Leaves (extended_mark t items)
extended-leaves t items s e = ap (extended_by t s.mark) (gone-no-seconds items s None (ap not e))

extended-gone : (t : ℕ) (mark : Mark) (o : Option ℕ) → is_gone (extended_by t mark o) ≡ is_gone mark
extended-gone t mark None = refl
extended-gone t mark (Some seconds) = cond_both (nat_eq seconds 0) mark (set_deadline (t + 1000 * seconds) mark) (λ m. is_gone m ≡ is_gone mark) (λ _. refl) (λ _. set mark)
  where
    deadline : ℕ
    deadline = t + 1000 * seconds

    set : (mark : Mark) → is_gone (set_deadline deadline mark) ≡ is_gone mark
    set (Backlog f u l) = refl
    set (Leased f l d) = refl
    set (Ahead f) = refl
    set (Done c) = refl
    set (Gone c) = refl

-- the slots that aren't gone, after new deadlines
pub extended-live : (t : ℕ) (items : List (Ticket × ℕ)) (slots : List Slot) → extended t items (live_slots slots) ≡ live_slots (extended t items slots)
extended-live t items slots =
    ap (λ (test : Slot → Bool). map (λ s. remark s (extended_mark t items s)) (filter test slots)) (λ i s. not (sym (extended-gone t s.mark (seconds_for items s None)) i))
    ∙ sym (filter-map slot_lives (λ s. remark s (extended_mark t items s)) slots)

-- ---- leases of a pull

each-one : {A : Type 0} (R P : A → A → Type 0) (xs : List A) → ((x : A) → P x x) → ((x y : A) → R x y → P x y) → ((x y : A) → R x y → P y x) → Ordered R xs → AllByRecursion (λ x. AllByRecursion (P x) xs) xs
each-one R P [] own to from h = tt
each-one R P (x ∷ xs) own to from h = (
  (own x, each-then (R x) (P x) xs (to x) h.0),
  each-then (λ y. R x y × AllByRecursion (P y) xs) (λ y. AllByRecursion (P y) (x ∷ xs)) xs (λ y p. (from x y p.0, p.1)) (each-both (R x) (λ y. AllByRecursion (P y) xs) xs h.0 (each-one R P xs own to from h.1)),
)

-- a row of the same subscription and message is gone too
abbrev GoneTogether : MarkRow → MarkRow → Type 0
GoneTogether r e = e.sub ≡ r.sub → e.message ≡ r.message → is_gone r.mark ≡ true → is_gone e.mark ≡ true

gone-together : (marks : List MarkRow) → Ordered Precedes marks → AllByRecursion (λ (r : MarkRow). AllByRecursion (GoneTogether r) marks) marks
gone-together marks h = each-one Precedes GoneTogether marks (λ r _ _ e. e) to from h
  where
    to : (x y : MarkRow) → Precedes x y → GoneTogether x y
    to x y (inl p) sub message = absurd (omega arith)
    to x y (inr p) sub message = absurd (omega arith)

    from : (x y : MarkRow) → Precedes x y → GoneTogether y x
    from x y (inl p) sub message = absurd (omega arith)
    from x y (inr p) sub message = absurd (omega arith)

-- a gone message isn't handed out
pub lent-leaves : (w : World) (n t lease most budget deadline : ℕ) (ordering : Bool) → Ordered Precedes w.marks → AllByRecursion (LeavesAt n (lent_mark deadline (handed lease (choice t ordering most budget (slots_of w n)))) w.messages) w.marks
lent-leaves w n t lease most budget deadline ordering order = each-then (λ (r : MarkRow). AllByRecursion (GoneTogether r) w.marks) (LeavesAt n (lent_mark deadline given) w.messages) w.marks each (gone-together w.marks order)
  where
    chosen : List Slot
    chosen = choice t ordering most budget (slots_of w n)

    given : List Handed
    given = handed lease chosen

    other : (r : MarkRow) → r.sub ≡ n → is_gone r.mark ≡ true → AllByRecursion (GoneTogether r) w.marks → AllByRecursion (λ (s : Slot). s.item.number ≢ r.message) chosen
    other r own gone p = each-chosen (λ k. k ≢ r.message) t ordering most budget (slots_of w n)
        (slots-of-rows (λ (s : Slot). is_deliverable t ordering (slots_of w n) s ≡ true → s.item.number ≢ r.message) w n
        (each-then (GoneTogether r) (λ (e : MarkRow). e.sub ≡ n → is_deliverable t ordering (slots_of w n) (slot_of w.messages e) ≡ true → e.message ≢ r.message) w.marks
        (λ e k same can at. both_ways (is_gone e.mark) (deliverable-lives t ordering (slots_of w n) (slot_of w.messages e) can) (k (same ∙ sym own) at gone)) p))

    each : (r : MarkRow) → AllByRecursion (GoneTogether r) w.marks → nat_eq r.sub n ≡ true → is_gone r.mark ≡ true → leased_as deadline r.mark (lease_in given r.message) ≡ r.mark
    each r p own gone = at (lease_in given r.message) refl
      where
        at : (o : Option ℕ) → lease_in given r.message ≡ o → leased_as deadline r.mark o ≡ r.mark
        at None e = refl
        at (Some l) e = absurd (handed-one (λ k. k ≢ r.message) lease chosen r.message (other r (eqb-true r.sub n own) gone p) (ap is_some e) refl)
