-- What acknowledgements leave.
use Rattle.std.proofs.Common.{ℕ, ◌≡◌, Bool, true, false, nat_eq, List, Option, Some, None, refl, sym, subst, if◌then◌else◌}
use Rattle.std.proofs.lemmas.Bool.{and_right, cond_both, both_ways, false_from_ne_true}
use Rattle.ps_model.specs.declared.mark.Mark.{Mark}
use Rattle.ps_model.specs.declared.mark.Mark.TheVariants.{Backlog, Leased, Ahead, Done, Gone}
use Rattle.ps_model.specs.declared.mark.DoneCause.TheVariants.{Acknowledged}
use Rattle.ps_model.specs.declared.mark.Slot.{Slot}
use Rattle.ps_model.specs.declared.mark.Ticket.{Ticket}
use Rattle.ps_config.specs.declared.config.SubConfig.{SubConfig}
use Rattle.ps_model.specs.declared.world.World.{World}
use Rattle.ps_model.specs.declared.world.SubRow.{SubRow}
use Rattle.ps_model.specs.declared.world.MarkRow.{MarkRow}
use Rattle.ps_model.specs.Slots.{is_backlog, is_gone, is_leased, failures_of}
use Rattle.ps_model.specs.Acknowledging.{may_ack, fits, is_named, is_early, mark_after_ack}
use Rattle.ps_model.specs.Worlds.{sub_numbered, slot_of, slots_of, remark_at}
use Rattle.ps_model.specs.Sound.{MarkFits, FitsAt}
use Rattle.ps_base.proofs.Lists.{each-always, any-none}
use Rattle.ps_sound.proofs.worlds.Underway.{IsUnderway}
use Rattle.ps_sound.proofs.worlds.Marked.{at_sub, remark_at-marked, IsMild, calm-underway}

pub gone-may-not : (exactly_once : Bool) (lease : ℕ) (mark : Mark) → is_gone mark ≡ true → may_ack exactly_once lease mark ≡ false
gone-may-not exactly_once lease (Backlog f u l) e = absurd (cc (e))
gone-may-not exactly_once lease (Leased f l d) e = absurd (cc (e))
gone-may-not exactly_once lease (Ahead f) e = refl
gone-may-not exactly_once lease (Done c) e = refl
gone-may-not exactly_once lease (Gone c) e = refl

-- a ticket that is good for a message finds it not gone
named-lives : (exactly_once : Bool) (tickets : List Ticket) (s : Slot) → is_named exactly_once tickets s ≡ true → is_gone s.mark ≡ false
named-lives exactly_once tickets s named = false_from_ne_true (is_gone s.mark) (λ gone. both_ways (is_named exactly_once tickets s)
    (any-none (λ ticket. fits exactly_once ticket s) tickets (each-always (λ ticket. fits exactly_once ticket s ≡ false) tickets (λ ticket. and_right (nat_eq s.item.number ticket.number) (may_ack exactly_once ticket.lease s.mark) (gone-may-not exactly_once ticket.lease s.mark gone))))
    named)

-- a fact of the new mark that holds of each that it may be
acknowledged-is : (P : Mark → Type 0) (config : SubConfig) (tickets : List Ticket) (slots : List Slot) (s : Slot) → P s.mark → (is_named config.exactly_once tickets s ≡ true → P (Done Acknowledged))
    → (is_named config.exactly_once tickets s ≡ true → is_early config tickets slots s ≡ true → P (Ahead (failures_of s.mark))) → P (mark_after_ack config tickets slots s)
acknowledged-is P config tickets slots s same done ahead =
    cond_both (is_named config.exactly_once tickets s) (if is_early config tickets slots s then if config.exactly_once then s.mark else Ahead (failures_of s.mark) else Done Acknowledged) s.mark P
    (λ named. cond_both (is_early config tickets slots s) (if config.exactly_once then s.mark else Ahead (failures_of s.mark)) (Done Acknowledged) P
    (λ early. cond_both config.exactly_once s.mark (Ahead (failures_of s.mark)) P (λ _. same) (λ _. ahead named early)) (λ _. done named))
    (λ _. same)

-- the new mark of a row where the tickets acknowledge on one subscription
abbrev acknowledged_mark : World → SubRow → List Ticket → MarkRow → Mark
acknowledged_mark w sub tickets = at_sub sub.number (mark_after_ack sub.config tickets (slots_of w sub.number)) w.messages

new-is : (w : World) (sub : SubRow) (tickets : List Ticket) (P : Mark → Type 0) (r : MarkRow) → P r.mark → (is_named sub.config.exactly_once tickets (slot_of w.messages r) ≡ true → P (Done Acknowledged))
    → (is_named sub.config.exactly_once tickets (slot_of w.messages r) ≡ true → P (Ahead (failures_of r.mark))) → P (acknowledged_mark w sub tickets r)
new-is w sub tickets P r same done ahead = cond_both (nat_eq r.sub sub.number) (mark_after_ack sub.config tickets (slots_of w sub.number) (slot_of w.messages r)) r.mark P
    (λ _. acknowledged-is P sub.config tickets (slots_of w sub.number) (slot_of w.messages r) same done (λ named _. ahead named)) (λ _. same)

-- a mark that has no moment and no lease fits wherever the row's subscription is
pub resting-fits : (t : ℕ) (o : Option SubRow) (old new : Mark) → ((next : ℕ) → MarkFits t next new) → FitsAt t o old → FitsAt t o new
resting-fits t None old new k h = h
resting-fits t (Some q) old new k h = k q.next_lease

pub acknowledged-mild : (t : ℕ) (w : World) (sub : SubRow) (tickets : List Ticket) → IsMild t t w (acknowledged_mark w sub tickets)
acknowledged-mild t w sub tickets = record {
  fits = λ r h. new-is w sub tickets (λ mark. FitsAt t (sub_numbered w r.sub) mark) r h (λ _. resting-fits t (sub_numbered w r.sub) r.mark (Done Acknowledged) (λ next. tt) h)
      (λ _. resting-fits t (sub_numbered w r.sub) r.mark (Ahead (failures_of r.mark)) (λ next. tt) h);
  revives_none = λ r. new-is w sub tickets (λ mark. is_gone mark ≡ false → is_gone r.mark ≡ false) r (λ e. e) (λ named _. named-lives sub.config.exactly_once tickets (slot_of w.messages r) named) (λ named _. named-lives sub.config.exactly_once tickets (slot_of w.messages r) named);
  lends_none = λ r. new-is w sub tickets (λ mark. is_leased mark ≡ true → is_leased r.mark ≡ true) r (λ e. e) (λ _ e. absurd (cc (e))) (λ _ e. absurd (cc (e)));
}

pub acknowledge-underway : (t count : ℕ) (w : World) (sub : SubRow) (tickets : List Ticket) → IsUnderway t count w
    → IsUnderway t count (remark_at sub.number (mark_after_ack sub.config tickets (slots_of w sub.number)) w)
acknowledge-underway t count w sub tickets h =
    subst (IsUnderway t count) (sym (remark_at-marked sub.number (mark_after_ack sub.config tickets (slots_of w sub.number)) w))
    (calm-underway t count (acknowledged_mark w sub tickets) w (acknowledged-mild t w sub tickets)
    (λ r. new-is w sub tickets (λ mark. is_backlog mark ≡ true → is_backlog r.mark ≡ true) r (λ e. e) (λ _ e. absurd (cc (e))) (λ _ e. absurd (cc (e)))) h)
