-- What is dealt with isn't handed out again without a seek.
use Rattle.std.proofs.Common.{ℕ, ◌≡◌, Bool, true, false, cond, ◌&&◌, ◌||◌, not, nat_eq, is_some, List, Option, Some, None, find, refl, sym, ◌∙◌, ap, subst, if◌then◌else◌}
use Rattle.std.specs.List.{list_any}
use Rattle.std.specs.Str.{bytes_eq}
use Rattle.std.proofs.lemmas.Bool.{and_parts, and_right, eqb-true, both_ways, false_from_ne_true, false≢true}
use Rattle.ps_base.specs.declared.ack_id.AckId.{AckId}
use Rattle.ps_model.specs.declared.command.Command.{Command}
use Rattle.ps_model.specs.declared.command.Command.TheVariants.{SeekTime, SeekSnapshot}
use Rattle.ps_model.specs.declared.command.Entry.{Entry}
use Rattle.ps_model.specs.declared.mark.Mark.{Mark}
use Rattle.ps_model.specs.declared.mark.Mark.TheVariants.{Backlog, Leased, Ahead, Done, Gone}
use Rattle.ps_model.specs.declared.mark.DoneCause.TheVariants.{Acknowledged}
use Rattle.ps_model.specs.declared.mark.Slot.{Slot}
use Rattle.ps_model.specs.declared.mark.Handed.{Handed}
use Rattle.ps_model.specs.declared.mark.Ticket.{Ticket}
use Rattle.ps_config.specs.declared.config.SubConfig.{SubConfig}
use Rattle.ps_model.specs.declared.reply.ReceivedMessage.{ReceivedMessage}
use Rattle.ps_model.specs.declared.world.World.{World}
use Rattle.ps_model.specs.declared.world.SubRow.{SubRow}
use Rattle.ps_model.specs.declared.world.MarkRow.{MarkRow}
use Rattle.ps_model.specs.Slots.{is_done, is_gone, failures_of, any_earlier}
use Rattle.ps_model.specs.Failing.{failed, fallen, mark_after_failing, is_due}
use Rattle.ps_model.specs.Retention.{lapsed, caught_up_as}
use Rattle.ps_model.specs.Modifying.{set_deadline, is_given_up, extended, extended_mark}
use Rattle.ps_model.specs.Acknowledging.{may_ack, fits, is_named, is_early, mark_after_ack}
use Rattle.ps_model.specs.Choice.{is_ready, is_waiting, is_deliverable, choice, handed}
use Rattle.ps_model.specs.Worlds.{sub_numbered, new_mark, remark_at, slot_of, slots_of, message_at}
use Rattle.ps_model.specs.Forwarding.{dead_topic}
use Rattle.ps_model.specs.Settling.{drop_snapshots, settle}
use Rattle.ps_model.specs.Pulling.{received, received_all}
use Rattle.ps_model.specs.Answering.{same_id, tickets_of, items_of}
use Rattle.ps_model.specs.Checks.{as_read}
use Rattle.ps_model.specs.Commands.{is_full}
use Rattle.ps_model.specs.Step.{moment, settled, step}
use Rattle.ps_model.specs.Laws.{is_numbered, seeks, hands_out}
use Rattle.ps_base.proofs.Lists.{each-always, each-then, each-map, any-none}
use Rattle.ps_sound.proofs.worlds.Earlier.{slots-of-rows}
use Rattle.ps_sound.proofs.phases.Ending.{failing-is}
use Rattle.ps_sound.proofs.commands.Lending.{each-chosen}
use Rattle.ps_sound.proofs.commands.Outcomes.{each-handed, outcome-keeps}
use Rattle.ps_sound.proofs.histories.Pairs.{IsLasting, AtPair, PairIs, pair-settled}
use Rattle.ps_sound.proofs.histories.PairSteps.{Spares, outcome-pair}

-- dealt with, and maybe gone
abbrev pub IsDealt : Mark → Type 0
IsDealt mark = (is_done mark || is_gone mark) ≡ true

-- a fact of marks that aren't dealt with can't hold of one that is
dealt-is : (P : Mark → Type 0) → ((cause : _) → P (Done cause)) → ((cause : _) → P (Gone cause)) → (mark : Mark) → IsDealt mark → P mark
dealt-is P done gone (Backlog f u l) e = absurd (false≢true e)
dealt-is P done gone (Leased f l d) e = absurd (false≢true e)
dealt-is P done gone (Ahead f) e = absurd (false≢true e)
dealt-is P done gone (Done c) e = done c
dealt-is P done gone (Gone c) e = gone c

pub dealt-lasting : IsLasting IsDealt
dealt-lasting = record {
  lapses = dealt-is (λ mark. IsDealt (lapsed mark)) (λ c. refl) (λ c. refl);
  catches = dealt-is (λ mark. IsDealt (caught_up_as mark)) (λ c. refl) (λ c. refl);
  extends = λ deadline. dealt-is (λ mark. IsDealt (set_deadline deadline mark)) (λ c. refl) (λ c. refl);
  rests = λ t. dealt-is (λ mark. is_ready t mark ≡ false) (λ c. refl) (λ c. refl);
}

pub dealt-failing : (fails : Slot → Bool) (t : ℕ) (forward : Bool) (config : SubConfig) (slots : List Slot) (s : Slot) → IsDealt s.mark → IsDealt (mark_after_failing fails t forward config slots s)
dealt-failing fails t forward config slots s e = failing-is IsDealt fails t forward config slots s (dealt-is (λ mark. IsDealt (failed t forward config mark)) (λ c. refl) (λ c. refl) s.mark e) (dealt-is (λ mark. IsDealt (fallen mark)) (λ c. refl) (λ c. refl) s.mark e) e

pub dealt-acknowledged : (config : SubConfig) (tickets : List Ticket) (slots : List Slot) (s : Slot) → IsDealt s.mark → IsDealt (mark_after_ack config tickets slots s)
dealt-acknowledged config tickets slots s e = subst IsDealt (sym (ap (λ b. cond b (if is_early config tickets slots s then if config.exactly_once then s.mark else Ahead (failures_of s.mark) else Done Acknowledged) s.mark) none)) e
  where
    none : is_named config.exactly_once tickets s ≡ false
    none = any-none (λ ticket. fits config.exactly_once ticket s) tickets (each-always (λ ticket. fits config.exactly_once ticket s ≡ false) tickets
        (λ ticket. and_right (nat_eq s.item.number ticket.number) (may_ack config.exactly_once ticket.lease s.mark) (dealt-is (λ mark. may_ack config.exactly_once ticket.lease mark ≡ false) (λ c. refl) (λ c. refl) s.mark e)))

-- whether a command seeks is read off the subscriptions, in either form of the command
pub seeks-same : (n : ℕ) (w v : World) (c : Command) → v.subs ≡ w.subs → seeks n v c ≡ seeks n w c
seeks-same n w v (SeekTime name time) e = ap (λ subs. is_numbered n (find (λ (r : SubRow). bytes_eq r.name name) subs)) e
seeks-same n w v (SeekSnapshot name snapshot) e = ap (λ subs. is_numbered n (find (λ (r : SubRow). bytes_eq r.name name) subs)) e
seeks-same n w v _ e = refl

pub seeks-read : (n : ℕ) (v : World) (c : Command) → seeks n v (as_read c) ≡ seeks n v c
seeks-read n v (SeekTime name time) = refl
seeks-read n v (SeekSnapshot name snapshot) = refl
seeks-read n v _ = refl

pub settled-subs : (t : ℕ) (w : World) → (settled t w).subs ≡ w.subs
settled-subs t w = at (is_full w)
  where
    at : (full : Bool) → (cond full w (settle t w)).subs ≡ w.subs
    at true = refl
    at false = refl

-- settling leaves what is dealt with
pub dealt-settled : (n k t : ℕ) (w : World) → PairIs IsDealt n k w → PairIs IsDealt n k (settled t w)
dealt-settled n k t w p = at (is_full w)
  where
    rule : SubRow → List Slot → Slot → Mark
    rule sub = mark_after_failing (is_due t) t (is_some (dead_topic (drop_snapshots t w) sub)) sub.config

    keeps : (r : MarkRow) (o : Option SubRow) → IsDealt r.mark → IsDealt (new_mark rule (drop_snapshots t w) r o)
    keeps r None e = e
    keeps r (Some sub) e = dealt-failing (is_due t) t (is_some (dead_topic (drop_snapshots t w) sub)) sub.config (slots_of (drop_snapshots t w) sub.number) (slot_of w.messages r) e

    at : (full : Bool) → PairIs IsDealt n k (cond full w (settle t w))
    at true = p
    at false = pair-settled IsDealt n k t w dealt-lasting (each-always (λ (r : MarkRow). r.sub ≡ n → r.message ≡ k → IsDealt r.mark → IsDealt (new_mark rule (drop_snapshots t w) r (sub_numbered w r.sub))) w.marks (λ r _ _. keeps r (sub_numbered w r.sub))) p

dealt-spares : (n k t : ℕ) (v : World) (c : Command) → seeks n v c ≡ false → Spares IsDealt n k t v c
dealt-spares n k t v c none = record {
  acks = λ name ids _ sub _. each-always (λ (r : MarkRow). r.sub ≡ sub.number → r.sub ≡ n → r.message ≡ k → IsDealt r.mark → IsDealt (mark_after_ack sub.config (tickets_of sub ids) (slots_of v sub.number) (slot_of v.messages r))) v.marks
      (λ r _ _ _. dealt-acknowledged sub.config (tickets_of sub ids) (slots_of v sub.number) (slot_of v.messages r));
  modifies = λ name items _ sub _. each-always (λ (r : MarkRow). r.sub ≡ sub.number → r.sub ≡ n → r.message ≡ k → IsDealt r.mark
      → IsDealt (mark_after_failing (is_given_up (items_of sub items)) t (is_some (dead_topic v sub)) sub.config (extended t (items_of sub items) (slots_of v sub.number)) (slot_of v.messages r))) (remark_at sub.number (extended_mark t (items_of sub items)) v).marks
      (λ r _ _ _. dealt-failing (is_given_up (items_of sub items)) t (is_some (dead_topic v sub)) sub.config (extended t (items_of sub items) (slots_of v sub.number)) (slot_of v.messages r));
  seeks_not = none;
}

-- a step that doesn't seek leaves what is dealt with
pub dealt-step : (n k : ℕ) (w : World) (e : Entry) → seeks n w e.command ≡ false → PairIs IsDealt n k w → PairIs IsDealt n k (step w e)
dealt-step n k w e none p =
    let t = moment w e.now in
    let v = settled t w in
    let q = outcome-pair IsDealt n k t v dealt-lasting (dealt-settled n k t w p) (as_read e.command) (dealt-spares n k t v (as_read e.command) (seeks-read n v e.command ∙ seeks-same n w v e.command (settled-subs t w) ∙ none)) in
    record { sub = q.sub; message = q.message; marks = q.marks }

-- the pair isn't among the messages of an answer
pub never-received : (P : Mark → Type 0) (n k t : ℕ) (v : World) (id : AckId) → IsLasting P → id.sub ≡ n → id.message ≡ k → PairIs P n k v → (sub : SubRow) (most budget : ℕ)
    → list_any (λ (r : ReceivedMessage). same_id r.id id) (received_all v sub (handed sub.next_lease (choice t sub.config.ordering most budget (slots_of v sub.number)))) ≡ false
never-received P n k t v id lasting es ek p sub most budget =
    any-none (λ (r : ReceivedMessage). same_id r.id id) (received_all v sub given) (each-map (λ (h : Handed). Other h.number) (λ (r : ReceivedMessage). same_id r.id id ≡ false) (λ (h : Handed). received sub h (message_at v.messages h.number)) given
    (λ h other. false_from_ne_true (same_id (received sub h (message_at v.messages h.number)).id id) (λ same.
    let a = and_parts (nat_eq sub.number id.sub) (nat_eq h.number id.message && nat_eq h.lease id.lease) same in
    let b = and_parts (nat_eq h.number id.message) (nat_eq h.lease id.lease) a.1 in
    other (eqb-true sub.number id.sub a.0 ∙ es) (eqb-true h.number id.message b.0 ∙ ek)))
    (each-handed Other sub.next_lease (choice t sub.config.ordering most budget (slots_of v sub.number)) (each-chosen Other t sub.config.ordering most budget (slots_of v sub.number)
    (slots-of-rows (λ (s : Slot). is_deliverable t sub.config.ordering (slots_of v sub.number) s ≡ true → Other s.item.number) v sub.number
    (each-then (AtPair P n k) (λ (r : MarkRow). r.sub ≡ sub.number → is_deliverable t sub.config.ordering (slots_of v sub.number) (slot_of v.messages r) ≡ true → Other r.message) v.marks
    (λ r q same e its at. both_ways (is_ready t r.mark) (lasting.rests t r.mark (q (same ∙ its) at)) (and_parts (is_ready t r.mark) (not (any_earlier sub.config.ordering (λ x. is_waiting t x.mark) (slots_of v sub.number) (slot_of v.messages r))) e).0) p.marks)))))
  where
    given : List Handed
    given = handed sub.next_lease (choice t sub.config.ordering most budget (slots_of v sub.number))

    Other : ℕ → Type 0
    Other j = sub.number ≡ n → j ≡ k → ⊥

-- what is dealt with isn't handed out
pub dealt-not-handed : (w : World) (e : Entry) (id : AckId) → PairIs IsDealt id.sub id.message w → hands_out id w e ≡ false
dealt-not-handed w e id p =
    let t = moment w e.now in
    let v = settled t w in
    (outcome-keeps t v (λ items. list_any (λ (r : ReceivedMessage). same_id r.id id) items ≡ false) refl (as_read e.command) (λ _. never-received IsDealt id.sub id.message t v id dealt-lasting refl refl (dealt-settled id.sub id.message t w p))).1
