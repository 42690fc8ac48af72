-- What is handed out is out under its lease, and the law on handing out twice.
use Rattle.std.proofs.Common.{ℕ, ◌≡◌, ◌≢◌, ◌+◌, ◌*◌, ◌<◌, Bool, true, false, cond, ◌&&◌, ◌||◌, nat_eq, is_some, List, [], ◌∷◌, ◌++◌, Option, Some, None, unwrap_or, map, length, refl, sym, ◌∙◌, ap, subst, arith, inl, if◌then◌else◌}
use Rattle.std.specs.List.{list_any}
use Rattle.std.specs.Str.{bytes_eq}
use Rattle.std.proofs.lemmas.Bool.{cond_both, and_left, or_parts, eqb-true, eq-eqb, ne_eqb, both_ways, true_from_ne_false, false≢true}
use Rattle.ps_base.specs.declared.ack_id.AckId.{AckId}
use Rattle.ps_base.specs.declared.reason.Reason.{Reason}
use Rattle.ps_base.specs.declared.refusal.Refusal.TheVariants.{Exhausted}
use Rattle.ps_model.specs.declared.command.Command.{Command}
use Rattle.ps_model.specs.declared.command.Command.TheVariants.{Pull}
use Rattle.ps_model.specs.declared.command.Entry.{Entry}
use Rattle.ps_model.specs.declared.mark.Slot.{Slot}
use Rattle.ps_model.specs.declared.mark.Handed.{Handed}
use Rattle.ps_model.specs.declared.reply.ReceivedMessage.{ReceivedMessage}
use Rattle.ps_model.specs.declared.world.World.{World}
use Rattle.ps_model.specs.declared.world.SubRow.{SubRow}
use Rattle.ps_model.specs.declared.world.MarkRow.{MarkRow}
use Rattle.ps_model.specs.declared.world.MessageRow.{MessageRow}
use Rattle.ps_model.specs.Slots.{is_out}
use Rattle.ps_model.specs.Choice.{is_deliverable, deliverable, choice, handed, lease_in, leased_as, lent_mark}
use Rattle.ps_model.specs.Worlds.{sub_named, message_numbered, message_at, remark_at, remark_row, put_sub, slot_of, slots_of}
use Rattle.ps_model.specs.Forwarding.{forward}
use Rattle.ps_model.specs.Settling.{settle}
use Rattle.ps_model.specs.Pulling.{received, pull_from, pull_at}
use Rattle.ps_model.specs.Answering.{same_id}
use Rattle.ps_model.specs.Outcomes.{Outcome, refuses, reply_in}
use Rattle.ps_model.specs.Checks.{argument_fault, as_read}
use Rattle.ps_model.specs.Commands.{is_full, checked, outcome}
use Rattle.ps_model.specs.Step.{moment, settled, finished, step}
use Rattle.ps_model.specs.History.{IsHistory, after}
use Rattle.ps_model.specs.Sound.{Ordered, IsNamed, IsSound}
use Rattle.ps_model.specs.Laws.{HandedOutOnce, hands_out, items_in, some_step, may_end}
use Rattle.ps_base.proofs.Lists.{each-always, each-then, each-map, each-found, found-passes, any-none}
use Rattle.ps_sound.proofs.worlds.Earlier.{slots-of-rows}
use Rattle.ps_sound.proofs.worlds.Underway.{IsFinished}
use Rattle.ps_sound.proofs.commands.Lending.{each-chosen, handed-one}
use Rattle.ps_sound.proofs.commands.Choosing.{slots-ascend}
use Rattle.ps_sound.proofs.commands.Outcomes.{is_pull, outcome-keeps, first-ordered, each-handed}
use Rattle.ps_sound.proofs.histories.Pairs.{AtPair, PairIs, pair-expunged, pair-forwarded}
use Rattle.ps_sound.proofs.histories.HandedOnce.{OutOrDealt, out-lasting}
use Rattle.ps_sound.proofs.histories.HandedLaw.{entry-later, entry-last, out-step, out-not-handed}
use Rattle.ps_sound.proofs.phases.Stepping.{accepted-room, sound-settled, stays_sound}
use Rattle.ps_sound.proofs.worlds.Lists.{ordered-filter}

-- what was handed out under a lease is found under it
handed-lease : (lease : ℕ) (xs : List Slot) (k own : ℕ) → Ordered (λ (a b : Slot). a.item.number < b.item.number) xs → list_any (λ (h : Handed). nat_eq h.number k && nat_eq h.lease own) (handed lease xs) ≡ true → lease_in (handed lease xs) k ≡ Some own
handed-lease lease [] k own o e = absurd (false≢true e)
handed-lease lease (s ∷ ss) k own o e = cases (nat_eq s.item.number k) refl (nat_eq lease own) refl e (handed-lease (lease + 1) ss k own o.1)
  where
    none : nat_eq s.item.number k ≡ true → list_any (λ (h : Handed). nat_eq h.number k && nat_eq h.lease own) (handed (lease + 1) ss) ≡ false
    none same = any-none (λ (h : Handed). nat_eq h.number k && nat_eq h.lease own) (handed (lease + 1) ss) (each-then (λ (h : Handed). s.item.number < h.number) (λ (h : Handed). (nat_eq h.number k && nat_eq h.lease own) ≡ false) (handed (lease + 1) ss)
        (λ h up. let ne : h.number ≢ k = omega (arith, up, eqb-true s.item.number k same) in and_left (nat_eq h.number k) (nat_eq h.lease own) (ne_eqb h.number k ne)) (each-handed (λ n. s.item.number < n) (lease + 1) ss o.0))

    cases : (b : Bool) → nat_eq s.item.number k ≡ b → (c : Bool) → nat_eq lease own ≡ c → ((b && c) || list_any (λ (h : Handed). nat_eq h.number k && nat_eq h.lease own) (handed (lease + 1) ss)) ≡ true
        → (list_any (λ (h : Handed). nat_eq h.number k && nat_eq h.lease own) (handed (lease + 1) ss) ≡ true → lease_in (handed (lease + 1) ss) k ≡ Some own) → cond b (Some lease) (lease_in (handed (lease + 1) ss) k) ≡ Some own
    cases true eb true ec e rest = ap Some (eqb-true lease own ec)
    cases true eb false ec e rest = absurd (both_ways (list_any (λ (h : Handed). nat_eq h.number k && nat_eq h.lease own) (handed (lease + 1) ss)) (none eb) e)
    cases false eb c ec e rest = rest e

-- a test of what a view shows
any-map : {A B : Type 0} (test : B → Bool) (g : A → B) (xs : List A) → list_any test (map g xs) ≡ list_any (λ x. test (g x)) xs
any-map test g [] = refl
any-map test g (x ∷ xs) = ap (λ b. test (g x) || b) (any-map test g xs)

-- where each member that passes gives a fact, and fails it where that isn't so
any-of-both : {A : Type 0} (a : Bool) (test : A → Bool) (xs : List A) → list_any (λ x. a && test x) xs ≡ true → (a ≡ true) × (list_any test xs ≡ true)
any-of-both true test xs e = (refl, e)
any-of-both {A} false test xs e = absurd (both_ways (list_any (λ (x : A). false) xs) (any-none (λ (x : A). false) xs (each-always (λ (x : A). false ≡ false) xs (λ x. refl))) e)

-- A pull that hands the message out under the lease.
module _ (t count : ℕ) (v : World) (id : AckId) (fin : IsFinished t count v) where
  -- what is to be shown of an outcome
  abbrev Gives : Outcome → Type 0
  Gives o = list_any (λ (r : ReceivedMessage). same_id r.id id) (items_in (reply_in o)) ≡ true → PairIs (OutOrDealt id.lease) id.sub id.message (finished t v o)

  pulled : (name : List ℕ) (sub : SubRow) (most budget seconds : ℕ) (detached : Bool) → sub_named v name ≡ Some sub → Gives (pull_from v t sub most budget seconds detached)
  pulled name sub most budget seconds true found e = absurd (false≢true e)
  pulled name sub most budget seconds false found e =
      pair-expunged (OutOrDealt id.lease) id.sub id.message (out-lasting id.lease) t (forward t [] made) (pair-forwarded (OutOrDealt id.lease) id.sub id.message t made [] here)
    where
      out : List Slot
      out = choice t sub.config.ordering most budget (slots_of v sub.number)

      given : List Handed
      given = handed sub.next_lease out

      made : World
      made = put_sub (record sub { next_lease = sub.next_lease + length given }) (remark_at sub.number (lent_mark (t + 1000 * seconds) given) v)

      both : (nat_eq sub.number id.sub ≡ true) × (list_any (λ (h : Handed). nat_eq h.number id.message && nat_eq h.lease id.lease) given ≡ true)
      both = any-of-both (nat_eq sub.number id.sub) (λ (h : Handed). nat_eq h.number id.message && nat_eq h.lease id.lease) given
          (sym (any-map (λ (r : ReceivedMessage). same_id r.id id) (λ (h : Handed). received sub h (message_at v.messages h.number)) given) ∙ e)

      its : sub.number ≡ id.sub
      its = eqb-true sub.number id.sub both.0

      under : lease_in given id.message ≡ Some id.lease
      under = handed-lease sub.next_lease out id.message id.lease
          (first-ordered (λ (a b : Slot). a.item.number < b.item.number) most budget (deliverable t sub.config.ordering (slots_of v sub.number))
          (ordered-filter (λ (a b : Slot). a.item.number < b.item.number) (is_deliverable t sub.config.ordering (slots_of v sub.number)) (slots_of v sub.number) (slots-ascend v sub.number fin.underway.marks.ascend))) both.1

      below : id.message < v.next_message
      below = handed-one (λ j. j < v.next_message) sub.next_lease out id.message (each-chosen (λ j. j < v.next_message) t sub.config.ordering most budget (slots_of v sub.number)
          (slots-of-rows (λ (s : Slot). is_deliverable t sub.config.ordering (slots_of v sub.number) s ≡ true → s.item.number < v.next_message) v sub.number
          (each-then (IsNamed v) (λ (r : MarkRow). r.sub ≡ sub.number → is_deliverable t sub.config.ordering (slots_of v sub.number) (slot_of v.messages r) ≡ true → r.message < v.next_message) v.marks (λ r q _ _. of_message r (message_numbered v.messages r.message) refl q.1) fin.underway.marks.named)))
          (ap is_some under)
        where
          of_message : (r : MarkRow) (o : Option MessageRow) → message_numbered v.messages r.message ≡ o → is_some o ≡ true → r.message < v.next_message
          of_message r None eo some = absurd (false≢true some)
          of_message r (Some m) eo some =
              let up : m.number < v.next_message = each-found (λ (x : MessageRow). x.number < v.next_message) (λ (x : MessageRow). nat_eq x.number r.message) v.messages m eo fin.underway.messages.below in
              omega (arith, up, eqb-true m.number r.message (found-passes (λ (x : MessageRow). nat_eq x.number r.message) v.messages m eo))

      there : id.sub < v.next_sub
      there =
          let up : sub.number < v.next_sub = each-found (λ (x : SubRow). x.number < v.next_sub) (λ (x : SubRow). bytes_eq x.name name) v.subs sub found fin.underway.subs.below in
          omega (arith, up, its)

      here : PairIs (OutOrDealt id.lease) id.sub id.message made
      here = record {
        sub = there;
        message = below;
        marks = each-map (λ (r : MarkRow). Unit {0}) (AtPair (OutOrDealt id.lease) id.sub id.message) (λ (r : MarkRow). if nat_eq r.sub sub.number then remark_row r (lent_mark (t + 1000 * seconds) given (slot_of v.messages r)) else r) v.marks
            (λ r _. cond_both (nat_eq r.sub sub.number) (remark_row r (lent_mark (t + 1000 * seconds) given (slot_of v.messages r))) r (AtPair (OutOrDealt id.lease) id.sub id.message)
            (λ _ es em. inl (ap (λ j. is_out id.lease (leased_as (t + 1000 * seconds) r.mark (lease_in given j))) em ∙ ap (λ o. is_out id.lease (leased_as (t + 1000 * seconds) r.mark o)) under ∙ eq-eqb id.lease id.lease refl))
            (λ other es em. absurd (both_ways (nat_eq r.sub sub.number) other (eq-eqb r.sub sub.number (es ∙ sym its)))))
            (each-always (λ (r : MarkRow). Unit {0}) v.marks (λ r. tt));
      }

  at-sub : (name : List ℕ) (most budget : ℕ) (asked : Option ℕ) (o : Option SubRow) → sub_named v name ≡ o → Gives (pull_at v t name most budget asked o)
  at-sub name most budget asked None eo e = absurd (false≢true e)
  at-sub name most budget asked (Some sub) eo e = pulled name sub most budget (unwrap_or asked sub.config.ack_seconds) sub.detached eo e

  at-fault : (name : List ℕ) (most budget : ℕ) (asked : Option ℕ) (fault : Option Reason) → Gives (checked v t (Pull name most budget asked) fault)
  at-fault name most budget asked (Some reason) = λ e. absurd (false≢true e)
  at-fault name most budget asked None = cond_both (is_full v) (refuses v Exhausted) (pull_at v t name most budget asked (sub_named v name)) Gives (λ _ e. absurd (false≢true e)) (λ _. at-sub name most budget asked (sub_named v name) refl)

  -- only a pull gives anything
  of-command : (c : Command) → Gives (outcome v t c)
  of-command c e = at c (pull-only c e) e
    where
      pull-only : (c : Command) → list_any (λ (r : ReceivedMessage). same_id r.id id) (items_in (reply_in (outcome v t c))) ≡ true → is_pull c ≡ true
      pull-only c = (outcome-keeps t v (λ items. list_any (λ (r : ReceivedMessage). same_id r.id id) items ≡ true → is_pull c ≡ true) (λ e. absurd (false≢true e)) c (λ pulls sub most budget _. pulls)).1

      at : (c : Command) → is_pull c ≡ true → Gives (outcome v t c)
      at (Pull name most budget asked) pulls = at-fault name most budget asked (argument_fault (Pull name most budget asked))
      at _ pulls = absurd (false≢true pulls)

-- the first entry hands it out
first-out : (w : World) (e : Entry) (id : AckId) → IsSound w → is_full w ≡ false → hands_out id w e ≡ true → PairIs (OutOrDealt id.lease) id.sub id.message (step w e)
first-out w e id h room gave =
    let t = moment w e.now in
    let is : settled t w ≡ settle t w = ap (λ full. cond full w (settle t w)) room in
    let q = subst (λ (s : World). list_any (λ (r : ReceivedMessage). same_id r.id id) (items_in (reply_in (outcome s t (as_read e.command)))) ≡ true → PairIs (OutOrDealt id.lease) id.sub id.message (finished t s (outcome s t (as_read e.command)))) (sym is)
    (of-command t w.count (settle t w) id (sound-settled t w (entry-later w e.now h) (entry-last w e.now) h) (as_read e.command)) gave in
    record { sub = q.sub; message = q.message; marks = q.marks }

not-again : (u : World) (between : List Entry) (second : Entry) (id : AckId) (lease : ℕ) → IsSound u → IsHistory u (between ++ second ∷ []) → PairIs (OutOrDealt id.lease) id.sub id.message u → some_step (may_end id) u (between ++ second ∷ []) ≡ false
    → hands_out (record id { lease = lease }) (after u between) second ≡ false
not-again u [] second id lease h history p none = out-not-handed id u second h (accepted-room u second history.0) (or_parts (may_end id u second) false none).0 p lease
not-again u (e ∷ between) second id lease h history p none =
    let q = or_parts (may_end id u e) (some_step (may_end id) (step u e) (between ++ second ∷ [])) none in
    not-again (step u e) between second id lease (stays_sound u e h history.0) history.1 (out-step id u e h (accepted-room u e history.0) q.0 p) q.1

pub handed_out_once : HandedOutOnce
handed_out_once w first between second id lease h history gave again =
    true_from_ne_false (some_step (may_end id) (step w first) (between ++ second ∷ [])) (λ none. both_ways (hands_out (record id { lease = lease }) (after (step w first) between) second)
    (not-again (step w first) between second id lease (stays_sound w first h history.0) history.1 (first-out w first id h (accepted-room w first history.0) gave) none) again)
