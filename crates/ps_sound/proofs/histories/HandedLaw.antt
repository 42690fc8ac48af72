-- Where a message is handed out twice on a subscription, something ended the first lease between.
use Rattle.std.proofs.Common.{ℕ, ◌≡◌, ◌≤◌, ◌⊎◌, Bool, true, false, cond, ◌&&◌, ◌||◌, not, nat_eq, is_some, List, Option, Some, None, refl, sym, ◌∙◌, ap, subst, arith, inl, inr}
use Rattle.std.specs.List.{AllByRecursion, list_any}
use Rattle.std.specs.Str.{bytes_eq}
use Rattle.std.proofs.lemmas.Bool.{and_parts, and_from, or_parts, eqb-true, eq-eqb, cases_eq, not-false, both_ways, false≢true}
use Rattle.ps_base.specs.Moments.{last_moment}
use Rattle.ps_base.specs.declared.ack_id.AckId.{AckId}
use Rattle.ps_model.specs.declared.command.Command.{Command}
use Rattle.ps_model.specs.declared.command.Command.TheVariants.{Pull, Acknowledge, ModifyAckDeadline, UpdateTopic, UpdateSubscription}
use Rattle.ps_model.specs.declared.command.Entry.{Entry}
use Rattle.ps_model.specs.declared.mark.Mark.{Mark}
use Rattle.ps_model.specs.declared.mark.Slot.{Slot}
use Rattle.ps_model.specs.declared.reply.ReceivedMessage.{ReceivedMessage}
use Rattle.ps_model.specs.declared.world.World.{World}
use Rattle.ps_model.specs.declared.world.SubRow.{SubRow}
use Rattle.ps_model.specs.declared.world.MarkRow.{MarkRow}
use Rattle.ps_model.specs.Slots.{is_out, any_earlier}
use Rattle.ps_model.specs.Seeking.{fresh}
use Rattle.ps_model.specs.Failing.{mark_after_failing, is_due}
use Rattle.ps_model.specs.Worlds.{sub_named, sub_numbered, message_at, item_at, new_mark, slot_of, slots_of}
use Rattle.ps_model.specs.Forwarding.{dead_topic}
use Rattle.ps_model.specs.Settling.{drop_snapshots, settle}
use Rattle.ps_model.specs.Answering.{same_id}
use Rattle.ps_model.specs.Outcomes.{reply_in}
use Rattle.ps_model.specs.Checks.{as_read}
use Rattle.ps_model.specs.Commands.{is_full, outcome}
use Rattle.ps_model.specs.Step.{moment, settled, finished, carried_out, step, reply}
use Rattle.ps_model.specs.Sound.{IsSound}
use Rattle.ps_model.specs.Laws.{hands_out, items_in, may_end, loses, loses_at, fails_at, acknowledges_there, failed_in, seeks, is_numbered}
use Rattle.ps_model.proofs.SameLemmas.{exact-bytes}
use Rattle.ps_base.proofs.Lists.{each-always, each-then, each-both, found-passes, from-any}
use Rattle.ps_sound.proofs.worlds.Lists.{found-numbered}
use Rattle.ps_sound.proofs.worlds.Underway.{IsFinished}
use Rattle.ps_sound.proofs.commands.Lending.{is_at}
use Rattle.ps_sound.proofs.commands.Outcomes.{outcome-keeps}
use Rattle.ps_sound.proofs.histories.Pairs.{AtPair, PairIs, pair-settled}
use Rattle.ps_sound.proofs.histories.PairSteps.{AckSpares, ModifySpares, Spares, outcome-pair}
use Rattle.ps_sound.proofs.histories.Dealt.{IsDealt, dealt-step, never-received, seeks-same, seeks-read}
use Rattle.ps_sound.proofs.histories.ForGood.{none-any, all-same}
use Rattle.ps_sound.proofs.histories.HandedOnce.{OutOrDealt, out-lasting, spared-rows, settling-spares, acknowledging-spares}
use Rattle.ps_sound.proofs.histories.GivenUp.{modifying-spares}
use Rattle.ps_sound.proofs.phases.Stepping.{sound-settled}

read-acknowledge : (c : Command) (name : List ℕ) (ids : List AckId) → as_read c ≡ Acknowledge name ids → c ≡ Acknowledge name ids
read-acknowledge (UpdateTopic topic mask config) name ids e = absurd (cc (e))
read-acknowledge (UpdateSubscription subscription mask config) name ids e = absurd (cc (e))
read-acknowledge (Pull subscription most budget seconds) name ids e = absurd (cc (e))
read-acknowledge _ name ids e = e

read-modify : (c : Command) (name : List ℕ) (items : List (AckId × ℕ)) → as_read c ≡ ModifyAckDeadline name items → c ≡ ModifyAckDeadline name items
read-modify (UpdateTopic topic mask config) name items e = absurd (cc (e))
read-modify (UpdateSubscription subscription mask config) name items e = absurd (cc (e))
read-modify (Pull subscription most budget seconds) name items e = absurd (cc (e))
read-modify _ name items e = e

-- the moment of an entry
pub entry-later : (w : World) (now : ℕ) → IsSound w → w.now ≤ moment w now
entry-later w now h = omega (arith, h.in_time.now)

pub entry-last : (w : World) (now : ℕ) → moment w now ≤ last_moment
entry-last w now = omega arith

-- An entry that may not end the lease of the id.
module _ (id : AckId) (w : World) (e : Entry) (h : IsSound w) (room : is_full w ≡ false) (kept : may_end id w e ≡ false) (p : PairIs (OutOrDealt id.lease) id.sub id.message w) where
  abbrev t : ℕ
  t = moment w e.now

  abbrev v : World
  v = settle t w

  lost : loses_at id w t e.command (sub_numbered w id.sub) ≡ false
  lost = (or_parts (loses_at id w t e.command (sub_numbered w id.sub)) (acknowledges_there id w e.command && not (failed_in id (reply w e.now e.command))) (or_parts (loses_at id w t e.command (sub_numbered w id.sub) || (acknowledges_there id w e.command && not (failed_in id (reply w e.now e.command)))) (seeks id.sub w e.command) kept).0).0

  acked : (acknowledges_there id w e.command && not (failed_in id (reply w e.now e.command))) ≡ false
  acked = (or_parts (loses_at id w t e.command (sub_numbered w id.sub)) (acknowledges_there id w e.command && not (failed_in id (reply w e.now e.command))) (or_parts (loses_at id w t e.command (sub_numbered w id.sub) || (acknowledges_there id w e.command && not (failed_in id (reply w e.now e.command)))) (seeks id.sub w e.command) kept).0).1

  sought : seeks id.sub w e.command ≡ false
  sought = (or_parts (loses_at id w t e.command (sub_numbered w id.sub) || (acknowledges_there id w e.command && not (failed_in id (reply w e.now e.command)))) (seeks id.sub w e.command) kept).1

  -- settling leaves it out
  pub out-settled : PairIs (OutOrDealt id.lease) id.sub id.message v
  out-settled = pair-settled (OutOrDealt id.lease) id.sub id.message t w (out-lasting id.lease) (keeps (sub_numbered w id.sub) refl lost) p
    where
      rule : SubRow → List Slot → Slot → Mark
      rule x = mark_after_failing (is_due t) t (is_some (dead_topic (drop_snapshots t w) x)) x.config

      Keeps : MarkRow → Type 0
      Keeps r = r.sub ≡ id.sub → r.message ≡ id.message → OutOrDealt id.lease r.mark → OutOrDealt id.lease (new_mark rule (drop_snapshots t w) r (sub_numbered w r.sub))

      keeps : (o : Option SubRow) → sub_numbered w id.sub ≡ o → loses_at id w t e.command o ≡ false → AllByRecursion Keeps w.marks
      keeps None eo l = each-always Keeps w.marks (λ r es em q. subst (λ o. OutOrDealt id.lease (new_mark rule (drop_snapshots t w) r o)) (sym (ap (λ j. sub_numbered w j) es ∙ eo)) q)
      keeps (Some sub) eo l = settling-spares id w t e.command sub eo l id.sub refl (eqb-true sub.number id.sub (found-passes (λ (x : SubRow). nat_eq x.number id.sub) w.subs sub eo))

  fin : IsFinished t w.count v
  fin = sound-settled t w (entry-later w e.now h) (entry-last w e.now) h

  settled-is : settled t w ≡ v
  settled-is = ap (λ full. cond full w (settle t w)) room

  -- the subscription of a name, where it is that of the id
  module _ (name : List ℕ) (sub : SubRow) (found : sub_named w name ≡ Some sub) (its : sub.number ≡ id.sub) where
    pub own : sub_numbered w id.sub ≡ Some sub
    own = ap (λ j. sub_numbered w j) (sym its) ∙ found-numbered (λ (r : SubRow). r.number) (λ (r : SubRow). bytes_eq r.name name) w.subs sub h.ordered.subs found

  acks : (name : List ℕ) (ids : List AckId) → as_read e.command ≡ Acknowledge name ids → (sub : SubRow) → sub_named v name ≡ Some sub → AckSpares (OutOrDealt id.lease) id.sub id.message v ids sub
  acks name ids ec sub found = either (cases_eq sub.number id.sub)
    where
      either : (sub.number ≡ id.sub) ⊎ (sub.number ≡ id.sub → ⊥) → AckSpares (OutOrDealt id.lease) id.sub id.message v ids sub
      either (inr other) = each-always _ v.marks (λ r es en _ _. absurd (other (sym es ∙ en)))
      either (inl its) = acknowledging-spares t w.count v fin id name ids sub found its failed_then
        where
          failed_then : list_any (same_id id) ids ≡ true → failed_in id (reply_in (outcome v t (Acknowledge name ids))) ≡ true
          failed_then there =
              let c : e.command ≡ Acknowledge name ids = read-acknowledge e.command name ids ec in
              let names : acknowledges_there id w e.command ≡ true = ap (acknowledges_there id w) c ∙ and_from (is_numbered id.sub (sub_named w name)) (list_any (same_id id) ids) (ap (is_numbered id.sub) found ∙ eq-eqb sub.number id.sub its) there in
              let told : failed_in id (reply w e.now e.command) ≡ true = not-false (failed_in id (reply w e.now e.command)) (second (acknowledges_there id w e.command) (not (failed_in id (reply w e.now e.command))) names acked) in
              ap (failed_in id) (λ i. reply_in (outcome (sym settled-is i) t (sym ec i))) ∙ told
            where
              second : (a b : Bool) → a ≡ true → (a && b) ≡ false → b ≡ false
              second true b ea e = e
              second false b ea e = absurd (false≢true ea)

  -- where the pair is out
  module _ (some : list_any (λ r. is_at id.sub id.message r && is_out id.lease r.mark) w.marks ≡ true) where
    out-rows : AllByRecursion (λ (r : MarkRow). r.sub ≡ id.sub → r.message ≡ id.message → is_out id.lease r.mark ≡ true) w.marks
    out-rows = all-same id.sub id.message (λ r. is_out id.lease r.mark) w.marks h.ordered.marks some

    modifies : (name : List ℕ) (items : List (AckId × ℕ)) → as_read e.command ≡ ModifyAckDeadline name items → (sub : SubRow) → sub_named v name ≡ Some sub → ModifySpares (OutOrDealt id.lease) id.sub id.message t v items sub
    modifies name items ec sub found = either (cases_eq sub.number id.sub)
      where
        either : (sub.number ≡ id.sub) ⊎ (sub.number ≡ id.sub → ⊥) → ModifySpares (OutOrDealt id.lease) id.sub id.message t v items sub
        either (inr other) = each-always _ _ (λ r es en _ _. absurd (other (sym es ∙ en)))
        either (inl its) = modifying-spares w t id sub name items its named p.message none-before not-its
          where
            c : Command
            c = ModifyAckDeadline name items

            mine : sub_numbered w id.sub ≡ Some sub
            mine = own name sub found its

            none : list_any (loses id t sub c (slots_of w sub.number)) (slots_of w sub.number) ≡ false
            none = (λ i. loses_at id w t (sym (read-modify e.command name items ec) i) (sym mine i)) ∙ lost

            named : bytes_eq name sub.name ≡ true
            named = ap (λ m. bytes_eq m sub.name) (sym (exact-bytes.one sub.name name (found-passes (λ (r : SubRow). bytes_eq r.name name) w.subs sub found))) ∙ exact-bytes.own sub.name

            spared : AllByRecursion (λ r. (r.sub ≡ id.sub → r.message ≡ id.message → is_out id.lease r.mark ≡ true)
                × (r.sub ≡ sub.number → r.message ≡ id.message → is_out id.lease r.mark ≡ true → (fails_at t sub c (slot_of w.messages r) ≡ false) × (any_earlier sub.config.ordering (fails_at t sub c) (slots_of w sub.number) (slot_of w.messages r) ≡ false))) w.marks
            spared = each-both (λ (r : MarkRow). r.sub ≡ id.sub → r.message ≡ id.message → is_out id.lease r.mark ≡ true) (λ (r : MarkRow). r.sub ≡ sub.number → r.message ≡ id.message → is_out id.lease r.mark ≡ true → (fails_at t sub c (slot_of w.messages r) ≡ false) × (any_earlier sub.config.ordering (fails_at t sub c) (slots_of w sub.number) (slot_of w.messages r) ≡ false)) w.marks
                out-rows (spared-rows id w t c sub mine none)

            not-its : AllByRecursion (λ (r : MarkRow). r.sub ≡ sub.number → r.message ≡ id.message → fails_at t sub c (slot_of w.messages r) ≡ false) w.marks
            not-its = each-then _ (λ (r : MarkRow). r.sub ≡ sub.number → r.message ≡ id.message → fails_at t sub c (slot_of w.messages r) ≡ false) w.marks (λ r q es em. (q.1 es em (q.0 (es ∙ its) em)).0) spared

            none-before : any_earlier sub.config.ordering (fails_at t sub c) (slots_of w sub.number) (record { item = item_at id.message (message_at w.messages id.message); mark = fresh }) ≡ false
            none-before = from-any (any_earlier sub.config.ordering (fails_at t sub c) (slots_of w sub.number) (record { item = item_at id.message (message_at w.messages id.message); mark = fresh }) ≡ false) (λ r. is_at id.sub id.message r && is_out id.lease r.mark) w.marks some
                (each-then _ (λ r. (is_at id.sub id.message r && is_out id.lease r.mark) ≡ true → any_earlier sub.config.ordering (fails_at t sub c) (slots_of w sub.number) (record { item = item_at id.message (message_at w.messages id.message); mark = fresh }) ≡ false) w.marks
                (λ r q at. let a = and_parts (is_at id.sub id.message r) (is_out id.lease r.mark) at in let b = and_parts (nat_eq r.sub id.sub) (nat_eq r.message id.message) a.0 in
                subst (λ j. any_earlier sub.config.ordering (fails_at t sub c) (slots_of w sub.number) (record { item = item_at j (message_at w.messages j); mark = fresh }) ≡ false) (eqb-true r.message id.message b.1)
                (q.1 (eqb-true r.sub id.sub b.0 ∙ sym its) (eqb-true r.message id.message b.1) a.1).1) spared)

    spares : Spares (OutOrDealt id.lease) id.sub id.message t v (as_read e.command)
    spares = record { acks = acks; modifies = modifies; seeks_not = seeks-read id.sub v e.command ∙ seeks-same id.sub w v e.command refl ∙ sought }

    out-here : PairIs (OutOrDealt id.lease) id.sub id.message (carried_out w t e.command)
    out-here = subst (λ (s : World). PairIs (OutOrDealt id.lease) id.sub id.message (finished t s (outcome s t (as_read e.command)))) (sym settled-is) (outcome-pair (OutOrDealt id.lease) id.sub id.message t v (out-lasting id.lease) out-settled (as_read e.command) spares)

  -- where it isn't, it is dealt with
  dealt-here : list_any (λ r. is_at id.sub id.message r && is_out id.lease r.mark) w.marks ≡ false → PairIs IsDealt id.sub id.message w
  dealt-here none = record {
    sub = p.sub;
    message = p.message;
    marks = each-then (λ r. AtPair (OutOrDealt id.lease) id.sub id.message r × ((is_at id.sub id.message r && is_out id.lease r.mark) ≡ false)) (AtPair IsDealt id.sub id.message) w.marks (λ r q es em. at r q.1 es em (q.0 es em))
        (each-both (AtPair (OutOrDealt id.lease) id.sub id.message) (λ r. (is_at id.sub id.message r && is_out id.lease r.mark) ≡ false) w.marks p.marks (none-any (λ r. is_at id.sub id.message r && is_out id.lease r.mark) w.marks none));
  }
    where
      at : (r : MarkRow) → (is_at id.sub id.message r && is_out id.lease r.mark) ≡ false → r.sub ≡ id.sub → r.message ≡ id.message → OutOrDealt id.lease r.mark → IsDealt r.mark
      at r none es em (inr dealt) = dealt
      at r none es em (inl out) = absurd (both_ways (is_at id.sub id.message r && is_out id.lease r.mark) none (and_from (is_at id.sub id.message r) (is_out id.lease r.mark) (and_from (nat_eq r.sub id.sub) (nat_eq r.message id.message) (eq-eqb r.sub id.sub es) (eq-eqb r.message id.message em)) out))

  pub out-step : PairIs (OutOrDealt id.lease) id.sub id.message (step w e)
  out-step = either (list_any (λ r. is_at id.sub id.message r && is_out id.lease r.mark) w.marks) refl
    where
      either : (b : Bool) → list_any (λ r. is_at id.sub id.message r && is_out id.lease r.mark) w.marks ≡ b → PairIs (OutOrDealt id.lease) id.sub id.message (step w e)
      either true eb = let q = out-here eb in record { sub = q.sub; message = q.message; marks = q.marks }
      either false eb = let q = dealt-step id.sub id.message w e sought (dealt-here eb) in
          record { sub = q.sub; message = q.message; marks = each-then (AtPair IsDealt id.sub id.message) (AtPair (OutOrDealt id.lease) id.sub id.message) (step w e).marks (λ r k es em. inr (k es em)) q.marks }

  -- and it isn't handed out
  pub out-not-handed : (lease : ℕ) → hands_out (record id { lease = lease }) w e ≡ false
  out-not-handed lease = subst (λ (s : World). list_any (λ (r : ReceivedMessage). same_id r.id again) (items_in (reply_in (outcome s t (as_read e.command)))) ≡ false) (sym settled-is)
      (outcome-keeps t v (λ items. list_any (λ (r : ReceivedMessage). same_id r.id again) items ≡ false) refl (as_read e.command) (λ _. never-received (OutOrDealt id.lease) id.sub id.message t v again (out-lasting id.lease) refl refl out-settled)).1
    where
      again : AckId
      again = record id { lease = lease }
